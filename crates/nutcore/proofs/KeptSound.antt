-- What a method puts in place of one session or of one UPS keeps the server sound.
use Rattle.std.proofs.Common.{◌≡◌, ℕ, List, Some, refl, sym, ◌∙◌, subst, set, length, arith}
use Rattle.std.specs.Prelude.{option_map}
use Rattle.nutcore.proofs.Common.{Change, SessionState, ServerState, session}
use Rattle.nutcore.specs.Ups.{UpsState}
use Rattle.nuttracking.specs.Tracking.{TrackingState}
use Rattle.nutcore.specs.Reply.{changed_session, changed_upses, changed_tracking}
use Rattle.nutcore.specs.Pump.{next_line, answered, notified}
use Rattle.nutcore.specs.Step.{joined, taken_from}
use Rattle.nutcore.specs.Promises.{IsAt, OrderFits}
use Rattle.nutcore.specs.Sound.{IsSoundSession, IsSound}
use Rattle.nutcore.proofs.Changes.{of_tracking}
use Rattle.nuttracking.specs.Acts.Act.{ordered}
use Rattle.nutcore.proofs.Found.{find_id}
use Rattle.nutcore.proofs.Serving.{set_is}
use Rattle.nutcore.proofs.SoundUps.{sound_changes, length-changes}
use Rattle.nutcore.proofs.Sound.{IsTracked, act_tracked, each_found, sound_with, sound_answered}
use Rattle.nutcore.proofs.Sound.{sound_input, sound_output, is_tracked}

-- a session in place of the one that stands there
pub session_kept : (v : ServerState) (c i : ℕ) (x y : SessionState) → IsAt c i v.sessions →
    session c v ≡ Some x → y.id ≡ x.id → (IsSoundSession x → IsSoundSession y) → IsSound v →
    let code : ServerState = record v { sessions = set v.sessions i y } in IsSound code
session_kept v c i x y at found id keeps h =
    subst IsSound (sym (set_is v c i y at (id ∙ find_id c v.sessions x found)))
    (sound_with v y (keeps (each_found IsSoundSession c v.sessions x found h.sessions)) h)

-- its next line is answered
pub answered_kept : (change : Change) (text : List ℕ) (x y : SessionState) (end : ℕ) →
    option_map length (next_line x) ≡ Some end →
    ((line : List ℕ) → next_line x ≡ Some line → y ≡ changed_session change (answered line text x)) →
    IsSoundSession x → IsSoundSession y
answered_kept change text x y end going is h = grind (arith, sound_answered)

-- its line is too long
pub notified_kept : (x y : SessionState) → y ≡ notified x → IsSoundSession x → IsSoundSession y
notified_kept x y e h = subst IsSoundSession (sym e) (record { held = omega arith; ending = λ k. (refl, refl) })

-- bytes join what it holds
pub joined_kept : (piece : List ℕ) (x y : SessionState) → y ≡ joined piece x →
    IsSoundSession x → IsSoundSession y
joined_kept piece x y e h = subst IsSoundSession (sym e) (sound_input piece x h)

-- bytes are taken from what it owes
pub taken_kept : (n : ℕ) (x y : SessionState) → y ≡ taken_from n x → IsSoundSession x → IsSoundSession y
taken_kept n x y e h = subst IsSoundSession (sym e) (sound_output n x h)

-- an answer changes the UPSs
pub upses_kept : (v : ServerState) (change : Change) (xs : List UpsState) → xs ≡
    changed_upses change v.upses → OrderFits change v.upses → IsSound v →
    let code : ServerState = record v { upses = xs } in IsSound code
upses_kept v change xs e fits h =
    grind (arith, length-changes change v.upses, sound_changes v.moment change v.upses fits h.upses)

-- and the ids and orders that are tracked
pub changes_kept : (v : ServerState) (change : Change) (xs : List UpsState) (t : TrackingState) →
    xs ≡ changed_upses change v.upses → t ≡ changed_tracking change v.tracking →
    OrderFits change v.upses → IsSound v →
    let code : ServerState = record v { upses = xs; tracking = t } in IsSound code
changes_kept v change xs t e f fits h =
    grind (
      arith,
      of_tracking IsTracked change v.tracking (is_tracked v h)
          (λ place. act_tracked v.tracking (ordered place) tt (is_tracked v h)),
      upses_kept v change xs e fits h,
    )
