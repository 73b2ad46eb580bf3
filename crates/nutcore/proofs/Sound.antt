-- Every server is sound.
use Rattle.std.proofs.Common.{◌≡◌, ◌≤◌, ◌+◌, ℕ, true, false, List, [], ◌∷◌}
use Rattle.std.proofs.Common.{◌++◌, Some, None, refl, sym, ◌∙◌, ap, subst, eqb, max}
use Rattle.std.proofs.Common.{length, length-append, length-take, length-drop, arith, rules, Result}
use Rattle.std.proofs.Common.{Ok}
use Rattle.nutdriver.specs.Tree.{empty_tree}
use Rattle.nutdriver.specs.Sound.{IsSoundTree, EachLineKeepsTheTreeSound, ReadLinesAreLawful, IsLawfulLine}
use Rattle.nutcore.proofs.Common.{cond_both, length-map, length-replicate, UpsId, Change}
use Rattle.nutcore.proofs.Common.{ServerState, changed_at, with_session, with_session_changed}
use Rattle.nutcore.proofs.Common.{with_ups_changed, with_tracking, TrackingState}
use Rattle.std.proofs.lemmas.Bool.Decides.{nat_tests}
use Rattle.std.proofs.lemmas.List.Elements.{All-nil}
use Rattle.nuttracking.specs.Sound.{IsLawfulProgress, HaveLawfulNumbers, IsSoundTracking}
use Rattle.nuttracking.specs.Tracking.{TrackingState}
use Rattle.nuttracking.proofs.PublicLaws.{nothing_is_sound, acts_keep_it_sound, lawful_acts_keep_numbers_lawful}
use Rattle.nuttracking.specs.Acts.Act.{handed_in, ordered, reported}
use Rattle.nutcommand.specs.Command.{read_command}
use Rattle.nutcore.specs.declared.event.Event.TheVariants.{Open}
use Rattle.nutcore.specs.declared.event.Outcome.TheVariants.{Opened}
use Rattle.nutcore.specs.Session.{SessionState, find, put, without, new_session}
use Rattle.nutcore.specs.Ups.{UpsState, new_ups, after_connecting, after_loss, after_tick, ups_after_bytes}
use Rattle.nutcore.specs.Reply.{reply, changed_session, changed_upses, changed_tracking}
use Rattle.nutcore.specs.Pump.{answered, next_line_for, after_line, with_notice}
use Rattle.nutcore.specs.Step.{Step, joined, taken_from, may_open}
use Rattle.nutcore.specs.DriverEvents.{connected, disconnected}
use Rattle.nutcore.specs.Step.{after_by, refused_after}
use Rattle.nutcore.specs.DriverEvents.{after_driver_took, ticked}
use Rattle.nutcore.specs.Promises.{OfUps}
use Rattle.nutcore.specs.Addresses.{opened_from}
use Rattle.nutcore.specs.Sound.{Each, IsSoundSession, IsSoundUps, IsSound, ANewServerIsSound}
use Rattle.nutcore.specs.Sound.{EachEventKeepsTheServerSound, EveryRunKeepsTheServerSound}
use Rattle.nutcore.specs.Sound.{ASoundServerIsLawful}
use Rattle.nutcore.proofs.OrderFits.{order_fits}
use Rattle.nutcore.proofs.Places.{rise_put, rise_push, rise_without, length-put}
use Rattle.nutcore.proofs.Changes.{keeps, of_tracking}
use Rattle.nutcore.proofs.Changed.{by_change, either_notice, of_opened}
use Rattle.nutcore.proofs.Pumping.{is_next, after_line_is, change_at, session_after}
use Rattle.nutcore.proofs.Kept.{IsKept, IsAny, any_address, any_event, by_event, by_run}
use Rattle.nutcore.proofs.SoundUps.{each_map, each_last, each_same, length-changed, each_changed}
use Rattle.nutcore.proofs.SoundUps.{length-changes, sound_loss, sound_connecting}
use Rattle.nutcore.proofs.SoundUps.{sound_driver_bytes, sound_took, sound_tick, sound_changes}
use Rattle.nutcore.proofs.Runs.{lawful}
use Rattle.nuttracking.specs.Acts.{Act, after_act}
use Rattle.nuttracking.specs.Laws.{IsLawfulAct}
use Rattle.nutdriver.specs.declared.line.DriverLine.{DriverLine}
use Rattle.nutdriver.specs.declared.line.DriverLine.TheVariants.{Tracking}
use Rattle.nutdriver.specs.declared.fault.DriverFault.{DriverFault}
use Rattle.nutdriver.specs.DriverLine.{read_driver_line}
use Rattle.std.specs.Result.{IfOk}
use Rattle.nutdriver.specs.Report.{end_read, end_in}
use Rattle.nutcore.specs.Reports.{with_end}

-- the ids and the tracked orders: an id stands for one order, and numbers stay lawful
pub record IsTracked (t : TrackingState) : Type 0 where
  pub sound : IsSoundTracking t
  pub numbers : HaveLawfulNumbers t.orders

-- an id, an order or a report
pub act_tracked : (t : TrackingState) (act : Act) → IsLawfulAct act → IsTracked t → IsTracked (after_act t act)
act_tracked t act lawful h = record {
  sound = acts_keep_it_sound t (act ∷ []) h.sound;
  numbers = lawful_acts_keep_numbers_lawful t act lawful h.numbers;
}

-- what a line reports
pub end_tracked : ReadLinesAreLawful → (t : TrackingState) (place : ℕ) (line : List ℕ) →
    IsTracked t → IsTracked (with_end place (end_in line) t)
end_tracked lawful t place line h = by_reading (read_driver_line line) (lawful line)
  where
    by_reading : (r : Result DriverLine DriverFault) → IfOk r IsLawfulLine →
        IsTracked (with_end place (end_read r) t)
    by_reading (Ok (Tracking id number)) few = act_tracked t (reported place id number) few h
    by_reading _ few = h

pub each_put : (P : SessionState → Type 0) (y : SessionState) → P y →
    (xs : List SessionState) → Each P xs → Each P (put y xs)
each_put P y p [] all = tt
each_put P y p (x ∷ xs) all = cond_both (eqb x.id y.id) (y ∷ xs) (x ∷ put y xs) (Each P)
    (λ e. (p, all.1)) (λ e. (all.0, each_put P y p xs all.1))

pub each_without : (P : SessionState → Type 0) (c : ℕ) (xs : List SessionState) →
    Each P xs → Each P (without c xs)
each_without P c [] all = tt
each_without P c (x ∷ xs) all = grind (arith, each_without P c xs all.1)

fewer : (c : ℕ) (xs : List SessionState) → length (without c xs) ≤ length xs
fewer c [] = omega arith
fewer c (x ∷ xs) = grind (arith, fewer c xs)

pub each_found : (P : SessionState → Type 0) (c : ℕ) (xs : List SessionState) (x : SessionState)
    → find c xs ≡ Some x → Each P xs → P x
each_found P c [] x e all = cc e
each_found P c (z ∷ xs) x e all = grind (arith, each_found P c xs x)

-- with other UPSs
pub upses_sound : (s : ServerState) (moment : ℕ) (upses : List UpsState) → length upses ≡
    length s.upses → Each (IsSoundUps moment) upses → IsSound s
    → (let t : ServerState = record s { moment = moment; upses = upses } in IsSound t)
upses_sound s moment upses same all h = let named = same ∙ h.named in search rules

-- with other ids and orders
pub tracking_sound : (s : ServerState) (t : TrackingState) → IsTracked t → IsSound s → IsSound (with_tracking t s)
tracking_sound s t tracked h = search rules

pub is_tracked : (s : ServerState) → IsSound s → IsTracked s.tracking
is_tracked s h = record { sound = h.tracking; numbers = h.numbers }

-- sessions
pub sound_answered : (change : Change) (line text : List ℕ) (x : SessionState) → x.ending ≡
    false → IsSoundSession x → IsSoundSession (changed_session change (answered line text x))
sound_answered change line text x going h = grind (arith, keeps change (answered line text x), length-drop {A = ℕ})

pub sound_input : (piece : List ℕ) (x : SessionState) → IsSoundSession x → IsSoundSession (joined piece x)
sound_input piece x h = record {
  held = (let few = h.held in grind (arith, length-append {A = ℕ}, length-take {A = ℕ}));
  ending = λ k. rw k (ap (λ (bytes : List ℕ). bytes ++ []) (h.ending k).0, (h.ending k).1);
}

pub sound_with : (s : ServerState) (y : SessionState) → IsSoundSession y → IsSound s → IsSound (with_session s y)
sound_with s y p h = grind (
  arith,
  length-put y s.sessions,
  rise_put 1 s.next_id y s.sessions h.ids,
  each_put IsSoundSession y p s.sessions h.sessions,
)

sound_line : (s : ServerState) (c : ℕ) (line : List ℕ) → next_line_for s c ≡ Some line →
    IsSound s → IsSound (after_line s c)
sound_line s c line e h =
    let n = is_next s c line e in
    let change : Change = change_at s c line in
    let y : SessionState = session_after s c line n.asking in
    let own : IsSoundSession y = sound_answered change line (reply s c line) n.asking n.going
    (each_found IsSoundSession c s.sessions n.asking n.found h.sessions) in
    subst IsSound (sym (after_line_is s c line n.asking n.found e))
    (tracking_sound (record (with_session s y) { upses = changed_upses change s.upses })
    (changed_tracking change s.tracking)
    (of_tracking IsTracked change s.tracking (is_tracked s h)
    (λ place. act_tracked s.tracking (ordered place) tt (is_tracked s h)))
    (upses_sound (with_session s y) s.moment (changed_upses change s.upses)
    (length-changes change s.upses) (sound_changes s.moment change s.upses
    (order_fits s c (read_command line) change refl) h.upses) (sound_with s y own h)))

-- a session that is changed, and stays sound
sound_session : (f : SessionState → SessionState) →
    ((x : SessionState) → IsSoundSession x → IsSoundSession (f x)) →
    (s : ServerState) (c : ℕ) → IsSound s → IsSound (with_session_changed f c s)
sound_session f keeps s c h = by_change IsSound f c s
    (λ x e. sound_with s (f x) (keeps x (each_found IsSoundSession c s.sessions x e h.sessions)) h) (λ e. h)

sound_notice : (x : SessionState) → IsSoundSession x → IsSoundSession (with_notice x)
sound_notice x h = either_notice IsSoundSession x (record { held = omega arith; ending = λ k. (refl, refl) }) h

pub sound_output : (n : ℕ) (x : SessionState) → IsSoundSession x → IsSoundSession (taken_from n x)
sound_output n x h = record { held = h.held; ending = h.ending }

pub sound_upses : (f : UpsState → UpsState) (u : UpsId) (s : ServerState) →
    OfUps u s (λ x. IsSoundUps s.moment x → IsSoundUps s.moment (f x)) → IsSound s →
    IsSound (with_ups_changed f u s)
sound_upses f u s keeps h = upses_sound s s.moment (changed_at f u.place s.upses)
    (length-changed f u.place s.upses) (each_changed (IsSoundUps s.moment) f u.place s.upses keeps h.upses) h

sound_opened : (s : ServerState) (address : List ℕ) → may_open s ≡ true → IsSound s
    → (let t : ServerState = record s
    { sessions = s.sessions ++ new_session s.next_id address ∷ []; next_id = s.next_id + 1 } in IsSound t)
sound_opened s address may h =
    let x : SessionState = new_session s.next_id address in
    let all = each_last IsSoundSession x (record { held = omega arith; ending = λ k. cc k }) s.sessions h.sessions in
    grind (arith, nat_tests, length-append s.sessions (x ∷ []), rise_push 1 s.next_id x s.sessions refl h.ids)

pub sound_ticked : (s : ServerState) (seconds : ℕ) → IsSound s → IsSound (ticked seconds s)
unfolding ticked
sound_ticked s seconds h =
    let now : ℕ = max seconds s.moment in
    let upses = each_map (IsSoundUps s.moment) (IsSoundUps now) (after_tick s.max_age now)
    (λ x k. sound_tick s.max_age s.moment now x (omega arith) k) s.upses h.upses in
    grind (arith, length-map s.upses (after_tick s.max_age now))

pub sound_closed : (s : ServerState) (c : ℕ) → IsSound s →
    (let t : ServerState = record s { sessions = without c s.sessions } in IsSound t)
sound_closed s c h = grind (
  arith,
  fewer c s.sessions,
  rise_without 1 s.next_id c s.sessions h.ids,
  each_without IsSoundSession c s.sessions h.sessions,
)

pub sound_opening : (s t : ServerState) (address : List ℕ) (c : ℕ) →
    Step s (Open address) (Opened c) t → IsSound s → IsSound t
unfolding after_by
sound_opening s t address c step h =
    subst IsSound (sym step.leaves) (of_opened IsSound s address None h (λ room. sound_opened s address room h))

module _ (empty : IsSoundTree empty_tree) (line_keeps : EachLineKeepsTheTreeSound)
    (read_lawful : ReadLinesAreLawful) where
  pub sound_kept : IsKept IsSound IsAny
  sound_kept = record {
    pumped = record {
      line = sound_line;
      joins = λ s c piece h. sound_session (joined piece) (sound_input piece) s c h;
      gives = λ s c n h. sound_session (taken_from n) (sound_output n) s c h;
      notice = λ s c h. sound_session with_notice sound_notice s c h;
    };
    driver = λ s m. record {
      comes = λ u h. sound_upses (connected s.moment) u s
          (λ x at k. cond_both x.report.connected x (after_connecting s.moment x)
          (IsSoundUps s.moment) (λ e. k) (λ e. sound_connecting empty line_keeps s.moment x)) h;
      tells = λ place piece u h. sound_upses (ups_after_bytes s.moment place s.tracking piece m) u
          s (λ x at. sound_driver_bytes empty line_keeps s.moment place s.tracking piece m x) h;
      takes = λ n u h. sound_upses (after_driver_took n) u s (λ x at. sound_took s.moment n x) h;
      goes = λ u h. sound_upses disconnected u s
          (λ x at k. cond_both x.report.connected (after_loss x) x (IsSoundUps s.moment)
          (λ e. sound_loss empty line_keeps s.moment x) (λ e. k)) h;
    };
    reports = λ s u line h. tracking_sound s _ (end_tracked read_lawful s.tracking u.place line (is_tracked s h)) h;
    hands = λ s id h. tracking_sound s _ (act_tracked s.tracking (handed_in id) tt (is_tracked s h)) h;
    ticks = sound_ticked;
    opens = λ s address may own h. sound_opened s address may h;
    closes = sound_closed;
  }

  pub each_event_sound : EachEventKeepsTheServerSound
  each_event_sound old new e o step h =
      subst IsSound (sym step.leaves)
      (by_event IsSound IsAny sound_kept old e (refused_after o) (any_address (opened_from e)) h)

  pub every_run_sound : EveryRunKeepsTheServerSound
  every_run_sound old new es os r h = by_run IsSound IsAny sound_kept old new es os r (any_event es) h

  pub new_sound : ANewServerIsSound
  new_sound list users descriptions max_age lawful described age =
      let named = length-replicate (length list) new_ups in
      let upses = each_same (IsSoundUps 0) new_ups (sound_loss empty line_keeps 0 new_ups) (length list) in
      let numbers : HaveLawfulNumbers [] = All-nil (λ order. IsLawfulProgress order.progress) in
      search (rules, arith, nothing_is_sound)

pub sound_lawful : ASoundServerIsLawful
sound_lawful s h c there = lawful s h.ids c there
