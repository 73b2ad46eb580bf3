-- What a client's lines leave of a UPS: all but a forced shutdown, and what its driver is owed, to
-- which they add.
use Rattle.std.proofs.Common.{◌≡◌, ◌∙◌, ℕ, zero, suc, Bool, true, false, List, []}
use Rattle.std.proofs.Common.{◌++◌, Option, Some, None, refl, sym, ap, cond, length}
use Rattle.std.proofs.Common.{append_assoc, append-nil, inl, inr, arith}
use Rattle.std.specs.List.{flat_map}
use Rattle.nutcore.proofs.Common.{slice_get, flat_map-append, UpsId, Change, Event, SessionState}
use Rattle.nutcore.proofs.Common.{ServerState, session, ups_at, with_session_changed}
use Rattle.nutcore.specs.Ups.{UpsState}
use Rattle.nutcore.specs.Reply.{changed_upses}
use Rattle.nutcore.specs.Pump.{next_line_for, after_line, after_lines, after_all_lines}
use Rattle.nutcore.specs.Pump.{after_notice, with_notice, pumped, held_of}
use Rattle.nutcore.specs.Step.{taken_from, without_output, pumped_until}
use Rattle.nutcore.specs.History.{next_execution, lines_executed, notice, pump_executions, executions_until}
use Rattle.nutcore.specs.Isolation.{without_commands}
use Rattle.nutcore.specs.DriverOrders.{ServerLine, texts_of, given_by_change, given_by_line}
use Rattle.nutcore.proofs.Changed.{by_change}
use Rattle.nutcore.proofs.Changes.{of_upses}
use Rattle.nutcore.proofs.Found.{cases_Option}
use Rattle.nutcore.proofs.Pumping.{is_next, stopped_none, after_line_is, change_at}
use Rattle.nutcore.proofs.UpsPlaces.{Stands, of_place}
use Rattle.nutcore.proofs.DriverChanges.{Does, goes_on}

-- what a client's lines leave of a UPS: all but a forced shutdown, and what is owed with this after
-- it
pub record Adds (x : UpsState) (given : List ServerLine) (y : UpsState) : Type 0 where
  owed : y.owed ≡ x.owed ++ texts_of given
  same : without_commands y ≡ without_commands x

adds_none : (x : UpsState) → Adds x [] x
adds_none x = record { owed = sym (append-nil x.owed); same = refl }

adds_both : (x y z : UpsState) (given more : List ServerLine) → Adds x given y →
    Adds y more z → Adds x (given ++ more) z
adds_both x y z given more f g = record {
  owed = g.owed ∙ rw (f.owed, flat_map-append) (append_assoc x.owed (texts_of given) (texts_of more));
  same = g.same ∙ f.same;
}

changes_add : (u : UpsId) (change : Change) (xs : List UpsState) (x : UpsState) →
    slice_get xs u.place ≡ Some x → Stands u.place (changed_upses change xs) (Adds x (given_by_change u change))
changes_add u change xs x there =
    of_upses (λ given ys. Stands u.place ys (Adds x (given u))) change xs
    (record { ups = x; there = there; is = adds_none x })
    (λ v f given does. of_place f u v xs x (Adds x (given u)) there
    (λ own same. record { owed = does.owed u x own; same = does.same x })
    (λ other. rw (does.elsewhere u other) (adds_none x)))

-- one line, and some
line_adds : (u : UpsId) (s : ServerState) (c : ℕ) (x : UpsState) → ups_at u.place s ≡
    Some x → Stands u.place (after_line s c).upses
    (Adds x (flat_map (given_by_line u) (next_execution s c (next_line_for s c))))
line_adds u s c x there = elim (cases_Option (next_line_for s c)) [
  | inl next ↦ rw (next, stopped_none s c next) (record { ups = x; there = there; is = adds_none x })
  | inr (line, next) ↦ (let n = is_next s c line next in
      rw (next, after_line_is s c line n.asking n.found next, append-nil)
      (changes_add u (change_at s c line) s.upses x there))
]

lines_add : (k : ℕ) (u : UpsId) (s : ServerState) (c : ℕ) (x : UpsState) →
    ups_at u.place s ≡ Some x → Stands u.place (after_lines k s c).upses
    (Adds x (flat_map (given_by_line u) (lines_executed k s c)))
unfolding lines_executed after_lines
lines_add zero u s c x there = record { ups = x; there = there; is = adds_none x }
lines_add (suc k) u s c x there =
    let a = line_adds u s c x there in
    let b = lines_add k u (after_line s c) c a.ups a.there in
    rw flat_map-append (record { ups = b.ups; there = b.there; is = adds_both x a.ups b.ups _ _ a.is b.is })

pub session_keeps : (u : UpsId) (f : SessionState → SessionState) (s : ServerState) (c : ℕ)
    (x : UpsState) → ups_at u.place s ≡ Some x → ups_at u.place (with_session_changed f c s) ≡ Some x
session_keeps u f s c x there = by_change (λ t. ups_at u.place t ≡ Some x) f c s
    (λ y found. there) (λ absent. there)

pub pump_adds : (u : UpsId) (s : ServerState) (c : ℕ) (m : Option ℕ) (x : UpsState) →
    ups_at u.place s ≡ Some x → Stands u.place (pumped_until s c m).upses
    (Adds x (flat_map (given_by_line u) (executions_until s c m)))
unfolding executions_until pumped_until pump_executions pumped after_all_lines after_notice
pump_adds u s c None x there =
    let k : ℕ = length (held_of (session c s)) in
    let t : ServerState = after_lines k s c in
    let a = lines_add k u s c x there in
    let no_order : flat_map (given_by_line u) (notice t c) ≡ [] = grind arith in
    rw (flat_map-append, no_order, append-nil)
    (record { ups = a.ups; there = session_keeps u with_notice t c a.ups a.there; is = a.is })
pump_adds u s c (Some k) x there = lines_add k u s c x there

pub took_adds : (u : UpsId) (s : ServerState) (c n : ℕ) (m : Option ℕ) (x : UpsState) (b : Bool)
    → ups_at u.place s ≡ Some x
    → Stands u.place (cond b (pumped_until (without_output s c n) c m) s).upses
    (Adds x (flat_map (given_by_line u) (cond b (executions_until (without_output s c n) c m) [])))
unfolding without_output
took_adds u s c n m x true there = pump_adds u (without_output s c n) c m x (session_keeps u (taken_from n) s c x there)
took_adds u s c n m x false there = record { ups = x; there = there; is = adds_none x }

pub by_client : (now : ℕ) (u : UpsId) (e : Event) (x : UpsState) (given : List ServerLine)
    (xs : List UpsState) → Stands u.place xs (Adds x given) → Stands u.place xs (Does now u e x [] [] given [])
by_client now u e x given xs a = record {
  ups = a.ups;
  there = a.there;
  is = goes_on now u e x given [] a.ups (ap (λ (z : UpsState). z.report) a.is.same)
      (ap (λ (z : UpsState). z.unfinished) a.is.same) (ap (λ (z : UpsState). z.faulty) a.is.same) (sym a.is.owed);
}
