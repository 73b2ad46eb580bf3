-- The pump, line by line.
use Rattle.std.proofs.Common.{◌≡◌, ℕ, zero, suc, ◌+◌, ◌-◌, ◌<◌, ◌≤◌, true}
use Rattle.std.proofs.Common.{List, Option, Some, None, refl, ◌∙◌, ap, arith, length}
use Rattle.std.proofs.Common.{zero-add, [], ◌∷◌, length-append}
use Rattle.std.specs.Prelude.{is_none}
use Rattle.nutcore.specs.Session.{SessionState}
use Rattle.nutcore.specs.Server.{ServerState, session}
use Rattle.nutcore.specs.Reply.{reply}
use Rattle.nutcore.specs.Pump.{next_line_for, answered, after_line, after_lines, pump_stops, held_of, after_all_lines}
use Rattle.nutwords.specs.SplitLine.{rest_after}
use Rattle.nutwords.specs.SplitLine.{with_lf}
use Rattle.nutwords.proofs.PublicLaws.{first_line_and_the_rest_are_all}
use Rattle.nutcore.proofs.Changes.{keeps}
use Rattle.nutcore.proofs.Progress.{Presence}
use Rattle.nutcore.proofs.Pumping.{IsNext, is_next, stopped_none, own_after_line, change_at, session_after}

-- where the pump stops, nothing happens
pub none_of : (o : Option (List ℕ)) → is_none o ≡ true → o ≡ None
none_of o h = grind arith

pub stopped_line : (s : ServerState) (c : ℕ) → pump_stops s c ≡ true → after_line s c ≡ s
stopped_line s c stop = stopped_none s c (none_of (next_line_for s c) stop)

pub stopped_lines : (k : ℕ) (s : ServerState) (c : ℕ) → pump_stops s c ≡ true → after_lines k s c ≡ s
unfolding after_lines
stopped_lines zero s c stop = refl
stopped_lines (suc k) s c stop = ap (λ (z : ServerState). after_lines k z c)
    (stopped_line s c stop) ∙ stopped_lines k s c stop

pub after_lines-add : (j k : ℕ) (s : ServerState) (c : ℕ) → after_lines (j + k) s c ≡
    after_lines k (after_lines j s c) c
unfolding after_lines
after_lines-add zero k s c = ap (λ n. after_lines n s c) (zero-add k)
after_lines-add (suc j) k s c = let e : suc j + k ≡ suc (j + k) = omega arith in
    ap (λ n. after_lines n s c) e ∙ after_lines-add j k (after_line s c) c

-- the lines done, and one more
pub after_lines-suc : (k : ℕ) (s : ServerState) (c : ℕ) → after_lines (k + 1) s c ≡
    after_line (after_lines k s c) c
unfolding after_lines
after_lines-suc k s c = after_lines-add k 1 s c

-- where the pump stops, all lines were executed
pub all_lines_are : (k : ℕ) (s : ServerState) (c : ℕ) → k ≤
    length (held_of (session c s)) → pump_stops (after_lines k s c) c ≡ true →
    after_all_lines s c ≡ after_lines k s c
unfolding after_all_lines
all_lines_are k s c le stop =
    let n = length (held_of (session c s)) in
    let e : n ≡ k + (n - k) = omega arith in
    ap (λ m. after_lines m s c) e ∙ after_lines-add k (n - k) s c ∙
    stopped_lines (n - k) (after_lines k s c) c stop

-- the session after a line
pub found_after_line : (s : ServerState) (c : ℕ) (line : List ℕ) (x : SessionState) →
    session c s ≡ Some x → next_line_for s c ≡ Some line → session c (after_line s c) ≡
    Some (session_after s c line x)
found_after_line s c line x found h = ap (λ (p : Presence). p.session) (own_after_line s c line x found h)

-- each line takes bytes from what is held
pub session_shortens : (s : ServerState) (c : ℕ) (line : List ℕ) (n : IsNext s c line) →
    length (session_after s c line n.asking).held < length n.asking.held
session_shortens s c line n = omega (
  arith,
  ap length (first_line_and_the_rest_are_all n.asking.held line n.first),
  (keeps (change_at s c line) (answered line (reply s c line) n.asking)).shorter,
  length-append (with_lf line) (rest_after line n.asking.held),
  length-append line (10 ∷ []),
)

pub line_shortens : (s : ServerState) (c : ℕ) (line : List ℕ) → next_line_for s c ≡
    Some line → length (held_of (session c (after_line s c))) < length (held_of (session c s))
line_shortens s c line h = let n = is_next s c line h in
    rw (found_after_line s c line n.asking n.found h, n.found) (session_shortens s c line n)
