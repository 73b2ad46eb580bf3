-- A whole line of an idle client is answered at once.
use Rattle.std.proofs.Common.{arith, ◌≡◌, ◌∙◌, ◌<◌, ◌≤◌, ℕ, false, true}
use Rattle.std.proofs.Common.{List, [], ◌∷◌, ◌++◌, Option, Some, refl, sym, ap, subst}
use Rattle.std.proofs.Common.{length, length-append, append-nil, take_all}
use Rattle.std.specs.Prelude.{option_map}
use Rattle.std.proofs.lemmas.List.{nil_from_length}
use Rattle.nutwords.specs.SplitLine.{with_lf}
use Rattle.nutwords.specs.SplitLine.{split_line, first_line, rest_after}
use Rattle.nutwords.specs.Cut.{has_lf}
use Rattle.nutwords.proofs.PublicLaws.{first_line_is_cut_off, first_line_and_the_rest_are_all}
use Rattle.nutcore.specs.declared.TheConstants.{HELD_LIMIT}
use Rattle.nutcore.specs.declared.event.Event.TheVariants.{Feed}
use Rattle.nutcore.specs.declared.event.Outcome.TheVariants.{Fed}
use Rattle.nutcore.specs.Alone.{ALineIsAnsweredAtOnce, IsIdle}
use Rattle.nutcore.specs.History.{owed}
use Rattle.nutcore.specs.Pump.{next_line, next_line_for, after_line, after_lines, answered, held_of}
use Rattle.nutcore.specs.Pump.{owed_of, pumped, after_notice, pump_stops}
use Rattle.nutcore.specs.Reply.{reply}
use Rattle.nutcore.specs.Step.{joined, with_input, after_by, pumped_until}
use Rattle.nutcore.proofs.Common.{SessionState, ServerState, session, Step}
use Rattle.nutcore.proofs.Changed.{session_changed}
use Rattle.nutcore.proofs.Changes.{keeps}
use Rattle.nutcore.proofs.Happenings.{core_alike, core_input}
use Rattle.nutcore.proofs.Least.{empty_idle}
use Rattle.nutcore.proofs.Loops.{all_lines_are, found_after_line}
use Rattle.nutcore.proofs.Pumping.{change_at, no_notice, session_after}

-- What is read of one line and its LF.
line_is_first : (line : List ℕ) → has_lf line ≡ false → first_line (with_lf line) ≡ Some line
line_is_first line none = ap (option_map (λ (p : List ℕ × List ℕ). p.0))
    ((first_line_is_cut_off (with_lf line) line []).1 (refl, none))

nothing_rests : (line : List ℕ) → has_lf line ≡ false → length (rest_after line (with_lf line)) ≡ 0
nothing_rests line none =
    omega (
      arith,
      ap length (first_line_and_the_rest_are_all (with_lf line) line
          (line_is_first line none)),
      length-append (with_lf line) (rest_after line (with_lf line)),
    )

-- What an idle session holds once it has come.
all_held : (line : List ℕ) (x : SessionState) → IsIdle x → length (with_lf line) ≤
    HELD_LIMIT → (joined (with_lf line) x).held ≡ with_lf line
all_held line x idle fits = rw (idle.going, idle.held) (take_all HELD_LIMIT (with_lf line) fits)

all_joins : (line : List ℕ) (x : SessionState) → IsIdle x → length (with_lf line) ≤
    HELD_LIMIT → joined (with_lf line) x ≡ (let y : SessionState = record x { held = with_lf line } in y)
all_joins line x idle fits = ap (λ (held : List ℕ). let y : SessionState =
    record x { held = held } in y) (all_held line x idle fits)

is_next_line : (line : List ℕ) (x y : SessionState) → IsIdle x → has_lf line ≡ false →
    y ≡ (let z : SessionState = record x { held = with_lf line } in z) → next_line y ≡ Some line
is_next_line line x y idle none is = rw (is, idle.going, idle.owed) (line_is_first line none)

-- After it nothing is held, and the pump has stopped.
pumped_once : (s : ServerState) (c : ℕ) (line : List ℕ) (x : SessionState) → session c s ≡
    Some x → x.held ≡ with_lf line → has_lf line ≡ false → next_line_for s c ≡
    Some line → pumped s c ≡ after_line s c
unfolding pumped after_lines
pumped_once s c line x found holds none next =
    let there = found_after_line s c line x found next in
    let text : List ℕ = reply s c line in
    let short : length (session_after s c line x).held ≤ 0 =
    omega (
      arith,
      (keeps (change_at s c line) (answered line text x)).shorter,
      ap (λ (h : List ℕ). length (rest_after line h)) holds,
      nothing_rests line none,
    ) in
    let empty : held_of (session c (after_line s c)) ≡ [] =
    rw there (nil_from_length (session_after s c line x).held (omega (arith, short))) in
    let idle = empty_idle (session c (after_line s c)) empty in
    let some : 1 ≤ length (held_of (session c s)) =
    rw found (omega (arith, ap length holds, length-append line (10 ∷ []))) in
    ap (λ (z : ServerState). after_notice z c) (all_lines_are 1 s c some idle.stopped) ∙
    no_notice (after_line s c) c idle.short

pub line_answered_at_once : ALineIsAnsweredAtOnce
unfolding after_by pumped_until with_input
line_answered_at_once old new c n line x found idle none fits step =
    let piece : List ℕ = with_lf line in
    let s : ServerState = with_input old c piece in
    let y : SessionState = record x { held = piece } in
    let there : session c s ≡ Some y = session_changed (joined piece) (λ z. refl) c old ∙
    ap (option_map (joined piece)) found ∙ ap (λ (z : SessionState). Some z) (all_joins line x idle fits) in
    let next : next_line_for s c ≡ Some line = rw there (is_next_line line x y idle none refl) in
    let after : owed c (after_line s c) ≡ reply s c line =
    ap owed_of (found_after_line s c line y there next) ∙
    (keeps (change_at s c line) (answered line (reply s c line) y)).owed ∙
    ap (λ (o : List ℕ). o ++ reply s c line) idle.owed in
    let same : reply s c line ≡ reply old c line = sym (core_alike s c line).reply ∙
    ap (λ (z : ServerState). reply z c line) (core_input old c piece) ∙ (core_alike old c line).reply in
    ap (owed c) (step.leaves ∙ pumped_once s c line y there refl none next) ∙ after ∙ same
