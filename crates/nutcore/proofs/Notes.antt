-- What is noted of an event.
use Rattle.std.proofs.Common.{◌≡◌, ◌∙◌, ℕ, zero, suc, ◌+◌, ◌-◌, ◌≤◌}
use Rattle.std.proofs.Common.{Bool, true, false, List, [], ◌∷◌, ◌++◌, Option, Some, None}
use Rattle.std.proofs.Common.{Result, refl, ap, sym, arith, length, take, zero-add, append-nil}
use Rattle.std.proofs.Common.{append_assoc, slice_get}
use Rattle.std.specs.Prelude.{if◌then◌else◌, is_some}
use Rattle.std.specs.List.{filter_map, cons_option}
use Rattle.std.specs.Option.{option_and_then, option_map_or}
use Rattle.std.proofs.lemmas.List.Elements.{filter_map-append}
use Rattle.nutcommand.specs.declared.command.Command.{Command}
use Rattle.nutcommand.specs.declared.err_word.ErrWord.{ErrWord}
use Rattle.nutcommand.specs.Command.{read_command}
use Rattle.nutanswer.specs.declared.reply.Reply.{Reply}
use Rattle.nutcore.proofs.Common.{SessionState, ServerState, session, UpsId}
use Rattle.nutcore.specs.declared.note.DataState.TheVariants.{Lost}
use Rattle.nutcore.specs.declared.note.Note.{Note}
use Rattle.nutcore.specs.declared.note.Note.TheVariants.{Data, StatusChanged}
use Rattle.nutcore.specs.declared.note.TheConstants.{NOTE_LIMIT}
use Rattle.nutcore.specs.declared.event.Event.TheVariants.{Feed, Took, Close}
use Rattle.nutcore.specs.Ups.{UpsState}
use Rattle.nutcore.specs.Step.{with_input, without_output, may_take, refused_after}
use Rattle.nutcore.specs.Pump.{next_line, next_line_for, after_line, after_lines, pump_stops}
use Rattle.nutcore.specs.Pump.{held_of, holds_overlong, is_overlong}
use Rattle.nutcore.specs.History.{Execution, of_notice, next_execution, lines_executed, notice}
use Rattle.nutcore.specs.History.{pump_executions, executions_until, executions_by}
use Rattle.nutcore.specs.Notes.{note_of, notes_of_lines, logout_of, status_of, status_note, loss_notes, tick_note}
use Rattle.nutcore.specs.Notes.{tick_notes, notes_of}
use Rattle.nutcore.specs.declared.event.Outcome.{Outcome}
use Rattle.nutcore.specs.declared.event.Outcome.TheVariants.{Done}
use Rattle.nutcore.specs.Promises.{Replies, note_in_reply, with_note, next_note, with_next}
use Rattle.nutcore.proofs.Loops.{none_of, stopped_line, all_lines_are}
use Rattle.nutcore.proofs.Changed.{input_absent}

-- the lines that are executed, and those after them
executed-add : (j k : ℕ) (s : ServerState) (c : ℕ) → lines_executed (j + k) s c ≡
    lines_executed j s c ++ lines_executed k (after_lines j s c) c
unfolding lines_executed after_lines
executed-add zero k s c = ap (λ n. lines_executed n s c) (zero-add k)
executed-add (suc j) k s c =
    let e : suc j + k ≡ suc (j + k) = omega arith in
    cc (
      executed-add j k (after_line s c) c,
      append_assoc (next_execution s c (next_line_for s c)) (lines_executed j (after_line s c) c)
          (lines_executed k (after_lines j (after_line s c) c) c),
    )

-- where the pump stops, no more are
none_executed : (k : ℕ) (s : ServerState) (c : ℕ) → pump_stops s c ≡ true → lines_executed k s c ≡ []
unfolding lines_executed
none_executed zero s c stop = refl
none_executed (suc k) s c stop = cc (none_of (next_line_for s c) stop, stopped_line s c stop, none_executed k s c stop)

all_executed : (k : ℕ) (s : ServerState) (c : ℕ) → k ≤ length (held_of (session c s)) →
    pump_stops (after_lines k s c) c ≡ true →
    lines_executed (length (held_of (session c s))) s c ≡ lines_executed k s c
all_executed k s c le stop =
    let n = length (held_of (session c s)) in
    let e : n ≡ k + (n - k) = omega arith in
    cc (executed-add k (n - k) s c, none_executed (n - k) (after_lines k s c) c stop, append-nil (lines_executed k s c))

-- all that the pump executes, where it ends there
pumped_all : (k : ℕ) (s t : ServerState) (c : ℕ) → t ≡ after_lines k s c → k ≤
    length (held_of (session c s)) → next_line_for t c ≡ None → executions_until s c None ≡
    lines_executed k s c ++ notice t c
unfolding executions_until pump_executions
pumped_all k s t c e le none =
    let stop : pump_stops (after_lines k s c) c ≡ true = cc (e, none) in
    cc (all_executed k s c le stop, all_lines_are k s c le stop, e)

-- as many are noted of what is there and what comes as of what was there before
pub take_onto : (n : ℕ) (xs ys : List Note) → take n (take n xs ++ ys) ≡ take n (xs ++ ys)
take_onto zero xs ys = refl
take_onto (suc n) [] ys = refl
take_onto (suc n) (x ∷ xs) ys = cc (take_onto n xs ys)

pub one_noted : (xs : List Note) (o : Option Note) (notes : List Note) → notes ≡
    take NOTE_LIMIT xs → with_note o notes ≡ take NOTE_LIMIT (xs ++ cons_option o [])
one_noted xs o notes e = grind (arith, take_onto NOTE_LIMIT xs, append-nil)

-- a driver is lost
pub loss_noted : (u : UpsId) (x : UpsState) (notes first final : List Note) → first ≡
    take NOTE_LIMIT (notes ++ Data u Lost ∷ []) → final ≡
    with_note (status_note u (status_of x) None) first → final ≡ take NOTE_LIMIT (notes ++ loss_notes u x)
loss_noted u x notes first final lost gone =
    let o : Option Note = status_note u (status_of x) None in
    gone ∙ one_noted (notes ++ Data u Lost ∷ []) o first lost ∙
    ap (take NOTE_LIMIT) (append_assoc notes (Data u Lost ∷ []) (cons_option o []))

pub status_gone : (u : UpsId) (o p : Option (List ℕ)) → o ≡ p → is_some o ≡ true →
    status_note u p None ≡ Some (StatusChanged u None)
status_gone u o p e there = grind arith

pub no_status : (u : UpsId) (o p : Option (List ℕ)) → o ≡ p → is_some o ≡ false →
    status_note u p None ≡ None
no_status u o p e none = grind arith

next_notes : (s : ServerState) (c : ℕ) (o : Option (List ℕ)) →
    cons_option (next_note s c o) [] ≡ filter_map note_of (next_execution s c o)
next_notes s c o = grind arith

-- it goes on
pub noted_next : (s t : ServerState) (c k : ℕ) (notes notes' : List Note) → t ≡
    after_lines k s c → notes ≡ take NOTE_LIMIT (notes_of_lines (lines_executed k s c)) →
    notes' ≡ with_next t c notes → notes' ≡ take NOTE_LIMIT (notes_of_lines (lines_executed (k + 1) s c))
unfolding lines_executed
noted_next s t c k notes notes' e so_far more =
    let next : Option (List ℕ) = next_line_for t c in
    let xs : List Execution = lines_executed k s c in
    cc (
      one_noted (filter_map note_of xs) (next_note t c next) notes so_far,
      next_notes t c next,
      filter_map-append note_of xs (next_execution t c next),
      append-nil (next_execution t c next),
      executed-add k 1 s c,
    )

-- it ends: all lines are done, and nothing is left to do
pub noted_end : (s t : ServerState) (c k : ℕ) (notes : List Note) → t ≡ after_lines k s c →
    k ≤ length (held_of (session c s)) → next_line_for t c ≡ None → is_overlong t c ≡ false
    → notes ≡ take NOTE_LIMIT (notes_of_lines (lines_executed k s c)) → notes ≡
    take NOTE_LIMIT (notes_of_lines (executions_until s c None))
noted_end s t c k notes e le none short so_far =
    let lines : List Execution = lines_executed k s c in
    so_far ∙ ap (λ (xs : List Execution). take NOTE_LIMIT (notes_of_lines xs))
    (sym (pumped_all k s t c e le none ∙
    ap (λ (b : Bool). lines ++ (if b then of_notice t c ∷ [] else [])) short ∙ append-nil lines))

-- or the session's line is too long
pub noted_notice : (s t : ServerState) (c k : ℕ) (x : SessionState) (notes notes' : List Note) →
    t ≡ after_lines k s c → k ≤ length (held_of (session c s)) → next_line_for t c ≡
    None → is_overlong t c ≡ true → session c t ≡ Some x
    → notes ≡ take NOTE_LIMIT (notes_of_lines (lines_executed k s c)) → notes' ≡
    with_note (logout_of x) notes → notes' ≡ take NOTE_LIMIT (notes_of_lines (executions_until s c None))
noted_notice s t c k x notes notes' e le none long found so_far more =
    let lines : List Execution = lines_executed k s c in
    let noticed : notes_of_lines (notice t c) ≡ cons_option (logout_of x) [] =
    ap (λ (b : Bool). notes_of_lines (if b then of_notice t c ∷ [] else [])) long ∙
    ap (λ (o : Option SessionState). cons_option (option_and_then logout_of o) []) found in
    more ∙ one_noted (notes_of_lines lines) (logout_of x) notes so_far
    ∙ ap (take NOTE_LIMIT) (sym (ap (filter_map note_of) (pumped_all k s t c e le none) ∙
    filter_map-append note_of lines (notice t c) ∙ ap (λ (ns : List Note). notes_of_lines lines ++ ns) noticed))

-- so the next line is noted
pub noted_reply : (s : ServerState) (c : ℕ) (line : List ℕ) (r : Reply)
    (read : Result (Option Command) ErrWord) (x : SessionState) (before notes : List Note) →
    next_line_for s c ≡ Some line → session c s ≡ Some x → Replies s c line r →
    read_command line ≡ read → notes ≡ with_note (note_in_reply x read r) before → notes ≡
    with_next s c before
noted_reply s c line r read x before notes next found is reads noted = grind arith

-- of an empty line nothing is
pub noted_empty : (s : ServerState) (c : ℕ) (x : SessionState) (notes : List Note) → session c s ≡ Some x →
    next_line_for s c ≡ Some [] → with_next s c notes ≡ notes
noted_empty s c x notes found next = rw (next, found) refl

-- where the client isn't open, nothing is
pub fed_nothing : (s : ServerState) (c : ℕ) (piece : List ℕ) → session c s ≡ None
    → notes_of_lines (executions_by s (Feed c piece) None) ≡ []
unfolding executions_by lines_executed after_lines
fed_nothing s c piece absent =
    let stops : next_line_for s c ≡ None = ap (option_and_then next_line) absent in
    let nothing : notice s c ≡ [] = ap
    (λ (o : Option SessionState). if option_map_or holds_overlong o false then of_notice s c ∷ [] else []) absent in
    ap (λ (z : ServerState). notes_of_lines (executions_until z c None)) (input_absent s c piece absent) ∙ ap
    notes_of_lines (pumped_all 0 s s c refl (omega arith) stops ∙ nothing)

pub fed_noted : (s j : ServerState) (c : ℕ) (piece : List ℕ) (o : Outcome) (notes : List Note)
    → j ≡ with_input s c piece → notes ≡
    take NOTE_LIMIT (notes_of_lines (executions_until j c (refused_after o)))
    → notes ≡ notes_of s (Feed c piece) o
unfolding executions_by
fed_noted s j c piece o notes fed noted = noted ∙ ap
    (λ (z : ServerState). take NOTE_LIMIT (notes_of_lines (executions_until z c (refused_after o)))) fed

pub took_noted : (s j : ServerState) (c n : ℕ) (o : Outcome) (notes : List Note) → may_take (session c s) n ≡ true
    → j ≡ without_output s c n → notes ≡
    take NOTE_LIMIT (notes_of_lines (executions_until j c (refused_after o)))
    → notes ≡ notes_of s (Took c n) o
unfolding executions_by
took_noted s j c n o notes may took noted = rw may
    (noted ∙ ap (λ (z : ServerState). take NOTE_LIMIT
    (notes_of_lines (executions_until z c (refused_after o)))) took)

pub close_noted : (s : ServerState) (c : ℕ) (x : SessionState) (notes notes' : List Note) → session c s ≡ Some x
    → notes ≡ [] → notes' ≡ with_note (logout_of x) notes → notes' ≡ notes_of s (Close c) Done
close_noted s c x notes notes' found none noted = noted ∙ one_noted [] (logout_of x) notes none ∙ sym
    (ap (λ (o : Option SessionState). take NOTE_LIMIT (cons_option (option_and_then logout_of o) [])) found)

then_more : (o : Option Note) (xs ys : List Note) → cons_option o (xs ++ ys) ≡ cons_option o xs ++ ys
then_more None xs ys = refl
then_more (Some x) xs ys = refl

-- the clock makes one more stale, or doesn't
abbrev pub ticked : ℕ → ℕ → ℕ → ℕ → UpsState → List Note
ticked max_age was now place x = cons_option (tick_note max_age was now place x) []

pub ticked_so_far : (max_age was now place p : ℕ) (xs : List UpsState) (x : UpsState) →
    slice_get xs p ≡ Some x → tick_notes max_age was now place (take (suc p) xs) ≡
    tick_notes max_age was now place (take p xs) ++ ticked max_age was now (place + p) x
ticked_so_far max_age was now place p [] x e = absurd (cc)
ticked_so_far max_age was now place zero (y ∷ ys) x e =
    let same : y ≡ x = cc in
    let here : place + 0 ≡ place = omega arith in
    ap (ticked max_age was now place) same ∙ ap (λ k. ticked max_age was now k x) (sym here)
ticked_so_far max_age was now place (suc p) (y ∷ ys) x e =
    let there : suc place + p ≡ place + suc p = omega arith in
    let first : Option Note = tick_note max_age was now place y in
    ap (cons_option first) (ticked_so_far max_age was now (suc place) p ys x e ∙
    ap (λ k. tick_notes max_age was now (suc place) (take p ys) ++ ticked max_age was now k x) there)
    ∙ then_more first (tick_notes max_age was now (suc place) (take p ys)) (ticked max_age was now (place + suc p) x)
