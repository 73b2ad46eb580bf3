-- No note is cut: a line of a client has one at most, and one of a driver three.
use Rattle.std.proofs.Common.{◌≡◌, ◌∙◌, ℕ, suc, ◌+◌, ◌*◌, ◌≤◌, Bool}
use Rattle.std.proofs.Common.{List, [], ◌∷◌, ◌++◌, Option, Some}
use Rattle.std.proofs.Common.{None, refl, sym, ap, cond, arith, length, length-append, length-take, take_all}
use Rattle.std.specs.Prelude.{max}
use Rattle.std.specs.List.{cons_option}
use Rattle.std.specs.Option.{option_map, option_map_or, option_and_then}
use Rattle.std.proofs.lemmas.Bool.{cond_both}
use Rattle.nutwords.specs.Lines.{Tail, IsCutInto, line as one_line, unfinished, overlong}
use Rattle.nutwords.specs.SplitLine.{split_line}
use Rattle.nutwords.specs.WholeLines.{whole_lines, tail_after}
use Rattle.nutwords.proofs.PublicLaws.{first_line_is_cut_off, held_goes_in_front}
use Rattle.nutwords.proofs.PublicLaws.{whole_lines_are_the_cut}
use Rattle.nutdriver.specs.Report.{after_line, end_in}
use Rattle.nutcore.proofs.Common.{same_Some, Event, ServerState, session, ups_at, TrackingState, UpsId}
use Rattle.nutcore.specs.declared.event.Event.TheVariants as event
use Rattle.nutcore.specs.declared.note.DataState.TheVariants.{Awaited}
use Rattle.nutcore.specs.declared.note.Note.{Note}
use Rattle.nutcore.specs.declared.note.Note.TheVariants.{Data}
use Rattle.nutcore.specs.declared.note.TheConstants.{NOTE_LIMIT}
use Rattle.nutcore.specs.Reports.{with_end, is_unawaited}
use Rattle.nutcore.specs.Ups.{UpsState, as_far, after_text, after_texts}
use Rattle.nutcore.specs.Step.{refused_after}
use Rattle.nutcore.specs.History.{Execution, executions_by}
use Rattle.nutcore.specs.Notes.{note_of, notes_of_lines, logout_of, data_state_of}
use Rattle.nutcore.specs.Notes.{status_of, outcome_note, status_note, data_note, line_notes, texts_notes, loss_notes}
use Rattle.nutcore.specs.Notes.{is_lost_by, text_notes, connect_notes, bytes_notes, down_notes, of_ups_notes, tick_note}
use Rattle.nutcore.specs.Notes.{tick_notes, all_notes, IsReadAtOnce, NoNoteIsCut}
use Rattle.nutcore.specs.Sound.{IsSoundUps, IsSound}
use Rattle.nutcore.proofs.Bounded.{executions_few}
use Rattle.nutcore.proofs.SoundUps.{each_get}

one_at_most : (o : Option Note) → length (cons_option o []) ≤ 1
one_at_most None = omega arith
one_at_most (Some note) = omega arith

lines_few : (xs : List Execution) → length (notes_of_lines xs) ≤ length xs
lines_few [] = omega arith
lines_few (x ∷ xs) = onto (note_of x) (lines_few xs)
  where
    onto : (o : Option Note) → length (notes_of_lines xs) ≤ length xs →
        length (cons_option o (notes_of_lines xs)) ≤ suc (length xs)
    onto None le = omega (arith, le)
    onto (Some note) le = omega (arith, le)

-- a driver's line has three at most, its loss two
three_at_most : (a b d : Option Note) → length (cons_option a (cons_option b (cons_option d []))) ≤ 3
three_at_most a b d = grind (arith, one_at_most)

texts_few : (a m : ℕ) (u : UpsId) (t : TrackingState) (lines : List (List ℕ)) (x : UpsState) →
    length (texts_notes a m u t lines x) ≤ 3 * length lines
texts_few a m u t [] x = omega arith
texts_few a m u t (line ∷ lines) x =
    let b : Bool = is_unawaited u.place (end_in line) t in
    let next : TrackingState = with_end u.place (end_in line) t in
    let y : UpsState = after_text m b x line in
    omega (
      arith,
      length-append (line_notes a m u b x line) (texts_notes a m u next lines y),
      three_at_most (status_note u (status_of x) (status_of y))
          (outcome_note u b (after_line m x.report line).1 line)
          (data_note u (data_state_of a m x) (data_state_of a m y)),
      texts_few a m u next lines y,
    )

loss_few : (u : UpsId) (x : UpsState) → length (loss_notes u x) ≤ 2
loss_few u x = omega (arith, one_at_most (status_note u (status_of x) None))

-- each line ends by a byte of the piece
cut_few : (text : List ℕ) (lines : List (List ℕ)) (tail : Tail) →
    IsCutInto text lines tail → length lines ≤ length text
cut_few text _ tail (one_line {rest = rest} {first = first} {lines = lines} split few more) =
    omega (
      arith,
      ap (λ (bytes : List ℕ). length bytes)
          ((first_line_is_cut_off text first rest).0 split).0,
      length-append first (10 ∷ rest),
      cut_few rest lines tail more,
    )
cut_few text _ _ (unfinished none few) = omega arith
cut_few text _ _ (overlong none many) = omega arith

held_few : (held piece : List ℕ) → split_line held ≡ None →
    length (whole_lines (held ++ piece)) ≤ length piece
held_few held piece no_lf = of_cut (held ++ piece) (whole_lines (held ++ piece))
    (tail_after (held ++ piece)) refl (whole_lines_are_the_cut (held ++ piece))
  where
    behind : (p : List ℕ × List ℕ) (first rest : List ℕ) → split_line piece ≡ Some p →
        ◌≡◌ {A = List ℕ × List ℕ} (held ++ p.0, p.1) (first, rest) → suc (length rest) ≤ length piece
    behind p first rest split same =
        omega (
          arith,
          ap (λ (bytes : List ℕ). length bytes)
              ((first_line_is_cut_off piece p.0 p.1).0 split).0,
          length-append p.0 (10 ∷ p.1),
          ap (λ (q : List ℕ × List ℕ). length q.1) same,
        )

    joins : List ℕ × List ℕ → List ℕ × List ℕ
    joins s = (held ++ s.0, s.1)

    of_piece : (o : Option (List ℕ × List ℕ)) (first rest : List ℕ) → split_line piece ≡
        o → option_map joins o ≡ Some (first, rest) → suc (length rest) ≤ length piece
    of_piece None first rest split same = cc same
    of_piece (Some p) first rest split same =
        behind p first rest split (same_Some (held ++ p.0, p.1) (first, rest) same)

    of_cut : (text : List ℕ) (lines : List (List ℕ)) (tail : Tail) → text ≡ held ++
        piece → IsCutInto text lines tail → length lines ≤ length piece
    of_cut text _ tail is (one_line {rest = rest} {first = first} {lines = lines} split few more) =
        omega (
          arith,
          cut_few rest lines tail more,
          of_piece (split_line piece) first rest refl
              (sym (held_goes_in_front held piece no_lf) ∙ ap split_line (sym is) ∙ split),
        )
    of_cut text _ _ is (unfinished none few) = omega arith
    of_cut text _ _ is (overlong none many) = omega arith

far_few : (k : Option ℕ) (lines : List (List ℕ)) → length (as_far k lines) ≤ length lines
far_few None lines = omega arith
far_few (Some k) lines = omega (arith, length-take k lines)

bytes_few : (s : ServerState) (u : UpsId) (piece : List ℕ) (k : Option ℕ) (x : UpsState) →
    split_line x.unfinished ≡ None → length (bytes_notes s u piece k x) ≤ 3 * length piece + 2
bytes_few s u piece k x no_lf =
    let lines : List (List ℕ) = as_far k (whole_lines (x.unfinished ++ piece)) in
    let y : UpsState = after_texts s.moment u.place s.tracking lines x in
    let loss = cond_both (is_lost_by (x.unfinished ++ piece) k) (loss_notes u y) []
    (λ notes. length notes ≤ 2) (λ e. loss_few u y) (λ e. omega arith) in
    cond_both x.report.connected (text_notes s.max_age s.moment u s.tracking (x.unfinished ++ piece)
    k x) [] (λ notes. length notes ≤ 3 * length piece + 2)
    (λ e. omega (
      arith,
      length-append (texts_notes s.max_age s.moment u s.tracking lines x)
          (cond (is_lost_by (x.unfinished ++ piece) k) (loss_notes u y) []),
      texts_few s.max_age s.moment u s.tracking lines x,
      loss,
      far_few k (whole_lines (x.unfinished ++ piece)),
      held_few x.unfinished piece no_lf,
    ))
    (λ e. omega arith)

-- an event of a driver's UPS
ups_few : (u : UpsId) (s : ServerState) (notes : UpsState → List Note) (most : ℕ) →
    ((x : UpsState) → IsSoundUps s.moment x → length (notes x) ≤ most) → IsSound s →
    length (of_ups_notes u s notes) ≤ most
ups_few u s notes most few h = by_ups (ups_at u.place s) refl
  where
    by_ups : (o : Option UpsState) → ups_at u.place s ≡ o → length (option_map_or notes o []) ≤ most
    by_ups None there = omega arith
    by_ups (Some x) there = few x (each_get (IsSoundUps s.moment) s.upses u.place x there h.upses)

up_few : (u : UpsId) (x : UpsState) → length (connect_notes u x) ≤ 1
up_few u x = cond_both x.report.connected [] (Data u Awaited ∷ []) (λ notes. length notes ≤ 1)
    (λ e. omega arith) (λ e. omega arith)

down_few : (u : UpsId) (x : UpsState) → length (down_notes u x) ≤ 2
down_few u x = cond_both x.report.connected (loss_notes u x) [] (λ notes. length notes ≤ 2)
    (λ e. loss_few u x) (λ e. omega arith)

tick_few : (max_age was now place : ℕ) (xs : List UpsState) →
    length (tick_notes max_age was now place xs) ≤ length xs
tick_few max_age was now place [] = omega arith
tick_few max_age was now place (x ∷ xs) =
    onto (tick_note max_age was now place x) (tick_notes max_age was now (suc place) xs)
    (tick_few max_age was now (suc place) xs)
  where
    onto : (o : Option Note) (notes : List Note) → length notes ≤ length xs →
        length (cons_option o notes) ≤ suc (length xs)
    onto None notes le = omega (arith, le)
    onto (Some note) notes le = omega (arith, le)

all_few : (old : ServerState) (e : Event) (m : Option ℕ) → IsSound old → IsReadAtOnce e →
    length (all_notes old e m) ≤ NOTE_LIMIT
all_few old (event.DriverUp u) m h few = omega (arith, ups_few u old (connect_notes u) 1 (λ x k. up_few u x) h)
all_few old (event.DriverBytes u piece) m h few =
    omega (
      arith,
      few,
      ups_few u old (bytes_notes old u piece m) (3 * length piece + 2)
          (λ x k. bytes_few old u piece m x k.one_line) h,
    )
all_few old (event.DriverTook u n) m h few = omega arith
all_few old (event.DriverDown u) m h few = omega (arith, ups_few u old (down_notes u) 2 (λ x k. down_few u x) h)
all_few old (event.Tick seconds) m h few =
    omega (arith, tick_few old.max_age old.moment (max seconds old.moment) 0 old.upses, h.named, h.list.few)
all_few old (event.Open address) m h few = omega arith
all_few old (event.Feed c piece) m h few =
    omega (arith, lines_few (executions_by old (event.Feed c piece) m), executions_few old (event.Feed c piece) m h)
all_few old (event.Took c n) m h few = omega
    (arith, lines_few (executions_by old (event.Took c n) m), executions_few old (event.Took c n) m h)
all_few old (event.Close c) m h few = omega (arith, one_at_most (option_and_then logout_of (session c old)))
all_few old (event.Id id) m h few = omega arith

pub no_note_is_cut : NoNoteIsCut
no_note_is_cut = λ old e outcome h few. take_all NOTE_LIMIT
    (all_notes old e (refused_after outcome)) (all_few old e (refused_after outcome) h few)
