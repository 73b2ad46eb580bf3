-- The driver's lines, one by one.
use Rattle.std.proofs.Common.{◌≡◌, ℕ, suc, ◌+◌, ◌≤◌, Bool, cond, true, false}
use Rattle.std.proofs.Common.{List, [], ◌∷◌, ◌++◌}
use Rattle.std.proofs.Common.{Option, Some, None, Result, Ok, Err, refl, sym, ◌∙◌, ap, subst, arith, length}
use Rattle.std.proofs.Common.{take, drop, append-nil, append_assoc, length-take, take_all}
use Rattle.std.specs.List.{cons_option}
use Rattle.std.specs.Prelude.{is_err, OnErr, OnOk}
use Rattle.nutwords.specs.Found.{FindsLine, Finds}
use Rattle.nutwords.specs.declared.cut.Found.TheVariants as found
use Rattle.nutwords.specs.declared.limits.TheConstants.{LINE_ROOM}
use Rattle.nutwords.specs.Lines.{Tail, Unfinished, Overlong, IsCutInto}
use Rattle.nutwords.specs.WholeLines.{joined, whole_lines, unfinished_after, is_too_long, tail_after}
use Rattle.nutwords.proofs.PublicLaws.{whole_lines_are_the_cut, rest_is_that_behind_the_first, found_line_is_first}
use Rattle.nutwords.proofs.PublicLaws.{rest_is_unfinished, rest_is_overlong, one_cutting}
use Rattle.nutdriver.specs.declared.report.Report.{Report}
use Rattle.nutdriver.specs.declared.report.LineOutcome.{LineOutcome}
use Rattle.nutdriver.specs.Report.{OrderEnd, after_line, end_in, reported_end}
use Rattle.nutdriver.proofs.PublicLaws.{what_is_reported_of_an_order_is_read}
use Rattle.nutcore.proofs.Common.{cond_both, le-leb, lt-leb, UpsId, TrackingState, Fault}
use Rattle.nutcore.specs.declared.event.Fault.TheVariants.{LineTooLong, Memory}
use Rattle.std.proofs.lemmas.Slice.Eq.{bytes_eq-Decides}
use Rattle.nutcore.specs.declared.note.Note.{Note}
use Rattle.nutcore.specs.declared.note.Note.TheVariants.{LineRefused}
use Rattle.nutcore.specs.declared.note.TheConstants.{NOTE_LIMIT}
use Rattle.nutcore.specs.Reports.{with_end, is_unawaited, after_ends}
use Rattle.nutcore.specs.Ups.{UpsState, after_loss, after_text, after_texts, with_unfinished, as_far}
use Rattle.nutcore.specs.Ups.{is_refused, with_faulty_line}
use Rattle.nutcore.specs.Ups.{ups_after_text}
use Rattle.nutcore.specs.Notes.{fault_of, shown_of, status_note, data_note, status_of, data_state_of}
use Rattle.nutcore.specs.Notes.{end_note, line_notes, texts_notes, loss_notes, is_lost_by, text_notes}
use Rattle.nutcore.specs.Step.{refused_after}
use Rattle.nutcore.specs.Calls.{done}
use Rattle.nutcore.specs.Promises.{with_note, DoesLine, IsApplied, LacksMemory, IsAnswered, Reports}
use Rattle.nutcore.proofs.DriverChanges.{line_leaves}
use Rattle.nutcore.proofs.Notes.{take_onto, one_noted}

-- what is unfinished changes nothing of what lines do, nor of what is noted of them
line_beside : (m : ℕ) (b : Bool) (x : UpsState) (line bytes : List ℕ) →
    after_text m b (with_unfinished bytes x) line ≡ with_unfinished bytes (after_text m b x line)
line_beside m b x line bytes = sym ((line_leaves b x (after_line m x.report line)).beside bytes)

texts_beside : (m place : ℕ) (t : TrackingState) (lines : List (List ℕ)) (x : UpsState)
    (bytes : List ℕ) → after_texts m place t lines (with_unfinished bytes x) ≡
    with_unfinished bytes (after_texts m place t lines x)
texts_beside m place t [] x bytes = refl
texts_beside m place t (line ∷ lines) x bytes =
    let b : Bool = is_unawaited place (end_in line) t in
    let next : TrackingState = with_end place (end_in line) t in
    ap (after_texts m place next lines) (line_beside m b x line bytes) ∙
    texts_beside m place next lines (after_text m b x line) bytes

notes_beside : (a m : ℕ) (u : UpsId) (b : Bool) (x : UpsState) (line bytes : List ℕ) →
    line_notes a m u b (with_unfinished bytes x) line ≡ line_notes a m u b x line
notes_beside a m u b x line bytes = rw (line_beside m b x line bytes) refl

all_beside : (a m : ℕ) (u : UpsId) (t : TrackingState) (lines : List (List ℕ)) (x : UpsState)
    (bytes : List ℕ) → texts_notes a m u t lines (with_unfinished bytes x) ≡ texts_notes a m u t lines x
all_beside a m u t [] x bytes = refl
all_beside a m u t (line ∷ lines) x bytes =
    let b : Bool = is_unawaited u.place (end_in line) t in
    let next : TrackingState = with_end u.place (end_in line) t in
    let y : UpsState = after_text m b x line in
    rw (notes_beside a m u b x line bytes, line_beside m b x line bytes)
    (ap (λ (notes : List Note). line_notes a m u b x line ++ notes) (all_beside a m u next lines y bytes))

text_beside : (a m : ℕ) (u : UpsId) (t : TrackingState) (text : List ℕ) (k : Option ℕ)
    (x : UpsState) (bytes : List ℕ) → text_notes a m u t text k (with_unfinished bytes x) ≡
    text_notes a m u t text k x
text_beside a m u t text k x bytes =
    let lines : List (List ℕ) = as_far k (whole_lines text) in
    rw (all_beside a m u t lines x bytes, texts_beside m u.place t lines x bytes) refl

left_beside : (m place : ℕ) (t : TrackingState) (text : List ℕ) (k : Option ℕ) (x : UpsState)
    (bytes : List ℕ) → ups_after_text m place t text k (with_unfinished bytes x) ≡
    ups_after_text m place t text k x
left_beside m place t text None x bytes = rw (texts_beside m place t (whole_lines text) x bytes) refl
left_beside m place t text (Some k) x bytes = rw (texts_beside m place t (take k (whole_lines text)) x bytes) refl

answered_beside : (m place : ℕ) (t : TrackingState) (text : List ℕ) (x : UpsState)
    (bytes : List ℕ) (r : Result (Unit {0}) Fault) →
    IsAnswered m place t text (with_unfinished bytes x) r → IsAnswered m place t text x r
answered_beside m place t text x bytes r h = grind (arith, texts_beside)

beside : (a m : ℕ) (u : UpsId) (text : List ℕ) (x : UpsState) (t : TrackingState)
    (n : List Note) (r : Result (Unit {0}) Fault) (y : UpsState) (t' : TrackingState)
    (n' : List Note) (bytes : List ℕ)
    → Reports a m u text (with_unfinished bytes x) t n r y t' n' → Reports a m u text x t n r y t' n'
beside a m u text x t n r y t' n' bytes h = record {
  answers = answered_beside m u.place t text x bytes r h.answers;
  leaves = h.leaves ∙ left_beside m u.place t text _ x bytes;
  settles = h.settles;
  notes_it = h.notes_it ∙ ap (λ (notes : List Note). take NOTE_LIMIT (n ++ notes))
      (text_beside a m u t text _ x bytes);
}

-- a line is done
pub does_line : (a m : ℕ) (u : UpsId) (line : List ℕ) (x : UpsState) (t : TrackingState)
    (n : List Note) (o : LineOutcome) (z : UpsState) (b : Bool) (y : UpsState) (t' : TrackingState)
    (n1 n2 n3 : List Note)
    → IsApplied m line x o z → b ≡ is_refused (is_unawaited u.place (reported_end o) t) o →
    t' ≡ with_end u.place (reported_end o) t
    → y ≡ cond b (with_faulty_line z) z → length n ≤ NOTE_LIMIT → n1 ≡
    with_note (status_note u (status_of x) (status_of z)) n
    → n2 ≡ with_note (cond b (Some (LineRefused u (fault_of o) (shown_of line))) (end_note u o)) n1 → n3 ≡
    with_note (data_note u (data_state_of a m x) (data_state_of a m y)) n2
    → DoesLine a m u line x t n (with_unfinished [] y) t' n3
does_line a m u line x t n o z b y t' n1 n2 n3 applied refused settled left room one two three =
    let v : UpsState = record x { report = z.report } in
    let read : reported_end o ≡ end_in line =
    ap (λ (p : Report × LineOutcome). reported_end p.1) (sym applied.done) ∙
    what_is_reported_of_an_order_is_read m x.report line in
    let unawaited : Bool = is_unawaited u.place (end_in line) t in
    let by : b ≡ is_refused unawaited o = refused ∙
    ap (λ (e : Option OrderEnd). is_refused (is_unawaited u.place e t) o) read in
    let after : after_text m unawaited x line ≡ cond b (with_faulty_line v) v = rw (applied.done, by) refl in
    let is : y ≡ after_text m unawaited x line = left ∙
    ap (λ (q : UpsState). cond b (with_faulty_line q) q) applied.leaves ∙ sym after in
    let status : status_of (after_text m unawaited x line) ≡ status_of z =
    rw after (cond_both b (with_faulty_line v) v (λ (q : UpsState). status_of q ≡ status_of z)
    (λ e. refl) (λ e. refl)) in
    let s1 : Option Note = status_note u (status_of x) (status_of z) in
    let s2 : Option Note = cond b (Some (LineRefused u (fault_of o) (shown_of line))) (end_note u o) in
    let s3 : Option Note = data_note u (data_state_of a m x) (data_state_of a m y) in
    let datum : data_state_of a m (after_text m unawaited x line) ≡ data_state_of a m y =
    sym (ap (data_state_of a m) is) in
    let notes : line_notes a m u unawaited x line ≡
    cons_option s1 (cons_option s2 (cons_option s3 [])) = rw (status, datum, applied.done, ← by) refl in
    record {
      leaves = ap (with_unfinished []) is;
      settles = settled ∙ ap (λ (e : Option OrderEnd). with_end u.place e t) read;
      notes_it = three ∙ three_noted n n1 n2 s1 s2 s3 room one two ∙
          ap (λ (more : List Note). take NOTE_LIMIT (n ++ more)) (sym notes);
    }
  where
    onto : (o : Option Note) (xs : List Note) → cons_option o [] ++ xs ≡ cons_option o xs
    onto None xs = refl
    onto (Some note) xs = refl

    three_noted : (n n1 n2 : List Note) (s1 s2 s3 : Option Note) → length n ≤ NOTE_LIMIT →
        n1 ≡ with_note s1 n → n2 ≡ with_note s2 n1 → with_note s3 n2 ≡
        take NOTE_LIMIT (n ++ cons_option s1 (cons_option s2 (cons_option s3 [])))
    three_noted n n1 n2 s1 s2 s3 room one two =
        let a = one ∙ one_noted n s1 n (sym (take_all NOTE_LIMIT n room)) in
        let b = two ∙ one_noted (n ++ cons_option s1 []) s2 n1 a in
        one_noted ((n ++ cons_option s1 []) ++ cons_option s2 []) s3 n2 b
        ∙ ap (take NOTE_LIMIT) (append_assoc (n ++ cons_option s1 []) (cons_option s2 [])
        (cons_option s3 []) ∙ append_assoc n (cons_option s1 []) (cons_option s2 [] ++ cons_option s3 [])
        ∙ ap (λ (more : List Note). n ++ more)
        (ap (λ (more : List Note). cons_option s1 [] ++ more) (onto s2 (cons_option s3 [])) ∙
        onto s1 (cons_option s2 (cons_option s3 []))))

pub same_status : (u : UpsId) (o : Option (List ℕ)) → status_note u o o ≡ None
same_status u None = refl
same_status u (Some status) = rw ((bytes_eq-Decides status status).1 refl) refl

pub unchanged_status : (u : UpsId) (old new : Option (List ℕ)) (notes : List Note) → new ≡
    old → notes ≡ with_note (status_note u old new) notes
unchanged_status u old new notes same =
    sym (ap (λ (o : Option Note). with_note o notes) (ap (status_note u old) same ∙ same_status u old))

-- the next line that is found is the first whole one, and where none is whole all is unfinished
next_whole : (held piece line : List ℕ) (used : ℕ) → FindsLine held piece line used →
    let left : List ℕ = drop used piece in
    (whole_lines (held ++ piece) ≡ line ∷ whole_lines left) ×
    (unfinished_after (held ++ piece) ≡ unfinished_after left)
next_whole held piece line used found =
    let left : List ℕ = drop used piece in
    let text : List ℕ = held ++ piece in (
      (one_cutting text (line ∷ whole_lines left) (whole_lines text) (tail_after left)
          (tail_after text) (found_line_is_first held piece line used (whole_lines left)
          (tail_after left) found (whole_lines_are_the_cut left)) (whole_lines_are_the_cut text)).0,
      rest_is_that_behind_the_first text line left found.0 found.3,
    )

none_whole : (text : List ℕ) (tail : Tail) → IsCutInto text [] tail →
    (whole_lines text ≡ []) × (unfinished_after text ≡ text)
unfolding unfinished_after
none_whole text tail cut =
    let none : whole_lines text ≡ [] =
    (one_cutting text [] (whole_lines text) tail (tail_after text) cut
    (whole_lines_are_the_cut text)).0 in
    (none, ap (λ (lines : List (List ℕ)). drop (length (joined lines)) text) none)

-- what is said of the lines after a first one is said of all of them, one line later
abbrev one_later : Result (Unit {0}) Fault → Result (Unit {0}) Fault
one_later (Err (Memory k)) = Err (Memory (suc k))
one_later r = r

abbrev so_far : ℕ → Result (Unit {0}) Fault → Result (Unit {0}) Fault
so_far n (Err (Memory k)) = Err (Memory (n + k))
so_far n r = r

none_so_far : (r : Result (Unit {0}) Fault) → r ≡ so_far 0 r
none_so_far r = grind arith

one_so_far : (k : ℕ) (r : Result (Unit {0}) Fault) → so_far k (one_later r) ≡ so_far (k + 1) r
one_so_far k r = grind arith

noted_later : (n a b d : List Note) → take NOTE_LIMIT (take NOTE_LIMIT (n ++ a) ++ (b ++ d)) ≡
    take NOTE_LIMIT (n ++ ((a ++ b) ++ d))
noted_later n a b d = take_onto NOTE_LIMIT (n ++ a) (b ++ d) ∙
    ap (take NOTE_LIMIT) (append_assoc n a (b ++ d) ∙
    ap (λ (more : List Note). n ++ more) (sym (append_assoc a b d)))

abbrev later : Option ℕ → Option ℕ
later None = None
later (Some k) = Some (suc k)

module _ (a m : ℕ) (u : UpsId) (text left line : List ℕ) (x : UpsState) (t : TrackingState)
    (lines : whole_lines text ≡ line ∷ whole_lines left)
    (rest : unfinished_after text ≡ unfinished_after left) where
  abbrev unawaited : Bool
  unawaited = is_unawaited u.place (end_in line) t

  abbrev next : UpsState
  next = after_text m unawaited x line

  abbrev orders : TrackingState
  orders = with_end u.place (end_in line) t

  abbrev noted : List Note
  noted = line_notes a m u unawaited x line

  abbrev more : Option ℕ → List Note
  more k = texts_notes a m u orders (as_far k (whole_lines left)) next

  abbrev loss : Option ℕ → List Note
  loss k = cond (is_lost_by left k) (loss_notes u (after_texts m u.place orders (as_far k (whole_lines left)) next)) []

  text_later : (k : Option ℕ) → text_notes a m u t text (later k) x ≡ (noted ++ more k) ++ loss k
  text_later None = rw (lines, rest) refl
  text_later (Some k) = rw lines refl

  left_later : (k : Option ℕ) → ups_after_text m u.place t text (later k) x ≡
      ups_after_text m u.place orders left k next
  left_later None = rw (lines, rest) refl
  left_later (Some k) = rw lines refl

  ends_later : (k : Option ℕ) → after_ends u.place (as_far (later k) (whole_lines text)) t ≡
      after_ends u.place (as_far k (whole_lines left)) orders
  ends_later None = rw lines refl
  ends_later (Some k) = rw lines refl

  answers_later : (r : Result (Unit {0}) Fault) → IsAnswered m u.place orders left next r →
      IsAnswered m u.place t text x (one_later r)
  answers_later (Ok u') h = ap is_too_long rest ∙ h
  answers_later (Err LineTooLong) h = ap is_too_long rest ∙ h
  answers_later (Err (Memory k)) h = rw lines h
  answers_later (Err fault) h = absurd h

  refused_later : (r : Result (Unit {0}) Fault) → IsAnswered m u.place orders left next r →
      refused_after (done (one_later r)) ≡ later (refused_after (done r))
  refused_later (Ok u') h = refl
  refused_later (Err LineTooLong) h = refl
  refused_later (Err (Memory k)) h = refl
  refused_later (Err fault) h = absurd h

  reports_later : (n : List Note) (r : Result (Unit {0}) Fault) (y : UpsState) (t' : TrackingState)
      (n' : List Note) → Reports a m u left next orders (take NOTE_LIMIT (n ++ noted)) r y t' n'
      → Reports a m u text x t n (one_later r) y t' n'
  reports_later n r y t' n' h =
      let k : Option ℕ = refused_after (done r) in
      let at : later k ≡ refused_after (done (one_later r)) = sym (refused_later r h.answers) in
      record {
        answers = answers_later r h.answers;
        leaves = h.leaves ∙ sym (left_later k) ∙ ap (λ (j : Option ℕ). ups_after_text m u.place t text j x) at;
        settles = h.settles ∙ sym (ends_later k) ∙
            ap (λ (j : Option ℕ). after_ends u.place (as_far j (whole_lines text)) t) at;
        notes_it = h.notes_it ∙ noted_later n noted (more k) (loss k)
            ∙ ap (λ (notes : List Note). take NOTE_LIMIT (n ++ notes))
            (sym (text_later k) ∙ ap (λ (j : Option ℕ). text_notes a m u t text j x) at);
      }

-- Where the reading is: k lines are done, and what is said of what is held and the rest is said of
-- the whole text.
pub record IsAtLine (a m : ℕ) (u : UpsId) (k : ℕ) (text : List ℕ) (old : UpsState)
    (orders : TrackingState) (notes : List Note) (now : UpsState) (settled : TrackingState)
    (noted : List Note) (rest : List ℕ) : Type 0 where
  pub room : length noted ≤ NOTE_LIMIT
  pub goes_on : (r : Result (Unit {0}) Fault) (y : UpsState) (t : TrackingState) (n : List Note)
      → Reports a m u (now.unfinished ++ rest) now settled noted r y t n →
      Reports a m u text old orders notes (so_far k r) y t n

pub begins : (a m : ℕ) (u : UpsId) (x : UpsState) (t : TrackingState) (n : List Note)
    (piece : List ℕ) → length n ≤ NOTE_LIMIT → IsAtLine a m u 0 (x.unfinished ++ piece) x t n x t n piece
begins a m u x t n piece room = record {
  room = room;
  goes_on = λ r y t' n' h. subst
      (λ q. Reports a m u (x.unfinished ++ piece) x t n q y t' n') (none_so_far r) h;
}

module _ {a m : ℕ} {u : UpsId} {k : ℕ} {text : List ℕ} {old : UpsState}
    {orders : TrackingState} {notes : List Note} {x : UpsState} {t : TrackingState} {n : List Note}
    {rest : List ℕ} (at : IsAtLine a m u k text old orders notes x t n rest) where
  abbrev Ends : Result (Unit {0}) Fault → UpsState → TrackingState → List Note → Type 0
  Ends = Reports a m u text old orders notes

  -- one line more was done
  pub reads_on : (line held : List ℕ) (used : ℕ) (y : UpsState) (t' : TrackingState)
      (n' : List Note) → FindsLine x.unfinished rest line used →
      DoesLine a m u line (with_unfinished held x) t n y t' n' →
      IsAtLine a m u (k + 1) text old orders notes y t' n' (drop used rest)
  reads_on line held used y t' n' found does =
      let left : List ℕ = drop used rest in
      let b : Bool = is_unawaited u.place (end_in line) t in
      let z : UpsState = after_text m b x line in
      let is : y ≡ with_unfinished [] z = does.leaves ∙ ap (with_unfinished []) (line_beside m b x line held) in
      let noted : n' ≡ take NOTE_LIMIT (n ++ line_notes a m u b x line) = does.notes_it ∙
      ap (λ (more : List Note). take NOTE_LIMIT (n ++ more)) (notes_beside a m u b x line held) in
      let whole = next_whole x.unfinished rest line used found in
      record {
        room = omega (
          arith,
          ap (λ (notes : List Note). length notes) noted,
          length-take NOTE_LIMIT (n ++ line_notes a m u b x line),
        );
        goes_on = λ r v w p h.
            let bare : Reports a m u left y t' n' r v w p =
            subst (λ (bytes : List ℕ). Reports a m u (bytes ++ left) y t' n' r v w p)
            (ap (λ (q : UpsState). q.unfinished) is) h in
            let there : Reports a m u left (with_unfinished [] z) (with_end u.place (end_in line) t)
            (take NOTE_LIMIT (n ++ line_notes a m u b x line)) r v w p =
            rw (← is, ← noted, ← does.settles) bare in
            subst (λ q. Ends q v w p) (one_so_far k r)
            (at.goes_on (one_later r) v w p
            (reports_later a m u (x.unfinished ++ rest) left line x t whole.0 whole.1 n r v w p
            (beside a m u left z _ _ r v w p [] there)));
      }

  -- none is whole any more,
  pub needs_more : (held : List ℕ) → Finds x.unfinished rest found.NeedsMore held →
      Ends (Ok tt) (with_unfinished held x) t n
  needs_more held cut =
      let all : List ℕ = x.unfinished ++ rest in
      let none = none_whole all (Unfinished held) (rest_is_unfinished x.unfinished rest held cut) in
      let short : is_too_long all ≡ false = lt-leb LINE_ROOM (length all) cut.1 in
      at.goes_on (Ok tt) (with_unfinished held x) t n (record {
        answers = ap is_too_long none.1 ∙ short;
        leaves = rw (none.0, none.1, short, cut.2) refl;
        settles = rw none.0 refl;
        notes_it = rw (none.0, none.1, short)
            (sym (take_all NOTE_LIMIT n at.room) ∙ ap (take NOTE_LIMIT) (sym (append-nil n)));
      })

  -- what is there is too long,
  pub too_long : (held : List ℕ) (n' : List Note) →
      Finds x.unfinished rest found.TooLong held → n' ≡
      take NOTE_LIMIT (n ++ loss_notes u (with_unfinished held x)) →
      Ends (Err LineTooLong) (after_loss (with_unfinished held x)) t n'
  too_long held n' cut noted =
      let all : List ℕ = x.unfinished ++ rest in
      let none = none_whole all Overlong (rest_is_overlong x.unfinished rest held cut) in
      let long : is_too_long all ≡ true = le-leb LINE_ROOM (length all) cut.1 in
      at.goes_on (Err LineTooLong) (after_loss (with_unfinished held x)) t n' (record {
        answers = ap is_too_long none.1 ∙ long;
        leaves = rw (none.0, none.1, long) refl;
        settles = rw none.0 refl;
        notes_it = rw (none.0, none.1, long) noted;
      })

  -- or the next line wants memory that is refused
  pub lacks_memory : (line held : List ℕ) (used : ℕ) (y : UpsState) (t' : TrackingState)
      (n' p : List Note) → FindsLine x.unfinished rest line used →
      LacksMemory m line (with_unfinished held x) t n y t' n' → p ≡
      take NOTE_LIMIT (n' ++ loss_notes u y) → Ends (Err (Memory k)) (after_loss y) t' p
  lacks_memory line held used y t' n' p found lacks noted =
      let whole = next_whole x.unfinished rest line used found in
      subst (λ (j : ℕ). Ends (Err (Memory j)) (after_loss y) t' p) (omega arith)
      (at.goes_on (Err (Memory 0)) (after_loss y) t' p (record {
        answers = rw whole.0 lacks.changes;
        leaves = rw lacks.heard refl;
        settles = lacks.settles;
        notes_it = noted ∙ rw (lacks.notes_it, lacks.heard) refl;
      }))

-- what holds where a call fails, or doesn't
pub when_err : {A E : Type 0} {P : Type 0} (r : Result A E) → is_err r ≡ true → OnErr r P → P
when_err (Ok a) e h = cc e
when_err (Err e') e h = h

pub when_ok : {A E : Type 0} {P : Type 0} (r : Result A E) → is_err r ≡ false → OnOk r P → P
when_ok (Ok a) e h = h
when_ok (Err e') e h = cc e
