-- A line has words or a fault, and one fault only.
use Rattle.std.proofs.Common.{◌≡◌, ◌⊎◌, true, inl, inr, ℕ, ◌<◌, ◌+◌, List, []}
use Rattle.std.proofs.Common.{◌∷◌, ◌++◌, length, take, drop, refl, sym, subst, ap}
use Rattle.std.proofs.Common.{◌∙◌, append_assoc, append-nil, arith, Result, Ok, Err}
use Rattle.std.proofs.Common.{MatchResult}
use Rattle.std.specs.Prelude.{slice_index}
use Rattle.std.proofs.lemmas.Bool.{cases_lt}
use Rattle.std.proofs.lemmas.List.{take-append-drop}
use Rattle.nutwords.specs.Bytes.{is_lawful, is_bare, is_quotable}
use Rattle.nutwords.specs.Grammar.{Units, none, itself, escaped, IsBareWord, IsQuotedWord, Spells}
use Rattle.nutwords.specs.Grammar.{bare, quoted, WordEndsBefore, Reads, end, blank, word}
use Rattle.nutwords.specs.Grammar.{ReadsToBoundary, nothing, before_blank}
use Rattle.nutwords.specs.Fault.{Begins, IsFirstBad, EndsIn, EndsInBareWord, EndsInQuotedWord}
use Rattle.nutwords.specs.Fault.{EndsInOpenQuote, EndsInBareBackslash, EndsInQuotedBackslash}
use Rattle.nutwords.specs.Fault.{IsByteFault, control, quote_inside, after_quote, IsEndFault}
use Rattle.nutwords.specs.Fault.{bare_backslash, quoted_backslash, open_quote, IsFault, at_byte}
use Rattle.nutwords.specs.Fault.{at_end}
use Rattle.nutwords.specs.Scan.{class_of, step, finish, read_line}
use Rattle.nutwords.specs.declared.faults.BadLine.{BadLine}
use Rattle.nutwords.specs.declared.scan.Class.{Class}
use Rattle.nutwords.specs.declared.scan.Class.TheVariants.{Blank, Quote, Backslash, Other, Control}
use Rattle.nutwords.specs.declared.scan.ScanState.{ScanState}
use Rattle.nutwords.specs.declared.scan.ScanState.TheVariants.{Between, Bare, BareEscape, Quoted, QuotedEscape, Closed}
use Rattle.nutwords.proofs.Classes.{class_of-blank, class_of-bare, quotable_kinds, not_control}
use Rattle.nutwords.proofs.Stands.{Begins-front}
use Rattle.nutwords.proofs.FaultLemmas.{At, At-start, At-step, At-fault, At-stuck, At-end, FaultOf, IsFault-no_words}
use Rattle.nutwords.proofs.Complete.{read_line-complete}

-- the bytes lead the scan from one place to another
data Leads : ScanState → List ℕ → ScanState → Type 0 where
  here : {place : ScanState} → Leads place [] place
  on : {place next last : ScanState} {b : ℕ} {bytes : List ℕ} → step place (class_of b) ≡
      Ok next → Leads next bytes last → Leads place (b ∷ bytes) last

ok_same : (p q : ScanState) → ◌≡◌ {A = Result ScanState BadLine} (Ok p) (Ok q) → p ≡ q
ok_same p q h = cc

-- to one place only
Leads-one : (place p q : ScanState) (bytes : List ℕ) → Leads place bytes p → Leads place bytes q → p ≡ q
Leads-one place _ _ _ here here = refl
Leads-one place p q _ (on {next = n} {bytes = bytes} h l) (on {next = m} h' l') =
    Leads-one n p q bytes l (subst (λ x. Leads x bytes q) (ok_same m n (sym h' ∙ h)) l')

Leads-append : (place p q : ScanState) (a b : List ℕ) → Leads place a p → Leads p b q → Leads place (a ++ b) q
Leads-append place _ q _ b here r = r
Leads-append place p q _ b (on {next = n} {bytes = bytes} h l) r = on h (Leads-append n p q bytes b l r)

-- an escaped byte
bare_escape : (k : Class) → (k ≡ Control → ⊥) → step BareEscape k ≡ Ok Bare
bare_escape Blank n = refl
bare_escape Quote n = refl
bare_escape Backslash n = refl
bare_escape Other n = refl
bare_escape Control n = absurd (n refl)

quoted_escape : (k : Class) → (k ≡ Control → ⊥) → step QuotedEscape k ≡ Ok Quoted
quoted_escape Blank n = refl
quoted_escape Quote n = refl
quoted_escape Backslash n = refl
quoted_escape Other n = refl
quoted_escape Control n = absurd (n refl)

quoted_itself : (k : Class) → (k ≡ Blank) ⊎ (k ≡ Other) → step Quoted k ≡ Ok Quoted
quoted_itself k (inl e) = rw e refl
quoted_itself k (inr e) = rw e refl

-- the units of a word lead on inside it
bare_units : (text w : List ℕ) → Units is_bare text w → Leads Bare text Bare
bare_units _ _ none = here
bare_units _ _ (itself {b = b} {text = text} {word = w} h u) =
    on (ap (step Bare) (class_of-bare b h)) (bare_units text w u)
bare_units _ _ (escaped {b = b} {text = text} {word = w} h u) =
    on {next = BareEscape} refl (on (bare_escape (class_of b) (not_control b h)) (bare_units text w u))

quoted_units : (text w : List ℕ) → Units is_quotable text w → Leads Quoted text Quoted
quoted_units _ _ none = here
quoted_units _ _ (itself {b = b} {text = text} {word = w} h u) =
    on (quoted_itself (class_of b) (quotable_kinds b h)) (quoted_units text w u)
quoted_units _ _ (escaped {b = b} {text = text} {word = w} h u) =
    on {next = QuotedEscape} refl (on (quoted_escape (class_of b) (not_control b h)) (quoted_units text w u))

bare_word : (text w : List ℕ) → Units is_bare text w → 0 < length w → Leads Between text Bare
bare_word _ _ none n = absurd (omega arith)
bare_word _ _ (itself {b = b} {text = text} {word = w} h u) n =
    on (ap (step Between) (class_of-bare b h)) (bare_units text w u)
bare_word _ _ (escaped {b = b} {text = text} {word = w} h u) n =
    on {next = BareEscape} refl (on (bare_escape (class_of b) (not_control b h)) (bare_units text w u))

bare_then_backslash : (units w : List ℕ) → Units is_bare units w → Leads Between (units ++ 92 ∷ []) BareEscape
bare_then_backslash _ _ none = on {next = BareEscape} refl here
bare_then_backslash _ _ (itself {b = b} {text = text} {word = w} h u) =
    on (ap (step Between) (class_of-bare b h))
    (Leads-append Bare Bare BareEscape text (92 ∷ []) (bare_units text w u) (on {next = BareEscape} refl here))
bare_then_backslash _ _ (escaped {b = b} {text = text} {word = w} h u) =
    on {next = BareEscape} refl (on (bare_escape (class_of b) (not_control b h))
    (Leads-append Bare Bare BareEscape text (92 ∷ []) (bare_units text w u) (on {next = BareEscape} refl here)))

open_quote_at : (text inside w : List ℕ) → Units is_quotable inside w → text ≡ 34 ∷
    inside → Leads Between text Quoted
open_quote_at text inside w u e =
    subst (λ t. Leads Between t Quoted) (sym e) (on {next = Quoted} refl (quoted_units inside w u))

quoted_then : (b : ℕ) (last : ScanState) (text inside w : List ℕ) →
    step Quoted (class_of b) ≡ Ok last → Units is_quotable inside w → text ≡ 34 ∷
    (inside ++ b ∷ []) → Leads Between text last
quoted_then b last text inside w h u e =
    subst (λ t. Leads Between t last) (sym e)
    (on {next = Quoted} refl (Leads-append Quoted Quoted last inside (b ∷ []) (quoted_units inside w u) (on h here)))

-- where a line leads to: a place where a blank may follow
abbrev LeadsToEnd : ScanState → List ℕ → Type 0
LeadsToEnd place bytes = (last : ScanState) × Leads place bytes last × (step last Blank ≡ Ok Between)

Spells-leads : (text w : List ℕ) → Spells text w → LeadsToEnd Between text
Spells-leads text w (bare h) = (Bare, bare_word text w h.0 h.1, refl)
Spells-leads text w (quoted h) = (Closed, quoted_then 34 Closed text h.0 w refl h.1 h.2, refl)

-- what follows a word is as if there were no word before it
behind_word : (place : ScanState) (rest : List ℕ) → step place Blank ≡ Ok Between →
    WordEndsBefore rest → LeadsToEnd Between rest → LeadsToEnd place rest
behind_word place [] h a r = (place, here, h)
behind_word place (b ∷ rest) h a r = go r.0 r.1 r.2
  where
    go : (last : ScanState) → Leads Between (b ∷ rest) last → step last Blank ≡
        Ok Between → LeadsToEnd place (b ∷ rest)
    go last (on {next = n} k l) e =
        let same = ok_same n Between (sym k ∙ ap (step Between) (class_of-blank b a)) in
        (last, on (ap (step place) (class_of-blank b a) ∙ h) (subst (λ x. Leads x rest last) same l), e)

Reads-leads : (line : List ℕ) (ws : List (List ℕ)) → Reads line ws → LeadsToEnd Between line
Reads-leads _ _ end = (Between, here, refl)
Reads-leads _ ws (blank {b = b} {line = line} h r) =
    let q = Reads-leads line ws r in
    (q.0, on (ap (step Between) (class_of-blank b h)) q.1, q.2)
Reads-leads line _ (word {text = text} {rest = rest} {word = w} {words = ws} e s a r) =
    let q = Spells-leads text w s in
    let t = behind_word q.0 rest q.2 a (Reads-leads rest ws r) in
    (t.0, subst (λ x. Leads Between x t.0) (sym e) (Leads-append Between q.0 t.0 text rest q.1 t.1), t.2)

boundary_leads : (front : List ℕ) (ws : List (List ℕ)) → ReadsToBoundary front ws → Leads Between front Between
boundary_leads _ _ nothing = here
boundary_leads front ws (before_blank {line = line} b r h e) =
    let q = Reads-leads line ws r in
    subst (λ x. Leads Between x Between) (sym e)
    (Leads-append Between q.0 Between line (b ∷ []) q.1 (on (ap (step q.0) (class_of-blank b h) ∙ q.2) here))

-- the bytes end in a part of a word, which leads to this place
EndsIn-leads : (IsPart : List ℕ → List ℕ → Type 0) (last : ScanState) (front : List ℕ) →
    ((part w : List ℕ) → IsPart part w → Leads Between part last) → EndsIn IsPart front →
    Leads Between front last
EndsIn-leads P last front part s =
    subst (λ x. Leads Between x last) (sym s.whole)
    (Leads-append Between Between last s.before s.part (boundary_leads s.before s.words s.apart)
    (part s.part s.word s.is_part))

in_bare_word : (front : List ℕ) → EndsInBareWord front → Leads Between front Bare
in_bare_word front s = EndsIn-leads IsBareWord Bare front (λ part w h. bare_word part w h.0 h.1) s

in_quoted_word : (front : List ℕ) → EndsInQuotedWord front → Leads Between front Closed
in_quoted_word front s = EndsIn-leads IsQuotedWord Closed front
    (λ part w h. quoted_then 34 Closed part h.0 w refl h.1 h.2) s

in_open_quote : (front : List ℕ) → EndsInOpenQuote front → Leads Between front Quoted
in_open_quote front s = EndsIn-leads _ Quoted front (λ part w h. open_quote_at part h.0 w h.1 h.2) s

in_bare_backslash : (front : List ℕ) → EndsInBareBackslash front → Leads Between front BareEscape
in_bare_backslash front s = EndsIn-leads _ BareEscape front
    (λ part w h. subst (λ x. Leads Between x BareEscape) (sym h.2) (bare_then_backslash h.0 w h.1)) s

in_quoted_backslash : (front : List ℕ) → EndsInQuotedBackslash front → Leads Between front QuotedEscape
in_quoted_backslash front s = EndsIn-leads _ QuotedEscape front
    (λ part w h. quoted_then 92 QuotedEscape part h.0 w refl h.1 h.2) s

bare_closed : Bare ≡ Closed → ⊥
bare_closed h = cc

bare_escape_quoted : BareEscape ≡ Quoted → ⊥
bare_escape_quoted h = cc

quoted_escape_quoted : QuotedEscape ≡ Quoted → ⊥
quoted_escape_quoted h = cc

-- a byte after the same bytes has one fault
IsByteFault-one : (front : List ℕ) (b : ℕ) (e f : BadLine) → IsByteFault front b e →
    IsByteFault front b f → f ≡ e
IsByteFault-one front b _ _ (control h) (control k) = refl
IsByteFault-one front b _ _ (control h) (quote_inside e s) =
    absurd (h (subst (λ x. is_lawful x ≡ true) (sym e) refl))
IsByteFault-one front b _ _ (control h) (after_quote l s) = absurd (h l)
IsByteFault-one front b _ _ (quote_inside e s) (control h) =
    absurd (h (subst (λ x. is_lawful x ≡ true) (sym e) refl))
IsByteFault-one front b _ _ (quote_inside e s) (quote_inside e' s') = refl
IsByteFault-one front b _ _ (quote_inside e s) (after_quote l t) =
    absurd (bare_closed (Leads-one Between Bare Closed front (in_bare_word front s) (in_quoted_word front t)))
IsByteFault-one front b _ _ (after_quote l s) (control h) = absurd (h l)
IsByteFault-one front b _ _ (after_quote l t) (quote_inside e s) =
    absurd (bare_closed (Leads-one Between Bare Closed front (in_bare_word front s) (in_quoted_word front t)))
IsByteFault-one front b _ _ (after_quote l s) (after_quote l' s') = refl

IsEndFault-one : (line : List ℕ) (e f : BadLine) → IsEndFault line e → IsEndFault line f → f ≡ e
IsEndFault-one line _ _ (bare_backslash s) (bare_backslash t) = refl
IsEndFault-one line _ _ (bare_backslash s) (quoted_backslash t) = refl
IsEndFault-one line _ _ (bare_backslash s) (open_quote t) =
    absurd (bare_escape_quoted (Leads-one Between BareEscape Quoted line (in_bare_backslash line s)
    (in_open_quote line t)))
IsEndFault-one line _ _ (quoted_backslash s) (bare_backslash t) = refl
IsEndFault-one line _ _ (quoted_backslash s) (quoted_backslash t) = refl
IsEndFault-one line _ _ (quoted_backslash s) (open_quote t) =
    absurd (quoted_escape_quoted (Leads-one Between QuotedEscape Quoted line
    (in_quoted_backslash line s) (in_open_quote line t)))
IsEndFault-one line _ _ (open_quote t) (bare_backslash s) =
    absurd (bare_escape_quoted (Leads-one Between BareEscape Quoted line (in_bare_backslash line s)
    (in_open_quote line t)))
IsEndFault-one line _ _ (open_quote t) (quoted_backslash s) =
    absurd (quoted_escape_quoted (Leads-one Between QuotedEscape Quoted line
    (in_quoted_backslash line s) (in_open_quote line t)))
IsEndFault-one line _ _ (open_quote s) (open_quote t) = refl

-- the first byte that can't stand is one
IsFirstBad-one : (line : List ℕ) (p q : ℕ) → IsFirstBad line p → IsFirstBad line q → p ≡ q
IsFirstBad-one line p q s t = elim (cases_lt p q) [
  | inl lt ↦ absurd (s.here (t.before p lt))
  | inr ge ↦ elim (cases_lt q p) [
    | inl lt ↦ absurd (t.here (s.before q lt))
    | inr le ↦ omega (arith, ge, le)
  ]
]

-- a line that begins a line has no byte that can't stand
begins_all : (line : List ℕ) (p : ℕ) → Begins line → IsFirstBad line p → ⊥
begins_all line p b s = s.here (Begins-front (take (p + 1) line) (drop (p + 1) line)
    (subst Begins (sym (take-append-drop (p + 1) line)) b))

-- A line has one fault.
pub IsFault-one : (line : List ℕ) (e f : BadLine) → IsFault line e → IsFault line f → f ≡ e
IsFault-one line e f (at_byte p s x) (at_byte q t y) =
    let same = IsFirstBad-one line q p t s in
    IsByteFault-one (take p line) (slice_index line p) e f x
    (subst (λ n. IsByteFault (take n line) (slice_index line n) f) same y)
IsFault-one line e f (at_byte p s x) (at_end b n y) = absurd (begins_all line p b s)
IsFault-one line e f (at_end b n x) (at_byte q t y) = absurd (begins_all line q b t)
IsFault-one line e f (at_end b n x) (at_end b' n' y) = IsEndFault-one line e f x y

-- what the line is, as it is scanned to its end, and what is computed for it
abbrev pub Computed : List ℕ → Type 0
Computed line = ((words : List (List ℕ)) × Reads line words) ⊎ ((fault : BadLine) × FaultOf line fault)

computed_at_end : (place : ScanState) (line : List ℕ) → At place line → Computed line
computed_at_end place line a = go (finish place) refl (At-end place line a)
  where
    go : (r : Result (List (List ℕ)) BadLine) → finish place ≡ r →
        MatchResult r (λ _. (ws : List (List ℕ)) × Reads line ws) (λ e. IsFault line e) → Computed line
    go (Ok x) h m = inl m
    go (Err e) h m = inr (e, (m, ap read_line (sym (append-nil line)) ∙ a.leads [] e h))

computed_from : (rest : List ℕ) (place : ScanState) (front : List ℕ) → At place front → Computed (front ++ rest)
computed_from [] place front a = subst Computed (sym (append-nil front)) (computed_at_end place front a)
computed_from (b ∷ rest) place front a =
    go (λ next at. computed_from rest next (front ++ b ∷ []) at) (step place (class_of b)) refl
  where
    go : ((next : ScanState) → At next (front ++ b ∷ []) →
        Computed ((front ++ b ∷ []) ++ rest)) → (r : Result ScanState BadLine) →
        step place (class_of b) ≡ r → Computed (front ++ b ∷ rest)
    go goes_on (Ok next) h = subst Computed (append_assoc front (b ∷ []) rest)
        (goes_on next (At-step place next front b a h))
    go goes_on (Err e) h = inr (e, (At-fault place front b rest e a h, At-stuck place front b e rest a h))

pub computed : (line : List ℕ) → Computed line
computed line = computed_from line Between [] At-start

-- A line has words or a fault.
abbrev pub Meaning : List ℕ → Type 0
Meaning line = ((words : List (List ℕ)) × Reads line words) ⊎ ((fault : BadLine) × IsFault line fault)

pub words_or_fault : (line : List ℕ) → Meaning line
words_or_fault line = go (computed line)
  where
    go : Computed line → Meaning line
    go (inl w) = inl w
    go (inr f) = inr (f.0, f.1.0)

-- What is computed is the words of the grammar.
same_words : (r : Result (List (List ℕ)) BadLine) (words others : List (List ℕ)) → r ≡
    Ok words → r ≡ Ok others → words ≡ others
same_words r words others h k = let e : Ok words ≡ Ok others = sym h ∙ k in cc

not_both : {A : Type 0} (r : Result (List (List ℕ)) BadLine) (words : List (List ℕ))
    (e : BadLine) → r ≡ Ok words → r ≡ Err e → A
not_both r words e h k = let bad : Ok words ≡ Err e = sym h ∙ k in cc

same_fault : (r : Result (List (List ℕ)) BadLine) (e f : BadLine) → r ≡ Err e → r ≡ Err f → e ≡ f
same_fault r e f h k = let same : Err e ≡ Err f = sym h ∙ k in cc

pub computed-words : (line : List ℕ) (words : List (List ℕ)) → read_line line ≡ Ok words → Reads line words
computed-words line words h = go (computed line)
  where
    go : Computed line → Reads line words
    go (inl w) = subst (λ ws. Reads line ws)
        (same_words (read_line line) w.0 words (read_line-complete line w.0 w.1) h) w.1
    go (inr f) = not_both (read_line line) words f.0 h f.1.1

-- and its fault
pub computed-fault : (line : List ℕ) (fault : BadLine) → read_line line ≡ Err fault → IsFault line fault
computed-fault line fault h = go (computed line)
  where
    go : Computed line → IsFault line fault
    go (inl w) = not_both (read_line line) w.0 fault (read_line-complete line w.0 w.1) h
    go (inr f) = subst (λ e. IsFault line e) (same_fault (read_line line) f.0 fault f.1.1 h) f.1.0

pub fault-computed : (line : List ℕ) (fault : BadLine) → IsFault line fault → read_line line ≡ Err fault
fault-computed line fault h = go (computed line)
  where
    go : Computed line → read_line line ≡ Err fault
    go (inl w) = absurd (IsFault-no_words line fault h w.0 w.1)
    go (inr f) = f.1.1 ∙ ap (λ e. Err e) (IsFault-one line fault f.0 h f.1.0)
