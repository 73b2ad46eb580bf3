-- What reads by the grammar is what is computed.
use Rattle.std.proofs.Common.{◌≡◌, ◌⊎◌, inl, inr, ℕ, ◌<◌, List, [], ◌∷◌}
use Rattle.std.proofs.Common.{◌++◌, length, refl, sym, ap, ◌∙◌, append_assoc, arith}
use Rattle.std.proofs.Common.{Result, Ok}
use Rattle.nutwords.specs.Bytes.{is_bare, is_quotable}
use Rattle.nutwords.specs.Grammar.{Units, none, itself, escaped, Spells, bare, quoted}
use Rattle.nutwords.specs.Grammar.{WordEndsBefore, Reads, end, blank, word}
use Rattle.nutwords.specs.Scan.{class_of, turn, with_byte, with_end, read_from, read_line}
use Rattle.nutwords.specs.declared.faults.BadLine.{BadLine}
use Rattle.nutwords.specs.declared.scan.Class.{Class}
use Rattle.nutwords.specs.declared.scan.Class.TheVariants.{Blank, Quote, Backslash, Other, Control}
use Rattle.nutwords.specs.declared.scan.ScanState.{ScanState}
use Rattle.nutwords.specs.declared.scan.ScanState.TheVariants.{Between, Bare, BareEscape, Quoted, QuotedEscape, Closed}
use Rattle.nutwords.proofs.Classes.{class_of-blank, class_of-bare, quotable_kinds, not_control}

-- a byte of a known class
turn_at : (b : ℕ) (line : List ℕ) (place : ScanState) (k : Class) → class_of b ≡ k →
    read_from (b ∷ line) place ≡ turn b place k (λ next. read_from line next)
turn_at b line place k e = ap (λ c. turn b place c (λ next. read_from line next)) e

-- an escaped byte stands for itself
bare_escape : (b : ℕ) (k : Class) (rest : ScanState → Result (List (List ℕ)) BadLine) →
    (k ≡ Control → ⊥) → turn b BareEscape k rest ≡ with_byte b (rest Bare)
bare_escape b Blank rest n = refl
bare_escape b Quote rest n = refl
bare_escape b Backslash rest n = refl
bare_escape b Other rest n = refl
bare_escape b Control rest n = absurd (n refl)

quoted_escape : (b : ℕ) (k : Class) (rest : ScanState → Result (List (List ℕ)) BadLine) →
    (k ≡ Control → ⊥) → turn b QuotedEscape k rest ≡ with_byte b (rest Quoted)
quoted_escape b Blank rest n = refl
quoted_escape b Quote rest n = refl
quoted_escape b Backslash rest n = refl
quoted_escape b Other rest n = refl
quoted_escape b Control rest n = absurd (n refl)

quoted_itself : (b : ℕ) (k : Class) (rest : ScanState → Result (List (List ℕ)) BadLine) →
    (k ≡ Blank) ⊎ (k ≡ Other) → turn b Quoted k rest ≡ with_byte b (rest Quoted)
quoted_itself b k rest (inl e) = rw e refl
quoted_itself b k rest (inr e) = rw e refl

-- the end of a word
bare_end : (rest : List ℕ) (ws : List (List ℕ)) → WordEndsBefore rest →
    read_from rest Between ≡ Ok ws → read_from rest Bare ≡ Ok ([] ∷ ws)
bare_end [] ws s h = ap (λ r. with_end r) h
bare_end (c ∷ rest) ws s h =
    let e = class_of-blank c s in
    turn_at c rest Bare Blank e ∙ ap with_end (sym (turn_at c rest Between Blank e) ∙ h)

closed_end : (rest : List ℕ) (ws : List (List ℕ)) → WordEndsBefore rest →
    read_from rest Between ≡ Ok ws → read_from rest Closed ≡ Ok ([] ∷ ws)
closed_end [] ws s h = ap (λ r. with_end r) h
closed_end (c ∷ rest) ws s h =
    let e = class_of-blank c s in
    turn_at c rest Closed Blank e ∙ ap with_end (sym (turn_at c rest Between Blank e) ∙ h)

-- the units of a bare word
bare_units : (text rest w : List ℕ) (ws : List (List ℕ)) → Units is_bare text w →
    WordEndsBefore rest → read_from rest Between ≡ Ok ws → read_from (text ++ rest) Bare ≡ Ok (w ∷ ws)
bare_units _ rest _ ws none s h = bare_end rest ws s h
bare_units _ rest _ ws (itself {b = b} {text = text} {word = w} k u) s h =
    turn_at b (text ++ rest) Bare Other (class_of-bare b k) ∙ ap (with_byte b) (bare_units text rest w ws u s h)
bare_units _ rest _ ws (escaped {b = b} {text = text} {word = w} k u) s h =
    bare_escape b (class_of b) (λ next. read_from (text ++ rest) next) (not_control b k) ∙
    ap (with_byte b) (bare_units text rest w ws u s h)

-- a bare word
bare_word : (text rest w : List ℕ) (ws : List (List ℕ)) → Units is_bare text w → 0 <
    length w → WordEndsBefore rest → read_from rest Between ≡ Ok ws →
    read_from (text ++ rest) Between ≡ Ok (w ∷ ws)
bare_word _ rest _ ws none p s h = absurd (omega arith)
bare_word _ rest _ ws (itself {b = b} {text = text} {word = w} k u) p s h =
    turn_at b (text ++ rest) Between Other (class_of-bare b k) ∙ ap (with_byte b) (bare_units text rest w ws u s h)
bare_word _ rest _ ws (escaped {b = b} {text = text} {word = w} k u) p s h =
    bare_escape b (class_of b) (λ next. read_from (text ++ rest) next) (not_control b k) ∙
    ap (with_byte b) (bare_units text rest w ws u s h)

-- the units inside quotes, and the closing quote
quoted_units : (text rest w : List ℕ) (ws : List (List ℕ)) → Units is_quotable text w →
    WordEndsBefore rest → read_from rest Between ≡ Ok ws →
    read_from (text ++ 34 ∷ rest) Quoted ≡ Ok (w ∷ ws)
quoted_units _ rest _ ws none s h = closed_end rest ws s h
quoted_units _ rest _ ws (itself {b = b} {text = text} {word = w} k u) s h =
    quoted_itself b (class_of b) (λ next. read_from (text ++ 34 ∷ rest) next)
    (quotable_kinds b k) ∙ ap (with_byte b) (quoted_units text rest w ws u s h)
quoted_units _ rest _ ws (escaped {b = b} {text = text} {word = w} k u) s h =
    quoted_escape b (class_of b) (λ next. read_from (text ++ 34 ∷ rest) next) (not_control b k)
    ∙ ap (with_byte b) (quoted_units text rest w ws u s h)

spelled_word : (text rest w : List ℕ) (ws : List (List ℕ)) → Spells text w →
    WordEndsBefore rest → read_from rest Between ≡ Ok ws → read_from (text ++ rest) Between ≡ Ok (w ∷ ws)
spelled_word text rest w ws (bare h) s r = bare_word text rest w ws h.0 h.1 s r
spelled_word text rest w ws (quoted h) s r =
    let e : text ++ rest ≡ 34 ∷ (h.0 ++ 34 ∷ rest) = ap (λ x. x ++ rest) h.2 ∙
    ap (λ x. 34 ∷ x) (append_assoc h.0 (34 ∷ []) rest) in
    ap (λ x. read_from x Between) e ∙ quoted_units h.0 rest w ws h.1 s r

-- The words of the grammar are those that are computed.
pub read_line-complete : (line : List ℕ) (ws : List (List ℕ)) → Reads line ws → read_line line ≡ Ok ws
read_line-complete _ _ end = refl
read_line-complete _ ws (blank {b = b} {line = line} k r) =
    turn_at b line Between Blank (class_of-blank b k) ∙ read_line-complete line ws r
read_line-complete line _ (word {text = text} {rest = rest} {word = w} {words = ws} e s a r) =
    ap (λ x. read_from x Between) e ∙ spelled_word text rest w ws s a (read_line-complete rest ws r)
