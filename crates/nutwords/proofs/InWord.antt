-- How a word goes on at a byte that doesn't end it.
use Rattle.std.proofs.Common.{◌≡◌, ◌∙◌, ◌+◌, ◌<◌, ℕ, suc, Bool, true, false}
use Rattle.std.proofs.Common.{List, length, drop, ap, arith, refl, sym, subst, get_or, Some}
use Rattle.std.specs.Prelude.{if◌then◌else◌, ◌==◌}
use Rattle.nutwords.specs.Bytes.{is_blank}
use Rattle.nutwords.specs.Scan.{class_of}
use Rattle.std.proofs.lemmas.List.{at_drop_more}
use Rattle.nutwords.specs.Split.{inside, in_word, one_more, word_end}
use Rattle.nutwords.specs.declared.scan.Class.{Class}
use Rattle.nutwords.specs.declared.scan.Class.TheVariants.{Blank, Quote, Backslash, Other, Control}
use Rattle.nutwords.specs.declared.scan.ScanState.TheVariants.{Bare, Quoted}
use Rattle.nutwords.proofs.Classes.{Kind, kind}
use Rattle.nutwords.proofs.Classes as classes

-- after a backslash any byte is taken
pub escaped_byte_goes_on : (is_quoted : Bool) (b : ℕ) →
    inside (in_word is_quoted true) (class_of b) ≡ Some (in_word is_quoted false)
escaped_byte_goes_on true b = refl
escaped_byte_goes_on false b = refl

pub backslash_goes_on : (is_quoted : Bool) (b : ℕ) → b ≡ 92 →
    inside (in_word is_quoted false) (class_of b) ≡ Some (in_word is_quoted true)
backslash_goes_on true b e = subst
    (λ x. inside (in_word true false) (class_of x) ≡ Some (in_word true true)) (sym e) refl
backslash_goes_on false b e = subst
    (λ x. inside (in_word false false) (class_of x) ≡ Some (in_word false true)) (sym e) refl

-- a byte that is no backslash and doesn't end the word
pub other_byte_goes_on : (is_quoted : Bool) (b : ℕ) → (b ≡ 92 → ⊥) →
    (if is_quoted then b == 34 else is_blank b) ≡ false →
    inside (in_word is_quoted false) (class_of b) ≡ Some (in_word is_quoted false)
other_byte_goes_on true b n e = go (class_of b) (kind b)
  where
    go : (k : Class) → Kind b k → inside Quoted k ≡ Some Quoted
    go Blank x = refl
    go Quote (classes.quote f) = let bad : true ≡ false = subst (λ x. (x == 34) ≡ false) f e in cc
    go Backslash (classes.backslash f) = absurd (n f)
    go Other x = refl
    go Control x = refl
other_byte_goes_on false b n e = go (class_of b) (kind b)
  where
    go : (k : Class) → Kind b k → inside Bare k ≡ Some Bare
    go Blank (classes.blank h q) = let bad : true ≡ false = sym h ∙ e in cc
    go Quote x = refl
    go Backslash (classes.backslash f) = absurd (n f)
    go Other x = refl
    go Control x = refl

-- how long the word is stays the same by a byte more of it, after which the next one stands so
pub one_byte_more : (line : List ℕ) (i end : ℕ) (is_quoted now before next after : Bool) →
    now ≡ before → after ≡ next → i < length line →
    inside (in_word is_quoted before) (class_of (get_or line i 0)) ≡
    Some (in_word is_quoted next) → i + word_end (drop i line) (in_word is_quoted now) ≡ end →
    i + 1 + word_end (drop (i + 1) line) (in_word is_quoted after) ≡ end
one_byte_more line i end is_quoted now before next after e f within goes_on h =
    let rest : List ℕ = drop (i + 1) line in
    let here = at_drop_more (λ xs. word_end xs (in_word is_quoted before)) line i 0 within in
    let longer : word_end (drop i line) (in_word is_quoted before) ≡
    suc (word_end rest (in_word is_quoted next)) = here ∙
    ap (λ place. one_more place (λ p. word_end rest p)) goes_on in
    let held : i + word_end (drop i line) (in_word is_quoted before) ≡ end =
    subst (λ v. i + word_end (drop i line) (in_word is_quoted v) ≡ end) e h in
    subst (λ v. i + 1 + word_end rest (in_word is_quoted v) ≡ end) (sym f) (omega (arith, longer, held))
