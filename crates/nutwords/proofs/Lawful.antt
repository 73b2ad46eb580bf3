-- A line that reads has only lawful bytes.
use Rattle.std.proofs.Common.{◌≡◌, ℕ, Bool, true, List, [], ◌∷◌, ◌++◌, refl, ap, ◌∙◌}
use Rattle.std.specs.List.{list_all}
use Rattle.std.proofs.lemmas.Bool.{and_from}
use Rattle.std.proofs.lemmas.List.Folds.{list_all-append}
use Rattle.nutwords.specs.Bytes.{is_lawful, is_quotable, is_bare}
use Rattle.nutwords.specs.Grammar.{Units, none, itself, escaped, Spells, bare, quoted, Reads, end, blank, word}
use Rattle.nutwords.proofs.Classes.{quotable_blank, lawful_quotable, quotable_bare}

-- two parts, and a byte in front
both : (a b : List ℕ) → list_all is_lawful a ≡ true → list_all is_lawful b ≡ true →
    list_all is_lawful (a ++ b) ≡ true
both a b h k = list_all-append is_lawful a b ∙ and_from (list_all is_lawful a) (list_all is_lawful b) h k

byte : (b : ℕ) (text : List ℕ) → is_lawful b ≡ true → list_all is_lawful text ≡ true →
    list_all is_lawful (b ∷ text) ≡ true
byte b text h k = and_from (is_lawful b) (list_all is_lawful text) h k

Units-lawful : (p : ℕ → Bool) → ((b : ℕ) → p b ≡ true → is_lawful b ≡ true) →
    (text w : List ℕ) → Units p text w → list_all is_lawful text ≡ true
Units-lawful p lawful _ _ none = refl
Units-lawful p lawful _ _ (itself {b = b} {text = text} {word = w} h u) =
    byte b text (lawful b h) (Units-lawful p lawful text w u)
Units-lawful p lawful _ _ (escaped {b = b} {text = text} {word = w} h u) =
    byte 92 (b ∷ text) refl (byte b text h (Units-lawful p lawful text w u))

Spells-lawful : (text w : List ℕ) → Spells text w → list_all is_lawful text ≡ true
Spells-lawful text w (bare h) = Units-lawful is_bare (λ b k. lawful_quotable b (quotable_bare b k)) text w h.0
Spells-lawful text w (quoted h) =
    ap (list_all is_lawful) h.2 ∙ byte 34 (h.0 ++ 34 ∷ []) refl
    (both h.0 (34 ∷ []) (Units-lawful is_quotable lawful_quotable h.0 w h.1) refl)

-- Each byte of a line that reads is lawful.
pub Reads-lawful : (line : List ℕ) (ws : List (List ℕ)) → Reads line ws → list_all is_lawful line ≡ true
Reads-lawful _ _ end = refl
Reads-lawful _ ws (blank {b = b} {line = line} h r) =
    byte b line (lawful_quotable b (quotable_blank b h)) (Reads-lawful line ws r)
Reads-lawful line _ (word {text = text} {rest = rest} {word = w} {words = ws} e s a r) =
    ap (list_all is_lawful) e ∙ both text rest (Spells-lawful text w s) (Reads-lawful rest ws r)
