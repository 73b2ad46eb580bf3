-- The text of an id is uuid's hyphenated form in lower case.
use Rattle.std.proofs.Common.{◌≡◌, ℕ, List, length, if◌then◌else◌, refl, sym, ap, ◌∙◌}
use Rattle.std.specs.Int.{w128, to_be_bytes}
use Rattle.std.specs.List.{join_with_byte}
use Rattle.nuttracking.specs.Id.{hyphen, groups, id_text}
use Rattle.nuttracking.proofs.Digits.{simple_is_digits}
use Rattle.uuid.specs.Text.{lower, hyphenated_text, by_index, hex_digit, nibble, is_hyphen_place, digit_place}

grouped : (f : ℕ → ℕ) → by_index 36
    (λ k. if is_hyphen_place k then 45 else f (digit_place k)) ≡ join_with_byte hyphen (groups (by_index 32 f))
unfolding by_index
grouped f = refl

pub hyphenated_is_text : (n : ℕ) → hyphenated_text lower (to_be_bytes w128 n) ≡ id_text n
unfolding id_text
hyphenated_is_text n =
    grouped (λ k. hex_digit lower (nibble (to_be_bytes w128 n) k))
    ∙ ap (λ (digits : List ℕ). join_with_byte hyphen (groups digits)) (simple_is_digits n)

text_length : (f : ℕ → ℕ) → length (by_index 36 f) ≡ 36
unfolding by_index
text_length f = refl

pub id_text_length : (n : ℕ) → length (id_text n) ≡ 36
id_text_length n = ap length (sym (hyphenated_is_text n)) ∙ text_length _
