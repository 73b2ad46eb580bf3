-- Reading by uuid is reading by the definition.
use Rattle.std.proofs.Common.{◌≡◌, ℕ, ◌<◌, ◌^◌, List, length, true, false, Some}
use Rattle.std.proofs.Common.{None, refl, sym, ap, ◌∙◌}
use Rattle.std.proofs.lemmas.Bool.{false_from_ne_true}
use Rattle.std.proofs.lemmas.Slice.Eq.{bytes_eq-Decides}
use Rattle.std.specs.Int.{w128, from_be_bytes}
use Rattle.std.specs.Str.{bytes_eq, str_to_ascii_lowercase}
use Rattle.nuttracking.specs.Id.{id_text, digits_number, read_id}
use Rattle.nuttracking.proofs.Reading.{parsed_text, text_parses}
use Rattle.nuttracking.proofs.Numbers.{text_number, number_lowered}
use Rattle.uuid.specs.Text.{parsed}

-- a text is read as the id whose text it is in lower case
pub reads_text : (s : List ℕ) (n : ℕ) → n < 2 ^ 128 → str_to_ascii_lowercase s ≡
    id_text n → read_id s ≡ Some n
unfolding read_id
reads_text s n small e =
    let number : digits_number s ≡ n = sym (number_lowered s) ∙ ap digits_number e ∙ text_number n small in
    let same : bytes_eq (str_to_ascii_lowercase s) (id_text n) ≡ true =
    (bytes_eq-Decides (str_to_ascii_lowercase s) (id_text n)).1 e in
    rw (number, same) refl

pub reads_parsed : (s u : List ℕ) → length s ≡ 36 → parsed s ≡ Some u →
    from_be_bytes w128 u < 2 ^ 128 → read_id s ≡ Some (from_be_bytes w128 u)
reads_parsed s u len e small = reads_text s (from_be_bytes w128 u) small (parsed_text s u len e)

pub reads_nothing : (s : List ℕ) →
    (length s ≡ 36 → (u : List ℕ) → parsed s ≡ Some u → ⊥) → read_id s ≡ None
unfolding read_id
reads_nothing s none =
    let other : bytes_eq (str_to_ascii_lowercase s) (id_text (digits_number s)) ≡ false =
    false_from_ne_true _ (λ e. let t =
    text_parses s (digits_number s) ((bytes_eq-Decides (str_to_ascii_lowercase s)
    (id_text (digits_number s))).0 e) in none t.0 t.1.0 t.1.1) in
    rw other refl
