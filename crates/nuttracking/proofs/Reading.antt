-- What uuid reads of a text is what the text is in lower case.
use Rattle.std.proofs.Common.{◌≡◌, ℕ, suc, zero, ◌+◌, ◌*◌, ◌/◌, ◌<◌}
use Rattle.std.proofs.Common.{◌==◌, ◌&&◌, ◌⊎◌, List, [], ◌∷◌, length}
use Rattle.std.proofs.Common.{slice_index, get_or, Bool, true, false, true≢false}
use Rattle.std.proofs.Common.{if◌then◌else◌, Option, Some, None, unwrap_or, is_some, inl, inr}
use Rattle.std.proofs.Common.{arith, refl, sym, ap, ◌∙◌}
use Rattle.std.proofs.lemmas.Bool.{cases_lt, eqb-true, and_parts, cases_Bool}
use Rattle.std.proofs.lemmas.Bool.Decides.{nat_tests}
use Rattle.std.proofs.lemmas.List.{get_or-map, length-map}
use Rattle.std.specs.Char.{to_ascii_lowercase}
use Rattle.std.specs.Int.{w128, to_be_bytes, from_be_bytes}
use Rattle.std.specs.List.{list_all}
use Rattle.std.specs.Str.{str_to_ascii_lowercase}
use Rattle.nuttracking.specs.Id.{id_text, is_id_byte}
use Rattle.nuttracking.proofs.Digits.{bytes_of_number}
use Rattle.nuttracking.proofs.Texts.{hyphenated_is_text, id_text_length}
use Rattle.uuid.proofs.TextLemmas.{by_index_length, by_index_at, by_index_same, nibble_even, nibble_odd, nibble_small}
use Rattle.uuid.specs.Text.{lower, by_index, hex_digit, nibble, hyphenated_text, is_hyphen_place}
use Rattle.uuid.specs.Text.{digit_place, hyphen_place, is_hex_digit, value_of, byte_of_digits}
use Rattle.uuid.specs.Text.{digits_of, has_hyphens, parsed, parsed_simple, parsed_hyphenated}

given : {X : Type 0} (b : Bool) (x v : X) → (if b then Some x else None) ≡ Some v → (b ≡ true) × (x ≡ v)
given {X} true x v e = (refl, ap (λ (o : Option X). unwrap_or o x) e)
given {X} false x v e = absurd (true≢false (sym (ap is_some e)))

-- what is parsed of a text of the hyphenated form
record IsParsed (s u : List ℕ) : Type 0 where
  pub long : length s ≡ 36
  pub hyphens : has_hyphens s ≡ true
  pub digits : (i : ℕ) → i < 32 → is_hex_digit (slice_index s (hyphen_place i)) ≡ true
  pub bytes : by_index 16 (byte_of_digits (digits_of s)) ≡ u

all_at : (p : ℕ → Bool) (xs : List ℕ) (k : ℕ) → list_all p xs ≡ true → k <
    length xs → p (get_or xs k 0) ≡ true
all_at p [] k all here = absurd (omega arith)
all_at p (x ∷ xs) zero all here = (and_parts (p x) (list_all p xs) all).0
all_at p (x ∷ xs) (suc k) all here = all_at p xs k (and_parts (p x) (list_all p xs) all).1 (omega arith)

all_from : (p : ℕ → Bool) (xs : List ℕ) →
    ((k : ℕ) → k < length xs → p (get_or xs k 0) ≡ true) → list_all p xs ≡ true
all_from p [] holds = refl
all_from p (x ∷ xs) holds = rw (holds 0 (omega arith), all_from p xs (λ k h. holds (suc k) (omega arith))) refl

digit_of : (s : List ℕ) (i : ℕ) → i < 32 → get_or (digits_of s) i 0 ≡ slice_index s (hyphen_place i)
digit_of s i within = by_index_at 32 (λ j. slice_index s (hyphen_place j)) i 0 within

chosen : {X : Type 0} (b : Bool) (x : Option X) (v : X) → (if b then x else None) ≡ Some v →
    (b ≡ true) × (x ≡ Some v)
chosen true x v e = (refl, e)
chosen false x v e = absurd (true≢false (sym (ap is_some e)))

is_parsed : (s u : List ℕ) → parsed_hyphenated s ≡ Some u → IsParsed s u
is_parsed s u e =
    let form = chosen ((length s == 36) && has_hyphens s) (parsed_simple (digits_of s)) u e in
    let shape = and_parts (length s == 36) (has_hyphens s) form.0 in
    let read = given ((length (digits_of s) == 32) && list_all is_hex_digit (digits_of s))
    (by_index 16 (byte_of_digits (digits_of s))) u form.1 in
    let all = (and_parts (length (digits_of s) == 32) (list_all is_hex_digit (digits_of s)) read.0).1 in
    let many : length (digits_of s) ≡ 32 = by_index_length 32 (λ i. slice_index s (hyphen_place i)) in
    record {
      long = eqb-true (length s) 36 shape.0;
      hyphens = shape.1;
      digits = λ i within. rw (← digit_of s i within) (all_at is_hex_digit (digits_of s) i all (omega arith));
      bytes = read.1;
    }

digit_lowered : (c : ℕ) → is_hex_digit c ≡ true → to_ascii_lowercase c ≡ hex_digit lower (value_of c)
digit_lowered c hex = grind (arith, nat_tests)

value_small : (c : ℕ) → is_hex_digit c ≡ true → value_of c < 16
value_small c hex = grind (arith, nat_tests)

digit_raised : (c d : ℕ) → d < 16 → to_ascii_lowercase c ≡ hex_digit lower d → is_hex_digit c ≡ true
digit_raised c d small e = grind (arith, nat_tests)

hyphen_raised : (c : ℕ) → to_ascii_lowercase c ≡ 45 → c ≡ 45
hyphen_raised c e = grind (arith, nat_tests)

place_back : (k : ℕ) → k < 36 → is_hyphen_place k ≡ false → (digit_place k < 32) ×
    (hyphen_place (digit_place k) ≡ k)
place_back k within other = (grind (arith, nat_tests), grind (arith, nat_tests))

hyphen_places : (k : ℕ) → is_hyphen_place k ≡ true → (k ≡ 8) ⊎ ((k ≡ 13) ⊎ ((k ≡ 18) ⊎ (k ≡ 23)))
hyphen_places k e = grind (arith, nat_tests)

place_of_digit : (i : ℕ) → i < 32 → (hyphen_place i < 36) ×
    (is_hyphen_place (hyphen_place i) ≡ false) × (digit_place (hyphen_place i) ≡ i)
place_of_digit i within = (grind (arith, nat_tests), grind (arith, nat_tests), grind (arith, nat_tests))

hyphens_are : (s : List ℕ) → has_hyphens s ≡ true → (slice_index s 8 ≡ 45) ×
    (slice_index s 13 ≡ 45) × (slice_index s 18 ≡ 45) × (slice_index s 23 ≡ 45)
hyphens_are s e = (
  grind (arith, nat_tests),
  grind (arith, nat_tests),
  grind (arith, nat_tests),
  grind (arith, nat_tests),
)

-- each half of a byte is what its digit says
half_of_byte : (s : List ℕ) → ((i : ℕ) → i < 32 → is_hex_digit (slice_index s (hyphen_place i)) ≡ true)
    → (j : ℕ) → j < 32 → nibble (by_index 16 (byte_of_digits (digits_of s))) j ≡
    value_of (slice_index s (hyphen_place j))
half_of_byte s hex j within =
    let bytes : List ℕ = by_index 16 (byte_of_digits (digits_of s)) in
    let i : ℕ = j / 2 in
    let high : ℕ = value_of (slice_index s (hyphen_place (2 * i))) in
    let low : ℕ = value_of (slice_index s (hyphen_place (2 * i + 1))) in
    let first : get_or (digits_of s) (2 * i) 0 ≡ slice_index s (hyphen_place (2 * i)) =
    digit_of s (2 * i) (omega arith) in
    let second : get_or (digits_of s) (2 * i + 1) 0 ≡ slice_index s (hyphen_place (2 * i + 1)) =
    digit_of s (2 * i + 1) (omega arith) in
    let byte : slice_index bytes i ≡ high * 16 + low =
    by_index_at 16 (byte_of_digits (digits_of s)) i 0 (omega arith) ∙ rw (first, second) refl in
    let high_small : high < 16 = value_small (slice_index s (hyphen_place (2 * i))) (hex (2 * i) (omega arith)) in
    let low_small : low < 16 = value_small (slice_index s (hyphen_place (2 * i + 1))) (hex (2 * i + 1) (omega arith)) in
    elim (cases_lt (2 * i) j) [
      | inl odd ↦
          let is_it : j ≡ 2 * i + 1 = omega arith in
          let half : nibble bytes (2 * i + 1) ≡ low = nibble_odd bytes i ∙ rw byte (omega arith) in
          ap (nibble bytes) is_it ∙ half ∙ ap (λ (k : ℕ). value_of (slice_index s (hyphen_place k))) (sym is_it)
      | inr even ↦
          let is_it : j ≡ 2 * i = omega arith in
          let half : nibble bytes (2 * i) ≡ high = nibble_even bytes i ∙ rw byte (omega arith) in
          ap (nibble bytes) is_it ∙ half ∙ ap (λ (k : ℕ). value_of (slice_index s (hyphen_place k))) (sym is_it)
    ]

-- the byte of the text at a place
abbrev text_at : List ℕ → ℕ → ℕ
text_at u k = if is_hyphen_place k then 45 else hex_digit lower (nibble u (digit_place k))

place_lowered : (s u : List ℕ) → IsParsed s u → (k : ℕ) → k < 36 →
    to_ascii_lowercase (slice_index s k) ≡ text_at u k
place_lowered s u p k within =
    elim (cases_Bool (is_hyphen_place k)) [
      | inl hyphen ↦
          let at = hyphens_are s p.hyphens in
          let byte : slice_index s k ≡ 45 = elim (hyphen_places k hyphen) [
            | inl is_8 ↦ rw is_8 at.0
            | inr more ↦ elim more [
              | inl is_13 ↦ rw is_13 at.1
              | inr rest ↦ elim rest [
                | inl is_18 ↦ rw is_18 at.2
                | inr is_23 ↦ rw is_23 at.3
              ]
            ]
          ] in
          rw (byte, hyphen) refl
      | inr digit ↦
          let back = place_back k within digit in
          let hex : is_hex_digit (slice_index s k) ≡ true = rw back.1 at (p.digits (digit_place k) back.0) in
          let half : nibble u (digit_place k) ≡ value_of (slice_index s k) =
          rw (← p.bytes) (half_of_byte s p.digits (digit_place k) back.0 ∙
          ap (λ (j : ℕ). value_of (slice_index s j)) back.1) in
          rw (digit, half) (digit_lowered (slice_index s k) hex)
    ]

pub lowered : (s u : List ℕ) → parsed_hyphenated s ≡ Some u → str_to_ascii_lowercase s ≡
    hyphenated_text lower u
lowered s u e =
    let p = is_parsed s u e in
    let len : length (str_to_ascii_lowercase s) ≡ 36 = length-map s to_ascii_lowercase ∙ p.long in
    by_index_same (str_to_ascii_lowercase s) 36 (text_at u) len
    (λ k d h. get_or-map to_ascii_lowercase s k 0 d (omega (arith, p.long)) ∙ place_lowered s u p k h)

-- ---- what is an id's text in lower case is parsed

at_36 : (s : List ℕ) → length s ≡ 36 → parsed s ≡ parsed_hyphenated s
at_36 s len = rw len refl

place_of : (s u : List ℕ) → length s ≡ 36 → str_to_ascii_lowercase s ≡
    hyphenated_text lower u → (k : ℕ) → k < 36
    → to_ascii_lowercase (slice_index s k) ≡ text_at u k
place_of s u len e k within =
    sym (get_or-map to_ascii_lowercase s k 0 0 (omega arith)) ∙
    ap (λ (t : List ℕ). get_or t k 0) e ∙ by_index_at 36 (text_at u) k 0 within

pub parses : (s u : List ℕ) → str_to_ascii_lowercase s ≡ hyphenated_text lower u →
    (v : List ℕ) × (parsed s ≡ Some v)
parses s u e =
    let len : length s ≡ 36 = sym (length-map s to_ascii_lowercase) ∙ ap length e ∙
    by_index_length 36 (text_at u) in
    let at : (k : ℕ) → k < 36 → to_ascii_lowercase (slice_index s k) ≡ text_at u k = place_of s u len e in
    let h8 : slice_index s 8 ≡ 45 = hyphen_raised (slice_index s 8) (at 8 (omega arith)) in
    let h13 : slice_index s 13 ≡ 45 = hyphen_raised (slice_index s 13) (at 13 (omega arith)) in
    let h18 : slice_index s 18 ≡ 45 = hyphen_raised (slice_index s 18) (at 18 (omega arith)) in
    let h23 : slice_index s 23 ≡ 45 = hyphen_raised (slice_index s 23) (at 23 (omega arith)) in
    let many : length (digits_of s) ≡ 32 = by_index_length 32 (λ i. slice_index s (hyphen_place i)) in
    let hex : (i : ℕ) → i < length (digits_of s) → is_hex_digit (get_or (digits_of s) i 0) ≡ true = λ i h.
    let within : i < 32 = omega arith in
    let place = place_of_digit i within in
    let byte : to_ascii_lowercase (slice_index s (hyphen_place i)) ≡
    hex_digit lower (nibble u i) = at (hyphen_place i) place.0 ∙ rw (place.1, place.2) refl in
    rw (digit_of s i within) (digit_raised (slice_index s (hyphen_place i)) (nibble u i) (nibble_small u i) byte) in
    let all : list_all is_hex_digit (digits_of s) ≡ true = all_from is_hex_digit (digits_of s) hex in
    let form : has_hyphens s ≡ true = rw (h8, h13, h18, h23) refl in
    let simple : parsed_simple (digits_of s) ≡ Some (by_index 16 (byte_of_digits (digits_of s))) =
    rw (many, all) refl in
    (by_index 16 (byte_of_digits (digits_of s)), at_36 s len ∙ rw (len, form) refl ∙ simple)

-- ---- what is parsed is the text of its number

byte_small : (s : List ℕ) → ((i : ℕ) → i < 32 →
    is_hex_digit (slice_index s (hyphen_place i)) ≡ true) → (i : ℕ) → i < 16
    → byte_of_digits (digits_of s) i < 256
byte_small s hex i within =
    let high : value_of (slice_index s (hyphen_place (2 * i))) < 16 =
    value_small (slice_index s (hyphen_place (2 * i))) (hex (2 * i) (omega arith)) in
    let low : value_of (slice_index s (hyphen_place (2 * i + 1))) < 16 =
    value_small (slice_index s (hyphen_place (2 * i + 1))) (hex (2 * i + 1) (omega arith)) in
    rw (digit_of s (2 * i) (omega arith), digit_of s (2 * i + 1) (omega arith)) (omega arith)

pub parsed_text : (s u : List ℕ) → length s ≡ 36 → parsed s ≡ Some u →
    str_to_ascii_lowercase s ≡ id_text (from_be_bytes w128 u)
parsed_text s u len e =
    let here : parsed_hyphenated s ≡ Some u = sym (at_36 s len) ∙ e in
    let p = is_parsed s u here in
    let bytes : to_be_bytes w128 (from_be_bytes w128 u) ≡ u =
    rw (← p.bytes) (bytes_of_number (byte_of_digits (digits_of s)) (byte_small s p.digits)) in
    lowered s u here ∙ ap (hyphenated_text lower) (sym bytes) ∙ hyphenated_is_text (from_be_bytes w128 u)

-- what is in lower case an id's text is parsed
pub text_parses : (s : List ℕ) (n : ℕ) → str_to_ascii_lowercase s ≡ id_text n →
    (length s ≡ 36) × ((v : List ℕ) × (parsed s ≡ Some v))
text_parses s n e = (
  sym (length-map s to_ascii_lowercase) ∙ ap length e ∙ id_text_length n,
  parses s (to_be_bytes w128 n) (e ∙ sym (hyphenated_is_text n)),
)

-- ---- uuid writes in lower case

digit_stays : (d : ℕ) → d < 16 → to_ascii_lowercase (hex_digit lower d) ≡ hex_digit lower d
digit_stays d small = grind (arith, nat_tests)

place_stays : (u : List ℕ) (k : ℕ) → to_ascii_lowercase (text_at u k) ≡ text_at u k
place_stays u k = elim (cases_Bool (is_hyphen_place k)) [
  | inl hyphen ↦ rw hyphen refl
  | inr digit ↦ rw digit (digit_stays (nibble u (digit_place k)) (nibble_small u (digit_place k)))
]

pub text_is_lower : (n : ℕ) → str_to_ascii_lowercase (id_text n) ≡ id_text n
text_is_lower n =
    let u : List ℕ = to_be_bytes w128 n in
    let text : List ℕ = hyphenated_text lower u in
    let len : length (str_to_ascii_lowercase text) ≡ 36 = length-map text to_ascii_lowercase ∙
    by_index_length 36 (text_at u) in
    let same : str_to_ascii_lowercase text ≡ text =
    by_index_same (str_to_ascii_lowercase text) 36 (text_at u) len
    (λ k d h. get_or-map to_ascii_lowercase text k 0 d
    (omega (arith, by_index_length 36 (text_at u))) ∙
    ap to_ascii_lowercase (by_index_at 36 (text_at u) k 0 h) ∙ place_stays u k) in
    ap str_to_ascii_lowercase (sym (hyphenated_is_text n)) ∙ same ∙ hyphenated_is_text n

-- ---- each byte that uuid writes is a digit or a hyphen

digit_plain : (d : ℕ) → d < 16 → is_id_byte (hex_digit lower d) ≡ true
digit_plain d small = grind (arith, nat_tests)

place_plain : (u : List ℕ) (k : ℕ) → is_id_byte (text_at u k) ≡ true
place_plain u k = elim (cases_Bool (is_hyphen_place k)) [
  | inl hyphen ↦ rw hyphen refl
  | inr digit ↦ rw digit (digit_plain (nibble u (digit_place k)) (nibble_small u (digit_place k)))
]

pub text_plain : (n : ℕ) → list_all is_id_byte (id_text n) ≡ true
text_plain n =
    let u : List ℕ = to_be_bytes w128 n in
    let all : list_all is_id_byte (hyphenated_text lower u) ≡ true =
    all_from is_id_byte (hyphenated_text lower u)
    (λ k h. ap is_id_byte (by_index_at 36 (text_at u) k 0
    (omega (arith, h, by_index_length 36 (text_at u)))) ∙ place_plain u k) in
    ap (list_all is_id_byte) (sym (hyphenated_is_text n)) ∙ all
