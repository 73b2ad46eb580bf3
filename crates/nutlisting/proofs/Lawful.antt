-- Names, values, quoted texts and numbers have only lawful bytes, and how many.
use Rattle.std.proofs.Common.{◌≡◌, ℕ, ℤ, pos, negsuc, ◌+◌, ◌%◌, ◌^◌, ◌<◌}
use Rattle.std.proofs.Common.{Bool, true, false, eqb, cond, List, [], ◌∷◌, ◌++◌, length}
use Rattle.std.proofs.Common.{◌≤◌, Option, Some, None, refl, ◌∙◌, suc, arith, SFits}
use Rattle.std.proofs.Common.{w32, length-append}
use Rattle.std.specs.Prelude.{◌||◌, ◌&&◌, ◌≤ℤ◌, neg_ℤ, is_ok, IsTrue, codes}
use Rattle.std.specs.Int.Signed.{mag}
use Rattle.std.specs.List.{list_all, join_with_byte, AllByRecursion, AllZip}
use Rattle.std.specs.Str.{bytes_eq}
use Rattle.std.specs.Fmt.{decimal, signed_decimal}
use Rattle.std.proofs.lemmas.Bool.{and_from, and_parts, cond_both}
use Rattle.std.proofs.lemmas.Bool.Decides.{nat_tests}
use Rattle.std.proofs.lemmas.Fmt.{decimal_by_steps, length_signed_le}
use Rattle.std.proofs.lemmas.Grind.{common_steps}
use Rattle.std.proofs.lemmas.Int.{ints}
use Rattle.std.proofs.lemmas.List.Folds.{list_all-append}
use Rattle.nuttracking.specs.Id.{is_id_byte, id_text}
use Rattle.nuttracking.proofs.PublicLaws.{ids_are_plain}
use Rattle.nutwords.specs.Bytes.{is_lawful, is_name_byte, is_address_byte}
use Rattle.nutwords.specs.Frame.{line_of}
use Rattle.nutwords.specs.Reading.{read_text, is_name, is_ups_name, is_address, is_value}
use Rattle.nutwords.specs.Spelling.{with_backslashes, quoted}
use Rattle.nutwords.specs.declared.limits.TheConstants.{VALUE_LIMIT, ADDRESS_LIMIT, NAME_LIMIT}
use Rattle.nutwords.specs.declared.limits.TheConstants.{UPS_NAME_LIMIT, LINE_LIMIT}
use Rattle.nutwords.specs.Cut.{has_lf}
use Rattle.nutwords.proofs.PublicLaws.{quoted_is_short}
use Rattle.nutdriver.specs.Variable.{VariableState}
use Rattle.nutdriver.specs.declared.limits.TheConstants.{NUMBER_LIMIT}
use Rattle.nutusers.specs.Texts.{is_description}
use Rattle.nutlisting.specs.Lawful.{IsLawfulText, room, TextsAreLawful, LawfulWordsAreALine}
use Rattle.nutlisting.specs.Lines.{IsWholeLine}
use Rattle.nutlisting.specs.Shown.{shown}
use Rattle.nutlisting.specs.declared.lines.TheConstants.{SHOWN_LIMIT}
use Rattle.nutwords.proofs.BytesRead.{text_short, text_all, all_also}

-- each byte is lawful
abbrev pub Lawful : List ℕ → Type 0
Lawful text = list_all is_lawful text ≡ true

pub both_lawful : (a b : List ℕ) → Lawful a → Lawful b → Lawful (a ++ b)
both_lawful a b h k = list_all-append is_lawful a b ∙ and_from (list_all is_lawful a) (list_all is_lawful b) h k

pub byte_lawful : (b : ℕ) (text : List ℕ) → is_lawful b ≡ true → Lawful text → Lawful (b ∷ text)
byte_lawful b text h k = and_from (is_lawful b) (list_all is_lawful text) h k

name_byte : (b : ℕ) → is_name_byte b ≡ true → is_lawful b ≡ true
name_byte b h = grind (arith, nat_tests)

pub name_lawful : (bytes : List ℕ) → IsTrue (is_name bytes) → Lawful bytes
name_lawful bytes h = all_also is_name_byte is_lawful name_byte bytes (text_all is_name_byte false NAME_LIMIT bytes h)

pub ups_name_lawful : (bytes : List ℕ) → IsTrue (is_ups_name bytes) → Lawful bytes
ups_name_lawful bytes h = all_also is_name_byte is_lawful name_byte bytes
    (text_all is_name_byte false UPS_NAME_LIMIT bytes h)

pub value_lawful : (bytes : List ℕ) → IsTrue (is_value bytes) → Lawful bytes
value_lawful bytes h = text_all is_lawful true VALUE_LIMIT bytes h

address_byte : (b : ℕ) → is_address_byte b ≡ true → is_lawful b ≡ true
address_byte b h = grind (arith, nat_tests)

pub address_lawful : (bytes : List ℕ) → IsTrue (is_address bytes) → Lawful bytes
address_lawful bytes h = all_also is_address_byte is_lawful address_byte bytes
    (text_all is_address_byte false ADDRESS_LIMIT bytes h)

id_byte : (b : ℕ) → is_id_byte b ≡ true → is_lawful b ≡ true
id_byte b h = grind (arith, nat_tests)

pub id_lawful : (id : ℕ) → Lawful (id_text id)
id_lawful id = all_also is_id_byte is_lawful id_byte (id_text id) (ids_are_plain.digits id)

backslashes_lawful : (word : List ℕ) → Lawful word → Lawful (with_backslashes word)
backslashes_lawful [] h = refl
backslashes_lawful (b ∷ word) h =
    let p = and_parts (is_lawful b) (list_all is_lawful word) h in
    let more = byte_lawful b (with_backslashes word) p.0 (backslashes_lawful word p.1) in
    cond_both (eqb b 34 || eqb b 92) (92 ∷ b ∷ []) (b ∷ [])
    (λ front. Lawful (front ++ with_backslashes word)) (λ e. more) (λ e. more)

pub quoted_lawful : (word : List ℕ) → Lawful word → Lawful (quoted word)
quoted_lawful word h = byte_lawful 34 (with_backslashes word ++ 34 ∷ []) refl
    (both_lawful (with_backslashes word) (34 ∷ []) (backslashes_lawful word h) refl)

digit : (d : ℕ) → d < 10 → is_lawful (48 + d) ≡ true
digit d h = grind (arith, nat_tests)

pub decimal_lawful : (n : ℕ) → n < 2 ^ 64 → Lawful (decimal n)
decimal_lawful n small = decimal_by_steps (λ n text. Lawful text)
    (λ n h. byte_lawful (48 + n) [] (digit n h) refl)
    (λ n text h k. both_lawful text ((48 + n % 10) ∷ []) k
    (byte_lawful (48 + n % 10) [] (digit (n % 10) (omega arith)) refl))
    n small

pub signed_lawful : (z : ℤ) → SFits w32 z → Lawful (signed_decimal z)
signed_lawful (pos n) h = decimal_lawful n (omega (arith, h))
signed_lawful (negsuc n) h = byte_lawful 45 (decimal (suc n)) refl (decimal_lawful (suc n) (omega (arith, h)))

pub ruleset quoting = (quoted_is_short, length-append)

pub ruleset lawful_steps = (
  list_all-append,
  and_from,
  name_lawful,
  ups_name_lawful,
  address_lawful,
  value_lawful,
  quoted_lawful,
)

-- what clients see of a value and of a description
shown_lawful : (fsd : Bool) (name : List ℕ) (variable : VariableState) →
    IsTrue (is_value variable.value) → IsLawfulText SHOWN_LIMIT (shown fsd name variable)
shown_lawful fsd name variable h =
    let few = text_short is_lawful true VALUE_LIMIT variable.value h in
    let all = value_lawful variable.value h in
    cond_both (fsd && bytes_eq name (codes "ups.status")) (codes "FSD " ++ variable.value)
    variable.value (IsLawfulText SHOWN_LIMIT)
    (λ down. record { short = omega (arith, few); lawful = all })
    (λ up. record { short = omega (arith, few); lawful = all })

description_lawful : (text : List ℕ) → IsTrue (is_description text) → IsLawfulText VALUE_LIMIT text
description_lawful text h = let value = (and_parts _ (is_value text) h).1 in
    record { short = text_short is_lawful true VALUE_LIMIT text value; lawful = value_lawful text value }

-- a number of the protocol
small : (z : ℤ) → neg_ℤ (pos NUMBER_LIMIT) ≤ℤ z → z ≤ℤ pos NUMBER_LIMIT → mag z ≤ NUMBER_LIMIT
small z low high = grind (arith, ints)

number_lawful : (z : ℤ) → neg_ℤ (pos NUMBER_LIMIT) ≤ℤ z → z ≤ℤ pos NUMBER_LIMIT →
    IsLawfulText 11 (signed_decimal z)
number_lawful z low high = let few = small z low high in
    record {
      short = length_signed_le 10 z (omega (arith, few)) (omega (arith, few));
      lawful = signed_lawful z (omega (arith, ints));
    }

pub texts_are_lawful : TextsAreLawful
texts_are_lawful = record {
  names = λ text h. record { short = text_short is_name_byte false NAME_LIMIT text h; lawful = name_lawful text h };
  ups_names = λ text h. record {
    short = text_short is_name_byte false UPS_NAME_LIMIT text h;
    lawful = ups_name_lawful text h;
  };
  addresses = λ text h. record {
    short = text_short is_address_byte false ADDRESS_LIMIT text h;
    lawful = address_lawful text h;
  };
  values = λ text h. record { short = text_short is_lawful true VALUE_LIMIT text h; lawful = value_lawful text h };
  shown = shown_lawful;
  described = λ desc h. grind (arith, description_lawful);
  ups_described = λ desc h. grind (arith, description_lawful);
  decimals = decimal_lawful;
  numbers = number_lawful;
  quoted = λ most text h. record {
    short = (let few = h.short in omega (arith, few, quoted_is_short text));
    lawful = quoted_lawful text h.lawful;
  };
}

-- lawful words with a blank between them
joined_lawful : (words : List (List ℕ)) → AllByRecursion Lawful words → Lawful (join_with_byte 32 words)
joined_lawful [] h = refl
joined_lawful (word ∷ []) h = h.0
joined_lawful (word ∷ other ∷ words) h =
    let rest = join_with_byte 32 (other ∷ words) in
    both_lawful word (32 ∷ rest) h.0 (byte_lawful 32 rest refl (joined_lawful (other ∷ words) h.1))

pub joined_text : (mosts : List ℕ) (words : List (List ℕ)) →
    AllZip IsLawfulText mosts words → IsLawfulText (room mosts) (join_with_byte 32 words)
joined_text [] [] h = record { short = omega arith; lawful = refl }
joined_text (n ∷ []) (word ∷ []) h = record { short = omega (arith, h.0.short); lawful = h.0.lawful }
joined_text (n ∷ m ∷ mosts) (word ∷ other ∷ words) h =
    let more = joined_text (m ∷ mosts) (other ∷ words) h.1 in
    let rest = join_with_byte 32 (other ∷ words) in
    record {
      short = (let one = h.0.short in let few = more.short in
          omega (arith, one, few, length-append word (32 ∷ rest)));
      lawful = both_lawful word (32 ∷ rest) h.0.lawful (byte_lawful 32 rest refl more.lawful);
    }
joined_text (n ∷ mosts) (word ∷ words) h = absurd h.1
joined_text mosts words h = absurd h

-- they have no LF
no_lf : (text : List ℕ) → Lawful text → has_lf text ≡ false
no_lf [] h = refl
no_lf (b ∷ text) h = grind (arith, nat_tests, no_lf text)

words_whole : (mosts : List ℕ) (words : List (List ℕ)) → AllZip IsLawfulText mosts words →
    room mosts ≤ LINE_LIMIT → IsWholeLine (line_of words)
words_whole mosts words h few =
    let text = joined_text mosts words h in
    record {
      line = join_with_byte 32 words;
      whole = refl;
      answer = record { fits = (let short = text.short in omega (arith, short, few)); lawful = text.lawful };
    }

pub lawful_words_are_a_line : LawfulWordsAreALine
lawful_words_are_a_line = record {
  no_lf = no_lf;
  joined = λ words h. no_lf (join_with_byte 32 words) (joined_lawful words h);
  whole = words_whole;
}
