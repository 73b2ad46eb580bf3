-- Names, values and descriptions as the words of a line.
use Rattle.std.proofs.Common.{◌≡◌, ℕ, ◌<◌, ◌≤◌, Bool, true, false, leb, cond}
use Rattle.std.proofs.Common.{List, [], ◌∷◌, ◌++◌, length, Option, Some, None, Ok, refl}
use Rattle.std.proofs.Common.{arith}
use Rattle.std.specs.Prelude.{◌&&◌, is_ok, IsTrue, codes, IfSome}
use Rattle.std.specs.List.{list_all}
use Rattle.std.specs.Str.{bytes_eq}
use Rattle.std.proofs.lemmas.Bool.{and_parts, and_from}
use Rattle.std.proofs.lemmas.Bool.Decides.{nat_tests}
use Rattle.std.proofs.lemmas.Grind.{common_steps}
use Rattle.nutwords.specs.Bytes.{is_lawful, is_bare, is_name_byte, is_address_byte}
use Rattle.nutwords.specs.Listing.{IsWritten, as_it_is, in_quotes}
use Rattle.nutwords.specs.Reading.{read_text, is_name, is_ups_name, is_address, is_value}
use Rattle.nutwords.specs.Spelling.{quoted}
use Rattle.nutdriver.specs.Variable.{VariableState}
use Rattle.nutusers.specs.Texts.{is_description}
use Rattle.nutusers.specs.UpsList.{Ups}
use Rattle.nutlisting.specs.Shown.{shown, ups_description}
use Rattle.nutlisting.specs.declared.lines.TheConstants.{SHOWN_LIMIT}
use Rattle.nutusers.specs.declared.limits.TheConstants.{DESCRIPTION_LIMIT}
use Rattle.nutwords.specs.declared.limits.TheConstants.{VALUE_LIMIT, NAME_LIMIT, UPS_NAME_LIMIT, ADDRESS_LIMIT}
use Rattle.nutwords.proofs.BytesRead.{text_short, text_all, text_some, address_byte-bare}
use Rattle.nutwords.proofs.Listing.{name_byte-bare}

pub text_itself : (allowed : ℕ → Bool) (may_be_empty : Bool) (most : ℕ) (bytes : List ℕ) →
    is_ok (read_text allowed may_be_empty most bytes) ≡ true →
    read_text allowed may_be_empty most bytes ≡ Ok bytes
text_itself allowed may_be_empty most bytes h = grind (arith, nat_tests, common_steps)

pub text_same : (allowed : ℕ → Bool) (may_be_empty : Bool) (most : ℕ) (bytes read : List ℕ)
    → read_text allowed may_be_empty most bytes ≡ Ok read → bytes ≡ read
text_same allowed may_be_empty most bytes read h = grind (arith, nat_tests, common_steps)

pub all_bare : (allowed : ℕ → Bool) →
    ((b : ℕ) → allowed b ≡ true → is_bare b ≡ true) → (bytes : List ℕ) →
    list_all allowed bytes ≡ true → list_all is_bare bytes ≡ true
all_bare allowed bare [] h = refl
all_bare allowed bare (b ∷ bytes) h =
    let p = and_parts (allowed b) (list_all allowed bytes) h in
    and_from (is_bare b) (list_all is_bare bytes) (bare b p.0) (all_bare allowed bare bytes p.1)

-- a name is written as it is
pub name_written : (name : List ℕ) → is_name name ≡ true → IsWritten name name
name_written name h = as_it_is (text_some is_name_byte NAME_LIMIT name h)
    (all_bare is_name_byte name_byte-bare name (text_all is_name_byte false NAME_LIMIT name h))

pub ups_name_written : (name : List ℕ) → is_ups_name name ≡ true → IsWritten name name
ups_name_written name h = as_it_is (text_some is_name_byte UPS_NAME_LIMIT name h)
    (all_bare is_name_byte name_byte-bare name (text_all is_name_byte false UPS_NAME_LIMIT name h))

pub address_written : (address : List ℕ) → is_address address ≡ true → IsWritten address address
address_written address h = as_it_is (text_some is_address_byte ADDRESS_LIMIT address h)
    (all_bare is_address_byte address_byte-bare address (text_all is_address_byte false ADDRESS_LIMIT address h))

-- a text of lawful bytes is written in quotes
pub quoted_written : (text : List ℕ) → list_all is_lawful text ≡ true → IsWritten (quoted text) text
quoted_written text h = in_quotes h

-- a value as clients see it
shown_by : (v : Bool) (value : List ℕ) → list_all is_lawful value ≡ true → length value ≤ VALUE_LIMIT
    → (list_all is_lawful (cond v (codes "FSD " ++ value) value) ≡ true) ×
    (length (cond v (codes "FSD " ++ value) value) ≤ SHOWN_LIMIT)
shown_by true value h few = (h, omega (arith, few))
shown_by false value h few = (h, omega (arith, few))

pub shown_lawful : (fsd : Bool) (name : List ℕ) (variable : VariableState) → is_value variable.value ≡ true
    → (list_all is_lawful (shown fsd name variable) ≡ true) × (length (shown fsd name variable) ≤ SHOWN_LIMIT)
shown_lawful fsd name variable h =
    shown_by (fsd && bytes_eq name (codes "ups.status")) variable.value
    (text_all is_lawful true VALUE_LIMIT variable.value h) (text_short is_lawful true VALUE_LIMIT variable.value h)

-- a description as clients see it
pub description_lawful : (ups : Ups) → IfSome ups.desc (λ text. IsTrue (is_description text))
    → (list_all is_lawful (ups_description ups) ≡ true) × (length (ups_description ups) ≤ SHOWN_LIMIT)
description_lawful ups h = by ups.desc refl
  where
    by : (o : Option (List ℕ)) → ups.desc ≡ o →
        (list_all is_lawful (ups_description ups) ≡ true) × (length (ups_description ups) ≤ SHOWN_LIMIT)
    by None e = rw e (refl, omega arith)
    by (Some text) e =
        let k : is_description text ≡ true = rw e at h in
        let v : is_value text ≡ true = (and_parts (leb (length text) DESCRIPTION_LIMIT) (is_value text) k).1 in
        rw e (text_all is_lawful true VALUE_LIMIT text v, omega (arith, text_short is_lawful true VALUE_LIMIT text v))
