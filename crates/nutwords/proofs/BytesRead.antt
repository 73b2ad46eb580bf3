-- What reading a text says of its bytes.
use Rattle.std.proofs.Common.{◌≡◌, ℕ, ◌<◌, ◌≤◌, Bool, true, false, List, [], ◌∷◌, length, refl, arith}
use Rattle.std.specs.Prelude.{is_ok}
use Rattle.std.specs.List.{list_all}
use Rattle.std.proofs.lemmas.Bool.Decides.{nat_tests}
use Rattle.std.proofs.lemmas.Grind.{common_steps}
use Rattle.nutwords.specs.Bytes.{is_bare, is_address_byte}
use Rattle.nutwords.specs.Reading.{read_text}

pub text_short : (allowed : ℕ → Bool) (may_be_empty : Bool) (most : ℕ) (bytes : List ℕ) →
    is_ok (read_text allowed may_be_empty most bytes) ≡ true → length bytes ≤ most
text_short allowed may_be_empty most bytes h = grind (arith, nat_tests, common_steps)

pub text_all : (allowed : ℕ → Bool) (may_be_empty : Bool) (most : ℕ) (bytes : List ℕ) →
    is_ok (read_text allowed may_be_empty most bytes) ≡ true → list_all allowed bytes ≡ true
text_all allowed may_be_empty most bytes h = grind (arith, nat_tests, common_steps)

pub text_some : (allowed : ℕ → Bool) (most : ℕ) (bytes : List ℕ) →
    is_ok (read_text allowed false most bytes) ≡ true → 0 < length bytes
text_some allowed most bytes h = grind (arith, nat_tests, common_steps)

pub all_also : (p q : ℕ → Bool) → ((b : ℕ) → p b ≡ true → q b ≡ true) →
    (bytes : List ℕ) → list_all p bytes ≡ true → list_all q bytes ≡ true
all_also p q each [] h = refl
all_also p q each (b ∷ bytes) h = grind (arith, each b, all_also p q each bytes)

pub address_byte-bare : (b : ℕ) → is_address_byte b ≡ true → is_bare b ≡ true
address_byte-bare b h = grind (arith, nat_tests)
