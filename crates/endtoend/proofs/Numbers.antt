-- Natural numbers, as they are written.
use Rattle.std.proofs.Common.{◌≡◌, ◌∙◌, ℕ, ◌<◌, ◌≤◌, Bool, true, false, eqb}
use Rattle.std.proofs.Common.{leb, List, [], ◌∷◌, length, Some, None, get_or}
use Rattle.std.proofs.Common.{if◌then◌else◌, refl, ap, arith}
use Rattle.std.specs.Prelude.{is_some}
use Rattle.std.specs.Fmt.{decimal}
use Rattle.std.specs.List.{list_all}
use Rattle.std.specs.Str.Parse.{AllDigits, digits_value}
use Rattle.std.proofs.lemmas.Bool.{and_from}
use Rattle.std.proofs.lemmas.Bool.Decides.{nat_tests}
use Rattle.std.proofs.lemmas.Fmt.{decimal_digit, decimal_is_IsNumeral, first_decimal, length-decimal-le}
use Rattle.std.proofs.lemmas.Str.Parse.{digit_from_value}
use Rattle.nutwords.specs.Bytes.{is_bare}
use Rattle.nutwords.specs.Natural.{is_digit, is_natural, up_to, read_natural}
use Rattle.nutrequest.specs.Reply.{is_count}
use Rattle.nutwords.proofs.Digits.{natural_of}

pub digits_all : (ds : List ℕ) → AllDigits 10 ds → (list_all is_digit ds ≡ true) ×
    (list_all is_bare ds ≡ true)
digits_all [] all = (refl, refl)
digits_all (d ∷ ds) all =
    let here = digit_from_value d all.0 in
    let rest = digits_all ds all.1 in (
      and_from (is_digit d) (list_all is_digit ds) (grind (arith, nat_tests)) rest.0,
      and_from (is_bare d) (list_all is_bare ds) (grind (arith, nat_tests)) rest.1,
    )

-- a number that is written is read
pub written_read : (most n : ℕ) → n ≤ most → most ≤ 1000000000 → read_natural most (decimal n) ≡ Some n
written_read most n few small =
    let numeral = decimal_is_IsNumeral n (omega arith) in
    let within : leb n most ≡ true = grind (arith, nat_tests) in
    ap (λ (b : Bool). if b then up_to most (digits_value 10 (decimal n)) else None) (by_zero (eqb n 0) refl)
    ∙ ap (λ (k : ℕ). up_to most k) numeral.1
    ∙ ap (λ (b : Bool). if b then Some n else None) within
  where
    by_zero : (b : Bool) → eqb n 0 ≡ b → is_natural (decimal n) ≡ true
    by_zero true e = let none : n ≡ 0 = grind (arith, nat_tests) in
        ap (λ k. is_natural (decimal k)) none ∙ ap is_natural (decimal_digit 0 (omega arith))
    by_zero false e =
        let some : 0 < n = grind (arith, nat_tests) in
        natural_of (decimal n) (digits_all (decimal n) (decimal_is_IsNumeral n (omega arith)).0.1).0
        (first_decimal n some (omega arith))

-- a number of clients, 0 to 64, is read as one, and stands in a line as it is
pub record IsNumber (text : List ℕ) : Type 0 where
  pub count : is_count text ≡ true
  pub bare : list_all is_bare text ≡ true
  pub some : 1 ≤ length text
  pub short : length text ≤ 2

pub written_number : (n : ℕ) → n ≤ 64 → IsNumber (decimal n)
written_number n few =
    let numeral = decimal_is_IsNumeral n (omega arith) in
    record {
      count = ap is_some (written_read 64 n few (omega arith));
      bare = (digits_all (decimal n) numeral.0.1).1;
      some = numeral.0.0;
      short = length-decimal-le 2 n (omega arith) (omega arith) (omega arith);
    }
