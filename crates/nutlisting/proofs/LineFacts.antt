-- The lines of a listing have no LF but their last byte.
use Rattle.std.proofs.Common.{◌≡◌, ℕ, true, List, [], ◌∷◌, ◌++◌, arith}
use Rattle.std.specs.Prelude.{not}
use Rattle.std.proofs.lemmas.Bool.Decides.{nat_tests}
use Rattle.nutwords.specs.Bytes.{is_lawful}
use Rattle.nutlisting.specs.Counts.{is_lf, has_no_lf}
use Rattle.nutlisting.specs.Lines.{IsWholeLine}
use Rattle.nutwords.proofs.BytesRead.{all_also}

-- a text without LF, and LF
pub record IsLine (text : List ℕ) : Type 0 where
  pub body : List ℕ
  pub ends : text ≡ body ++ 10 ∷ []
  pub whole : has_no_lf body ≡ true

-- a lawful byte isn't LF
not_lf : (b : ℕ) → is_lawful b ≡ true → not (is_lf b) ≡ true
not_lf b h = grind (arith, nat_tests)

pub is_line : (text : List ℕ) → IsWholeLine text → IsLine text
is_line text h = record {
  body = h.line;
  ends = h.whole;
  whole = all_also is_lawful (λ b. not (is_lf b)) not_lf h.line h.answer.lawful;
}
