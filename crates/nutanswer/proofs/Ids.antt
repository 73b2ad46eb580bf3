-- The ids of orders, as they are written.
use Rattle.std.proofs.Common.{◌≡◌, ℕ, List, ◌++◌, Some, length, take, drop, refl, arith}
use Rattle.std.proofs.Math.Seq.{drop-append_seam, take-append_seam}
use Rattle.std.specs.List.{join_with_byte}
use Rattle.nutwords.specs.Frame.{line_of}
use Rattle.nutlisting.specs.Lines.{IsWholeLine}
use Rattle.nutlisting.proofs.PublicLaws.{ids_are_lawful}
use Rattle.nutanswer.specs.Orders.{ok_words}

-- two texts one after another
module _ (items front back : List ℕ) (n : ℕ) (long : n ≡ length front) (is : items ≡ front ++ back) where
  pub front_of : take n items ≡ front
  front_of = rw (long, is) (take-append_seam front back)

  pub back_of : drop n items ≡ back
  back_of = rw (long, is) (drop-append_seam front back)

-- the answer to a tracked order
pub answer_whole : (id : ℕ) → IsWholeLine (line_of (ok_words (Some id)))
answer_whole id = record {
  line = join_with_byte 32 (ok_words (Some id));
  whole = refl;
  answer = record { fits = omega (arith, ids_are_lawful.long id); lawful = ids_are_lawful.lawful id };
}
