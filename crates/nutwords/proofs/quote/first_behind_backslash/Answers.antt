use Rattle.std.proofs.Common.{◌≡◌, ℕ, List, Option, None, Some, MatchOption, add-one, arith}
use Rattle.memchr.specs.Find.{IsFirstByte, is_byte2}
use Rattle.nutwords.specs.Spelling.{with_backslashes, IsFirstSpelled}
use Rattle.nutwords.proofs.Backslashes.{with_backslashes-none, with_backslashes-at}
use Rattle.nutwords.proofs.quote.first_behind_backslash.Goals as goal

-- what the search says of the word's spelling
found : (r : Option ℕ) (word : List ℕ) → IsFirstByte (is_byte2 34 92) word r →
    MatchOption r (with_backslashes word ≡ word) (λ at. IsFirstSpelled word at)
found None word h = with_backslashes-none word (λ j lt e. h j (omega arith) lt e)
found (Some at) word h = record {
  within = h.0.high;
  spelled = rw add-one (with_backslashes-at word at h.0.high (λ j lt e. h.0.before j (omega arith) lt e) h.1);
}

pub returns : goal.returns
returns c = found c.memchr2.result c.args.word.now c.memchr2.ensures
