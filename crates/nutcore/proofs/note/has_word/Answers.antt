use Rattle.std.proofs.Common.{rules}
use Rattle.std.specs.Prelude.{◌==◌, ◌||◌, nat_le}
use Rattle.std.specs.Str.{bytes_eq}
use Rattle.std.proofs.lemmas.Iterator.Search.{any_from_yields_List}
use Rattle.std.proofs.lemmas.Iterator.Splits.{YieldsList-from_slice_split}
use Rattle.nutcore.proofs.note.has_word.Goals as goal

pub returns : goal.returns
returns c =
    any_from_yields_List (λ one. bytes_eq one c.args.word.now) _ _ c.any.result c.any.ensures.ran
    (YieldsList-from_slice_split _ (λ b. nat_le b 32 || b == 34) c.args.text.now
    c.split.ensures.rest c.split.ensures.done
    c.split.ensures.closure (λ x b q k. search rules))
    (λ x b q k. search rules)
