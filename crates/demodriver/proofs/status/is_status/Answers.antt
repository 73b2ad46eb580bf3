use Rattle.std.proofs.Common.{rules, ◌≡◌, ◌∙◌, sym, ap, length, ◌==◌, ◌||◌, false, lit<}
use Rattle.std.specs.List.{list_all, slice_split}
use Rattle.std.proofs.lemmas.Iterator.Search.{all_from_yields_List}
use Rattle.std.proofs.lemmas.Iterator.Splits.{YieldsList-from_str_split}
use Rattle.demodriver.specs.Status.{is_status_word}
use Rattle.demodriver.proofs.status.is_status.Goals as goal

pub returns-else-is_empty : goal.returns-else-is_empty
returns-else-is_empty c =
    let value = c.args.value.now in
    let some : (length value == 0) ≡ false = sym c.is_empty.ensures ∙ c.if-is_empty.false in
    all_from_yields_List is_status_word _ _ c.all.result c.all.ensures.ran
    (YieldsList-from_str_split 32 value (lit< tt) c.split.ensures.text c.split.ensures.has_more
    c.split.ensures.pattern) (λ word b q called. search rules)
    ∙ sym (ap (λ none. none || list_all is_status_word (slice_split (λ b. b == 32) value)) some)
