-- Of which newcomers that were sent away something is still to be logged.
use Rattle.std.specs.Prelude.{Bool, ◌||◌}
use Rattle.std.specs.List.{list_any}
use Rattle.nutjournal.specs.declared.refusals.Refusal.{Refusal}
use Rattle.nutjournal.specs.declared.refusals.Refusals.{Refusals}
use Rattle.nutjournal.specs.Tally.{is_behind}

abbrev pub is_behind_refusal : Refusal → Bool
is_behind_refusal x = is_behind x.count x.logged

abbrev pub is_any_refusal_behind : Refusals → Bool
is_any_refusal_behind all = list_any is_behind_refusal all.list.items || is_behind_refusal all.others
