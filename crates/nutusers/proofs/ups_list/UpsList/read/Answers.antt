use Rattle.std.proofs.Common.{rules, [], reverse, refl, ◌∙◌, ap, Err, is_lt}
use Rattle.std.specs.List.Sorted.{IsSorted, IsPermutation}
use Rattle.std.proofs.lemmas.Cmp.{nat_list_cmp_total}
use Rattle.std.proofs.lemmas.Result.{err_from_is_err_and}
use Rattle.std.proofs.lemmas.List.Sorted.{ranks_by, answers_always, length_permutation}
use Rattle.nutwords.specs.Text.{lines_of}
use Rattle.nutwords.specs.NameOrder.{byte_order}
use Rattle.nutusers.specs.ConfigLine.{read_config_line}
use Rattle.nutusers.specs.File.{IsByLines}
use Rattle.nutusers.specs.UpsFile.{IsUpsList, upses_of}
use Rattle.nutusers.specs.UpsList.{Ups}
use Rattle.nutusers.proofs.LawfulUpses.{each_ups_lawful}
use Rattle.nutusers.proofs.NamesApart.{rising_names}
use Rattle.nutusers.specs.UpsStep.{upses_with}
use Rattle.nutusers.proofs.UpsLemmas.{upses_of-line, upses_apart}
use Rattle.nutusers.proofs.ups_list.UpsList.read.Goals as goal

by_lines : IsByLines (λ upses line. upses_with upses (read_config_line line)) [] upses_of
by_lines = record { nothing = refl; one_more = upses_of-line }

-- what the sorted list is to the file
is_list : (c : goal.After-sort_unstable_by) → IsUpsList (lines_of c.args.bytes.now) c.sort_unstable_by.new.self.items
is_list c =
    let means = c.in_ok-upses.ensures.ok upses_of (rw c.new.ensures.items by_lines) in
    let same : IsPermutation (upses_of (reverse (lines_of c.args.bytes.now)))
    c.sort_unstable_by.new.self.items =
    rw (← means.value_is, ← c.upses.view_is) c.sort_unstable_by.ensures.permutation in
    let sorted : IsSorted (λ (a b : Ups). byte_order a.name b.name) c.sort_unstable_by.new.self.items =
    c.sort_unstable_by.ensures.sorted (λ a b. is_lt (byte_order a.name b.name))
    (ranks_by nat_list_cmp_total (λ (ups : Ups). ups.name)) (answers_always _ _ _ (λ f a r g h. search rules)) in
    record {
      accepted = means.accepted;
      same = same;
      by_name =
          rising_names (λ (ups : Ups). ups.name) (upses_of (reverse (lines_of c.args.bytes.now)))
          c.sort_unstable_by.new.self.items
          (upses_apart (reverse (lines_of c.args.bytes.now)) means.accepted) same sorted;
    }

pub invariant_of-result : goal.invariant_of-result
invariant_of-result c = record {
  by_name = (is_list c).by_name;
  few = rw (length_permutation _ _ c.sort_unstable_by.ensures.permutation) c.upses.invariant;
  lawful = each_ups_lawful (lines_of c.args.bytes.now) c.sort_unstable_by.new.self.items (is_list c);
}

pub returns-clause-ok : goal.returns-clause-ok
returns-clause-ok c = is_list c

pub returns-in_err-upses-clause-err : goal.returns-in_err-upses-clause-err
returns-in_err-upses-clause-err c =
    let told = err_from_is_err_and c.from_residual.result c.from_residual.ensures.1 in
    rw (told.1 ∙ ap Err told.2) (c.in_err-upses.ensures.err upses_of (rw c.new.ensures.items by_lines))
