use Rattle.std.proofs.Common.{rules, [], reverse, refl, ◌∙◌, ap, Err, is_lt}
use Rattle.std.specs.List.Sorted.{IsSorted, IsPermutation}
use Rattle.std.proofs.lemmas.Cmp.{nat_list_cmp_total}
use Rattle.std.proofs.lemmas.Result.{err_from_is_err_and}
use Rattle.std.proofs.lemmas.List.Sorted.{ranks_by, answers_always}
use Rattle.nutwords.specs.Text.{lines_of}
use Rattle.nutwords.specs.NameOrder.{byte_order}
use Rattle.nutusers.specs.ConfigLine.{read_config_line}
use Rattle.nutusers.specs.File.{IsByLines}
use Rattle.nutusers.specs.Users.{User}
use Rattle.nutusers.specs.UsersFile.{AreUsers, users_of}
use Rattle.nutusers.specs.UsersStep.{users_with}
use Rattle.nutusers.proofs.NamesApart.{rising_names}
use Rattle.nutusers.proofs.UsersLemmas.{users_of-line, users_apart}
use Rattle.nutusers.proofs.users.Users.read.Goals as goal

by_lines : IsByLines (λ users line. users_with users (read_config_line line)) [] users_of
by_lines = record { nothing = refl; one_more = users_of-line }

-- what the sorted users are to the file
are_users : (c : goal.After-sort_unstable_by) → AreUsers (lines_of c.args.bytes.now) c.sort_unstable_by.new.self.items
are_users c =
    let means = c.in_ok-users.ensures.ok users_of (rw c.new.ensures.items by_lines) in
    let same : IsPermutation (users_of (reverse (lines_of c.args.bytes.now)))
    c.sort_unstable_by.new.self.items =
    rw (← means.value_is, ← c.users.view_is) c.sort_unstable_by.ensures.permutation in
    let sorted : IsSorted (λ (a b : User). byte_order a.name b.name) c.sort_unstable_by.new.self.items =
    c.sort_unstable_by.ensures.sorted (λ a b. is_lt (byte_order a.name b.name))
    (ranks_by nat_list_cmp_total (λ (user : User). user.name)) (answers_always _ _ _ (λ f a r g h. search rules)) in
    record {
      accepted = means.accepted;
      same = same;
      by_name =
          rising_names (λ (user : User). user.name) (users_of (reverse (lines_of c.args.bytes.now)))
          c.sort_unstable_by.new.self.items
          (users_apart (reverse (lines_of c.args.bytes.now)) means.accepted) same sorted;
    }

pub invariant_of-result : goal.invariant_of-result
invariant_of-result c = (are_users c).by_name

pub returns-clause-ok : goal.returns-clause-ok
returns-clause-ok c = are_users c

pub returns-in_err-users-clause-err : goal.returns-in_err-users-clause-err
returns-in_err-users-clause-err c =
    let told = err_from_is_err_and c.from_residual.result c.from_residual.ensures.1 in
    rw (told.1 ∙ ap Err told.2) (c.in_err-users.ensures.err users_of (rw c.new.ensures.items by_lines))
