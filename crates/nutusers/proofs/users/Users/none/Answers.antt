use Rattle.nutusers.specs.Users.{User}
use Rattle.nutusers.proofs.NamesApart.{none_rises}
use Rattle.nutusers.proofs.users.Users.none.Goals as goal

pub invariant_of-result : goal.invariant_of-result
invariant_of-result c = rw c.new.ensures.items (none_rises (λ (user : User). user.name))
