use Rattle.std.proofs.Common.{rules, arith, []}
use Rattle.std.proofs.lemmas.Grind.{common_steps}
use Rattle.std.proofs.lemmas.Fn.{always_returns_same}
use Rattle.nutwords.specs.NameOrder.{byte_order}
use Rattle.nutusers.specs.Users.{User}
use Rattle.nutusers.specs.UsersStep.{new_user}
use Rattle.nutusers.proofs.NamesApart.{searched}
use Rattle.nutusers.proofs.users.Users.named.Goals as goal

pub returns-in_err-place : goal.returns-in_err-place
returns-in_err-place c =
    let is = searched (λ (user : User). user.name) c.args.name.now c.self.inside.users.items (new_user [])
    c.binary_search_by.result c.self.invariant (rw c.deref.ensures.value at c.binary_search_by.ensures.bound)
    (rw c.deref.ensures.value at c.binary_search_by.ensures.position
    (λ (user : User). byte_order user.name c.args.name.now)
    (always_returns_same _ _ _ (λ a r f called. search rules))) in
    grind (arith, common_steps, is)

pub returns : goal.returns
returns c =
    let is = searched (λ (user : User). user.name) c.args.name.now c.self.inside.users.items c.index.result.now
    c.binary_search_by.result c.self.invariant (rw c.deref.ensures.value at c.binary_search_by.ensures.bound)
    (rw c.deref.ensures.value at c.binary_search_by.ensures.position
    (λ (user : User). byte_order user.name c.args.name.now)
    (always_returns_same _ _ _ (λ a r f called. search rules))) in
    grind (arith, common_steps, is)
