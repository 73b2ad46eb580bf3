use Rattle.std.proofs.Common.{◌≡◌, ◌+◌, ◌<◌, ◌≤◌, ◌∙◌, ℕ, suc, List}
use Rattle.std.proofs.Common.{Some, sym, ap, arith, length, take, slice_get}
use Rattle.std.specs.Prelude.{min, ◌-◌, ◌^◌}
use Rattle.std.proofs.lemmas.List.{take_all}
use Rattle.nutcore.specs.Ups.{UpsState}
use Rattle.nutcore.specs.Due.{due_among, due_of}
use Rattle.nutcore.proofs.Due.{at_most, due_so_far}
use Rattle.nutcore.proofs.UpsPlaces.{there_is}
use Rattle.nutcore.proofs.server.drivers.due_among.Goals as goal

-- no second of those before is a later one than can be
least_so_far : (a b : ℕ) → a ≤ 2 ^ 64 - 1 → min a (min b (2 ^ 64 - 1)) ≡ min a b
least_so_far a b most = omega arith

pub loop-place-preserved : goal.loop-place-preserved
loop-place-preserved c =
    let p : ℕ = c.loop-place.place in
    let xs : List UpsState = c.args.upses.now.items in
    let x : UpsState = c.index-ups.result.now in
    let so_far : ℕ → ℕ = λ n. due_among c.args.max_age c.args.moment (take n xs) in
    let within : p < length xs = omega (arith, c.loop-place-test.true, c.len-place-end.ensures) in
    let there : slice_get xs p ≡ Some x = there_is xs p x within c.index-ups.ensures in
    let next : suc p ≡ p + 1 = omega arith in
    let most : c.loop-place.due ≤ 2 ^ 64 - 1 =
    omega (arith, c.loop-place.invariant, at_most c.args.max_age c.args.moment (take p xs)) in
    c.min-due.ensures
    ∙ ap (λ n. min c.loop-place.due n) c.due.ensures
    ∙ least_so_far c.loop-place.due (due_of c.args.max_age c.args.moment x) most
    ∙ ap (λ n. min n (due_of c.args.max_age c.args.moment x)) c.loop-place.invariant
    ∙ sym (due_so_far c.args.max_age c.args.moment p xs x there)
    ∙ ap so_far next

pub returns : goal.returns
returns c =
    let p : ℕ = c.loop-place.place in
    let xs : List UpsState = c.args.upses.now.items in
    let all : length xs ≤ p = omega (arith, c.loop-place-test.false, c.len-place-end.ensures) in
    c.loop-place.invariant ∙ ap (λ (ys : List UpsState). due_among c.args.max_age c.args.moment
    ys) (take_all p xs all)
