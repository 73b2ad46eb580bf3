use Rattle.std.proofs.Common.{◌≡◌, ◌+◌, ◌<◌, ◌≤◌, ◌++◌, ◌∙◌, ℕ, suc}
use Rattle.std.proofs.Common.{List, ap, arith, length, map, take, drop, set, get_or, append-nil}
use Rattle.std.proofs.Common.{length-set}
use Rattle.std.proofs.lemmas.List.{take_all, drop_all}
use Rattle.nutcore.specs.Ups.{UpsState, after_tick}
use Rattle.nutcore.proofs.DriverSteps.{changed_so_far}
use Rattle.nutcore.proofs.server.drivers.ping_upses.Goals as goal

pub loop-place-preserved : goal.loop-place-preserved
loop-place-preserved c =
    let p : ℕ = c.loop-place.place in
    let xs : List UpsState = c.args.upses.now.items in
    let f : UpsState → UpsState = after_tick c.args.max_age c.args.moment in
    let so_far : List UpsState = map f (take p xs) ++ drop p xs in
    let x : UpsState = c.index_mut-ups.result.now in
    let within : p < length xs = omega (arith, c.loop-place-test.true, c.len-place-end.ensures) in
    let at : x ≡ get_or so_far p x = c.index_mut-ups.ensures.value ∙
    ap (λ (ys : List UpsState). get_or ys p x) c.loop-place.invariant.done in
    let next : suc p ≡ p + 1 = omega arith in
    record {
      done = ap (λ (ys : List UpsState). set ys p c.tick.new.self) c.loop-place.invariant.done
          ∙ ap (λ (y : UpsState). set so_far p y) c.tick.ensures
          ∙ changed_so_far f p xs x within at
          ∙ ap (λ n. map f (take n xs) ++ drop n xs) next;
      same = length-set c.loop-place.upses.items p c.tick.new.self ∙ c.loop-place.invariant.same;
    }

pub returns-clause-pinged : goal.returns-clause-pinged
returns-clause-pinged c =
    let xs : List UpsState = c.args.upses.now.items in
    let p : ℕ = c.loop-place.place in
    let f : UpsState → UpsState = after_tick c.args.max_age c.args.moment in
    let all : length xs ≤ p = omega (arith, c.len-place-end.ensures) in
    c.loop-place.invariant.done
    ∙ ap (λ (ys : List UpsState). map f ys ++ drop p xs) (take_all p xs all)
    ∙ ap (λ (ys : List UpsState). map f xs ++ ys) (drop_all p xs all)
    ∙ append-nil (map f xs)
