use Rattle.std.proofs.Common.{arith, map, subst, sym, ◌<◌}
use Rattle.std.proofs.lemmas.List.{length-map}
use Rattle.std.specs.Net.Grammar.{IsSocketText}
use Rattle.upsd.specs.Task.{text_at}
use Rattle.upsd.proofs.Addresses.{one_more, refuses}
use Rattle.upsd.proofs.task.addresses_of.Goals as goal

pub returns-in_err-list : goal.returns-in_err-list
returns-in_err-list c =
    let texts = map (λ v. v.now) c.args.texts.now in
    let below = subst (λ n. c.loop-place.place < n)
    (sym (length-map c.args.texts.now (λ v. v.now))) c.loop-place-test.true in
    rw c.from_residual-in_err-list.ensures (refuses texts c.loop-place.place below c.in_err-list.ensures)

pub loop-place-preserved : goal.loop-place-preserved
loop-place-preserved c =
    one_more (λ k address. IsSocketText (text_at (map (λ v. v.now) c.args.texts.now) k) address)
    c.loop-place.list c.loop-place.place c.in_ok-list.field-0 c.loop-place.invariant.0
    (omega (arith, c.loop-place-test.true, c.if-count-gt-DOOR_LIMIT.false)) c.in_ok-list.ensures
    c.loop-place.invariant.1
