use Rattle.std.proofs.Common.{◌<◌, ◌^◌, true≢false, sym}
use Rattle.std.specs.Int.{w128, from_be_bytes}
use Rattle.nuttracking.proofs.ReadBack.{reads_parsed, reads_nothing}
use Rattle.nuttracking.proofs.id.read_id.Goals as goal

pub returns-then-text-ne-ID_LENGTH : goal.returns-then-text-ne-ID_LENGTH
returns-then-text-ne-ID_LENGTH c = sym (reads_nothing c.args.text.now (λ len u e. c.if-text-ne-ID_LENGTH.true len))

pub returns-in_default : goal.returns-in_default
returns-in_default c =
    sym (reads_nothing c.args.text.now (λ len u e. true≢false (sym (c.in_default.ensures.ok.1 (u, e)))))

pub returns : goal.returns
returns c =
    let small : from_be_bytes w128 c.in-Ok.uuid < 2 ^ 128 = rw (c.as_u128.ensures) at c.as_u128.type_inv in
    rw c.as_u128.ensures (sym (reads_parsed c.args.text.now c.in-Ok.uuid
    c.if-text-ne-ID_LENGTH.false (sym c.in-Ok.ensures.bytes) small))
