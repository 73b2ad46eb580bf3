use Rattle.std.proofs.Common.{◌∙◌, ◌++◌, ap, sym}
use Rattle.nutclient.specs.Why.{look_first}
use Rattle.nutclient.proofs.Warned.{warned_some}
use Rattle.nutclient.proofs.why.push_warning.Goals as goal

pub returns-clause-value : goal.returns-clause-value
returns-clause-value c =
    let first = rw c.unwrap-2.ensures at c.try_extend_from_slice-2.ensures.ok in
    let last = rw c.unwrap-3.ensures at c.try_extend_from_slice-3.ensures.ok in
    last ∙ ap (λ text. text ++ look_first) first
    ∙ warned_some c.args.why.now.items (sym c.is_empty.ensures ∙ c.if-is_empty.false)
