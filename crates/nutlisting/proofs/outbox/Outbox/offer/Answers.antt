use Rattle.std.proofs.Common.{◌∙◌, refl, sym, ap, take}
use Rattle.nutlisting.specs.Owed.{Owes, owed}
use Rattle.nutlisting.specs.declared.outbox.TheConstants.{QUEUE_LIMIT}
use Rattle.nutlisting.proofs.Owing.{offered_is}
use Rattle.nutlisting.proofs.outbox.Outbox.offer.Goals as goal

pub returns : goal.returns
returns c = (
  (refl, λ x. tt, refl),
  record {
    value = c.bytes.ensures.value ∙
        sym (offered_is c.outbox.inside.queue c.outbox.inside.cursor c.outbox.invariant.0) ∙
        ap (λ (o : Owes). take QUEUE_LIMIT (owed o)) c.outbox.view_is;
    queue = c.bytes.ensures.value ∙ ap (λ (o : Owes). o.queue) c.outbox.view_is;
    same = tt;
  },
)
