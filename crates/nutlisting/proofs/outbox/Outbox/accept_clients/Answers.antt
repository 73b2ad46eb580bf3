use Rattle.std.proofs.Common.{◌≤◌, length, subst, sym}
use Rattle.nutlisting.specs.Owed.{Owes, owed}
use Rattle.nutlisting.specs.declared.outbox.TheConstants.{OWED_LIMIT}
use Rattle.nutlisting.proofs.Owing.{joined_owed}
use Rattle.nutlisting.proofs.outbox.Outbox.accept_clients.Goals as goal

pub returns-clause-owed : goal.returns-clause-owed
returns-clause-owed c =
    let few = subst (λ (o : Owes). length (owed o) ≤ OWED_LIMIT) (sym c.self.view_is) c.requires.ready in
    let queue = rw c.replace.ensures.after at c.drain.ensures.queue in
    let rest = rw c.replace.ensures.after at c.drain.ensures.rest in
    rw (← c.self.view_is) (joined_owed c.self.inside.queue c.self.inside.cursor c.drain.new.queue
    c.drain.new.cursor c.clients_cursor.result _ c.self.invariant.0 few queue rest c.clients_cursor.ensures.whole)
