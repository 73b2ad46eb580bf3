use Rattle.std.proofs.Common.{◌≡◌, ◌≤◌, ◌∙◌, List, ℕ, ap, sym, arith, length, take}
use Rattle.nutlisting.specs.declared.outbox.TheConstants.{QUEUE_LIMIT}
use Rattle.nutlisting.specs.Owed.{owed}
use Rattle.nutcore.specs.Session.{SessionState}
use Rattle.nutlisting.proofs.PublicLaws.{what_is_placed_is_counted}
use Rattle.nutcore.proofs.session.Session.take.Goals as goal

pub returns-clause-counted : goal.returns-clause-counted
returns-clause-counted c =
    let same : owed c.self.inside.outbox ≡ c.args.self.now.owed = ap (λ (x : SessionState). x.owed) c.self.view_is in
    let queue : length c.self.inside.outbox.queue ≡
    length (take QUEUE_LIMIT c.args.self.now.owed) = sym c.offered.ensures.queue ∙
    c.offered.ensures.offered ∙ ap (λ (xs : List ℕ). length (take QUEUE_LIMIT xs)) same in
    let few : c.args.n ≤ length c.self.inside.outbox.queue = omega (arith, queue, c.requires.few) in
    rw (← queue, c.take-version.ensures.owed)
    (what_is_placed_is_counted.taken c.self.inside.outbox.queue c.self.inside.outbox.cursor c.args.n
    _ _ c.offered.ensures.outbox few c.requires.none c.take-version.ensures.counts)
