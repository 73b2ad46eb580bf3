use Rattle.nutlisting.proofs.AheadLemmas.{taken}
use Rattle.nutlisting.proofs.listing.ahead.Ahead.next.Goals as goal

pub returns : goal.returns
returns c = taken (λ e. (e.0.now, e.1.now)) c.args.variables.now _ c.look_ahead.new.self
    c.take.new.self c.take.result (c.after_walks_the_entries.ensures c.args.variables.now _
    c.look_ahead.ensures.rising) c.look_ahead.ensures.next c.take.ensures.first c.take.ensures.others
