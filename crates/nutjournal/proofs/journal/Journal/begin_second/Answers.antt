use Rattle.std.proofs.Common.{rules}
use Rattle.nutjournal.proofs.Calls.{begun}
use Rattle.nutjournal.proofs.journal.Journal.begin_second.Goals as goal

pub returns : goal.returns
returns c =
    begun c.args.server.now.state c.args.is_minute c.args.doings c.args.self.now _ _ _ _ _ c.log_upses.ensures
    c.log_more.ensures c.log_more-2.ensures c.log_counts.ensures.log c.log_refusals.ensures (search rules)
