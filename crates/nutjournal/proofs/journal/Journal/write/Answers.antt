use Rattle.std.proofs.Common.{refl, rules}
use Rattle.nutjournal.proofs.Calls.{no_call}
use Rattle.nutjournal.proofs.journal.Journal.write.Goals as goal

pub returns-then-are_none-clause-call : goal.returns-then-are_none-clause-call
returns-then-are_none-clause-call g c =
    no_call c.args.server.now.state c.args.server.now.notes c.args.doings c.args.self.now c.begin-is_begun.new.self
    c.begin-is_begun.new.self c.begin-is_begun.ensures.begun (search rules) (search rules) refl
