use Rattle.std.proofs.Common.{◌≡◌, ℕ, List, ◌++◌, ◌-◌, length}
use Rattle.nutio.specs.Ends.{Received}
use Rattle.nutrequest.specs.Inbox.{unread}
use Rattle.nutrequest.specs.Lines.{lines}
use Rattle.nutrequest.specs.Reply.{reply, items_from}
use Rattle.nutrequest.specs.declared.limits.TheConstants.{ITEM_LIMIT}
use Rattle.nutrequest.proofs.session.read_reply.Given as goal

-- What came is a front of the reply: with whatever stands after, it is the items so far and what is
-- left to be read.
abbrev pub invariant-loop-items : goal.invariant-loop-items
invariant-loop-items g l = (came : List ℕ) ×
    Received g.R.Source.remaining g.R.Source.failures l.fn.reader came l.reader
    × ((more : List ℕ) → reply l.request (unread l.fn.inbox ++ (came ++ more)) ≡
    items_from l.query l.items.items (lines (unread l.inbox ++ more)))

abbrev pub decreases-loop-items : goal.decreases-loop-items
decreases-loop-items g l = ITEM_LIMIT - length l.items.items
