use Rattle.std.proofs.Common.{◌≡◌, ℕ, List, ◌++◌, ◌-◌, length}
use Rattle.nutrequest.specs.Inbox.{unread}
use Rattle.nutio.specs.Ends.{Received}
use Rattle.nutrequest.proofs.inbox.Inbox.line.Given as goal
use Rattle.nutwords.specs.declared.limits.TheConstants.{LINE_ROOM}

-- what came is kept
abbrev pub invariant-loop-line : goal.invariant-loop-line
invariant-loop-line g l = (came : List ℕ) ×
    Received g.R.Source.remaining g.R.Source.failures l.fn.reader came l.reader ×
    (unread l.self ≡ unread l.fn.self ++ came)

abbrev pub decreases-loop-line : goal.decreases-loop-line
decreases-loop-line g l = LINE_ROOM - length (unread l.self)
