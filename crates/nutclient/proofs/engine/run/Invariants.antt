use Rattle.std.proofs.Common.{◌≡◌, drop, false}
use Rattle.nutrequest.specs.Session.{unread_of, reader_of, writer_of}
use Rattle.nutclient.proofs.Ordering.{IsOrdering}
use Rattle.nutclient.proofs.Underway.{IsUnderWay}
use Rattle.nutclient.proofs.engine.run.Given as goal

-- the requests up to here are granted
abbrev pub invariant-loop-request : goal.invariant-loop-request
invariant-loop-request g l = record {
  under_way : IsUnderWay g.R.Source.remaining g.R.Source.failures g.W.Sink.contents
      g.W.Sink.failures l.request-items (unread_of l.fn.session) (reader_of l.fn.session) (writer_of l.fn.session)
      l.items.items (drop l.request-index l.request-items) (unread_of l.session)
      (reader_of l.session) (writer_of l.session);
  goes_on : l.session.is_over ≡ false;
  ordering : IsOrdering g.W.Sink.contents l.request-items l.fn.session.has_ordered (writer_of l.fn.session)
      (drop l.request-index l.request-items) l.session.has_ordered (writer_of l.session);
}
