use Rattle.std.proofs.Common.{◌≡◌, [], arith, ◌+◌, Err, List, drop, inl, refl, sym, subst}
use Rattle.std.proofs.lemmas.List.{at_drop_all}
use Rattle.nutrequest.specs.Session.{unread_of, reader_of, writer_of}
use Rattle.nutrequest.specs.declared.request.Request.{Request}
use Rattle.nutclient.specs.Requests.{RequestsGive, TakesOrders}
use Rattle.nutclient.specs.Shown.{shown}
use Rattle.nutclient.specs.Printed.{PrintGives, RunGives, text_of}
use Rattle.nutclient.proofs.Printing.{run_printed}
use Rattle.nutclient.proofs.Ordering.{IsOrdering, ordering_starts, ordering_goes_on, ordering_stops, ordering_ends}
use Rattle.nutclient.proofs.Underway.{IsUnderWay, starts, goes_further, ends_well, ends_early, next_left}
use Rattle.nutclient.proofs.engine.run.Goals as goal

pub loop-request-init : goal.loop-request-init
loop-request-init g c =
    let all : List Request = c.as_slice-request-items.result.now in
    let old = unread_of c.args.session.now in
    let reader = reader_of c.args.session.now in
    let writer = writer_of c.args.session.now in
    record {
      under_way = subst (λ items. IsUnderWay g.R.Source.remaining g.R.Source.failures
          g.W.Sink.contents g.W.Sink.failures
          all old reader writer items all old reader writer) (sym c.new-items.ensures.items)
          (starts g.R.Source.remaining g.R.Source.failures g.W.Sink.contents g.W.Sink.failures all old reader writer);
      goes_on = c.if-session.false;
      ordering = ordering_starts g.W.Sink.contents all c.args.session.now.has_ordered writer;
    }

pub returns-in-Err-clause-gives : goal.returns-in-Err-clause-gives
returns-in-Err-clause-gives g c h =
    let all : List Request = c.as_slice-request-items.result.now in
    let l = c.loop-request in
    let old = unread_of c.args.session.now in
    let reader = reader_of c.args.session.now in
    let writer = writer_of c.args.session.now in
    let request = c.request-item.result in
    let kept = unread_of l.session in
    let mid = reader_of l.session in
    let middle = writer_of l.session in
    let left = next_left all l.request-index request c.loop-request-test.true c.request-item.is in
    let next = subst (λ rs. IsUnderWay g.R.Source.remaining g.R.Source.failures g.W.Sink.contents
    g.W.Sink.failures all old reader writer l.items.items rs kept mid middle) left l.invariant.under_way in
    inl (
      subst (λ requests. RequestsGive g.R.Source.remaining g.R.Source.failures g.W.Sink.contents
          g.W.Sink.failures requests old reader writer
          (Err c.in-Err.fault) (unread_of c.ask.new.session) (reader_of c.ask.new.session)
          (writer_of c.ask.new.session)) c.as_slice-request-items.ensures.value
          (ends_early g.R.Source.remaining g.R.Source.failures g.W.Sink.contents g.W.Sink.failures all old reader writer
          l.items.items request (drop (l.request-index + 1) all) kept mid middle next
          (unread_of c.ask.new.session) (reader_of c.ask.new.session) (writer_of c.ask.new.session) c.in-Err.fault
          (c.in-Err.ensures.reply l.invariant.goes_on)),
      refl,
    )

pub loop-request-preserved : goal.loop-request-preserved
loop-request-preserved g c =
    let all : List Request = c.as_slice-request-items.result.now in
    let l = c.loop-request in
    let old = unread_of c.args.session.now in
    let reader = reader_of c.args.session.now in
    let writer = writer_of c.args.session.now in
    let request = c.request-item.result in
    let kept = unread_of l.session in
    let mid = reader_of l.session in
    let middle = writer_of l.session in
    let left = next_left all l.request-index request c.loop-request-test.true c.request-item.is in
    let next = subst (λ rs. IsUnderWay g.R.Source.remaining g.R.Source.failures g.W.Sink.contents
    g.W.Sink.failures all old reader writer l.items.items rs kept mid middle) left l.invariant.under_way in
    record {
      under_way = goes_further g.R.Source.remaining g.R.Source.failures g.W.Sink.contents
          g.W.Sink.failures all old reader writer
          l.items.items request (drop (l.request-index + 1) all) kept mid middle next
          (unread_of c.ask.new.session) (reader_of c.ask.new.session) (writer_of c.ask.new.session) c.in-Ok.items.items
          (c.in-Ok.ensures.reply l.invariant.goes_on);
      goes_on = c.in-Ok.ensures.goes_on;
      ordering = ordering_goes_on g.W.Sink.contents all c.args.session.now.has_ordered writer request
          (drop (l.request-index + 1) all) l.session.has_ordered c.ask.new.session.has_ordered middle
          (writer_of c.ask.new.session) (subst (λ rs. IsOrdering g.W.Sink.contents all
          c.args.session.now.has_ordered writer rs l.session.has_ordered middle) left l.invariant.ordering)
          (c.in-Ok.ensures.reply l.invariant.goes_on).0.bytes_written
          (c.in-Ok.ensures.ordered l.invariant.goes_on);
    }

pub returns-clause-gives : goal.returns-clause-gives
returns-clause-gives g c h =
    let all : List Request = c.as_slice-request-items.result.now in
    let l = c.loop-request in
    let form = c.args.job.now.form in
    let old = unread_of c.args.session.now in
    let reader = reader_of c.args.session.now in
    let writer = writer_of c.args.session.now in
    let items = l.items.items in
    let kept = unread_of l.session in
    let after = reader_of l.session in
    let sent = writer_of l.session in
    let none : drop l.request-index all ≡ [] =
    at_drop_all (λ (rs : List Request). rs) all l.request-index (omega arith) in
    let way = subst (λ rs. IsUnderWay g.R.Source.remaining g.R.Source.failures g.W.Sink.contents
    g.W.Sink.failures all old reader writer items rs kept after sent)
    none l.invariant.under_way in
    let given = ends_well g.R.Source.remaining g.R.Source.failures g.W.Sink.contents
    g.W.Sink.failures all old reader writer items kept after sent way in
    let text = subst (λ its. PrintGives g.O.Sink.contents g.O.Sink.failures
    (shown c.args.is_terminal (text_of form its)) c.args.out.now c.print-printed.result c.print-printed.new.out)
    c.as_slice.ensures.value c.print-printed.ensures in
    let ran = run_printed g.R.Source.remaining g.R.Source.failures g.W.Sink.contents
    g.W.Sink.failures g.O.Sink.contents g.O.Sink.failures all form c.args.is_terminal old kept
    reader after writer sent c.args.out.now c.print-printed.new.out items c.print-printed.result given text in
    subst (λ rs. RunGives g.R.Source.remaining g.R.Source.failures g.W.Sink.contents
    g.W.Sink.failures g.O.Sink.contents g.O.Sink.failures rs form c.args.is_terminal old
    reader writer c.args.out.now c.print-printed.result kept after sent c.print-printed.new.out)
    c.as_slice-request-items.ensures.value ran

pub returns-in-Err-clause-ordered : goal.returns-in-Err-clause-ordered
returns-in-Err-clause-ordered g c h =
    let all : List Request = c.as_slice-request-items.result.now in
    let l = c.loop-request in
    let writer = writer_of c.args.session.now in
    let request = c.request-item.result in
    let middle = writer_of l.session in
    let before = c.args.session.now.has_ordered in
    let left = next_left all l.request-index request c.loop-request-test.true c.request-item.is in
    let way = subst (λ rs. IsOrdering g.W.Sink.contents all before writer rs l.session.has_ordered middle) left
    l.invariant.ordering in
    subst (λ requests. TakesOrders g.W.Sink.contents requests writer (writer_of c.ask.new.session) before
    c.ask.new.session.has_ordered) c.as_slice-request-items.ensures.value
    (ordering_stops g.W.Sink.contents all before writer request (drop (l.request-index + 1) all)
    l.session.has_ordered c.ask.new.session.has_ordered middle (writer_of c.ask.new.session) c.in-Err.fault way
    (c.in-Err.ensures.ordered l.invariant.goes_on))

pub returns-clause-ordered : goal.returns-clause-ordered
returns-clause-ordered g c h =
    let all : List Request = c.as_slice-request-items.result.now in
    let l = c.loop-request in
    let writer = writer_of c.args.session.now in
    let sent = writer_of l.session in
    let before = c.args.session.now.has_ordered in
    let none : drop l.request-index all ≡ [] =
    at_drop_all (λ (rs : List Request). rs) all l.request-index (omega arith) in
    let way = subst (λ rs. IsOrdering g.W.Sink.contents all before writer rs l.session.has_ordered sent) none
    l.invariant.ordering in
    subst (λ requests. TakesOrders g.W.Sink.contents requests writer sent before l.session.has_ordered)
    c.as_slice-request-items.ensures.value
    (ordering_ends g.W.Sink.contents all before writer l.session.has_ordered sent way)
