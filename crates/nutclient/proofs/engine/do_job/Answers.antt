use Rattle.std.proofs.Common.{◌≡◌, ◌∙◌, ap, subst, sym, refl}
use Rattle.std.specs.Prelude.{◌||◌, ◌&&◌, not}
use Rattle.nutrequest.specs.Orders.{has_order_in}
use Rattle.nutrequest.specs.Session.{unread_of, reader_of, writer_of}
use Rattle.nutclient.specs.Ending.{EndsBy, Reports}
use Rattle.nutclient.specs.Why.{is_refusal, subject_of, why_of}
use Rattle.nutclient.proofs.Done.{ends}
use Rattle.nutclient.proofs.engine.do_job.Goals as goal

pub returns-in-Ok : goal.returns-in-Ok
returns-in-Ok g c =
    let begun = c.new-session.result in
    let after = c.run.new.session in
    let requests = c.args.job.now.requests.items in
    let sent = c.run.ensures.ordered c.new-session.ensures.over in
    let nothing = subst (λ o. EndsBy g.E.Sink.contents g.E.Sink.failures c.args.shows.is_explained c.args.program
    requests sent.0 o c.args.err.now 0 c.args.err.now) (sym c.in-Ok.is) (refl, refl) in
    let e = ends g.R.Source.remaining g.R.Source.failures g.W.Sink.contents g.W.Sink.failures
    g.O.Sink.contents g.O.Sink.failures g.E.Sink.contents g.E.Sink.failures
    c.args.shows.is_explained c.args.program requests c.args.job.now.form c.args.shows.is_terminal
    c.args.reader c.args.writer c.args.out.now c.args.err.now
    (unread_of after) (reader_of after) (writer_of after) c.run.new.out c.args.err.now 0 sent.0
    (unread_of begun) (reader_of begun) (writer_of begun) c.run.result
    c.new-session.ensures.unread c.new-session.ensures.reader c.new-session.ensures.writer
    (c.run.ensures.gives c.new-session.ensures.over) sent.1 nothing in
    record { gives = e.0; done = e.1; most = e.2 }

pub returns-in-Err : goal.returns-in-Err
returns-in-Err g c =
    let begun = c.new-session.result in
    let after = c.run.new.session in
    let requests = c.args.job.now.requests.items in
    let sent = c.run.ensures.ordered c.new-session.ensures.over in
    let fault = c.in-Err.fault in
    let cause = c.of_ends-cause.result in
    let ordered : after.has_ordered ≡ has_order_in requests sent.0 =
    sent.2 ∙ ap (λ b. b || has_order_in requests sent.0) c.new-session.ensures.ordered in
    let why = c.deref.ensures.0 ∙ c.why_of-why.ensures.value
    ∙ ap (λ rs. why_of c.may_be_given-may_be_given.result (subject_of rs) fault cause) c.as_slice.ensures.value
    ∙ ap (λ b. why_of b (subject_of requests) fault cause)
    (c.may_be_given-may_be_given.ensures ∙ ap (λ b. b && not (is_refusal fault)) ordered) in
    let said = subst (λ why. Reports g.E.Sink.contents g.E.Sink.failures c.args.shows.is_explained c.args.program
    fault why c.args.err.now c.report-status.result c.report-status.new.err) why c.report-status.ensures in
    let told = subst (λ o. EndsBy g.E.Sink.contents g.E.Sink.failures c.args.shows.is_explained c.args.program
    requests sent.0 o c.args.err.now c.report-status.result c.report-status.new.err) (sym c.in-Err.is) (cause, said) in
    let e = ends g.R.Source.remaining g.R.Source.failures g.W.Sink.contents g.W.Sink.failures
    g.O.Sink.contents g.O.Sink.failures g.E.Sink.contents g.E.Sink.failures
    c.args.shows.is_explained c.args.program requests c.args.job.now.form c.args.shows.is_terminal
    c.args.reader c.args.writer c.args.out.now c.args.err.now
    (unread_of after) (reader_of after) (writer_of after) c.run.new.out c.report-status.new.err
    c.report-status.result sent.0 (unread_of begun) (reader_of begun) (writer_of begun) c.run.result
    c.new-session.ensures.unread c.new-session.ensures.reader c.new-session.ensures.writer
    (c.run.ensures.gives c.new-session.ensures.over) sent.1 told in
    record { gives = e.0; done = e.1; most = e.2 }
