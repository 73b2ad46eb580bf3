use Rattle.std.proofs.Common.{◌≡◌, ◌∙◌, [], Err, None, Some, ap, false, option_map, refl, subst, sym}
use Rattle.std.specs.IoError.{error_kind}
use Rattle.std.specs.Result.{result_ok}
use Rattle.nutrequest.specs.Fault.{fault_of}
use Rattle.nutrequest.specs.declared.faults.ClientFault.TheVariants.{BadTarget}
use Rattle.nutclient.specs.Asked.{Obeys, targets_of}
use Rattle.nutclient.specs.Ending.{Reports}
use Rattle.nutclient.specs.Job.{parts_of}
use Rattle.nutclient.specs.Why.{why_of}
use Rattle.nutclient.proofs.asked.obey.Goals as goal

pub returns-in-Err-clause-gives : goal.returns-in-Err-clause-gives
returns-in-Err-clause-gives g c =
    let job = option_map parts_of (result_ok c.job_in.result) in
    let none : job ≡ None = ap (λ r. option_map parts_of (result_ok r)) c.in-Err.is in
    let told = subst (λ program. Reports g.E.Sink.contents g.E.Sink.failures c.args.shows.is_explained program
    BadTarget c.deref.result.now c.args.err.now c.report.result c.report.new.err)
    c.PROGRAM-program.ensures c.report.ensures in
    let said = subst (λ why. Reports g.E.Sink.contents g.E.Sink.failures c.args.shows.is_explained
    g.C.Client.PROGRAM BadTarget why c.args.err.now c.report.result c.report.new.err)
    (c.deref.ensures.0 ∙ c.why.ensures.value) told in
    let obeys = subst (λ job. Obeys g.N.Reader.Source.remaining g.N.Reader.Source.failures
    g.N.Writer.Sink.contents g.N.Writer.Sink.failures g.O.Sink.contents g.O.Sink.failures
    g.E.Sink.contents g.E.Sink.failures (g.N.Network.connects c.args.network.now)
    c.args.shows g.C.Client.PROGRAM job c.args.out.now c.args.err.now c.report.result
    c.args.out.now c.report.new.err) (sym none) (refl, c.in-Err.bad, said) in
    (job, c.job_in.ensures, c.requires ∙ sym (ap targets_of none), obeys)

pub returns-in-Err-connect-clause-gives : goal.returns-in-Err-connect-clause-gives
returns-in-Err-connect-clause-gives g c =
    let job = option_map parts_of (result_ok c.job_in.result) in
    let some : job ≡ Some (parts_of c.in-Ok.job) =
    ap (λ r. option_map parts_of (result_ok r)) c.in-Ok.is in
    let error = c.in-Err-connect.error in
    let fault = fault_of (error_kind error) in
    let cause = c.of_connecting-cause.result in
    let report = c.report-in-Err-connect in
    let why = c.deref-in-Err-connect.ensures.0 ∙ c.why_of-why.ensures.value
    ∙ ap (λ f. why_of false [] f cause) c.from-fault.ensures in
    let told = subst (λ program. Reports g.E.Sink.contents g.E.Sink.failures c.args.shows.is_explained program
    c.from-fault.result c.deref-in-Err-connect.result.now c.args.err.now report.result report.new.err)
    c.PROGRAM-program.ensures report.ensures in
    let of_fault = subst (λ f. Reports g.E.Sink.contents g.E.Sink.failures c.args.shows.is_explained
    g.C.Client.PROGRAM f c.deref-in-Err-connect.result.now c.args.err.now report.result
    report.new.err) c.from-fault.ensures told in
    let said = subst (λ text. Reports g.E.Sink.contents g.E.Sink.failures c.args.shows.is_explained
    g.C.Client.PROGRAM fault text c.args.err.now report.result report.new.err) why of_fault in
    let obeys = subst (λ job. Obeys g.N.Reader.Source.remaining g.N.Reader.Source.failures
    g.N.Writer.Sink.contents g.N.Writer.Sink.failures g.O.Sink.contents g.O.Sink.failures
    g.E.Sink.contents g.E.Sink.failures (g.N.Network.connects c.args.network.now)
    c.args.shows g.C.Client.PROGRAM job c.args.out.now c.args.err.now report.result
    c.args.out.now report.new.err) (sym some)
    (Err error, c.in-Err-connect.ensures.gives, (refl, (cause, said))) in
    (job, c.job_in.ensures, c.in-Err-connect.ensures.target ∙ sym (ap targets_of some), obeys)
