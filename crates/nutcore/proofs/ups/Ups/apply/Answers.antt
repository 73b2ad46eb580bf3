use Rattle.std.proofs.Common.{◌∙◌, codes, subst, sym, ap}
use Rattle.nutdriver.specs.declared.report.Report.{Report}
use Rattle.nutdriver.specs.declared.report.LineOutcome.{LineOutcome}
use Rattle.nutdriver.specs.LastLine.{value_of}
use Rattle.nutdriver.specs.Report.{after_reading}
use Rattle.nutdriver.specs.Tree.{byte_order}
use Rattle.nutmap.specs.Entries.{HasRisingKeys}
use Rattle.nutcore.specs.Notes.{status_of}
use Rattle.nutcore.proofs.DriverLoops.{unchanged_status}
use Rattle.nutcore.proofs.ups.Ups.apply.Goals as goal

pub invariant_of-self-else-decides : goal.invariant_of-self-else-decides
invariant_of-self-else-decides c =
    let report : Report = record c.self.inside.report { heard = c.args.moment } in
    let rise = subst (HasRisingKeys byte_order) c.variables.ensures.value c.len.ensures.rising in
    let left = c.other_lines_leave_the_value.ensures report c.in-Ok.line (codes "ups.status")
    rise (sym c.decides.ensures ∙ c.if-decides.false) in
    c.self.invariant ∙ sym left ∙
    ap (λ (r : Report × LineOutcome). value_of r.0.tree (codes "ups.status"))
    (ap (after_reading report) (sym c.in-Ok.is) ∙ c.in_ok-outcome.ensures.ok)

pub returns-else-decides-clause-noted : goal.returns-else-decides-clause-noted
returns-else-decides-clause-noted c =
    let report : Report = record c.self.inside.report { heard = c.args.moment } in
    let rise = subst (HasRisingKeys byte_order) c.variables.ensures.value c.len.ensures.rising in
    let left = c.other_lines_leave_the_value.ensures report c.in-Ok.line (codes "ups.status")
    rise (sym c.decides.ensures ∙ c.if-decides.false) in
    unchanged_status c.args.u (status_of c.args.self.now) _ c.args.notes.now
    (sym (ap (λ (r : Report × LineOutcome). value_of r.0.tree (codes "ups.status"))
    (ap (after_reading report) (sym c.in-Ok.is) ∙ c.in_ok-outcome.ensures.ok)) ∙ left ∙
    ap status_of c.self.view_is)
