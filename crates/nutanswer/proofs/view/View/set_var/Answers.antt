use Rattle.std.proofs.Common.{ℕ, List, Result, Ok, Err, sym, ◌∙◌, ap, subst, length, arith}
use Rattle.std.specs.Prelude.{◌≤◌, IfSome}
use Rattle.nutwords.specs.declared.limits.TheConstants.{VALUE_LIMIT}
use Rattle.std.proofs.lemmas.Result.{err_from_is_err_and}
use Rattle.nutanswer.specs.View.{asker_seen}
use Rattle.nutanswer.specs.Answer.{Answer, one_line}
use Rattle.nutcommand.specs.declared.err_word.ErrWord.{ErrWord}
use Rattle.nutanswer.specs.Orders.{order, ok_words}
use Rattle.nutanswer.specs.Promises.{CarriesAnswer, variable_of_known, live_variable, settable}
use Rattle.nutanswer.proofs.Rows.{set_without, set_refused, set_without_id, set_full, set_done, settable_is}
use Rattle.nutanswer.proofs.view.View.set_var.Goals as goal

pub returns-in_err-value : goal.returns-in_err-value
returns-in_err-value g c =
    let s = c.args.self.now in
    let found = c.in_ok-ups.ensures ∙ ap (live_variable s c.args.ups.now) c.read-name.ensures in
    let given = ap (settable c.in_ok-ups.variable.now) c.bytes.ensures.value in
    let p = err_from_is_err_and c.from_residual-in_err-value.result c.from_residual-in_err-value.ensures.1 in
    set_refused s (asker_seen c.args.asker) c.args.ups.now c.args.name.now c.args.value.now
    (variable_of_known (c.in_ok-ups.ups, c.in_ok-ups.name, c.in_ok-ups.variable)) c.in_ok-user.ensures found
    c.in_err-value.field-0.0 (c.in_err-value.ensures ∙ given) c.from_residual-in_err-value.result (p.1 ∙ ap Err p.2)

pub returns-in_err-id : goal.returns-in_err-id
returns-in_err-id g c =
    let s = c.args.self.now in
    let found = c.in_ok-ups.ensures ∙ ap (live_variable s c.args.ups.now) c.read-name.ensures in
    let given = ap (settable c.in_ok-ups.variable.now) c.bytes.ensures.value in
    let p = err_from_is_err_and c.from_residual-in_err-id.result c.from_residual-in_err-id.ensures.1 in
    set_without_id s (asker_seen c.args.asker) c.args.ups.now c.args.name.now c.args.value.now
    (variable_of_known (c.in_ok-ups.ups, c.in_ok-ups.name, c.in_ok-ups.variable)) c.in_ok-user.ensures found
    c.in_ok-value.value.now (c.in_ok-value.ensures ∙ given) c.in_err-id.field-0.0
    c.in_err-id.ensures c.from_residual-in_err-id.result (p.1 ∙ ap Err p.2)

pub returns-then-len-ups : goal.returns-then-len-ups
returns-then-len-ups g c =
    let s = c.args.self.now in
    let found = c.in_ok-ups.ensures ∙ ap (live_variable s c.args.ups.now) c.read-name.ensures in
    let given = ap (settable c.in_ok-ups.variable.now) c.bytes.ensures.value in
    set_full s (asker_seen c.args.asker) c.args.ups.now c.args.name.now c.args.value.now
    (variable_of_known (c.in_ok-ups.ups, c.in_ok-ups.name, c.in_ok-ups.variable)) c.in_ok-user.ensures found
    c.in_ok-value.value.now (c.in_ok-value.ensures ∙ given) c.in_ok-id.id c.in_ok-id.ensures
    (omega (arith, c.if-len-ups.true, c.len.ensures.value, ap length c.order_line_into.ensures.text))

pub returns : goal.returns
returns g c =
    let s = c.args.self.now in
    let found = c.in_ok-ups.ensures ∙ ap (live_variable s c.args.ups.now) c.read-name.ensures in
    let given = ap (settable c.in_ok-ups.variable.now) c.bytes.ensures.value in
    let done = set_done s (asker_seen c.args.asker) c.args.ups.now c.args.name.now c.args.value.now
    (variable_of_known (c.in_ok-ups.ups, c.in_ok-ups.name, c.in_ok-ups.variable)) c.in_ok-user.ensures found
    c.in_ok-value.value.now (c.in_ok-value.ensures ∙ given) c.in_ok-id.id c.in_ok-id.ensures
    (omega (arith, c.if-len-ups.false, c.len.ensures.value, ap length c.order_line_into.ensures.text)) in
    subst (λ (answer : Result Answer ErrWord). CarriesAnswer answer c.ordered.result)
    (ap (λ (line : List ℕ). let a : Result Answer ErrWord =
    Ok (one_line (ok_words c.in_ok-id.id) (order c.in_ok-ups.ups.id line c.in_ok-id.id)) in a)
    c.order_line_into.ensures.text ∙ sym done) c.ordered.ensures

pub returns-in_err-ups : goal.returns-in_err-ups
returns-in_err-ups g c =
    let s = c.args.self.now in
    let missing = c.in_err-ups.ensures ∙ ap (live_variable s c.args.ups.now) c.read-name.ensures in
    let p = err_from_is_err_and c.from_residual-in_err-ups.result c.from_residual-in_err-ups.ensures.1 in
    set_without s (asker_seen c.args.asker) c.args.ups.now c.args.name.now c.args.value.now
    c.in_ok-user.ensures c.in_err-ups.field-0.0 missing
    c.from_residual-in_err-ups.result (p.1 ∙ ap Err p.2)

pub order_line_into-requires-clause-value : goal.order_line_into-requires-clause-value
order_line_into-requires-clause-value g c =
    let is = settable_is c.in_ok-ups.variable.now c.args.value.now c.in_ok-value.value.now
    (c.in_ok-value.ensures ∙ ap (settable c.in_ok-ups.variable.now) c.bytes.ensures.value) in
    subst (λ o. IfSome o (λ text. length text ≤ VALUE_LIMIT)) is c.bytes.ensures.short
