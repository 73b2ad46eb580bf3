use Rattle.std.proofs.Common.{◌∙◌, sym}
use Rattle.std.specs.Str.Parse.{digits_value}
use Rattle.nutwords.specs.Natural.{is_natural}
use Rattle.nutwords.proofs.Digits.{all_digits, past_digit, up_to-missed, no_natural}
use Rattle.nutwords.proofs.natural.read_natural.Goals as goal

pub returns-in_err-value : goal.returns-in_err-value
returns-in_err-value c =
    let digits = c.args.digits.now in
    let all = all_digits digits (sym c.is_natural.ensures ∙ c.if-not-is_natural.false) in
    let past = past_digit c.loop-digit.value digits c.loop-digit.digit-index all
    c.loop-digit-test.true c.loop-digit.invariant.value in
    c.from_residual.ensures ∙ no_natural c.args.most (digits_value 10 digits) (is_natural digits)
    (up_to-missed c.args.most _ _ past c.in_err-value.ensures)
