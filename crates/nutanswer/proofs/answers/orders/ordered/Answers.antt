use Rattle.std.proofs.Common.{◌≡◌, ◌++◌, ℕ, List, Option, Ok, None, Some, refl, sym, ap, subst, ◌∙◌}
use Rattle.nutwords.specs.Frame.{line_of}
use Rattle.nutlisting.specs.Lines.{IsWholeLine}
use Rattle.nutanswer.specs.Answer.{one_line, ok}
use Rattle.nutanswer.specs.Orders.{order, ok_words}
use Rattle.nutanswer.specs.Promises.{CarriesAnswer}
use Rattle.nutanswer.proofs.Ids.{front_of, back_of, answer_whole}
use Rattle.nutanswer.proofs.answers.orders.ordered.Goals as goal

pub returns-in_default : goal.returns-in_default
returns-in_default c =
    let items : List ℕ = c.args.line.now.items in
    subst (λ (id : Option ℕ). CarriesAnswer
    (Ok (one_line (ok_words id) (order c.args.u items id))) c.ok.result) (sym c.in_default.is)
    (subst (λ (line : List ℕ). CarriesAnswer (Ok (one_line ok (order c.args.u line None)))
    c.ok.result) (c.of.ensures ∙ c.as_slice.ensures.value) c.ok.ensures)

pub returns : goal.returns
returns c =
    let front : List ℕ = c.args.line.now.items in
    let back : List ℕ = line_of (ok_words (Some c.in-Some.id)) in
    let is : c.as_slice-2.result.now ≡ front ++ back = c.as_slice-2.ensures.value ∙ c.push_answer.ensures in
    let told : c.split_at.result.1.now ≡ back = c.split_at.ensures.back ∙
    back_of c.as_slice-2.result.now front back _ c.len-length.ensures.value is in
    let owed : c.of-2.result.items ≡ front = c.of-2.ensures ∙ c.split_at.ensures.front ∙
    front_of c.as_slice-2.result.now front back _ c.len-length.ensures.value is in
    record {
      text = told ∙ ap (λ id. line_of (ok_words id)) (sym c.in-Some.is);
      changes = ap (λ (line : List ℕ). order c.args.u line (Some c.in-Some.id)) owed ∙
          ap (order c.args.u front) (sym c.in-Some.is);
      one = refl;
      granted = refl;
      whole_line = subst (λ (line : List ℕ). IsWholeLine line) (sym told) (answer_whole c.in-Some.id);
    }
