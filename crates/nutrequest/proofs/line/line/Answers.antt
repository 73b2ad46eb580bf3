use Rattle.std.proofs.Common.{◌≡◌, ◌∙◌, ◌∷◌, ◌++◌, ◌≤◌, List, ℕ, []}
use Rattle.std.proofs.Common.{length, sym, ap, arith, append_assoc, append-nil, length-append}
use Rattle.std.proofs.Common.{rules}
use Rattle.std.proofs.lemmas.List.{at_drop_all}
use Rattle.std.specs.Prelude.{option_map, option_to_list}
use Rattle.std.specs.List.{flat_map}
use Rattle.nutwords.specs.Spelling.{quoted}
use Rattle.nutwords.specs.declared.limits.TheConstants.{VALUE_LIMIT}
use Rattle.nutwords.proofs.PublicLaws.{quoted_is_short}
use Rattle.nutrequest.proofs.Joining.{joined}
use Rattle.nutrequest.proofs.line.line.Goals as goal
use Rattle.nutrequest.proofs.line.line.Goals.{in-Some, in_default}

pub quote_into-requires-clause-fits : goal.quote_into-requires-clause-fits
quote_into-requires-clause-fits c =
    let value = c.as_bytes.result.now in
    let short : length value ≤ VALUE_LIMIT = search rules in
    omega (arith, quoted_is_short value, short, c.loop-word.invariant.room, c.push-in-Some.ensures.len)

pub push-requires-2 : goal.push-requires-2
push-requires-2 c =
    elim c.match-value.branch [
      | in-Some w ↦
          let value = w.as_bytes.result.now in
          let short : length value ≤ VALUE_LIMIT = search rules in (
            omega arith,
            omega (
              arith,
              ap (λ l. length l.items) w.line-is,
              quoted_is_short value,
              short,
              c.loop-word.invariant.room,
              w.push-in-Some.ensures.len,
              ap length w.quote_into.ensures.appends,
              length-append w.push-in-Some.new.self.items (quoted value),
            ),
          )
      | in_default w ↦ (omega arith, omega (arith, ap (λ l. length l.items) w.line-is, c.loop-word.invariant.room))
    ]

pub returns : goal.returns
returns c =
    let words = c.args.words.now in
    let last = option_map (λ v. quoted v.now) c.args.value in
    let blanks : List ℕ = flat_map (λ word. 32 ∷ word.now) words in
    let value : List ℕ = flat_map (λ word. 32 ∷ word) (option_to_list last) in
    let all : length words ≤ c.loop-word.word-index = omega arith in
    let before : c.loop-word.line.items ≡ c.args.verb.now ++ blanks =
    sym (append-nil c.loop-word.line.items)
    ∙ ap (λ t. c.loop-word.line.items ++ t)
    (sym (at_drop_all (flat_map (λ word. 32 ∷ word.now)) words c.loop-word.word-index all))
    ∙ c.loop-word.invariant.text in
    let text : c.match-value.line.items ≡ c.loop-word.line.items ++ value =
    elim c.match-value.branch [
      | in-Some w ↦
          ap (λ l. l.items) w.line-is ∙ w.quote_into.ensures.appends
          ∙ ap (λ t. t ++ quoted w.as_bytes.result.now) w.push-in-Some.ensures.items
          ∙ append_assoc c.loop-word.line.items (32 ∷ []) (quoted w.as_bytes.result.now)
          ∙ ap (λ v. c.loop-word.line.items ++ 32 ∷ quoted v) w.as_bytes.ensures.value
          ∙ ap (λ t. c.loop-word.line.items ++ 32 ∷ t) (sym (append-nil (quoted w.in-Some.value.now)))
          ∙ ap (λ o. c.loop-word.line.items ++
          flat_map (λ word. 32 ∷ word) (option_to_list (option_map (λ v. quoted v.now) o))) (sym w.in-Some.is)
      | in_default w ↦
          ap (λ l. l.items) w.line-is ∙ sym (append-nil c.loop-word.line.items)
          ∙ ap (λ o. c.loop-word.line.items ++
          flat_map (λ word. 32 ∷ word) (option_to_list (option_map (λ v. quoted v.now) o))) (sym w.in_default.is)
    ] in
    c.push-2.ensures.items
    ∙ ap (λ t. t ++ 10 ∷ []) (text ∙ ap (λ t. t ++ value) before ∙ append_assoc c.args.verb.now blanks value
    ∙ sym (joined c.args.verb.now words last))
