use Rattle.std.proofs.Common.{Ok, List, ℕ, is_ok, ap, sym, ◌∙◌}
use Rattle.std.proofs.lemmas.Result.{err_from_is_err_and}
use Rattle.nutwords.specs.Grammar.{Reads}
use Rattle.nutwords.proofs.Complete.{read_line-complete}
use Rattle.nutwords.proofs.FaultLemmas.{IsFault-no_words, words_of-reads}
use Rattle.nutwords.proofs.Sizes.{Reads-count, Reads-sum}
use Rattle.nutwords.proofs.line.spelled_words.Goals as goal

pub returns-in_err-check-clause-only : goal.returns-in_err-check-clause-only
returns-in_err-check-clause-only c =
    λ words r. absurd (IsFault-no_words c.args.line.now c.in_err-check.field-0.0 c.in_err-check.ensures.0 words r)

pub invariant_of-result : goal.invariant_of-result
invariant_of-result c =
    let r : (words : List (List ℕ)) × Reads c.args.line.now words = c.in_ok-check.ensures in
    (ap is_ok (read_line-complete c.args.line.now r.0 r.1), c.requires)

pub returns-clause-reads : goal.returns-clause-reads
returns-clause-reads c =
    let r : (words : List (List ℕ)) × Reads c.args.line.now words = c.in_ok-check.ensures in
    rw (words_of-reads c.args.line.now r.0 r.1) r.1

pub returns-clause-only : goal.returns-clause-only
returns-clause-only c = λ words r. words_of-reads c.args.line.now words r

pub returns-clause-computed : goal.returns-clause-computed
returns-clause-computed c =
    let r : (words : List (List ℕ)) × Reads c.args.line.now words = c.in_ok-check.ensures in
    ap Ok (words_of-reads c.args.line.now r.0 r.1) ∙ sym (read_line-complete c.args.line.now r.0 r.1)

pub returns-in_err-check-clause-computed : goal.returns-in_err-check-clause-computed
returns-in_err-check-clause-computed c =
    let p = err_from_is_err_and c.from_residual.result c.from_residual.ensures.1 in
    rw (p.1, p.2) (sym c.in_err-check.ensures.1)

pub returns-in_err-check-clause-fault : goal.returns-in_err-check-clause-fault
returns-in_err-check-clause-fault c =
    let p = err_from_is_err_and c.from_residual.result c.from_residual.ensures.1 in
    rw (p.1, p.2) c.in_err-check.ensures.0

pub returns-clause-count : goal.returns-clause-count
returns-clause-count c =
    let r : (words : List (List ℕ)) × Reads c.args.line.now words = c.in_ok-check.ensures in
    rw (words_of-reads c.args.line.now r.0 r.1) (Reads-count c.args.line.now r.0 r.1)

pub returns-clause-size : goal.returns-clause-size
returns-clause-size c =
    let r : (words : List (List ℕ)) × Reads c.args.line.now words = c.in_ok-check.ensures in
    rw (words_of-reads c.args.line.now r.0 r.1) (Reads-sum c.args.line.now r.0 r.1)
