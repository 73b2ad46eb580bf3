use Rattle.std.proofs.Common.{◌∙◌, rules, arith, sym}
use Rattle.std.proofs.lemmas.List.Filters.{FiltersInPlace-more_set, FiltersInPlace-more_no, FiltersInPlace-all}
use Rattle.nutloop.proofs.over_mio.nut_bytes.keep.Goals as goal

pub loop-place-preserved : goal.loop-place-preserved
loop-place-preserved c = elim c.if-is_kept.branch [
  | goal.then-is_kept w ↦
      let passes = sym c.is_kept.ensures ∙ w.if-is_kept.true in
      rw (w.bytes-is, w.kept-is)
      (FiltersInPlace-more_set c.loop-place.invariant (omega arith) passes (search rules))
  | goal.else-is_kept w ↦
      let fails = sym c.is_kept.ensures ∙ w.if-is_kept.false in
      rw (w.bytes-is, w.kept-is)
      (FiltersInPlace-more_no c.loop-place.invariant (omega arith) fails (search rules))
]

pub returns-clause-kept : goal.returns-clause-kept
returns-clause-kept c = search (rules, FiltersInPlace-all)
