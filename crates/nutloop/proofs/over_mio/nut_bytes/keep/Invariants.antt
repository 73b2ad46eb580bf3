use Rattle.std.proofs.lemmas.List.Filters.{FiltersInPlace}
use Rattle.nutloop.specs.NutBytes.{is_kept}
use Rattle.nutloop.proofs.over_mio.nut_bytes.keep.Given as goal

abbrev pub invariant-loop-place : goal.invariant-loop-place
invariant-loop-place l = FiltersInPlace (is_kept l.from) l.fn.bytes l.bytes l.kept l.place
