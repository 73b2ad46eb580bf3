use Rattle.std.proofs.Common.{sym, ◌∙◌, arith}
use Rattle.nutmap.proofs.Heights.{cost_fits}
use Rattle.nutmap.proofs.Lengths.{length-insert_new, length-insert_old}
use Rattle.nutmap.proofs.map.Map.put.Goals as goal

pub returns-in_err-root-clause-most : goal.returns-in_err-root-clause-most
returns-in_err-root-clause-most g c =
    rw (← c.self.view_is) (cost_fits g.K.Ord.cmp _ _ _ _ c.height.ensures.tree c.insert.ensures.most)

pub invariant_of-self : goal.invariant_of-self
invariant_of-self g c =
    let new = rw (c.in-None.is, ← c.self.view_is, c.deref.ensures) at c.in_ok-before.ensures in
    rw c.in_ok-root.ensures.entries (omega (
      arith,
      c.self.invariant,
      length-insert_new g.K.Ord.cmp c.args.entry.now.key.value
          c.args.entry.now.value.value _ (sym new),
    ))

pub invariant_of-self-in-Some : goal.invariant_of-self-in-Some
invariant_of-self-in-Some g c =
    let old = rw (c.in-Some.is, ← c.self.view_is, c.deref.ensures) at c.in_ok-before.ensures in
    rw c.in_ok-root.ensures.entries (c.self.invariant ∙
    sym (length-insert_old g.met.K.Ord.total c.args.entry.now.key.value c.args.entry.now.value.value
    _ _ c.height.ensures.tree.rising (sym old)))

pub returns-in-None-clause-most : goal.returns-in-None-clause-most
returns-in-None-clause-most g c =
    rw (← c.self.view_is) (cost_fits g.K.Ord.cmp _ _ _ _ c.height.ensures.tree c.insert.ensures.most)

pub returns-in-Some-clause-most : goal.returns-in-Some-clause-most
returns-in-Some-clause-most g c =
    rw (← c.self.view_is) (cost_fits g.K.Ord.cmp _ _ _ _ c.height.ensures.tree c.insert.ensures.most)
