use Rattle.std.proofs.Common.{◌<◌, length, sym, arith}
use Rattle.nutlisting.proofs.AheadLemmas.{front_here, rest_here}
use Rattle.nutlisting.proofs.listing.ahead.Ahead.take.Goals as goal

pub returns-then-is_some-clause-first : goal.returns-then-is_some-clause-first
returns-then-is_some-clause-first c =
    let within : c.self.inside.taken < length c.self.inside.entries.items =
    omega (arith, c.if-self-len.false, c.len.ensures.value) in
    rw (← c.self.view_is) (front_here _ c.self.inside.entries.items c.self.inside.taken _
    c.index-as_slice-self.result within (rw c.as_slice.ensures.value at c.index-as_slice-self.is))

pub returns-then-is_some-clause-others : goal.returns-then-is_some-clause-others
returns-then-is_some-clause-others c =
    let within : c.self.inside.taken < length c.self.inside.entries.items =
    omega (arith, c.if-self-len.false, c.len.ensures.value) in
    rw (← c.self.view_is) (rest_here _ c.self.inside.entries.items c.self.inside.taken _
    c.index-as_slice-self.result within (rw c.as_slice.ensures.value at c.index-as_slice-self.is)
    (sym c.if-is_some.ensures))

pub returns-else-is_some-clause-first : goal.returns-else-is_some-clause-first
returns-else-is_some-clause-first c =
    let within : c.self.inside.taken < length c.self.inside.entries.items =
    omega (arith, c.if-self-len.false, c.len.ensures.value) in
    rw (← c.self.view_is) (front_here _ c.self.inside.entries.items c.self.inside.taken _
    c.index-as_slice-self.result within (rw c.as_slice.ensures.value at c.index-as_slice-self.is))
