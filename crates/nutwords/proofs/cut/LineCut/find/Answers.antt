use Rattle.std.proofs.Common.{rules, ◌≡◌, ◌+◌, ◌-◌, ◌∙◌, [], ◌++◌, take}
use Rattle.std.proofs.Common.{drop, None, sym, arith, length-append, length-take, refl}
use Rattle.std.proofs.lemmas.Grind.{common_steps}
use Rattle.nutwords.proofs.Pieces.{split_line-short}
use Rattle.nutwords.specs.declared.limits.TheConstants.{LINE_ROOM}
use Rattle.nutwords.specs.SplitLine.{split_line}
use Rattle.nutwords.proofs.Lines.{split_line-neither, split_line-in_piece, split_line-too_long, take-all}
use Rattle.nutwords.proofs.cut.LineCut.find.Goals as goal

pub invariant_of-self-then-piece-room : goal.invariant_of-self-then-piece-room
invariant_of-self-then-piece-room c =
    let held : split_line c.self.inside.held.items ≡ None = c.self.invariant.0 in
    let piece : split_line c.args.piece.now ≡ None =
    rw (take-all (LINE_ROOM - c.len-room.result) c.args.piece.now (omega arith)) at c.in-None.ensures in
    let items : c.try_extend_from_slice-in-None.new.self.items ≡ c.self.inside.held.items ++
    c.args.piece.now = search rules in (
      rw items (split_line-neither c.self.inside.held.items c.args.piece.now held piece),
      rw (items, length-append) (omega arith),
    )

pub invariant_of-self : goal.invariant_of-self
invariant_of-self c =
    let piece = c.in-Some.ensures in
    let items : c.try_extend_from_slice.new.self.items ≡ c.self.inside.held.items ++
    take c.in-Some.at c.args.piece.now = search rules in
    let short : split_line (take c.in-Some.at c.args.piece.now) ≡ None =
    split_line-short c.in-Some.at c.args.piece.now (take c.in-Some.at c.args.piece.now)
    (drop (c.in-Some.at + 1) c.args.piece.now) piece.2 (rw length-take (omega arith)) in (
      rw items (split_line-neither c.self.inside.held.items (take c.in-Some.at c.args.piece.now)
          c.self.invariant.0 short),
      rw (items, length-append, length-take) (omega arith),
    )

pub returns-then-is_empty : goal.returns-then-is_empty
returns-then-is_empty c =
    let empty : c.self.inside.held.items ≡ [] = first_of (search rules, grind (arith, common_steps)) in
    let now : c.args.self.now ≡ [] = sym c.self.view_is ∙ empty in
    let piece = c.in-Some.ensures in (
      (rw now piece.2, omega arith, omega arith, rw length-take (omega arith)),
      first_of (search rules, grind (arith, common_steps)),
    )

pub returns-else-is_empty : goal.returns-else-is_empty
returns-else-is_empty c =
    let held : split_line c.self.inside.held.items ≡ None = c.self.invariant.0 in
    let self : c.self.inside.held.items ≡ c.args.self.now = c.self.view_is in
    let items : c.try_extend_from_slice.new.self.items ≡ c.self.inside.held.items ++
    take c.in-Some.at c.args.piece.now = search rules in
    let piece = c.in-Some.ensures in (
      rw (← self, items) (split_line-in_piece c.self.inside.held.items c.args.piece.now
          c.in-Some.at held piece.2),
      omega arith,
      omega arith,
      rw (items, length-append, length-take) (omega arith),
    )

pub returns-in-None : goal.returns-in-None
returns-in-None c =
    let held : split_line c.self.inside.held.items ≡ None = c.self.invariant.0 in
    let self : c.self.inside.held.items ≡ c.args.self.now = c.self.view_is in
    let piece : split_line c.args.piece.now ≡ None =
    rw (take-all (LINE_ROOM - c.len-room.result) c.args.piece.now (omega arith)) at c.in-None.ensures in
    let items : c.try_extend_from_slice-in-None.new.self.items ≡ c.self.inside.held.items ++
    c.args.piece.now = search rules in (
      rw (← self) (split_line-neither c.self.inside.held.items c.args.piece.now held piece),
      rw (← self, length-append) (omega arith),
      rw (items, self) refl,
    )

pub returns-in-None-2 : goal.returns-in-None-2
returns-in-None-2 c =
    let held : split_line c.self.inside.held.items ≡ None = c.self.invariant.0 in
    let self : c.self.inside.held.items ≡ c.args.self.now = c.self.view_is in (
      rw (← self) (split_line-too_long LINE_ROOM (LINE_ROOM - c.len-room.result)
          c.self.inside.held.items c.args.piece.now (omega arith) held c.in-None.ensures),
      rw (← self, length-append) (omega arith),
      search rules,
    )
