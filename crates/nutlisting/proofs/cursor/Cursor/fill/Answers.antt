use Rattle.std.proofs.Common.{◌≡◌, ◌+◌, ◌-◌, ◌<◌, ◌++◌, ◌∙◌, List, ap}
use Rattle.std.proofs.Common.{length, take, drop, min, arith, ℕ, length-append, length-drop}
use Rattle.std.proofs.Common.{length-take}
use Rattle.std.proofs.lemmas.List.{take_rest}
use Rattle.std.specs.Option.{option_copied}
use Rattle.nutlisting.specs.declared.outbox.TheConstants.{QUEUE_LIMIT}
use Rattle.nutlisting.proofs.Filling.{joins_alike}
use Rattle.nutlisting.proofs.Positions.{in_line, position_next, position_within, placed_whole}
use Rattle.nutlisting.proofs.Positions.{placed_piece, falls_whole}
use Rattle.nutlisting.proofs.cursor.Cursor.fill.Goals as goal

pub loop-content-smaller-then-offset-placed : goal.loop-content-smaller-then-offset-placed
loop-content-smaller-then-offset-placed c =
    falls_whole c.self.inside.content (c.loop-content.stage, option_copied c.loop-content.last)
    (c.in-Some.after.0, option_copied c.in-Some.after.1) c.loop-content.offset c.next.new.line.items
    c.loop-content.invariant.at c.in-Some.ensures.next

pub loop-content-preserved-then-offset-placed : goal.loop-content-preserved-then-offset-placed
loop-content-preserved-then-offset-placed c =
    let line : List ℕ = c.next.new.line.items in
    let offset : ℕ = c.loop-content.offset in
    let room : length c.loop-content.queue < QUEUE_LIMIT = omega arith in
    let value : c.as_slice-line.result.now ≡ line = c.as_slice-line.ensures.value in
    let piece : take (length c.as_slice-line.result.now - offset)
    (drop offset c.as_slice-line.result.now) ≡ drop offset line =
    take_rest c.as_slice-line.result.now offset ∙ ap (drop offset) value in
    let joins : c.fill-placed.new.self ≡ c.loop-content.queue ++
    take c.fill-placed.result (drop offset line) = (rw piece at c.fill-placed.ensures.joins) in
    let count : c.fill-placed.result ≡
    min (length (drop offset line)) (QUEUE_LIMIT - length c.loop-content.queue) =
    (rw piece at c.fill-placed.ensures.count) in
    let full : offset + c.fill-placed.result ≡ length line = omega (arith, ap length value) in
    record {
      at = position_next c.self.inside.content
          (c.loop-content.stage, option_copied c.loop-content.last)
          (c.in-Some.after.0, option_copied c.in-Some.after.1) offset line
          c.loop-content.invariant.at c.in-Some.ensures.next;
      ahead = λ left. c.in-Some.ensures.ahead;
      alike = joins_alike _ _ _ _ _ _ _ _ _ c.loop-content.invariant.alike
          (rw (joins, c.in-Some.ensures.counts)
          (placed_whole c.self.inside.content
          (c.loop-content.stage, option_copied c.loop-content.last)
          (c.in-Some.after.0, option_copied c.in-Some.after.1) offset c.fill-placed.result
          c.loop-content.renders c.loop-content.queue line c.loop-content.invariant.at
          c.in-Some.ensures.next room count full));
    }

pub loop-content-preserved : goal.loop-content-preserved
loop-content-preserved c =
    let line : List ℕ = c.next.new.line.items in
    let offset : ℕ = c.loop-content.offset in
    let room : length c.loop-content.queue < QUEUE_LIMIT = omega arith in
    let value : c.as_slice-line.result.now ≡ line = c.as_slice-line.ensures.value in
    let piece : take (length c.as_slice-line.result.now - offset)
    (drop offset c.as_slice-line.result.now) ≡ drop offset line =
    take_rest c.as_slice-line.result.now offset ∙ ap (drop offset) value in
    let joins : c.fill-placed.new.self ≡ c.loop-content.queue ++
    take c.fill-placed.result (drop offset line) = (rw piece at c.fill-placed.ensures.joins) in
    let count : c.fill-placed.result ≡
    min (length (drop offset line)) (QUEUE_LIMIT - length c.loop-content.queue) =
    (rw piece at c.fill-placed.ensures.count) in
    let part : offset + c.fill-placed.result ≡ length line → ⊥ =
    λ h. c.if-offset-placed.false (omega (arith, h, ap length value)) in
    let begun : offset < length line =
    in_line c.self.inside.content (c.loop-content.stage, option_copied c.loop-content.last)
    (c.in-Some.after.0, option_copied c.in-Some.after.1) offset line c.loop-content.invariant.at
    c.in-Some.ensures.next in
    let within : offset + c.fill-placed.result < length line =
    omega (arith, length-drop offset line, ap length value) in
    record {
      at = position_within c.self.inside.content
          (c.loop-content.stage, option_copied c.loop-content.last)
          (c.in-Some.after.0, option_copied c.in-Some.after.1) offset
          (offset + c.fill-placed.result) line c.loop-content.invariant.at c.in-Some.ensures.next within;
      ahead = λ left. absurd (omega (
        arith,
        left,
        ap length joins,
        length-append c.loop-content.queue (take c.fill-placed.result (drop offset line)),
        length-take c.fill-placed.result (drop offset line),
        length-drop offset line,
      ));
      alike = joins_alike _ _ _ _ _ _ _ _ _ c.loop-content.invariant.alike
          (rw (joins, c.in-Some.ensures.counts)
          (placed_piece c.self.inside.content
          (c.loop-content.stage, option_copied c.loop-content.last)
          (c.in-Some.after.0, option_copied c.in-Some.after.1) offset c.fill-placed.result
          c.loop-content.renders c.loop-content.queue line c.loop-content.invariant.at
          c.in-Some.ensures.next room count part));
    }
