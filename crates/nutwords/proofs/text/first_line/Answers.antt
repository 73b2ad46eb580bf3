use Rattle.std.proofs.Common.{◌≡◌, ◌+◌, ◌-◌, [], ◌<◌, length, drop, arith}
use Rattle.std.proofs.Common.{add-one, sym, ◌∙◌, length-drop}
use Rattle.std.proofs.lemmas.Bool.{eqb-false}
use Rattle.std.proofs.lemmas.List.{drop_all}
use Rattle.nutwords.proofs.Lines.{take-all}
use Rattle.nutwords.proofs.TextLemmas.{lines_of-one, lines_of-at}
use Rattle.nutwords.proofs.text.first_line.Goals as goal

pub returns-in-Some : goal.returns-in-Some
returns-in-Some c =
    let bytes = c.args.bytes.now in
    let at = c.in-Some.at in
    let found = c.in-Some.ensures in
    rw (take-all (length bytes - (at + 1)) (drop (at + 1) bytes) (omega (arith, length-drop (at + 1) bytes)), add-one)
    (lines_of-at bytes at found.0.high (λ j below e. found.0.before j (omega arith) below e) found.1)

pub returns-in-None : goal.returns-in-None
returns-in-None c =
    let bytes = c.args.bytes.now in
    let some : 0 < length bytes = omega
    (arith, eqb-false (length bytes) 0 (sym c.is_empty.ensures ∙ c.if-is_empty.false)) in
    let none : drop (length bytes) bytes ≡ [] = drop_all (length bytes) bytes (omega arith) in
    rw (
      take-all (length bytes - length bytes) (drop (length bytes) bytes)
          (omega (arith, length-drop (length bytes) bytes)),
      none,
    ) (lines_of-one bytes some (λ j below e. c.in-None.ensures j (omega arith) below e))
