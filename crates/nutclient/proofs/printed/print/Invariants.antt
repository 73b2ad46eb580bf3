use Rattle.std.proofs.Common.{◌≡◌, ◌++◌, drop}
use Rattle.nutclient.specs.Printed.{text_of}
use Rattle.nutclient.proofs.printed.print.Given as goal

-- the text so far and that of the items left are the whole text
abbrev pub invariant-loop-item : goal.invariant-loop-item
invariant-loop-item g l = l.text.items ++ text_of l.form (drop l.item-index l.items) ≡ text_of l.form l.fn.items
