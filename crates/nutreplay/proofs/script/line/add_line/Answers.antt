use Rattle.std.proofs.Common.{◌≡◌, Option, Some, None, Result, Ok, Err, is_some, is_ok}
use Rattle.std.specs.Prelude.{OnOk, OnSome}
use Rattle.nutreplay.proofs.script.line.add_line.Goals as goal

of_ok : {A B E : Type 0} (P : Type 0) (o : Option A) (r : Result B E) → is_some o ≡ is_ok r →
    OnOk r P → OnSome o P
of_ok P (Some x) (Ok y) is h = h
of_ok P (Some x) (Err e) is h = cc is
of_ok P None r is h = tt

pub returns-in_ok-name-in-DriverTook-clause-line : goal.returns-in_ok-name-in-DriverTook-clause-line
returns-in_ok-name-in-DriverTook-clause-line c =
    of_ok _ c.ok-in-DriverTook.result c.write-in-DriverTook.result
    c.ok-in-DriverTook.ensures.variant
    (rw (c.in-DriverTook.is, ← c.in_ok-name-in-DriverTook.ensures.name) c.write-in-DriverTook.ensures.bytes)
