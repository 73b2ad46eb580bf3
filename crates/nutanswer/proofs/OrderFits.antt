-- An order fits in what its driver may still be owed.
use Rattle.std.proofs.Common.{arith, ◌≡◌, ◌≤◌, ℕ, length, true, List, Option, Some}
use Rattle.std.proofs.Common.{None, subst, inl, inr, ◌⊎◌}
use Rattle.std.specs.Prelude.{slice_get}
use Rattle.nutdriver.specs.declared.report.Report.{Report}
use Rattle.nutusers.specs.declared.ups_list.UpsId.{UpsId}
use Rattle.nutcommand.specs.declared.command.Command.{Command}
use Rattle.nutanswer.specs.View.{Seen, AskerSeen, UpsSeen, usable, readiness}
use Rattle.nutanswer.specs.Checks.{KnownUps, ups_named}
use Rattle.nutanswer.specs.Rows.{IsSet, IsInstCmd, ComesOf}
use Rattle.nutanswer.specs.Laws.{TakesOrder, OrdersFit}
use Rattle.nutanswer.proofs.Named.{named_is_seen}
use Rattle.nutanswer.proofs.Commands.{each_change}

-- a usable UPS has a driver
connected : (moment max_age : ℕ) (x : Report) → readiness moment max_age x ≡ usable → x.connected ≡ true
connected moment max_age x h = grind arith

module _ (s : Seen) where
  takes : (line : List ℕ) (ups : Option (List ℕ)) (u : KnownUps) (id : UpsId) (x : UpsSeen) →
      ups_named s ups ≡ Some u → u.id ≡ id → readiness s.moment s.max_age u.state.report ≡ usable
      → length line ≤ u.state.free → slice_get s.upses id.place ≡ Some x → TakesOrder line x
  takes line ups u id x named this going fits at =
      let same : u.state ≡ x = cc ((named_is_seen s ups u named).stands, this, at) in
      subst (TakesOrder line) same (record
      { connected = connected s.moment s.max_age u.state.report going; fits = fits })

  fitting : (asker : AskerSeen) (command : Command) (u : UpsId) (line : List ℕ) (id : Option ℕ)
      (x : UpsSeen) → IsSet s asker command u id line ⊎ IsInstCmd s asker command u id line
      → slice_get s.upses u.place ≡ Some x → TakesOrder line x
  fitting asker command u line id x h at = elim h [
    | inl set ↦ takes line set.by_right.ups set.by_right.known u x set.by_right.named
        set.by_right.this set.ready set.fits at
    | inr order ↦ takes line order.by_right.ups order.by_right.known u x order.by_right.named
        order.by_right.this order.ready order.fits at
  ]

pub orders_fit : OrdersFit
orders_fit s asker command u line None x e at =
    fitting s asker command u line None x (subst (ComesOf s asker command) e (each_change s asker command)) at
orders_fit s asker command u line (Some id) x e at =
    fitting s asker command u line (Some id) x (subst (ComesOf s asker command) e (each_change s asker command)) at
