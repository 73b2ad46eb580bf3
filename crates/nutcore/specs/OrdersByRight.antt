-- No order is given without right (RFC 9271: SET, INSTCMD; upsd.users(5)).
use Rattle.std.specs.Prelude.{◌≡◌, ℕ, true, List, [], ◌∷◌, ◌++◌, Option, Some, ◌⊎◌}
use Rattle.std.specs.List.{flat_map}
use Rattle.nutdriver.specs.Variable.{VariableState}
use Rattle.nutdriver.specs.Tree.{variable_at, has_command}
use Rattle.nutusers.specs.declared.rights.Right.TheVariants as rights
use Rattle.nutusers.specs.declared.ups_list.UpsId.{UpsId}
use Rattle.nutcommand.specs.declared.command.Command.TheVariants.{SetVar, InstCmd}
use Rattle.nutanswer.specs.View.{readiness, usable}
use Rattle.nutanswer.specs.Rows.{value_given, IsIdOfOrder}
use Rattle.nutanswer.specs.Orders.{is_short_enough, is_listed, is_in_ranges, right_to, set_line}
use Rattle.nutanswer.specs.Orders.{instcmd_line, ok_words}
use Rattle.nutcore.specs.Reply.{seen, asker}
use Rattle.nutcore.specs.declared.event.Event.{Event}
use Rattle.nutcore.specs.declared.event.Outcome.{Outcome}
use Rattle.nutcore.specs.Server.{ServerState}
use Rattle.nutcore.specs.History.{Execution, of_line, of_notice, executions}
use Rattle.nutcore.specs.ByRight.{IsByRight}
use Rattle.nutcore.specs.DriverOrders.{ServerLine, dump_all, ping, order, Connections, last, lost}
use Rattle.nutcore.specs.DriverOrders.{connections, given_by_line}

-- The line is `SET VAR` of this UPS, answered `OK`, or `OK TRACKING` and the first available id
-- where the session's orders are tracked. The session has given the name and the password of a user
-- with the right to set variables. Its UPS is usable, and has the variable, which clients may set,
-- and which may have this value at that moment. The order is `SET name "value"`, followed by
-- `TRACKING` and the id where it is tracked.
pub record IsSetByRight (u : UpsId) (bytes : List ℕ) (s : ServerState) (c : ℕ) (line : List ℕ)
    : Type 0 where
  pub name : List ℕ
  pub value : List ℕ
  pub variable : VariableState
  pub id : Option ℕ
  pub by_right : IsByRight s c line (λ ups. SetVar ups (Some name) (Some value)) rights.Set
      (ok_words id) u
  pub ready : readiness s.moment s.max_age by_right.known.state.report ≡ usable
  pub there : variable_at by_right.known.state.report.tree name ≡ Some variable
  pub writable : variable.flags.rw ≡ true
  pub short : is_short_enough variable value ≡ true
  pub listed : is_listed variable.enum_values value ≡ true
  pub in_range : is_in_ranges variable.ranges value ≡ true
  pub id_is : IsIdOfOrder (seen s) (asker c s) id
  pub order_is : bytes ≡ set_line name value id

-- The line is `INSTCMD` of this UPS, answered so, of a session that has given the name and the
-- password of a user with the right to this command; its UPS is usable, and has the command. The
-- order is `INSTCMD name`, with the value after it where the line gives one, and `TRACKING` and
-- the id where it is tracked.
pub record IsCommandedByRight (u : UpsId) (bytes : List ℕ) (s : ServerState) (c : ℕ) (line : List ℕ)
    : Type 0 where
  pub name : List ℕ
  pub value : Option (List ℕ)
  pub id : Option ℕ
  pub by_right : IsByRight s c line (λ ups. InstCmd ups (Some name) (value_given value))
      (right_to name) (ok_words id) u
  pub ready : readiness s.moment s.max_age by_right.known.state.report ≡ usable
  pub there : has_command by_right.known.state.report.tree name ≡ true
  pub id_is : IsIdOfOrder (seen s) (asker c s) id
  pub order_is : bytes ≡ instcmd_line name value id

-- The execution is by right one of this order to this UPS.
abbrev pub IsOrderByRight : UpsId → List ℕ → Execution → Type 0
IsOrderByRight u bytes (of_line s c line) =
    IsSetByRight u bytes s c line ⊎ IsCommandedByRight u bytes s c line
IsOrderByRight u bytes (of_notice s c) = ⊥

-- The orders are exactly those of the executions that are by right, one each, in their order.
pub data AreOrdersByRight (u : UpsId) : List Execution → List (List ℕ) → Type 0 where
  none_left : AreOrdersByRight u [] []
  given : {x : Execution} {bytes : List ℕ} {xs : List Execution} {orders : List (List ℕ)}
      → IsOrderByRight u bytes x → AreOrdersByRight u xs orders
      → AreOrdersByRight u (x ∷ xs) (bytes ∷ orders)
  passed_over : {x : Execution} {xs : List Execution} {orders : List (List ℕ)}
      → ((bytes : List ℕ) → IsOrderByRight u bytes x → ⊥) → AreOrdersByRight u xs orders
      → AreOrdersByRight u (x ∷ xs) orders

-- The order of a line to a driver, if it is one.
abbrev pub order_of : ServerLine → List (List ℕ)
order_of dump_all = []
order_of ping = []
order_of (order bytes) = bytes ∷ []

-- The lines to the driver in all connections of a run.
abbrev pub all_given : Connections → List ServerLine
all_given (last now) = now.given
all_given (lost first later) = first.given ++ all_given later

-- The orders that a run gave the driver of this UPS.
abbrev pub orders_given : UpsId → ServerState → List Event → List Outcome → List (List ℕ)
orders_given u s es os = flat_map order_of (all_given (connections u s es os))

-- The orders that a run gave the driver of a UPS are exactly those of the lines that it executed by
-- right, one each, in their order.
abbrev pub EachOrderIsByRight : Type 0
EachOrderIsByRight =
    (old : ServerState) (events : List Event) (outcomes : List Outcome) (u : UpsId)
    → AreOrdersByRight u (executions old events outcomes) (orders_given u old events outcomes)

-- They are the orders that the lines that it executed give that driver, in their order.
abbrev pub TheOrdersGivenAreThoseOfTheLines : Type 0
TheOrdersGivenAreThoseOfTheLines =
    (old : ServerState) (events : List Event) (outcomes : List Outcome) (u : UpsId)
    → orders_given u old events outcomes
    ≡ flat_map order_of (flat_map (given_by_line u) (executions old events outcomes))
