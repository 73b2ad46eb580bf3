-- The orders that a run gave are those of its lines that are by right.
use Rattle.std.proofs.Common.{arith, ◌≡◌, ◌∙◌, append_assoc, ℕ, Bool, List, []}
use Rattle.std.proofs.Common.{◌∷◌, ◌++◌, Option, Some, None, Ok, refl, sym, ap, subst}
use Rattle.std.proofs.Common.{cond, inl, inr}
use Rattle.std.specs.List.{flat_map}
use Rattle.std.proofs.lemmas.Grind.{flat_map-append}
use Rattle.nutcore.proofs.Common.{UpsId, Change, Event, Outcome, ServerState, after}
use Rattle.nutcommand.specs.declared.command.Command.{Command}
use Rattle.nutcommand.specs.declared.command.Command.TheVariants.{SetVar, InstCmd}
use Rattle.nutanswer.specs.Rows.{IsSet, IsInstCmd, IsIdOfOrder, value_given}
use Rattle.nutusers.specs.declared.rights.Right.TheVariants as rights
use Rattle.nutcore.specs.ByRight.{IsByRight}
use Rattle.std.specs.Prelude.{◌⊎◌}
use Rattle.nutcommand.specs.Command.{read_command}
use Rattle.nutanswer.specs.Checks.{KnownUps}
use Rattle.nutanswer.specs.Orders.{right_to, set_line, instcmd_line, ok_words, order as order_to}
use Rattle.nutanswer.specs.Answer.{answer_to, change_of_answer}
use Rattle.nutcore.specs.Reply.{seen, asker, change_by, text_to}
use Rattle.nutcore.specs.History.{Execution, of_line, of_notice, executions_in_event, executions}
use Rattle.nutcore.specs.DriverOrders.{ServerLine, dump_all, ping, order, given_by_change}
use Rattle.nutcore.specs.DriverOrders.{given_by_line, given_beside_lines, given_in_event}
use Rattle.nutcore.specs.DriverOrders.{taken_in_event, is_lost_by, Connections, in_front}
use Rattle.nutcore.specs.DriverOrders.{connections}
use Rattle.nutcore.specs.OrdersByRight.{IsOrderByRight, AreOrdersByRight, none_left, given}
use Rattle.nutcore.specs.OrdersByRight.{passed_over, order_of, all_given, orders_given}
use Rattle.nutcore.specs.OrdersByRight.{EachOrderIsByRight}
use Rattle.nutcore.proofs.Events.{of_given_beside}
use Rattle.nutcore.proofs.Changes.{of_upses}
use Rattle.nutcore.proofs.UpsPlaces.{same_ups}
use Rattle.nutanswer.proofs.PublicLaws.{each_order_answered_ok_is_given}
use Rattle.nutcore.proofs.Rows.{comes_of_line, by_right}

-- a line that gives an order is by right
gives_order : (s : ServerState) (c : ℕ) (line : List ℕ) (v : UpsId) (bytes : List ℕ)
    (id : Option ℕ) → change_by s c (read_command line) ≡ order_to v bytes id
    → (command : Command) × (read_command line ≡ Ok (Some command)) ×
    (IsSet (seen s) (asker c s) command v id bytes ⊎ IsInstCmd (seen s) (asker c s) command v id bytes)
gives_order s c line v bytes None change = let came =
    comes_of_line s c line (order_to v bytes None) refl change in (came.command, came.read, came.row)
gives_order s c line v bytes (Some id) change = let came =
    comes_of_line s c line (order_to v bytes (Some id)) refl change in (came.command, came.read, came.row)

pub by_read : (s : ServerState) (c : ℕ) (line : List ℕ) (u v : UpsId) (bytes : List ℕ)
    (id : Option ℕ) → v.place ≡ u.place → change_by s c (read_command line) ≡
    order_to v bytes id → IsOrderByRight u bytes (of_line s c line)
unfolding by_right
by_read s c line u v bytes id place change =
    let came = gives_order s c line v bytes id change in
    subst (λ (w : UpsId). IsOrderByRight w bytes (of_line s c line)) (same_ups v u place) (elim came.2 [
      | inl set ↦ inl (record {
        name = set.name;
        value = set.value;
        variable = set.variable;
        id = id;
        by_right = by_right s c line came.0 _ _ _ v came.1 set.by_right;
        ready = set.ready;
        there = set.there;
        writable = set.writable;
        short = set.short;
        listed = set.listed;
        in_range = set.in_range;
        id_is = set.id_is;
        order_is = set.line_is;
      })
      | inr command ↦ inr (record {
        name = command.name;
        value = command.value;
        id = id;
        by_right = by_right s c line came.0 _ _ _ v came.1 command.by_right;
        ready = command.ready;
        there = command.there;
        id_is = command.id_is;
        order_is = command.line_is;
      })
    ])

-- and a line that is by right gives its order
given_order : (u v : UpsId) (bytes : List ℕ) (id : Option ℕ) → v ≡ u →
    given_by_change u (order_to v bytes id) ≡ order bytes ∷ []
given_order u v bytes id e = grind arith

change_gives : (u : UpsId) (bytes line_bytes : List ℕ) (id : Option ℕ) (s : ServerState)
    (c : ℕ) (line : List ℕ) (command : Command) (known : KnownUps) → read_command line ≡
    Ok (Some command) → change_of_answer (answer_to (seen s) (asker c s) command) ≡ order_to known.id line_bytes id
    → known.id ≡ u → bytes ≡ line_bytes →
    given_by_change u (change_by s c (read_command line)) ≡ order bytes ∷ []
change_gives u bytes line_bytes id s c line command known read change this is =
    cc (read, change, given_order u known.id line_bytes id this, is)

set_gives : (u : UpsId) (bytes : List ℕ) (s : ServerState) (c : ℕ) (line name value : List ℕ)
    (id : Option ℕ) → IsByRight s c line (λ ups. SetVar ups (Some name) (Some value)) rights.Set (ok_words id) u
    → IsIdOfOrder (seen s) (asker c s) id → bytes ≡ set_line name value id →
    given_by_change u (change_by s c (read_command line)) ≡ order bytes ∷ []
set_gives u bytes s c line name value None r id_is is =
    change_gives u bytes (set_line name value None) None s c line _ r.known r.command
    (each_order_answered_ok_is_given.set (seen s) (asker c s) r.ups name value r.known r.named
    (cc (r.command, r.answered))) r.this is
set_gives u bytes s c line name value (Some id) r id_is is =
    change_gives u bytes (set_line name value (Some id)) (Some id) s c line _ r.known r.command
    (each_order_answered_ok_is_given.tracked_set (seen s) (asker c s) r.ups name value r.known id
    r.named id_is.1 (ap (text_to s c) (sym r.command) ∙ r.answered)) r.this is

command_gives : (u : UpsId) (bytes : List ℕ) (s : ServerState) (c : ℕ) (line name : List ℕ)
    (value : Option (List ℕ)) (id : Option ℕ) →
    IsByRight s c line (λ ups. InstCmd ups (Some name) (value_given value)) (right_to name) (ok_words id) u
    → IsIdOfOrder (seen s) (asker c s) id → bytes ≡ instcmd_line name value id →
    given_by_change u (change_by s c (read_command line)) ≡ order bytes ∷ []
command_gives u bytes s c line name value None r id_is is =
    change_gives u bytes (instcmd_line name value None) None s c line _ r.known r.command
    (each_order_answered_ok_is_given.command (seen s) (asker c s) r.ups name value r.known r.named
    (ap (text_to s c) (sym r.command) ∙ r.answered)) r.this is
command_gives u bytes s c line name value (Some id) r id_is is =
    change_gives u bytes (instcmd_line name value (Some id)) (Some id) s c line _ r.known r.command
    (each_order_answered_ok_is_given.tracked_command (seen s) (asker c s) r.ups name value r.known
    id r.named id_is.1 (ap (text_to s c) (sym r.command) ∙ r.answered)) r.this is

gives : (u : UpsId) (bytes : List ℕ) (x : Execution) → IsOrderByRight u bytes x →
    given_by_line u x ≡ order bytes ∷ []
gives u bytes (of_line s c line) h = elim h [
  | inl set ↦ set_gives u bytes s c line set.name set.value set.id set.by_right set.id_is set.order_is
  | inr command ↦ command_gives u bytes s c line command.name command.value command.id
      command.by_right command.id_is command.order_is
]
gives u bytes (of_notice s c) h = absurd h

-- one execution
abbrev Joins : UpsId → Execution → List ServerLine → Type 0
Joins u x told = (xs : List Execution) (rest : List ServerLine) →
    AreOrdersByRight u xs (flat_map order_of rest) → AreOrdersByRight u (x ∷ xs) (flat_map order_of (told ++ rest))

passes : (u : UpsId) (x : Execution) → given_by_line u x ≡ [] → Joins u x []
passes u x e xs rest h = passed_over (λ bytes k. absurd (cc (e, gives u bytes x k))) h

line_joins : (u : UpsId) (s : ServerState) (c : ℕ) (line : List ℕ) (change : Change) →
    change_by s c (read_command line) ≡ change → Joins u (of_line s c line) (given_by_change u change)
line_joins u s c line change e =
    of_upses (λ told ys. given_by_line u (of_line s c line) ≡ told u →
    Joins u (of_line s c line) (told u)) change [] (passes u (of_line s c line))
    (λ v f told does here. elim (does.orders u) [
      | inl none ↦ rw none (passes u (of_line s c line) (here ∙ none))
      | inr (bytes, id, own, is, told_is) ↦ rw told_is
          (λ xs rest h. given (by_read s c line u v bytes id own (e ∙ is)) h)
    ])
    (ap (given_by_change u) e)

joins : (u : UpsId) (x : Execution) → Joins u x (given_by_line u x)
joins u (of_line s c line) = line_joins u s c line (change_by s c (read_command line)) refl
joins u (of_notice s c) = passes u (of_notice s c) refl

all_join : (u : UpsId) (xs : List Execution) →
    AreOrdersByRight u xs (flat_map order_of (flat_map (given_by_line u) xs))
all_join u [] = none_left
all_join u (x ∷ xs) = joins u x xs (flat_map (given_by_line u) xs) (all_join u xs)

-- what a run gave beside lines is no order
beside_no_order : (u : UpsId) (s : ServerState) (e : Event) → flat_map order_of (given_beside_lines u s e) ≡ []
beside_no_order u s e = of_given_beside u s (λ told. flat_map order_of told ≡ []) refl
    (λ b. no_order dump_all refl b) (λ b. no_order ping refl b) e
  where
    no_order : (t : ServerLine) → order_of t ≡ [] → (b : Bool) → flat_map order_of (cond b (t ∷ []) []) ≡ []
    no_order t none b = grind (arith, none)

pub all_in_front : (b : Bool) (told : List ServerLine) (taken : List ℕ) (later : Connections) →
    all_given (in_front b told taken later) ≡ told ++ all_given later
all_in_front b told taken later = grind (arith, append_assoc)

pub run_orders : (u : UpsId) (s : ServerState) (es : List Event) (os : List Outcome) →
    orders_given u s es os ≡ flat_map order_of (flat_map (given_by_line u) (executions s es os))
run_orders u s [] os = refl
run_orders u s (e ∷ es) [] = refl
run_orders u s (e ∷ es) (o ∷ os) =
    let here = executions_in_event s e o in
    let later = executions (after s e o) es os in
    let by_lines : List ServerLine = flat_map (given_by_line u) here in
    cc (
      all_in_front (is_lost_by u s e o) (given_in_event u s e o) (taken_in_event u s e)
          (connections u (after s e o) es os),
      flat_map-append order_of (given_in_event u s e o) (all_given (connections u (after s e o) es os)),
      flat_map-append order_of (given_beside_lines u s e) by_lines,
      beside_no_order u s e,
      run_orders u (after s e o) es os,
      flat_map-append order_of by_lines (flat_map (given_by_line u) later),
      flat_map-append (given_by_line u) here later,
    )

pub orders_by_right : EachOrderIsByRight
orders_by_right old es os u = subst (AreOrdersByRight u (executions old es os))
    (sym (run_orders u old es os)) (all_join u (executions old es os))
