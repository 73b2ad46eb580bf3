-- Each line to a driver is whole.
use Rattle.std.proofs.Common.{◌≡◌, ◌∙◌, ℕ, Bool, List, [], ◌∷◌, ◌++◌}
use Rattle.std.proofs.Common.{Option, Some, None, refl, sym, subst, cond, arith, inl, inr}
use Rattle.std.specs.Prelude.{IsTrue, codes}
use Rattle.std.specs.List.{flat_map}
use Rattle.nutwords.specs.Reading.{is_name, is_value}
use Rattle.nutwords.proofs.PublicLaws.{no_line_without_lf}
use Rattle.nutcore.proofs.Common.{cond_both, UpsId, Change, Event, Outcome, ServerState, after}
use Rattle.nutcommand.specs.Command.{read_command, IsLawfulReading}
use Rattle.nutanswer.specs.Orders.{set_line, instcmd_line}
use Rattle.nutcore.specs.Reply.{change_by}
use Rattle.nutcore.specs.History.{Execution, of_line, of_notice, executions_in_event}
use Rattle.nutcore.specs.Sound.{Each}
use Rattle.nutcore.specs.DriverOrders.{ServerLine, dump_all, ping, order, text_of, given_by_change}
use Rattle.nutcore.specs.DriverOrders.{given_by_line, given_beside_lines, given_in_event}
use Rattle.nutcore.specs.DriverOrders.{taken_in_event, is_lost_by, connections}
use Rattle.nutcore.specs.OrdersByRight.{IsOrderByRight, all_given}
use Rattle.nutcore.specs.ServerLines.{IsSpelled, asks_for_all, asks_whether_there, sets, commands}
use Rattle.nutcore.specs.ServerLines.{commands_with, IsLineToDriver, EachLineToADriverIsWhole}
use Rattle.nutcore.proofs.Events.{of_given_beside}
use Rattle.nutcore.proofs.Changes.{of_upses}
use Rattle.nutcore.proofs.SoundUps.{each_join}
use Rattle.nutanswer.specs.Rows.{value_given}
use Rattle.nutlisting.specs.Lawful.{IsLawfulText}
use Rattle.nutlisting.specs.Lines.{IsWholeLine}
use Rattle.nutlisting.proofs.PublicLaws.{lawful_words_are_a_line}
use Rattle.nutanswer.proofs.PublicLaws.{order_lines_are_whole}
use Rattle.nutcommand.proofs.PublicLaws.{what_is_read_is_lawful}
use Rattle.nutcore.proofs.OrdersByRight.{by_read, all_in_front}
use Rattle.nutwords.specs.declared.limits.TheConstants.{LINE_LIMIT}

-- a whole line has no LF before its end
line_is : (told : ServerLine) → IsSpelled told → IsWholeLine (text_of told) → IsLineToDriver told
line_is told spelled whole = record {
  spelled = spelled;
  whole = whole;
  one = (no_line_without_lf whole.line).1 (lawful_words_are_a_line.no_lf whole.line whole.answer.lawful);
}

bare_line : (line : List ℕ) → IsLawfulText LINE_LIMIT line → IsWholeLine (line ++ 10 ∷ [])
bare_line line h = record { line = line; whole = refl; answer = record { fits = h.short; lawful = h.lawful } }

is_line : (told : ServerLine) → IsSpelled told → IsLineToDriver told
is_line _ asks_for_all = line_is dump_all asks_for_all
    (bare_line (codes "DUMPALL") (record { short = omega arith; lawful = refl }))
is_line _ asks_whether_there = line_is ping asks_whether_there
    (bare_line (codes "PING") (record { short = omega arith; lawful = refl }))
is_line _ (sets name value id n v) =
    line_is (order (set_line name value id)) (sets name value id n v) (order_lines_are_whole.set name value id n v)
is_line _ (commands name id n) = line_is (order (instcmd_line name None id)) (commands name id n)
    (order_lines_are_whole.command name None id n tt)
is_line _ (commands_with name value id n v) =
    line_is (order (instcmd_line name (Some value) id)) (commands_with name value id n v)
    (order_lines_are_whole.command name (Some value) id n v)

-- an order by right is spelled so
spelled_command : (name : List ℕ) (value : Option (List ℕ)) (id : Option ℕ) →
    IsTrue (is_name name) → ((given : List ℕ) → value_given value ≡ Some (Some given) →
    IsTrue (is_value given)) → IsSpelled (order (instcmd_line name value id))
spelled_command name None id n v = commands name id n
spelled_command name (Some value) id n v = commands_with name value id n (v value refl)

by_right_spelled : (u : UpsId) (bytes : List ℕ) (s : ServerState) (c : ℕ) (line : List ℕ) →
    IsOrderByRight u bytes (of_line s c line) → IsSpelled (order bytes)
by_right_spelled u bytes s c line h =
    let read = what_is_read_is_lawful line in
    elim h [
      | inl set ↦ (let lawful = subst IsLawfulReading set.by_right.command read in
          rw set.order_is (sets set.name set.value set.id (lawful.0 set.name refl) (lawful.1 set.value refl)))
      | inr command ↦ (let lawful = subst IsLawfulReading command.by_right.command read in
          subst (λ (b : List ℕ). IsSpelled (order b)) (sym command.order_is)
          (spelled_command command.name command.value command.id (lawful.0 command.name refl) lawful.1))
    ]

change_gives : (u : UpsId) (s : ServerState) (c : ℕ) (line : List ℕ) (change : Change) →
    change_by s c (read_command line) ≡ change → Each IsLineToDriver (given_by_change u change)
change_gives u s c line change e = of_upses (λ told ys. Each IsLineToDriver (told u)) change [] tt (λ v f told does.
    elim (does.orders u) [
      | inl none ↦ rw none tt
      | inr (bytes, id, own, is, told_is) ↦ rw
          told_is (
            is_line (order bytes)
                (by_right_spelled u bytes s c line (by_read s c line u v bytes id own (e ∙ is))),
            tt,
          )
    ])

lines_give : (u : UpsId) (xs : List Execution) → Each IsLineToDriver (flat_map (given_by_line u) xs)
lines_give u [] = tt
lines_give u (of_line s c line ∷ xs) =
    each_join IsLineToDriver (given_by_change u (change_by s c (read_command line)))
    (flat_map (given_by_line u) xs) (change_gives u s c line (change_by s c (read_command line)) refl) (lines_give u xs)
lines_give u (of_notice s c ∷ xs) = lines_give u xs

if_gives : (b : Bool) (told : ServerLine) → IsSpelled told → Each IsLineToDriver (cond b (told ∷ []) [])
if_gives b told h = cond_both b (told ∷ []) [] (Each IsLineToDriver) (λ e. (is_line told h, tt)) (λ e. tt)

beside_gives : (u : UpsId) (s : ServerState) (e : Event) → Each IsLineToDriver (given_beside_lines u s e)
beside_gives u s e = of_given_beside u s (Each IsLineToDriver) tt
    (λ b. if_gives b dump_all asks_for_all) (λ b. if_gives b ping asks_whether_there) e

event_gives : (u : UpsId) (s : ServerState) (e : Event) (o : Outcome) → Each IsLineToDriver (given_in_event u s e o)
event_gives u s e o = each_join IsLineToDriver (given_beside_lines u s e)
    (flat_map (given_by_line u) (executions_in_event s e o)) (beside_gives u s e)
    (lines_give u (executions_in_event s e o))

pub run_gives : EachLineToADriverIsWhole
run_gives s [] os u = tt
run_gives s (e ∷ es) [] u = tt
run_gives s (e ∷ es) (o ∷ os) u =
    subst (Each IsLineToDriver) (sym
    (all_in_front (is_lost_by u s e o) (given_in_event u s e o) (taken_in_event u s e)
    (connections u (after s e o) es os)))
    (each_join IsLineToDriver (given_in_event u s e o)
    (all_given (connections u (after s e o) es os)) (event_gives u s e o) (run_gives (after s e o) es os u))
