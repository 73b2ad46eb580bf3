-- A driver is sent only whole lines (NUT: driver socket protocol).
use Rattle.std.specs.Prelude.{◌≡◌, ℕ, List, Option, Some, None, IsTrue}
use Rattle.nutwords.specs.Reading.{is_name, is_value}
use Rattle.nutwords.specs.SplitLine.{split_line}
use Rattle.nutlisting.specs.Lines.{IsWholeLine}
use Rattle.nutusers.specs.declared.ups_list.UpsId.{UpsId}
use Rattle.nutanswer.specs.Orders.{set_line, instcmd_line}
use Rattle.nutcore.specs.declared.event.Event.{Event}
use Rattle.nutcore.specs.declared.event.Outcome.{Outcome}
use Rattle.nutcore.specs.Server.{ServerState}
use Rattle.nutcore.specs.Sound.{Each}
use Rattle.nutcore.specs.DriverOrders.{ServerLine, dump_all, ping, order, text_of, connections}
use Rattle.nutcore.specs.OrdersByRight.{all_given}

-- It is `DUMPALL`, `PING`, `SET name "value"`, `INSTCMD name` or `INSTCMD name "value"`, of a
-- lawful name and a lawful value, and of a tracked order followed by `TRACKING` and its id.
pub data IsSpelled : ServerLine → Type 0 where
  asks_for_all : IsSpelled dump_all
  asks_whether_there : IsSpelled ping
  sets : (name value : List ℕ) (id : Option ℕ) → IsTrue (is_name name) → IsTrue (is_value value)
      → IsSpelled (order (set_line name value id))
  commands : (name : List ℕ) (id : Option ℕ) → IsTrue (is_name name)
      → IsSpelled (order (instcmd_line name None id))
  commands_with : (name value : List ℕ) (id : Option ℕ) → IsTrue (is_name name)
      → IsTrue (is_value value) → IsSpelled (order (instcmd_line name (Some value) id))

-- Its text is one line of at most 2,047 lawful bytes, none of them an LF, and its LF.
pub record IsLineToDriver (line : ServerLine) : Type 0 where
  pub spelled : IsSpelled line
  pub whole : IsWholeLine (text_of line)
  pub one : split_line whole.line ≡ None

-- All lines of a run to the driver of a UPS.
abbrev pub EachLineToADriverIsWhole : Type 0
EachLineToADriverIsWhole =
    (old : ServerState) (events : List Event) (outcomes : List Outcome) (u : UpsId)
    → Each IsLineToDriver (all_given (connections u old events outcomes))
