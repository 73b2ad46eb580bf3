-- `upsc` over a run of the server.
use Rattle.std.specs.Prelude.{◌≡◌, ℕ, false, List, [], codes, nat_eq, IsTrue}
use Rattle.std.specs.List.{starts_with}
use Rattle.nutwords.specs.Reading.{is_name, is_ups_name}
use Rattle.nutwords.specs.Cut.{has_lf}
use Rattle.nutwords.specs.SplitLine.{with_lf}
use Rattle.nutcore.specs.declared.event.Event.{Event}
use Rattle.nutcore.specs.declared.event.Outcome.{Outcome}
use Rattle.nutcore.specs.Server.{ServerState}
use Rattle.nutcore.specs.Reply.{reply}
use Rattle.nutcore.specs.Run.{Run}
use Rattle.nutcore.specs.History.{taken, asked, owed, held, is_over}
use Rattle.nutcore.specs.DriverRuns.{IsNewServer}
use Rattle.nutrequest.specs.declared.request.Query.TheVariants as queries
use Rattle.nutrequest.specs.declared.request.Request.{Request}
use Rattle.nutrequest.specs.declared.request.Request.TheVariants.{List as ListOf, GetVar}
use Rattle.endtoend.specs.Served.{IsLineOf}
use Rattle.endtoend.specs.FromDriver.{PrintsTheLastValue, PrintsTheLastValues}

-- In a run from a new server, of any clients and drivers, what the server took in of this client is
-- the line of this request; in the end the client holds nothing, is owed nothing, and isn't over;
-- and what it took doesn't begin with ERR.
pub record IsServed (old : ServerState) (events : List Event) (outcomes : List Outcome) (c : ℕ)
    (line : List ℕ) (request : Request) : Type 0 where
  pub new : ServerState
  pub begins : IsNewServer old
  pub run : Run old events outcomes new
  pub sends : IsLineOf request line
  pub one : has_lf line ≡ false
  pub asks : asked c old events outcomes ≡ with_lf line
  pub going : is_over c new ≡ false
  pub done : held c new ≡ []
  pub taken_all : owed c new ≡ []
  pub granted : starts_with nat_eq (taken c old events outcomes) (codes "ERR") ≡ false

-- So what it took is the reply of a server of the run, of which this is true.
pub record IsReply (old : ServerState) (events : List Event) (outcomes : List Outcome) (c : ℕ)
    (line : List ℕ) (Holds : ServerState → Type 0) : Type 0 where
  pub server : ServerState
  pub took : taken c old events outcomes ≡ reply server c line
  pub holds : Holds server

-- `upsc ups variable` and `upsc ups`, of what was taken.
pub record UpscPrintsWhatItTook : Type 0 where
  pub variable : (old : ServerState) (events : List Event) (outcomes : List Outcome) (c : ℕ)
      (line ups name : List ℕ) → IsTrue (is_ups_name ups) → IsTrue (is_name name)
      → IsServed old events outcomes c line (GetVar ups name)
      → IsReply old events outcomes c line
      (λ s. PrintsTheLastValue old events outcomes s c line ups name)
  pub variables : (old : ServerState) (events : List Event) (outcomes : List Outcome) (c : ℕ)
      (line ups : List ℕ) → IsTrue (is_ups_name ups)
      → IsServed old events outcomes c line (ListOf (queries.Var ups))
      → IsReply old events outcomes c line
      (λ s. PrintsTheLastValues old events outcomes s c line ups)
