-- One order, from the words of `upsrw` or `upscmd` to the lines that a driver is given.
use Rattle.std.specs.Prelude.{◌≡◌, ◌==◌, ◌⊎◌, ℕ, Bool, true, false, List, [], ◌∷◌, ◌++◌, Option, Some}
use Rattle.std.specs.Prelude.{None, codes, is_some, option_map, if◌then◌else◌}
use Rattle.std.specs.List.{flat_map}
use denote.Ref.{Bor}
use Rattle.nutwords.specs.Frame.{line_of}
use Rattle.nuttracking.specs.Id.{id_text}
use Rattle.nutusers.specs.Users.{may}
use Rattle.nutusers.specs.declared.rights.Right.{Right}
use Rattle.nutusers.specs.declared.rights.Right.TheVariants as rights
use Rattle.nutusers.specs.declared.ups_list.UpsId.{UpsId}
use Rattle.nutanswer.specs.Checks.{KnownUps, ups_named}
use Rattle.nutanswer.specs.Orders.{right_to, set_line, instcmd_line}
use Rattle.nutcore.specs.declared.event.Event.{Event}
use Rattle.nutcore.specs.declared.event.Outcome.{Outcome}
use Rattle.nutcore.specs.DriverOrders.{ServerLine, order, given_by_line}
use Rattle.nutcore.specs.DriverRuns.{IsNewServer}
use Rattle.nutcore.specs.Headline.{IsBeginning}
use Rattle.nutcore.specs.History.{Execution, of_line, executions, of_client, taken, asked}
use Rattle.nutcore.specs.OrdersByRight.{order_of, orders_given}
use Rattle.nutcore.specs.Reply.{seen, asker}
use Rattle.nutcore.specs.Run.{Run}
use Rattle.nutcore.specs.Server.{ServerState}
use Rattle.nutrequest.specs.declared.faults.ClientFault.{ClientFault}
use Rattle.nutrequest.specs.declared.faults.ClientFault.TheVariants.{ErrWord as ServerRefused}
use Rattle.nutrequest.specs.declared.request.Request.{Request}
use Rattle.nutclient.specs.Job.{JobParts, UpsPlace, job_of, setting_of}
use Rattle.nutclient.specs.Printed.{Printed, Prints, Faults, printed}
use Rattle.nutclient.specs.Requests.{sent_lines}
use Rattle.nutclient.specs.Target.{ups_place_of}
use Rattle.nutclient.specs.Why.{is_refusal, may_be_given}
use Rattle.nutclient.specs.declared.given.Given.TheVariants.{Set, Command}
use Rattle.nutclient.specs.declared.given.Sender.{Sender}

-- What these lines give to the driver of a UPS, and the orders among it.
abbrev pub given_by_lines : UpsId → List Execution → List ServerLine
given_by_lines u lines = flat_map (given_by_line u) lines

abbrev pub orders_of : UpsId → List Execution → List (List ℕ)
orders_of u lines = flat_map order_of (given_by_lines u lines)

-- What is printed of an order that was given: OK, or its id.
abbrev pub granted_text : Option ℕ → List ℕ
granted_text None = line_of (codes "OK" ∷ [])
granted_text (Some id) = line_of (id_text id ∷ [])

-- A run from a new server, in which one client has these requests. The bytes that came to it are a
-- beginning of what it took. What the server read of it is a beginning of the lines that it sends
-- for these bytes. So the connection may have ended at any byte.
pub record IsClientOf (old : ServerState) (events : List Event) (outcomes : List Outcome) (c : ℕ)
    (requests : List Request) (came : List ℕ) : Type 0 where
  pub new : ServerState
  pub begins : IsNewServer old
  pub run : Run old events outcomes new
  pub received : IsBeginning came (taken c old events outcomes)
  pub sent : IsBeginning (asked c old events outcomes) (sent_lines requests came)

module _ (old : ServerState) (events : List Event) (outcomes : List Outcome) (c : ℕ) where
  -- What all lines of the client together gave the driver of this UPS.
  abbrev pub gave : UpsId → List ServerLine
  gave u = given_by_lines u (of_client c (executions old events outcomes))

  -- The run executed the order's line for the client, on this server, after these lines and before
  -- those. The client had given this name and password, of a user with the right. The order, with
  -- its id where it is tracked, was given to the driver of the UPS once, at the line's place among
  -- all orders to it; and nothing else was given to any driver by a line of the client.
  pub record IsGivenOnce (ups user password : List ℕ) (right : Right) (bytes : Option ℕ → List ℕ)
      : Type 0 where
    pub before : List Execution
    pub after : List Execution
    pub server : ServerState
    pub line : List ℕ
    pub known : KnownUps
    pub id : Option ℕ
    pub executed : executions old events outcomes ≡ before ++ of_line server c line ∷ after
    pub named : ups_named (seen server) (Some ups) ≡ Some known
    pub user_given : (asker c server).username ≡ Some user
    pub password_given : (asker c server).password ≡ Some password
    pub granted : may server.users user password right ≡ true
    pub given : orders_given known.id old events outcomes
        ≡ orders_of known.id before ++ bytes id ∷ orders_of known.id after
    pub only : (u : UpsId)
        → gave u ≡ (if known.id.place == u.place then order (bytes id) ∷ [] else [])

  -- Whatever came, the order was given once, or no line of the client gave a driver anything. Where
  -- a text is printed, the order was given, with an id exactly where one was asked for, and the
  -- text is OK or the id. Where an error word is reported, nothing was given. Whatever was sent that
  -- begins with what the server read, a client that was given no such word warns of a given order.
  pub record IsOneOrder (tracked : Bool) (ups user password : List ℕ) (right : Right)
      (bytes : Option ℕ → List ℕ) (requests : List Request) (shown : Printed) : Type 0 where
    pub at_most_once : IsGivenOnce ups user password right bytes ⊎ ((u : UpsId) → gave u ≡ [])
    pub printed : (text : List ℕ) → shown ≡ Prints text
        → (o : IsGivenOnce ups user password right bytes) × (is_some o.id ≡ tracked)
        × (text ≡ granted_text o.id)
    pub refused : (word : List ℕ) → shown ≡ Faults (ServerRefused word) → (u : UpsId) → gave u ≡ []
    pub warned : (sent : List ℕ) (fault : ClientFault)
        → IsGivenOnce ups user password right bytes
        → IsBeginning (asked c old events outcomes) sent → is_refusal fault ≡ false
        → may_be_given requests sent fault ≡ true

-- `upsrw [--track] -s NAME=VALUE -u USER -p PASSWORD UPS` and
-- `upscmd [--track] -u USER -p PASSWORD UPS NAME [VALUE]`, with lawful words.
pub record AnOrderIsGivenOnceOrNotAtAll : Type 0 where
  pub set : (old : ServerState) (events : List Event) (outcomes : List Outcome) (c : ℕ)
      (ups setting : Bor (List ℕ)) (by : Sender) (job : JobParts) (place : UpsPlace)
      (name value came : List ℕ) → job_of (Set ups setting by) ≡ Some job
      → ups_place_of ups.now ≡ Some place → setting_of setting.now ≡ Some (name, value)
      → IsClientOf old events outcomes c job.1 came
      → IsOneOrder old events outcomes c by.track place.0 by.user.now by.password.now rights.Set
      (set_line name value) job.1 (printed job.1 job.2 came)
  pub command : (old : ServerState) (events : List Event) (outcomes : List Outcome) (c : ℕ)
      (ups name : Bor (List ℕ)) (value : Option (Bor (List ℕ))) (by : Sender) (job : JobParts)
      (place : UpsPlace) (came : List ℕ) → job_of (Command ups name value by) ≡ Some job
      → ups_place_of ups.now ≡ Some place
      → IsClientOf old events outcomes c job.1 came
      → IsOneOrder old events outcomes c by.track place.0 by.user.now by.password.now
      (right_to name.now) (instcmd_line name.now (option_map (λ v. v.now) value)) job.1
      (printed job.1 job.2 came)
