-- What a run gave to a driver to send, and what was sent of it.
use Rattle.std.specs.Prelude.{◌≡◌, ◌<◌, ℕ, Bool, true, false, List, [], ◌∷◌, ◌++◌, codes, ◌==◌}
use Rattle.std.specs.Prelude.{◌&&◌, not, if◌then◌else◌, length, take, max}
use Rattle.std.specs.List.{flat_map}
use Rattle.std.specs.Option.{option_map_or}
use Rattle.nutusers.specs.declared.ups_list.UpsId.{UpsId}
use Rattle.nutanswer.specs.declared.reply.Change.{Change}
use Rattle.nutanswer.specs.declared.reply.Change.TheVariants as changes
use Rattle.nutcommand.specs.Command.{read_command}
use Rattle.nutcore.specs.declared.event.Event.{Event}
use Rattle.nutcore.specs.declared.event.Event.TheVariants.{DriverUp, DriverTook, Tick}
use Rattle.nutcore.specs.declared.event.Outcome.{Outcome}
use Rattle.nutcore.specs.Ups.{ping_line, ping_is_due}
use Rattle.nutcore.specs.Server.{ServerState}
use Rattle.nutcore.specs.Parts.{ups_at}
use Rattle.nutcore.specs.Reply.{change_by}
use Rattle.nutcore.specs.Step.{after}
use Rattle.nutcore.specs.DriverEvents.{driver_may_take}
use Rattle.nutcore.specs.Run.{Run}
use Rattle.nutcore.specs.History.{Execution, of_line, of_notice, executions_in_event}
use Rattle.nutcore.specs.Headline.{IsBeginning}
use Rattle.nutcore.specs.Sound.{IsSound}
use Rattle.nutcore.specs.DriverHistory.{has_driver}

-- A line to a driver: DUMPALL, by which it reports all that it knows, PING, by which it answers
-- that it is there, or an order, which is a line of bytes.
pub data ServerLine : Type 0 where
  dump_all : ServerLine
  ping : ServerLine
  order : (line : List ℕ) → ServerLine

abbrev pub text_of : ServerLine → List ℕ
text_of dump_all = codes "DUMPALL" ++ 10 ∷ []
text_of ping = ping_line
text_of (order line) = line

abbrev pub texts_of : List ServerLine → List ℕ
texts_of lines = flat_map text_of lines

-- What a command's change gives the driver of this UPS: an order to it, and nothing else.
abbrev pub given_by_change : UpsId → Change → List ServerLine
given_by_change u (changes.Order v line) = if v.place == u.place then order line.items ∷ [] else []
given_by_change u (changes.Tracked v id line) =
    if v.place == u.place then order line.items ∷ [] else []
given_by_change u _ = []

-- What an executed line of a client gives it.
abbrev pub given_by_line : UpsId → Execution → List ServerLine
given_by_line u (of_line s c line) = given_by_change u (change_by s c (read_command line))
given_by_line u (of_notice s c) = []

-- The moment of a tick: it never goes back.
abbrev pub moment_of : ServerState → ℕ → ℕ
moment_of s seconds = max seconds s.moment

-- Beside lines of clients, a driver gets a line by its connection, and by a tick at which its PING
-- is due.
abbrev pub given_beside_lines : UpsId → ServerState → Event → List ServerLine
given_beside_lines u s (DriverUp v) =
    if v.place == u.place && not (has_driver u s) then dump_all ∷ [] else []
given_beside_lines u s (Tick seconds) =
    if option_map_or (ping_is_due s.max_age (moment_of s seconds)) (ups_at u.place s) false
    then ping ∷ [] else []
given_beside_lines u s _ = []

-- The lines to the driver that an event adds.
abbrev pub given_in_event : UpsId → ServerState → Event → Outcome → List ServerLine
given_in_event u s e outcome =
    given_beside_lines u s e ++ flat_map (given_by_line u) (executions_in_event s e outcome)

-- What the driver is owed: nothing where there is no such UPS.
abbrev pub owed_to_driver : UpsId → ServerState → List ℕ
owed_to_driver u s = option_map_or (λ x. x.owed) (ups_at u.place s) []

-- What the driver took in an event.
abbrev pub taken_in_event : UpsId → ServerState → Event → List ℕ
taken_in_event u s (DriverTook v n) =
    if v.place == u.place && option_map_or (driver_may_take n) (ups_at u.place s) false
    then take n (owed_to_driver u s) else []
taken_in_event u s _ = []

-- The driver was connected, and is lost by the event.
abbrev pub is_lost_by : UpsId → ServerState → Event → Outcome → Bool
is_lost_by u s e outcome = has_driver u s && not (has_driver u (after s e outcome))

-- One connection of a driver: the lines to it, and the bytes that it took.
pub record Connection : Type 0 where
  pub given : List ServerLine
  pub taken : List ℕ

-- The connections of a driver in a run, in order: those that were lost, and the last, in which
-- nothing passed where no driver is connected.
pub data Connections : Type 0 where
  last : (now : Connection) → Connections
  lost : (first : Connection) → (later : Connections) → Connections

-- The lines to the driver that an event added and the bytes that it took, in front of what passed
-- later in the same connection.
abbrev pub with_front : List ServerLine → List ℕ → Connections → Connections
with_front given taken (last now) =
    last (record { given = given ++ now.given; taken = taken ++ now.taken })
with_front given taken (lost first later) =
    lost (record { given = given ++ first.given; taken = taken ++ first.taken }) later

-- A connection that is lost has nothing after the event that lost it.
abbrev pub in_front : Bool → List ServerLine → List ℕ → Connections → Connections
in_front true given taken later = lost (record { given = given; taken = taken }) later
in_front false given taken later = with_front given taken later

abbrev pub connections : UpsId → ServerState → List Event → List Outcome → Connections
connections u s [] os = last (record { given = []; taken = [] })
connections u s (e ∷ es) [] = last (record { given = []; taken = [] })
connections u s (e ∷ es) (o ∷ os) =
    in_front (is_lost_by u s e o) (given_in_event u s e o) (taken_in_event u s e)
    (connections u (after s e o) es os)

-- Of a connection that lasts, what was owed before, followed by the lines to the driver, is what it
-- took, followed by what it is owed after. Of one that was lost it took a beginning of that, and
-- the next one begins with nothing owed.
abbrev pub IsSentAndOwed : List ℕ → Connections → List ℕ → Type 0
IsSentAndOwed before (last now) after = before ++ texts_of now.given ≡ now.taken ++ after
IsSentAndOwed before (lost first later) after =
    IsBeginning first.taken (before ++ texts_of first.given) × IsSentAndOwed [] later after

-- Of every run of a sound server, and of every UPS of it.
abbrev pub WhatADriverWasSentAndIsOwedIsWhatItWasGiven : Type 0
WhatADriverWasSentAndIsOwedIsWhatItWasGiven =
    (old new : ServerState) (events : List Event) (outcomes : List Outcome) (u : UpsId)
    → IsSound old → u.place < length old.upses → Run old events outcomes new
    → IsSentAndOwed (owed_to_driver u old) (connections u old events outcomes)
    (owed_to_driver u new)

-- The bytes that the driver took in a run, over all its connections.
abbrev pub all_taken : UpsId → ServerState → List Event → List Outcome → List ℕ
all_taken u s [] os = []
all_taken u s (e ∷ es) [] = []
all_taken u s (e ∷ es) (o ∷ os) = taken_in_event u s e ++ all_taken u (after s e o) es os
