-- Which lines a run executed, and what it read from and sent to each client. The server stores none
-- of it.
use Rattle.std.specs.Prelude.{ℕ, zero, suc, Bool, false, List, [], ◌∷◌, ◌++◌, Option, Some, None}
use Rattle.std.specs.Prelude.{◌==◌, nat_lt, if◌then◌else◌, length, take}
use Rattle.std.specs.List.{filter, flat_map}
use Rattle.std.specs.Option.{option_map_or}
use Rattle.nutcore.specs.declared.event.Event.{Event}
use Rattle.nutcore.specs.declared.event.Event.TheVariants.{Feed, Took}
use Rattle.nutcore.specs.declared.event.Outcome.{Outcome}
use Rattle.nutwords.specs.SplitLine.{with_lf}
use Rattle.nutcore.specs.Server.{ServerState, session}
use Rattle.nutcore.specs.Reply.{reply, too_long_notice}
use Rattle.nutcore.specs.Pump.{next_line_for, after_line, after_all_lines, is_overlong, held_of}
use Rattle.nutcore.specs.Pump.{owed_of}
use Rattle.nutcore.specs.Step.{accepted_bytes, with_input, without_output, may_take, after}
use Rattle.nutcore.specs.Step.{refused_after}

-- What an event executed, on the server as it was at that moment: a line of a client, or the notice
-- to a client that its line is too long.
pub data Execution : Type 0 where
  of_line : (server : ServerState) → (client : ℕ) → (line : List ℕ) → Execution
  of_notice : (server : ServerState) → (client : ℕ) → Execution

-- Whose it is.
abbrev pub client_of : Execution → ℕ
client_of (of_line s c line) = c
client_of (of_notice s c) = c

-- The text that was joined to what the client is owed.
abbrev pub text_of : Execution → List ℕ
text_of (of_line s c line) = reply s c line
text_of (of_notice s c) = too_long_notice

-- The executed line, with its LF.
abbrev pub line_of : Execution → List ℕ
line_of (of_line s c line) = with_lf line
line_of (of_notice s c) = []

abbrev pub next_execution : ServerState → ℕ → Option (List ℕ) → List Execution
next_execution s c None = []
next_execution s c (Some line) = of_line s c line ∷ []

-- The next k lines, as far as they may be executed.
unfoldable pub lines_executed : ℕ → ServerState → ℕ → List Execution
lines_executed zero s c = []
lines_executed (suc k) s c =
    next_execution s c (next_line_for s c) ++ lines_executed k (after_line s c) c

abbrev pub notice : ServerState → ℕ → List Execution
notice s c = if is_overlong s c then of_notice s c ∷ [] else []

-- What the pump executes.
unfoldable pub pump_executions : ServerState → ℕ → List Execution
pump_executions s c =
    lines_executed (length (held_of (session c s))) s c ++ notice (after_all_lines s c) c

-- The same, as far as memory let it.
unfoldable pub executions_until : ServerState → ℕ → Option ℕ → List Execution
executions_until s c None = pump_executions s c
executions_until s c (Some k) = lines_executed k s c

-- What an event executed.
unfoldable pub executions_by : ServerState → Event → Option ℕ → List Execution
executions_by s (Feed c piece) m = executions_until (with_input s c piece) c m
executions_by s (Took c n) m =
    if may_take (session c s) n then executions_until (without_output s c n) c m else []
executions_by s _ m = []

abbrev pub executions_in_event : ServerState → Event → Outcome → List Execution
executions_in_event s e outcome = executions_by s e (refused_after outcome)

-- What a run executed, in order. All histories are read off this list.
abbrev pub executions : ServerState → List Event → List Outcome → List Execution
executions s [] os = []
executions s (e ∷ es) [] = []
executions s (e ∷ es) (o ∷ os) = executions_in_event s e o ++ executions (after s e o) es os

-- Those of one client.
abbrev pub of_client : ℕ → List Execution → List Execution
of_client c all = filter (λ x. client_of x == c) all

-- What the client took in one event.
unfoldable pub taken_in_event : ℕ → ServerState → Event → List ℕ
taken_in_event c s (Took d n) =
    if may_take (session d s) n then (if d == c then take n (owed_of (session d s)) else []) else []
taken_in_event c s _ = []

-- What joined the client's held input in one event.
unfoldable pub asked_in_event : ℕ → ServerState → Event → List ℕ
asked_in_event c s (Feed d piece) = if d == c then accepted_bytes (session d s) piece else []
asked_in_event c s _ = []

abbrev pub texts_of : List Execution → List ℕ
texts_of all = flat_map text_of all

abbrev pub lines_of : List Execution → List ℕ
lines_of all = flat_map line_of all

-- The texts that the run joined to what the client is owed.
abbrev pub answers : ℕ → ServerState → List Event → List Outcome → List ℕ
answers c s es os = texts_of (of_client c (executions s es os))

-- The lines that the run executed for the client, each with its LF.
abbrev pub executed : ℕ → ServerState → List Event → List Outcome → List ℕ
executed c s es os = lines_of (of_client c (executions s es os))

-- The bytes that the client took in the run.
abbrev pub taken : ℕ → ServerState → List Event → List Outcome → List ℕ
taken c s [] os = []
taken c s (e ∷ es) [] = []
taken c s (e ∷ es) (o ∷ os) = taken_in_event c s e ++ taken c (after s e o) es os

-- The bytes that joined the client's held input in the run.
abbrev pub asked : ℕ → ServerState → List Event → List Outcome → List ℕ
asked c s [] os = []
asked c s (e ∷ es) [] = []
asked c s (e ∷ es) (o ∷ os) = asked_in_event c s e ++ asked c (after s e o) es os

-- What the client is owed, and what is held of its input: nothing where it isn't open.
abbrev pub owed : ℕ → ServerState → List ℕ
owed c s = owed_of (session c s)

abbrev pub held : ℕ → ServerState → List ℕ
held c s = held_of (session c s)

-- The client was open, and is no more.
abbrev pub is_closed : ℕ → ServerState → Bool
is_closed c s = option_map_or (λ x. false) (session c s) (nat_lt c s.next_id)

-- The client is closed, or is ending.
abbrev pub is_over : ℕ → ServerState → Bool
is_over c s = option_map_or (λ x. x.ending) (session c s) (nat_lt c s.next_id)
