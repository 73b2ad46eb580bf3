-- Answers depend only on which lines are executed, and when.
use Rattle.std.specs.Prelude.{◌≡◌, ℕ, List, [], ◌∷◌, ◌++◌, Option, map}
use Rattle.nutcommand.specs.Command.{read_command}
use Rattle.nutcore.specs.declared.event.Event.{Event}
use Rattle.nutcore.specs.declared.event.Event.TheVariants.{Feed, Took}
use Rattle.nutcore.specs.declared.event.Outcome.{Outcome}
use Rattle.nutcore.specs.Session.{SessionState}
use Rattle.nutcore.specs.Server.{ServerState}
use Rattle.nutcore.specs.Reply.{seen, asker, reply, change_by}
use Rattle.nutcore.specs.Step.{after, refused_after}
use Rattle.nutcore.specs.Run.{Run}
use Rattle.nutcore.specs.History.{Execution, of_line, of_notice, executions_in_event, answers}

-- What happens to a server, apart from bytes that come and go: a line of a client is executed; a
-- client gets the answer that its line is too long; or an event comes that no client sent or took
-- by, with the number of lines after which memory was refused to it.
pub data Happening : Type 0 where
  line_is_executed : (client : ℕ) → (line : List ℕ) → Happening
  notice_is_sent : (client : ℕ) → Happening
  event_comes : (event : Event) → (refused : Option ℕ) → Happening

abbrev pub happening_of : Execution → Happening
happening_of (of_line s c line) = line_is_executed c line
happening_of (of_notice s c) = notice_is_sent c

abbrev pub happened_in_event : ServerState → Event → Outcome → List Happening
happened_in_event s (Feed c piece) outcome =
    map happening_of (executions_in_event s (Feed c piece) outcome)
happened_in_event s (Took c n) outcome =
    map happening_of (executions_in_event s (Took c n) outcome)
happened_in_event s e outcome = event_comes e (refused_after outcome) ∷ []

-- What happened in a run, in order.
abbrev pub happenings : ServerState → List Event → List Outcome → List Happening
happenings s [] os = []
happenings s (e ∷ es) [] = []
happenings s (e ∷ es) (o ∷ os) = happened_in_event s e o ++ happenings (after s e o) es os

-- A server except for what its sessions hold and are owed.
abbrev pub without_bytes : SessionState → SessionState
without_bytes x = record x { held = []; owed = [] }

abbrev pub apart_from_bytes : ServerState → ServerState
apart_from_bytes s = record s { sessions = map without_bytes s.sessions }

-- Two runs in which the same happens, from servers that differ at most in what is held and owed,
-- give every client the same answers, and lead to such servers.
pub record AreAnsweredAlike (s : ServerState) (es : List Event) (os : List Outcome)
    (s' t : ServerState) (fs : List Event) (ps : List Outcome) (t' : ServerState) : Type 0 where
  pub answers : (c : ℕ) → answers c s es os ≡ answers c t fs ps
  pub servers : apart_from_bytes s' ≡ apart_from_bytes t'

abbrev pub AnswersComeOfWhatHappens : Type 0
AnswersComeOfWhatHappens =
    (s s' t t' : ServerState) (es fs : List Event) (os ps : List Outcome) → Run s es os s'
    → Run t fs ps t' → apart_from_bytes s ≡ apart_from_bytes t
    → happenings s es os ≡ happenings t fs ps → AreAnsweredAlike s es os s' t fs ps t'

-- What is answered to a line, and what it changes, comes of what is seen of the server and of its
-- own asker.
pub record IsAlike (s t : ServerState) (c d : ℕ) (line : List ℕ) : Type 0 where
  pub reply : reply s c line ≡ reply t d line
  pub change : change_by s c (read_command line) ≡ change_by t d (read_command line)

abbrev pub AReplyComesOfWhatIsSeen : Type 0
AReplyComesOfWhatIsSeen =
    (s t : ServerState) (c d : ℕ) (line : List ℕ) → seen s ≡ seen t → asker c s ≡ asker d t
    → IsAlike s t c d line
