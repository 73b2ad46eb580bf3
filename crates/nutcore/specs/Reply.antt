-- The reply to a line (RFC 9271) on the server of that moment, and its changes.
use Rattle.std.specs.Prelude.{ℕ, false, List, [], Option, Some, None, Result, Ok, Err, map, Bool}
use Rattle.std.specs.Result.{result_err}
use Rattle.nutcommand.specs.declared.command.Command.{Command}
use Rattle.nutcommand.specs.declared.err_word.ErrWord.{ErrWord}
use Rattle.nutcommand.specs.declared.err_word.ErrWord.TheVariants.{TooLong}
use Rattle.nutcommand.specs.ErrWord.{error_line}
use Rattle.nutcommand.specs.Command.{read_command}
use Rattle.nutanswer.specs.declared.reply.Change.{Change}
use Rattle.nutanswer.specs.declared.reply.Change.TheVariants as changes
use Rattle.nuttracking.specs.Tracking.{TrackingState, with_order as with_tracked_order}
use Rattle.nutanswer.specs.View.{Seen, UpsSeen, ClientSeen, AskerSeen}
use Rattle.nutanswer.specs.Answer.{answer_to, text_of_answer, change_of_answer, shares_version}
use Rattle.nutcore.specs.Session.{SessionState, begin_ending}
use Rattle.nutcore.specs.Ups.{UpsState, with_fsd, free_room, with_order}
use Rattle.nutcore.specs.Server.{ServerState, session, with_session_changed}
use Rattle.nutcore.specs.Parts.{changed_at}

-- A UPS as answers see it.
abbrev pub seen_ups : UpsState → UpsSeen
seen_ups x = record { report = x.report; fsd = x.fsd; free = free_room x }

-- A session as answers see it.
abbrev pub seen_client : SessionState → ClientSeen
seen_client x = record { address = x.address; login = x.login }

-- What an answer may look at.
abbrev pub seen : ServerState → Seen
seen s = record {
  moment = s.moment;
  max_age = s.max_age;
  list = s.list;
  upses = map seen_ups s.upses;
  descriptions = s.descriptions;
  users = s.users;
  clients = map seen_client s.sessions;
  tracking = s.tracking;
}

-- The session that asks, as answers see it.
abbrev pub asker_of : Option SessionState → AskerSeen
asker_of None = record { username = None; password = None; login = None; tracking = false }
asker_of (Some x) =
    record {
      username = x.username;
      password = x.password;
      login = x.login;
      tracking = x.tracking;
    }

abbrev pub asker : ℕ → ServerState → AskerSeen
asker c s = asker_of (session c s)

-- What a change does to the session that asks,
abbrev pub changed_session : Change → SessionState → SessionState
changed_session (changes.Username name) x = record x { username = Some name }
changed_session (changes.Password password) x = record x { password = Some password }
changed_session (changes.Login u) x = record x { login = Some u }
changed_session changes.Ending x = begin_ending x
changed_session (changes.Tracking on) x = record x { tracking = on }
changed_session _ x = x

-- to the UPSs,
abbrev pub changed_upses : Change → List UpsState → List UpsState
changed_upses (changes.Fsd u) upses = changed_at with_fsd u.place upses
changed_upses (changes.Order u line) upses = changed_at (with_order line.items) u.place upses
changed_upses (changes.Tracked u id line) upses = changed_at (with_order line.items) u.place upses
changed_upses _ upses = upses

-- to the available ids and the tracked orders,
abbrev pub changed_tracking : Change → TrackingState → TrackingState
changed_tracking (changes.Tracked u id line) t = with_tracked_order u.place t
changed_tracking _ t = t

-- and so to the server.
abbrev pub changed : Change → ℕ → ServerState → ServerState
changed change c s =
    with_session_changed (changed_session change) c
    (record s {
      upses = changed_upses change s.upses;
      tracking = changed_tracking change s.tracking;
    })

-- The text that answers what was read: none where a line has no words.
abbrev pub text_to : ServerState → ℕ → Result (Option Command) ErrWord → List ℕ
text_to s c (Err word) = error_line word
text_to s c (Ok None) = []
text_to s c (Ok (Some command)) = text_of_answer (answer_to (seen s) (asker c s) command)

-- The word by which it is refused, if it is: also where it doesn't read as a command.
abbrev pub refusal_by : ServerState → ℕ → Result (Option Command) ErrWord → Option ErrWord
refusal_by s c (Err word) = Some word
refusal_by s c (Ok None) = None
refusal_by s c (Ok (Some command)) = result_err (answer_to (seen s) (asker c s) command)

-- What changes by it: nothing where a line doesn't read as a command, has no words, or is refused.
abbrev pub change_by : ServerState → ℕ → Result (Option Command) ErrWord → Change
change_by s c (Err word) = changes.Nothing
change_by s c (Ok None) = changes.Nothing
change_by s c (Ok (Some command)) = change_of_answer (answer_to (seen s) (asker c s) command)

-- The reply to a line of the client c: the whole text that answers it.
abbrev pub reply : ServerState → ℕ → List ℕ → List ℕ
reply s c line = text_to s c (read_command line)

-- The server that the line leaves, beside its own session's held input and owed text.
abbrev pub after_change : ServerState → ℕ → List ℕ → ServerState
after_change s c line = changed (change_by s c (read_command line)) c s

-- The notice to a client of which 2,048 bytes came without an LF.
abbrev pub too_long_notice : List ℕ
too_long_notice = error_line TooLong

-- The line's answer shares a version of what it lists: the one answer for which memory may be
-- refused.
abbrev pub shares_version_read : ServerState → ℕ → Result (Option Command) ErrWord → Bool
shares_version_read s c (Err word) = false
shares_version_read s c (Ok None) = false
shares_version_read s c (Ok (Some command)) =
    shares_version (answer_to (seen s) (asker c s) command)

abbrev pub line_wants_memory : ServerState → ℕ → List ℕ → Bool
line_wants_memory s c line = shares_version_read s c (read_command line)
