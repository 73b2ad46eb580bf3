-- Which held lines of a session are executed, and what that leaves.
use Rattle.std.specs.Prelude.{ℕ, zero, suc, Bool, false, List, [], ◌++◌, Option, Some, None}
use Rattle.std.specs.Prelude.{is_none, option_and_then, nat_lt, nat_le, not, ◌||◌, ◌&&◌}
use Rattle.std.specs.Prelude.{if◌then◌else◌, length}
use Rattle.std.specs.Option.{option_map_or}
use Rattle.nutcore.specs.declared.TheConstants.{HELD_LIMIT}
use Rattle.nutlisting.specs.declared.outbox.TheConstants.{OWED_LIMIT}
use Rattle.nutwords.specs.SplitLine.{first_line, rest_after}
use Rattle.nutcore.specs.Session.{SessionState, begin_ending}
use Rattle.nutcore.specs.Server.{ServerState, session, with_session_changed}
use Rattle.nutcore.specs.Reply.{reply, after_change, too_long_notice, line_wants_memory}

-- The session's next line, if it may be executed: the session isn't ending, and at most 4,096 bytes
-- are owed.
abbrev pub next_line : SessionState → Option (List ℕ)
next_line x = if x.ending || nat_lt OWED_LIMIT (length x.owed) then None else first_line x.held

abbrev pub next_line_for : ServerState → ℕ → Option (List ℕ)
next_line_for s c = option_and_then next_line (session c s)

-- The pump stops here: the session has no line that may be executed.
abbrev pub pump_stops : ServerState → ℕ → Bool
pump_stops s c = is_none (next_line_for s c)

-- The session once the line and its LF are taken from its held input, and the answer is joined to
-- what it owes.
abbrev pub answered : List ℕ → List ℕ → SessionState → SessionState
answered line text x = record x { held = rest_after line x.held; owed = x.owed ++ text }

-- The server once the line of the client c is answered.
unfoldable pub after_reply : ServerState → ℕ → List ℕ → ServerState
after_reply s c line =
    with_session_changed (answered line (reply s c line)) c (after_change s c line)

-- The server after the session's next line, if it may be executed.
unfoldable pub after_line : ServerState → ℕ → ServerState
after_line s c = option_map_or (λ line. after_reply s c line) (next_line_for s c) s

-- The server after the session's next k lines, as far as they may be executed.
unfoldable pub after_lines : ℕ → ServerState → ℕ → ServerState
after_lines zero s c = s
after_lines (suc k) s c = after_lines k (after_line s c) c

abbrev pub held_of : Option SessionState → List ℕ
held_of None = []
held_of (Some x) = x.held

abbrev pub owed_of : Option SessionState → List ℕ
owed_of None = []
owed_of (Some x) = x.owed

-- The server when the pump stops: there are no more lines than held bytes, and that the count of
-- lines is the least at which the pump stops is a theorem.
unfoldable pub after_all_lines : ServerState → ℕ → ServerState
after_all_lines s c = after_lines (length (held_of (session c s))) s c

-- The session may go on, but holds 2,048 bytes without an LF.
abbrev pub holds_overlong : SessionState → Bool
holds_overlong x =
    not x.ending
    && (nat_le (length x.owed) OWED_LIMIT
    && (is_none (first_line x.held) && nat_le HELD_LIMIT (length x.held)))

abbrev pub is_overlong : ServerState → ℕ → Bool
is_overlong s c = option_map_or holds_overlong (session c s) false

-- The session's line is too long: it is answered so, and the session begins to end.
abbrev pub notified : SessionState → SessionState
notified x = begin_ending (record x { owed = x.owed ++ too_long_notice })

-- The notice, where it is due.
abbrev pub with_notice : SessionState → SessionState
with_notice x = if holds_overlong x then notified x else x

unfoldable pub after_notice : ServerState → ℕ → ServerState
after_notice s c = with_session_changed with_notice c s

-- The pump: all lines that may be executed, and the notice where it is due.
unfoldable pub pumped : ServerState → ℕ → ServerState
pumped s c = after_notice (after_all_lines s c) c

-- The session's next line may be executed, and its answer shares a version.
abbrev pub wants_memory : ServerState → ℕ → Bool
wants_memory s c =
    option_map_or (λ line. line_wants_memory s c line) (next_line_for s c) false
