-- The table of answers (RFC 9271): a command's checks, its answer and its change.
use Rattle.std.specs.Prelude.{◌≡◌, ℕ, Bool, true, false, List, [], ◌∷◌, codes, Option, Some, None}
use Rattle.std.specs.Prelude.{Result, Ok, Err, slice_get}
use Rattle.std.specs.Option.{option_and_then}
use Rattle.std.specs.Result.{result_err}
use Rattle.std.specs.Fmt.{decimal}
use Rattle.nutwords.specs.Frame.{line_of}
use Rattle.nuttracking.specs.Id.{id_text}
use Rattle.nutwords.specs.Spelling.{quoted}
use Rattle.nutusers.specs.Descriptions.{text_at}
use Rattle.nutusers.specs.declared.rights.Right.TheVariants as rights
use Rattle.nutusers.specs.declared.ups_list.UpsId.{UpsId}
use Rattle.nutcommand.specs.declared.command.Command.{Command}
use Rattle.nutcommand.specs.declared.command.Command.TheVariants as commands
use Rattle.nutcommand.specs.declared.err_word.ErrWord.{ErrWord}
use Rattle.nutcommand.specs.declared.err_word.ErrWord.TheVariants as errors
use Rattle.nutanswer.specs.declared.reply.Change.{Change}
use Rattle.nutanswer.specs.declared.reply.Change.TheVariants as changes
use Rattle.nutanswer.specs.declared.reply.Reply.{Reply}
use Rattle.nutanswer.specs.declared.reply.Reply.TheVariants.{Refused, One, Many, Clients}
use Rattle.nutcommand.specs.ErrWord.{error_line}
use Rattle.nutlisting.specs.Lines.{IsWholeLine}
use Rattle.nutanswer.specs.View.{Seen, AskerSeen, login_count, addresses_at}
use Rattle.nutlisting.specs.Shown.{shown, description_of, text_or_unavailable}
use Rattle.nutlisting.specs.Types.{type_words}
use Rattle.nutlisting.specs.Lines.{progress_words}
use Rattle.nutlisting.specs.Items.{ListingState, text_of, ups_listing, variable_listing, rw_listing}
use Rattle.nutlisting.specs.Items.{command_listing, enum_listing, range_listing, client_listing}
use Rattle.nutanswer.specs.Checks.{◌>>=◌, ◌>>◌, user, known_ups, live, known_variable}
use Rattle.nutanswer.specs.Checks.{var_not_lawful, cmd_not_lawful, known_command}
use Rattle.nutanswer.specs.Checks.{already_set_username, already_set_password, already_logged_in}
use Rattle.nutanswer.specs.Checks.{invalid_argument, readonly, settable_value, command_value}
use Rattle.nutanswer.specs.Checks.{invalid_value, order_id, set_failed, instcmd_failed}
use Rattle.nutanswer.specs.Checks.{kept_progress}
use Rattle.nutanswer.specs.Orders.{instcmd_right, set_line, instcmd_line, order}
use Rattle.nutanswer.specs.Orders.{ok_words, on_or_off_word}

-- The words of a line, as they are spelled, and what the command changes; or a listing, that of
-- clients apart: it copies what it lists.
pub data Answer : Type 0 where
  one_line : (words : List (List ℕ)) → (change : Change) → Answer
  listing : (l : ListingState) → Answer
  listing_of_clients : (l : ListingState) → Answer

-- A line of a command that changes nothing.
abbrev pub in_one_line : List (List ℕ) → Result Answer ErrWord
in_one_line words = Ok (one_line words changes.Nothing)

-- The bare OK.
abbrev pub ok : List (List ℕ)
ok = codes "OK" ∷ []

abbrev pub help_text : List ℕ
help_text =
    codes
    "Commands: HELP VER NETVER PROTVER GET LIST SET INSTCMD LOGIN LOGOUT PRIMARY FSD USERNAME PASSWORD STARTTLS"

-- How many sessions are logged in to a UPS, in a line that begins with this word.
abbrev pub count_of_logins : List ℕ → Seen → Option (List ℕ) → Result Answer ErrWord
count_of_logins kind s ups = do
  u ← known_ups s ups
  in_one_line (kind ∷ u.name ∷ decimal (login_count u.id s.clients) ∷ [])

-- The description of a UPS of the list, if it has one.
abbrev pub description_at : Seen → UpsId → Option (List ℕ)
description_at s u = option_and_then (λ ups. ups.desc) (slice_get s.list u.place)

-- The table.
abbrev pub answer_to : Seen → AskerSeen → Command → Result Answer ErrWord
answer_to s asker (commands.Username word) = do
  already_set_username asker
  name ← invalid_argument word
  Ok (one_line ok (changes.Username name))
answer_to s asker (commands.Password word) = do
  already_set_password asker
  password ← invalid_argument word
  Ok (one_line ok (changes.Password password))
answer_to s asker (commands.Login ups) = do
  user s asker rights.Login
  u ← known_ups s ups
  already_logged_in asker
  Ok (one_line ok (changes.Login u.id))
answer_to s asker commands.Logout = Ok (one_line (codes "OK" ∷ codes "Goodbye" ∷ []) changes.Ending)
answer_to s asker (commands.Primary ups) = do
  user s asker rights.Primary
  _ ← known_ups s ups
  in_one_line ok
answer_to s asker (commands.Fsd ups) = do
  user s asker rights.Fsd
  u ← known_ups s ups
  Ok (one_line (codes "OK" ∷ codes "FSD-SET" ∷ []) (changes.Fsd u.id))
answer_to s asker (commands.SetVar ups name word) = do
  user s asker rights.Set
  u ← known_ups s ups
  live s u
  (v, x) ← known_variable u name
  readonly x
  value ← settable_value x word
  invalid_value x value
  id ← order_id s asker errors.SetFailed
  set_failed u (set_line v value id)
  Ok (one_line (ok_words id) (order u.id (set_line v value id) id))
answer_to s asker (commands.InstCmd ups name word) = do
  user s asker (instcmd_right name)
  u ← known_ups s ups
  live s u
  c ← known_command u name
  value ← command_value word
  id ← order_id s asker errors.InstcmdFailed
  instcmd_failed u (instcmd_line c value id)
  Ok (one_line (ok_words id) (order u.id (instcmd_line c value id) id))
answer_to s asker (commands.SetTracking on) = Ok (one_line ok (changes.Tracking on))
answer_to s asker (commands.GetVar ups name) = do
  u ← known_ups s ups
  live s u
  (v, x) ← known_variable u name
  in_one_line (codes "VAR" ∷ u.name ∷ v ∷ quoted (shown u.state.fsd v x) ∷ [])
answer_to s asker (commands.GetType ups name) = do
  u ← known_ups s ups
  live s u
  (v, x) ← known_variable u name
  in_one_line (codes "TYPE" ∷ u.name ∷ v ∷ type_words x)
answer_to s asker (commands.GetDesc ups name) = do
  u ← known_ups s ups
  v ← var_not_lawful name
  in_one_line (codes "DESC" ∷ u.name ∷ v
      ∷ quoted (description_of (text_at s.descriptions.vars v)) ∷ [])
answer_to s asker (commands.GetCmdDesc ups name) = do
  u ← known_ups s ups
  c ← cmd_not_lawful name
  in_one_line (codes "CMDDESC" ∷ u.name ∷ c
      ∷ quoted (description_of (text_at s.descriptions.cmds c)) ∷ [])
answer_to s asker (commands.GetUpsDesc ups) = do
  u ← known_ups s ups
  in_one_line (codes "UPSDESC" ∷ u.name ∷ quoted (text_or_unavailable (description_at s u.id)) ∷ [])
answer_to s asker (commands.GetNumLogins ups) = count_of_logins (codes "NUMLOGINS") s ups
answer_to s asker (commands.GetNumAttach ups) = count_of_logins (codes "NUMATTACH") s ups
answer_to s asker commands.GetTracking =
    in_one_line (codes "TRACKING" ∷ on_or_off_word asker.tracking ∷ [])
answer_to s asker (commands.GetProgress id) = do
  (i, progress) ← kept_progress s id
  in_one_line (codes "TRACKING" ∷ id_text i ∷ progress_words progress)
answer_to s asker commands.ListUps = Ok (listing (ups_listing s.list))
answer_to s asker (commands.ListVar ups) = do
  u ← known_ups s ups
  live s u
  Ok (listing (variable_listing u.name u.state.fsd u.state.report.tree.variables))
answer_to s asker (commands.ListRw ups) = do
  u ← known_ups s ups
  live s u
  Ok (listing (rw_listing u.name u.state.fsd u.state.report.tree.variables))
answer_to s asker (commands.ListCmd ups) = do
  u ← known_ups s ups
  live s u
  Ok (listing (command_listing u.name u.state.report.tree.commands))
answer_to s asker (commands.ListEnum ups name) = do
  u ← known_ups s ups
  live s u
  (v, x) ← known_variable u name
  Ok (listing (enum_listing u.name v (Some x)))
answer_to s asker (commands.ListRange ups name) = do
  u ← known_ups s ups
  live s u
  (v, x) ← known_variable u name
  Ok (listing (range_listing u.name v (Some x)))
answer_to s asker (commands.ListClient ups) = do
  u ← known_ups s ups
  Ok (listing_of_clients (client_listing u.name (addresses_at u.id s.clients)))
answer_to s asker commands.Help = in_one_line (help_text ∷ [])
answer_to s asker commands.Ver = in_one_line (codes "Network UPS Tools upsd, profile 1" ∷ [])
answer_to s asker commands.NetVer = in_one_line (codes "1.3" ∷ [])
answer_to s asker commands.ProtVer = in_one_line (codes "1.3" ∷ [])
answer_to s asker commands.StartTls = Err errors.FeatureNotConfigured

-- The whole text of an answer.
abbrev pub text_of_answer : Result Answer ErrWord → List ℕ
text_of_answer (Err word) = error_line word
text_of_answer (Ok (one_line words change)) = line_of words
text_of_answer (Ok (listing l)) = text_of l
text_of_answer (Ok (listing_of_clients l)) = text_of l

-- What a command that is answered so changes: nothing where it is refused, and nothing where it
-- lists.
abbrev pub change_of_answer : Result Answer ErrWord → Change
change_of_answer (Err word) = changes.Nothing
change_of_answer (Ok (one_line words change)) = change
change_of_answer (Ok (listing l)) = changes.Nothing
change_of_answer (Ok (listing_of_clients l)) = changes.Nothing

-- The answer shares a version of what it lists, which takes memory.
abbrev pub shares_version : Result Answer ErrWord → Bool
shares_version (Err word) = false
shares_version (Ok (one_line words change)) = false
shares_version (Ok (listing l)) = true
shares_version (Ok (listing_of_clients l)) = false

-- A line that answers a command which isn't refused, and what the command changes.
pub record IsOneLine (answer : Result Answer ErrWord) (line : List ℕ) (change : Change)
    : Type 0 where
  pub text : line ≡ text_of_answer answer
  pub changes : change ≡ change_of_answer answer
  pub one : shares_version answer ≡ false
  pub granted : result_err answer ≡ None
  pub whole_line : IsWholeLine line

-- The reply gives this answer. The clients of a UPS are those that are seen.
abbrev pub IsReply : Seen → Result Answer ErrWord → Reply → Type 0
IsReply s answer (Refused word) = answer ≡ Err word
IsReply s answer (One line change) = IsOneLine answer line.now change
IsReply s answer (Many l) = answer ≡ Ok (listing l)
IsReply s answer (Clients name u) =
    answer ≡ Ok (listing_of_clients (client_listing name (addresses_at u s.clients)))
