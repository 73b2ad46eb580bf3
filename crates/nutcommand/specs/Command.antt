-- How a client's line is read as a command (RFC 9271), or which error word refuses it.
use Rattle.std.specs.Prelude.{ℕ, Bool, true, false, List, [], ◌∷◌, Option, Some, None, Result, Ok}
use Rattle.std.specs.Prelude.{Err, codes, if◌then◌else◌, ◌||◌, ◌≡◌, IsTrue}
use Rattle.std.specs.Result.{result_ok}
use Rattle.nutwords.specs.Scan.{read_line}
use Rattle.nutwords.specs.Reading.{read_name, read_ups_name, read_value}
use Rattle.nutwords.specs.Reading.{is_name, is_ups_name, is_value}
use Rattle.nutwords.specs.declared.faults.BadLine.{BadLine}
use Rattle.nuttracking.specs.Id.{read_id}
use Rattle.nutusers.specs.Credentials.{read_user_name, read_password}
use Rattle.nutwords.specs.Spelling.{is_word}
use Rattle.nutcommand.specs.declared.command.Command.{Command}
use Rattle.nutcommand.specs.declared.command.Command.TheVariants as commands
use Rattle.nutcommand.specs.declared.err_word.ErrWord.{ErrWord}
use Rattle.nutcommand.specs.declared.err_word.ErrWord.TheVariants.{InvalidArgument, UnknownCommand}

-- A command of these arguments, or their refusal.
abbrev pub command_with : {X : Type 0} → (X → Command) → Result X ErrWord → Result Command ErrWord
command_with command (Err word) = Err word
command_with command (Ok arguments) = Ok (command arguments)

-- No further word.
abbrev pub alone : Command → List (List ℕ) → Result Command ErrWord
alone command [] = Ok command
alone command _ = Err InvalidArgument

-- One word, and no other, which is read so. Where it is no such thing, it is none.
abbrev pub text_alone
    : (List ℕ → Option (List ℕ)) → List (List ℕ) → Result (Option (List ℕ)) ErrWord
text_alone read (word ∷ []) = Ok (read word)
text_alone read _ = Err InvalidArgument

abbrev pub user_name_alone : List (List ℕ) → Result (Option (List ℕ)) ErrWord
user_name_alone = text_alone read_user_name

abbrev pub password_alone : List (List ℕ) → Result (Option (List ℕ)) ErrWord
password_alone = text_alone read_password

abbrev pub ups_alone : List (List ℕ) → Result (Option (List ℕ)) ErrWord
ups_alone = text_alone (λ ups. result_ok (read_ups_name ups))

-- `ups name`, the name of a variable or of a command
abbrev pub ups_and_name : List (List ℕ) → Result (Option (List ℕ) × Option (List ℕ)) ErrWord
ups_and_name (ups ∷ name ∷ []) = Ok (result_ok (read_ups_name ups), result_ok (read_name name))
ups_and_name _ = Err InvalidArgument

-- The names of a UPS and of a variable or a command, and a value, each none where the word is no
-- such thing.
abbrev pub Names : Type 0 → Type 0
Names A = Option (List ℕ) × Option (List ℕ) × A

-- The value that a word is. A word of more than 512 bytes is none; its bytes are lawful, as the
-- line's are.
abbrev pub value_of : List ℕ → Option (List ℕ)
value_of word = result_ok (read_value word)

-- `ups name`, or `ups name value`
abbrev pub ups_name_and_value_if_any
    : List (List ℕ) → Result (Names (Option (Option (List ℕ)))) ErrWord
ups_name_and_value_if_any (ups ∷ name ∷ []) =
    Ok (result_ok (read_ups_name ups), result_ok (read_name name), None)
ups_name_and_value_if_any (ups ∷ name ∷ value ∷ []) =
    Ok (result_ok (read_ups_name ups), result_ok (read_name name), Some (value_of value))
ups_name_and_value_if_any _ = Err InvalidArgument

-- `ON` or `OFF`
abbrev pub is_on : List ℕ → Result Bool ErrWord
is_on word =
    if is_word word (codes "ON") then Ok true
    else if is_word word (codes "OFF") then Ok false
    else Err InvalidArgument

abbrev pub on_or_off : List (List ℕ) → Result Bool ErrWord
on_or_off (word ∷ []) = is_on word
on_or_off _ = Err InvalidArgument

-- SET VAR: its value may not be left out.
abbrev pub set_var_with
    : Result (Names (Option (Option (List ℕ)))) ErrWord → Result Command ErrWord
set_var_with (Err word) = Err word
set_var_with (Ok (ups, name, None)) = Err InvalidArgument
set_var_with (Ok (ups, name, Some value)) = Ok (commands.SetVar ups name value)

-- SET: one case a second word.
abbrev pub read_set : List (List ℕ) → Result Command ErrWord
read_set [] = Err InvalidArgument
read_set (kind ∷ words) =
    if is_word kind (codes "VAR") then set_var_with (ups_name_and_value_if_any words)
    else if is_word kind (codes "TRACKING")
    then command_with (λ on. commands.SetTracking on) (on_or_off words)
    else Err InvalidArgument

abbrev pub read_instcmd : List (List ℕ) → Result Command ErrWord
read_instcmd words = command_with (λ a. commands.InstCmd a.0 a.1 a.2)
    (ups_name_and_value_if_any words)

-- GET TRACKING: without a word, or with a word that is to be an id, and is none where it isn't one.
abbrev pub tracking_asked : List (List ℕ) → Result Command ErrWord
tracking_asked [] = Ok commands.GetTracking
tracking_asked (id ∷ []) = Ok (commands.GetProgress (read_id id))
tracking_asked _ = Err InvalidArgument

-- GET: one case a second word.
abbrev pub read_get : List (List ℕ) → Result Command ErrWord
read_get [] = Err InvalidArgument
read_get (kind ∷ words) =
    if is_word kind (codes "VAR")
    then command_with (λ a. commands.GetVar a.0 a.1) (ups_and_name words)
    else if is_word kind (codes "TYPE")
    then command_with (λ a. commands.GetType a.0 a.1) (ups_and_name words)
    else if is_word kind (codes "DESC")
    then command_with (λ a. commands.GetDesc a.0 a.1) (ups_and_name words)
    else if is_word kind (codes "CMDDESC")
    then command_with (λ a. commands.GetCmdDesc a.0 a.1) (ups_and_name words)
    else if is_word kind (codes "UPSDESC")
    then command_with (λ ups. commands.GetUpsDesc ups) (ups_alone words)
    else if is_word kind (codes "NUMLOGINS")
    then command_with (λ ups. commands.GetNumLogins ups) (ups_alone words)
    else if is_word kind (codes "NUMATTACH")
    then command_with (λ ups. commands.GetNumAttach ups) (ups_alone words)
    else if is_word kind (codes "TRACKING") then tracking_asked words
    else Err InvalidArgument

-- LIST: one case a second word.
abbrev pub read_list : List (List ℕ) → Result Command ErrWord
read_list [] = Err InvalidArgument
read_list (kind ∷ words) =
    if is_word kind (codes "UPS") then alone commands.ListUps words
    else if is_word kind (codes "VAR")
    then command_with (λ ups. commands.ListVar ups) (ups_alone words)
    else if is_word kind (codes "RW")
    then command_with (λ ups. commands.ListRw ups) (ups_alone words)
    else if is_word kind (codes "CMD")
    then command_with (λ ups. commands.ListCmd ups) (ups_alone words)
    else if is_word kind (codes "ENUM")
    then command_with (λ a. commands.ListEnum a.0 a.1) (ups_and_name words)
    else if is_word kind (codes "RANGE")
    then command_with (λ a. commands.ListRange a.0 a.1) (ups_and_name words)
    else if is_word kind (codes "CLIENT")
    then command_with (λ ups. commands.ListClient ups) (ups_alone words)
    else Err InvalidArgument

-- The commands except GET, LIST and SET, some of them by two words: one case a first word.
abbrev pub other_command : List ℕ → List (List ℕ) → Result Command ErrWord
other_command first words =
    if is_word first (codes "USERNAME")
    then command_with (λ name. commands.Username name) (user_name_alone words)
    else if is_word first (codes "PASSWORD")
    then command_with (λ password. commands.Password password) (password_alone words)
    else if is_word first (codes "LOGIN") || is_word first (codes "ATTACH")
    then command_with (λ ups. commands.Login ups) (ups_alone words)
    else if is_word first (codes "LOGOUT") || is_word first (codes "DETACH")
    then alone commands.Logout words
    else if is_word first (codes "PRIMARY")
    then command_with (λ ups. commands.Primary ups) (ups_alone words)
    else if is_word first (codes "FSD")
    then command_with (λ ups. commands.Fsd ups) (ups_alone words)
    else if is_word first (codes "INSTCMD") then read_instcmd words
    else if is_word first (codes "HELP") then alone commands.Help words
    else if is_word first (codes "VER") then alone commands.Ver words
    else if is_word first (codes "NETVER") then alone commands.NetVer words
    else if is_word first (codes "PROTVER") then alone commands.ProtVer words
    else if is_word first (codes "STARTTLS") then alone commands.StartTls words
    else Err UnknownCommand

-- The command with this first word and these words after it.
abbrev pub command_named : List ℕ → List (List ℕ) → Result Command ErrWord
command_named first words =
    if is_word first (codes "GET") then read_get words
    else if is_word first (codes "LIST") then read_list words
    else if is_word first (codes "SET") then read_set words
    else other_command first words

abbrev pub some_command : Result Command ErrWord → Result (Option Command) ErrWord
some_command (Err word) = Err word
some_command (Ok command) = Ok (Some command)

-- The command that these words are, and none without words.
abbrev pub command_of : List (List ℕ) → Result (Option Command) ErrWord
command_of [] = Ok None
command_of (first ∷ words) = some_command (command_named first words)

abbrev pub command_from : Result (List (List ℕ)) BadLine → Result (Option Command) ErrWord
command_from (Err bad) = Err InvalidArgument
command_from (Ok words) = command_of words

-- The command of a line, or the word of the error that answers it.
abbrev pub read_command : List ℕ → Result (Option Command) ErrWord
read_command line = command_from (read_line line)

-- The word of the UPS whose data a command asks for, or to whose driver it gives an order.
abbrev pub asks_data_of : Command → Option (Option (List ℕ))
asks_data_of (commands.SetVar ups name value) = Some ups
asks_data_of (commands.InstCmd ups name value) = Some ups
asks_data_of (commands.GetVar ups name) = Some ups
asks_data_of (commands.GetType ups name) = Some ups
asks_data_of (commands.ListVar ups) = Some ups
asks_data_of (commands.ListRw ups) = Some ups
asks_data_of (commands.ListCmd ups) = Some ups
asks_data_of (commands.ListEnum ups name) = Some ups
asks_data_of (commands.ListRange ups name) = Some ups
asks_data_of _ = None

abbrev pub HasLawfulName : Option (List ℕ) → Type 0
HasLawfulName v = (name : List ℕ) → v ≡ Some name → IsTrue (is_name name)

abbrev pub HasLawfulUpsName : Option (List ℕ) → Type 0
HasLawfulUpsName ups = (name : List ℕ) → ups ≡ Some name → IsTrue (is_ups_name name)

abbrev pub HasLawfulValue : Option (List ℕ) → Type 0
HasLawfulValue word = (value : List ℕ) → word ≡ Some value → IsTrue (is_value value)

abbrev pub HasLawfulValueIfAny : Option (Option (List ℕ)) → Type 0
HasLawfulValueIfAny word = (value : List ℕ) → word ≡ Some (Some value) → IsTrue (is_value value)

-- The names and values of a command are lawful: of those that give orders, and of those that get or
-- list what is known of a UPS.
abbrev pub IsLawfulCommand : Command → Type 0
IsLawfulCommand (commands.SetVar ups v word) = HasLawfulName v × HasLawfulValue word
IsLawfulCommand (commands.InstCmd ups v word) = HasLawfulName v × HasLawfulValueIfAny word
IsLawfulCommand (commands.GetVar ups v) = HasLawfulUpsName ups × HasLawfulName v
IsLawfulCommand (commands.GetType ups v) = HasLawfulUpsName ups × HasLawfulName v
IsLawfulCommand (commands.GetDesc ups v) = HasLawfulUpsName ups × HasLawfulName v
IsLawfulCommand (commands.GetCmdDesc ups v) = HasLawfulUpsName ups × HasLawfulName v
IsLawfulCommand (commands.GetUpsDesc ups) = HasLawfulUpsName ups
IsLawfulCommand (commands.GetNumLogins ups) = HasLawfulUpsName ups
IsLawfulCommand (commands.GetNumAttach ups) = HasLawfulUpsName ups
IsLawfulCommand (commands.ListVar ups) = HasLawfulUpsName ups
IsLawfulCommand (commands.ListRw ups) = HasLawfulUpsName ups
IsLawfulCommand (commands.ListCmd ups) = HasLawfulUpsName ups
IsLawfulCommand (commands.ListEnum ups v) = HasLawfulUpsName ups × HasLawfulName v
IsLawfulCommand (commands.ListRange ups v) = HasLawfulUpsName ups × HasLawfulName v
IsLawfulCommand (commands.ListClient ups) = HasLawfulUpsName ups
IsLawfulCommand _ = Unit {0}

-- What was read is lawful, where it is a command.
abbrev pub IsLawfulReading : Result (Option Command) ErrWord → Type 0
IsLawfulReading (Err word) = Unit {0}
IsLawfulReading (Ok None) = Unit {0}
IsLawfulReading (Ok (Some command)) = IsLawfulCommand command

abbrev pub WhatIsReadIsLawful : Type 0
WhatIsReadIsLawful = (line : List ℕ) → IsLawfulReading (read_command line)
