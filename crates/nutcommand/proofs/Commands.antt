-- What is read of each command is lawful, a case each.
use Rattle.std.proofs.Common.{ℕ, Bool, List, [], ◌∷◌, Option, Result, Ok, Err, refl}
use Rattle.std.specs.Prelude.{codes, ◌||◌}
use Rattle.nutcommand.specs.declared.command.Command.{Command}
use Rattle.nutcommand.specs.declared.command.Command.TheVariants as commands
use Rattle.nutcommand.specs.declared.err_word.ErrWord.{ErrWord}
use Rattle.nutwords.specs.declared.faults.BadLine.{BadLine}
use Rattle.nutwords.specs.Scan.{read_line}
use Rattle.nuttracking.specs.Id.{read_id}
use Rattle.nutwords.specs.Spelling.{is_word}
use Rattle.nutcommand.specs.Command.{user_name_alone, password_alone, ups_alone, ups_and_name, Names}
use Rattle.nutcommand.specs.Command.{ups_name_and_value_if_any, on_or_off, read_set, tracking_asked}
use Rattle.nutcommand.specs.Command.{read_instcmd, read_get, read_list, command_named, some_command}
use Rattle.nutcommand.specs.Command.{command_of, command_from, IsLawfulReading, WhatIsReadIsLawful}
use Rattle.nutcommand.proofs.LawfulWords.{IsLawfulResult, none_lawful, one_lawful, with_lawful}
use Rattle.nutcommand.proofs.LawfulWords.{alone_lawful, either_lawful, ups_lawful, set_var_lawful}
use Rattle.nutcommand.proofs.LawfulWords.{instcmd_words, ups_words, two_words}

tracking_lawful : (words : List (List ℕ)) → IsLawfulResult (tracking_asked words)
tracking_lawful [] = one_lawful commands.GetTracking tt
tracking_lawful (id ∷ []) = one_lawful (commands.GetProgress (read_id id)) tt
tracking_lawful (id ∷ other ∷ words) = none_lawful _

get_lawful : (words : List (List ℕ)) → IsLawfulResult (read_get words)
get_lawful [] = none_lawful _
get_lawful (kind ∷ words) =
    either_lawful (is_word kind (codes "VAR"))
    (with_lawful (λ a. commands.GetVar a.0 a.1) (ups_and_name words) (two_words words))
    (either_lawful (is_word kind (codes "TYPE"))
    (with_lawful (λ a. commands.GetType a.0 a.1) (ups_and_name words) (two_words words))
    (either_lawful (is_word kind (codes "DESC"))
    (with_lawful (λ a. commands.GetDesc a.0 a.1) (ups_and_name words) (two_words words))
    (either_lawful (is_word kind (codes "CMDDESC"))
    (with_lawful (λ a. commands.GetCmdDesc a.0 a.1) (ups_and_name words) (two_words words))
    (either_lawful (is_word kind (codes "UPSDESC"))
    (with_lawful (λ ups. commands.GetUpsDesc ups) (ups_alone words) (ups_words words))
    (either_lawful (is_word kind (codes "NUMLOGINS"))
    (with_lawful (λ ups. commands.GetNumLogins ups) (ups_alone words) (ups_words words))
    (either_lawful (is_word kind (codes "NUMATTACH"))
    (with_lawful (λ ups. commands.GetNumAttach ups) (ups_alone words) (ups_words words))
    (either_lawful (is_word kind (codes "TRACKING")) (tracking_lawful words)
    (none_lawful _))))))))

list_lawful : (words : List (List ℕ)) → IsLawfulResult (read_list words)
list_lawful [] = none_lawful _
list_lawful (kind ∷ words) =
    either_lawful (is_word kind (codes "UPS")) (alone_lawful commands.ListUps words tt)
    (either_lawful (is_word kind (codes "VAR"))
    (with_lawful (λ ups. commands.ListVar ups) (ups_alone words) (ups_words words))
    (either_lawful (is_word kind (codes "RW"))
    (with_lawful (λ ups. commands.ListRw ups) (ups_alone words) (ups_words words))
    (either_lawful (is_word kind (codes "CMD"))
    (with_lawful (λ ups. commands.ListCmd ups) (ups_alone words) (ups_words words))
    (either_lawful (is_word kind (codes "ENUM"))
    (with_lawful (λ a. commands.ListEnum a.0 a.1) (ups_and_name words) (two_words words))
    (either_lawful (is_word kind (codes "RANGE"))
    (with_lawful (λ a. commands.ListRange a.0 a.1) (ups_and_name words) (two_words words))
    (either_lawful (is_word kind (codes "CLIENT"))
    (with_lawful (λ ups. commands.ListClient ups) (ups_alone words) (ups_words words))
    (none_lawful _)))))))

set_lawful : (words : List (List ℕ)) → IsLawfulResult (read_set words)
set_lawful [] = none_lawful _
set_lawful (kind ∷ words) =
    either_lawful (is_word kind (codes "VAR")) (set_var_lawful (ups_name_and_value_if_any words) (instcmd_words words))
    (either_lawful (is_word kind (codes "TRACKING"))
    (with_lawful (λ (on : Bool). commands.SetTracking on) (on_or_off words) (λ on e. tt))
    (none_lawful _))

instcmd_lawful : (words : List (List ℕ)) → IsLawfulResult (read_instcmd words)
instcmd_lawful words = with_lawful
    (λ (a : Names (Option (Option (List ℕ)))). commands.InstCmd a.0 a.1 a.2)
    (ups_name_and_value_if_any words) (instcmd_words words)

named_lawful : (first : List ℕ) (words : List (List ℕ)) → IsLawfulResult (command_named first words)
named_lawful first words =
    either_lawful (is_word first (codes "GET")) (get_lawful words)
    (either_lawful (is_word first (codes "LIST")) (list_lawful words)
    (either_lawful (is_word first (codes "SET")) (set_lawful words)
    (either_lawful (is_word first (codes "USERNAME"))
    (with_lawful (λ (name : Option (List ℕ)). commands.Username name) (user_name_alone words) (λ a e. tt))
    (either_lawful (is_word first (codes "PASSWORD"))
    (with_lawful (λ (name : Option (List ℕ)). commands.Password name) (password_alone words) (λ a e. tt))
    (either_lawful (is_word first (codes "LOGIN") || is_word first (codes "ATTACH"))
    (ups_lawful (λ ups. commands.Login ups) words (λ ups. tt))
    (either_lawful (is_word first (codes "LOGOUT") || is_word first (codes "DETACH"))
    (alone_lawful commands.Logout words tt)
    (either_lawful (is_word first (codes "PRIMARY")) (ups_lawful (λ ups. commands.Primary ups) words (λ ups. tt))
    (either_lawful (is_word first (codes "FSD")) (ups_lawful (λ ups. commands.Fsd ups) words (λ ups. tt))
    (either_lawful (is_word first (codes "INSTCMD")) (instcmd_lawful words)
    (either_lawful (is_word first (codes "HELP")) (alone_lawful commands.Help words tt)
    (either_lawful (is_word first (codes "VER")) (alone_lawful commands.Ver words tt)
    (either_lawful (is_word first (codes "NETVER")) (alone_lawful commands.NetVer words tt)
    (either_lawful (is_word first (codes "PROTVER")) (alone_lawful commands.ProtVer words tt)
    (either_lawful (is_word first (codes "STARTTLS")) (alone_lawful commands.StartTls words tt)
    (none_lawful _)))))))))))))))

some_lawful : (r : Result Command ErrWord) → IsLawfulResult r → IsLawfulReading (some_command r)
some_lawful (Err word) h = tt
some_lawful (Ok command) h = h.lawful command refl

command_of_lawful : (words : List (List ℕ)) → IsLawfulReading (command_of words)
command_of_lawful [] = tt
command_of_lawful (first ∷ words) = some_lawful (command_named first words) (named_lawful first words)

from_lawful : (r : Result (List (List ℕ)) BadLine) → IsLawfulReading (command_from r)
from_lawful (Err bad) = tt
from_lawful (Ok words) = command_of_lawful words

pub reading_is_lawful : WhatIsReadIsLawful
reading_is_lawful line = from_lawful (read_line line)
