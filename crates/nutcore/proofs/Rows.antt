-- What a line changes comes of its command, where the checks of its row held.
use Rattle.std.proofs.Common.{◌≡◌, ◌∙◌, ℕ, Bool, true, false, List, Option, Some}
use Rattle.std.proofs.Common.{Result, Ok, refl, ap, subst}
use Rattle.nutusers.specs.declared.rights.Right.{Right}
use Rattle.nutcore.proofs.Common.{UpsId, Change, ServerState}
use Rattle.nutcommand.specs.declared.command.Command.{Command}
use Rattle.nutcommand.specs.declared.err_word.ErrWord.{ErrWord}
use Rattle.nutanswer.specs.declared.reply.Change.TheVariants.{Nothing}
use Rattle.nutcommand.specs.Command.{read_command}
use Rattle.nutanswer.specs.Rows.{ComesOf, IsByRight as IsRowByRight}
use Rattle.nutanswer.proofs.PublicLaws.{each_change_comes_of_its_command}
use Rattle.nutcore.specs.Reply.{seen, asker, change_by, text_to}
use Rattle.nutcore.specs.ByRight.{IsByRight}

abbrev pub some_command : Command → Result (Option Command) ErrWord
some_command command = Ok (Some command)

abbrev changes_something : Change → Bool
changes_something Nothing = false
changes_something _ = true

pub record ComesOfLine (s : ServerState) (c : ℕ) (line : List ℕ) (change : Change) : Type 0 where
  pub command : Command
  pub read : read_command line ≡ Ok (Some command)
  pub row : ComesOf (seen s) (asker c s) command change

pub comes_of_line : (s : ServerState) (c : ℕ) (line : List ℕ) (change : Change) →
    changes_something change ≡ true → change_by s c (read_command line) ≡ change → ComesOfLine s c line change
comes_of_line s c line change some is = by_read (read_command line) refl is
  where
    by_read : (r : Result (Option Command) ErrWord) → read_command line ≡ r →
        change_by s c r ≡ change → ComesOfLine s c line change
    by_read (Ok (Some command)) e h =
        record {
          command = command;
          read = e;
          row =
              subst (ComesOf (seen s) (asker c s) command) h
              (each_change_comes_of_its_command (seen s) (asker c s) command);
        }
    by_read r e h = cc (some, h)

-- a row that is by right, as its line has it
unfoldable pub by_right : (s : ServerState) (c : ℕ) (line : List ℕ) (command : Command)
    (of_ups : Option (List ℕ) → Command) (right : Right) (words : List (List ℕ)) (u : UpsId)
    → read_command line ≡ Ok (Some command)
    → IsRowByRight (seen s) (asker c s) command of_ups right words u → IsByRight s c line of_ups right words u
by_right s c line command of_ups right words u read row = record {
  ups = row.ups;
  name = row.has.name;
  password = row.has.password;
  known = row.known;
  command = read ∙ ap some_command row.is;
  named = row.named;
  this = row.this;
  username_given = row.has.username_given;
  password_given = row.has.password_given;
  granted = row.has.granted;
  answered = ap (text_to s c) read ∙ row.text;
}
