-- What the private parts of the code promise one another. A reader of the public contracts needs
-- none of it.
use Rattle.std.specs.Prelude.{◌≡◌, Result, Ok, Err}
use Rattle.nutcommand.specs.declared.command.Command.{Command}
use Rattle.nutcommand.specs.declared.err_word.ErrWord.{ErrWord}

-- The command that is made of these arguments, or their refusal.
abbrev pub IsCommandWith
    : {X : Type 0} → (X → Command → Type 0) → Result X ErrWord → Result Command ErrWord → Type 0
IsCommandWith makes (Err word) result = result ≡ Err word
IsCommandWith makes (Ok arguments) result =
    (command : Command) × (result ≡ Ok command) × makes arguments command
