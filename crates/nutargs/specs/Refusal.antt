-- With which status a program ends whose words its parser refuses.
use Rattle.std.specs.Prelude.{ℕ, Option, Some, None}
use Rattle.clap.specs.declared.error.kind.ErrorKind.{ErrorKind}
use Rattle.clap.specs.declared.error.kind.ErrorKind.TheVariants as error_kinds

-- 0 where the help or the version was asked for, else 2. Where there was no memory, the program
-- says which it is.
abbrev pub refusal_status : ErrorKind → Option ℕ
refusal_status error_kinds.OutOfMemory = None
refusal_status error_kinds.DisplayHelp = Some 0
refusal_status error_kinds.DisplayVersion = Some 0
refusal_status _ = Some 2
