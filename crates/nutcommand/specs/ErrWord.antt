-- The line of a refusal (RFC 9271: error responses).
use Rattle.std.specs.Prelude.{ℕ, List, [], ◌∷◌, codes}
use Rattle.nutwords.specs.Frame.{line_of}
use Rattle.nutcommand.specs.declared.err_word.ErrWord.{ErrWord}
use Rattle.nutcommand.specs.declared.err_word.ErrWord.TheVariants as errors

-- The word after ERR.
abbrev pub spelling_of : ErrWord → List ℕ
spelling_of errors.AccessDenied = codes "ACCESS-DENIED"
spelling_of errors.UnknownUps = codes "UNKNOWN-UPS"
spelling_of errors.VarNotSupported = codes "VAR-NOT-SUPPORTED"
spelling_of errors.CmdNotSupported = codes "CMD-NOT-SUPPORTED"
spelling_of errors.InvalidArgument = codes "INVALID-ARGUMENT"
spelling_of errors.InstcmdFailed = codes "INSTCMD-FAILED"
spelling_of errors.SetFailed = codes "SET-FAILED"
spelling_of errors.Readonly = codes "READONLY"
spelling_of errors.TooLong = codes "TOO-LONG"
spelling_of errors.FeatureNotConfigured = codes "FEATURE-NOT-CONFIGURED"
spelling_of errors.DriverNotConnected = codes "DRIVER-NOT-CONNECTED"
spelling_of errors.DataStale = codes "DATA-STALE"
spelling_of errors.AlreadyLoggedIn = codes "ALREADY-LOGGED-IN"
spelling_of errors.AlreadySetPassword = codes "ALREADY-SET-PASSWORD"
spelling_of errors.AlreadySetUsername = codes "ALREADY-SET-USERNAME"
spelling_of errors.UsernameRequired = codes "USERNAME-REQUIRED"
spelling_of errors.PasswordRequired = codes "PASSWORD-REQUIRED"
spelling_of errors.UnknownCommand = codes "UNKNOWN-COMMAND"
spelling_of errors.InvalidValue = codes "INVALID-VALUE"

-- The line with its LF.
abbrev pub error_line : ErrWord → List ℕ
error_line word = line_of (codes "ERR" ∷ spelling_of word ∷ [])
