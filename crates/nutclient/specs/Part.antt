-- What is said of a word of a command line that isn't lawful.
use Rattle.std.specs.Prelude.{ℕ, List, ◌++◌, codes}
use Rattle.nutclient.specs.declared.part.BadWord.{BadWord}
use Rattle.nutclient.specs.declared.part.Part.{Part}
use Rattle.nutclient.specs.declared.part.Part.TheVariants as parts
use Rattle.nutclient.specs.declared.program.Program.{Program}
use Rattle.nutclient.specs.declared.program.Program.TheVariants.{Upsc, Upsrw, Upscmd}

-- The forms of a program's words. One of them they have to have.
abbrev pub forms_of : Program → List ℕ
forms_of Upsc = codes "not UPS [VAR], -l|-L [HOST], -c|--attached UPS or --tracked ID UPS"
forms_of Upsrw = codes "not UPS or -s VAR=VALUE -u USER -p PASS|--password-file FILE [--track] UPS"
forms_of Upscmd =
    codes "not -l UPS or -u USER -p PASS|--password-file FILE [--track] UPS CMD [VALUE]"

-- What the help calls it, and what it has to be.
abbrev pub texts_of : Part → List ℕ × List ℕ
texts_of (parts.Forms program) = (codes "words", forms_of program)
texts_of parts.Ups = (codes "UPS", codes "not 1 to 32 letters, digits, . - _")
texts_of parts.Host = (codes "host", codes "not 1 to 255 letters, digits, . and -")
texts_of parts.Port = (codes "port", codes "not 1 to 65535 without leading zeros")
texts_of parts.Ipv6 =
    (codes "address", codes "an IPv6 address needs a host name, as /etc/hosts gives one")
texts_of parts.Variable = (codes "VAR", codes "not 1 to 64 letters, digits, . - _")
texts_of parts.Command = (codes "CMD", codes "not 1 to 64 letters, digits, . - _")
texts_of parts.Id = (codes "ID", codes "not one that --track printed")
texts_of parts.Setting = (codes "VAR=VALUE", codes "not a name, = and a value of at most 512 bytes")
texts_of parts.Value =
    (codes "VALUE", codes "not at most 512 bytes, none of them a control character")
texts_of parts.User = (codes "USER", codes "not 1 to 64 bytes, none of them a control character")
texts_of parts.Password =
    (codes "PASS", codes "not 1 to 256 bytes, none of them a control character")

-- What it is called, the word, and what it has to be.
abbrev pub why_bad : BadWord → List ℕ
why_bad bad =
    (texts_of bad.part).0 ++ (bad.shown.bytes ++ (codes ": " ++ (texts_of bad.part).1))
