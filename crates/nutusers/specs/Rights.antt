-- What a user may do, by the lines of his section (upsd.users(5)).
use Rattle.std.specs.Prelude.{ℕ, Bool, true, false, List, codes, Option, None, Some, if◌then◌else◌}
use Rattle.std.specs.Str.{bytes_eq}
use Rattle.nutwords.specs.Reading.{is_name}
use Rattle.nutusers.specs.ConfigLine.{ConfigLine, silent, malformed, section, setting, upsmon}
use Rattle.nutusers.specs.declared.rights.Right.{Right}
use Rattle.nutusers.specs.declared.rights.Right.TheVariants.{Login, Primary, Fsd, Set, Instcmd}
use Rattle.nutusers.specs.declared.rights.Grant.{Grant}
use Rattle.nutusers.specs.declared.rights.Grant.TheVariants as grants

-- The rights that each grant gives. A command that is granted is this one, byte by byte; every one
-- may be sent under `ALL`, whatever its bytes.
abbrev pub gives : Grant → Right → Bool
gives grants.UpsmonSecondary Login = true
gives grants.UpsmonSecondary _ = false
gives grants.UpsmonPrimary Login = true
gives grants.UpsmonPrimary Primary = true
gives grants.UpsmonPrimary Fsd = true
gives grants.UpsmonPrimary _ = false
gives grants.ActionSet Set = true
gives grants.ActionSet _ = false
gives grants.ActionFsd Fsd = true
gives grants.ActionFsd _ = false
gives (grants.Command name) (Instcmd command) = bytes_eq name command.now
gives (grants.Command name) _ = false
gives grants.EveryCommand (Instcmd command) = true
gives grants.EveryCommand _ = false

-- `upsmon primary` and `upsmon secondary`.
abbrev pub role_grant : List ℕ → Option Grant
role_grant role =
    if bytes_eq role (codes "primary") then Some grants.UpsmonPrimary
    else if bytes_eq role (codes "secondary") then Some grants.UpsmonSecondary else None

-- `actions = SET` and `actions = FSD`.
abbrev pub action_grant : List ℕ → Option Grant
action_grant value =
    if bytes_eq value (codes "SET") then Some grants.ActionSet else if bytes_eq value (codes "FSD")
    then Some grants.ActionFsd else None

-- `instcmds = ALL`, and the name of a command.
abbrev pub command_grant : List ℕ → Option Grant
command_grant value =
    if bytes_eq value (codes "ALL") then Some grants.EveryCommand else if is_name value
    then Some (grants.Command value) else None

-- What a line grants to the user of its section.
abbrev pub grant_of : ConfigLine → Option Grant
grant_of silent = None
grant_of malformed = None
grant_of (section name) = None
grant_of (setting key value) =
    if bytes_eq key (codes "actions") then action_grant value
    else if bytes_eq key (codes "instcmds") then command_grant value else None
grant_of (upsmon role) = role_grant role
