-- The UPS and the server that a program's words name (upsc(8)).
use Rattle.std.specs.Prelude.{ℕ, Bool, not, List, ◌&&◌, ◌||◌, ◌==◌, nat_le, nat_lt, length}
use Rattle.std.specs.Prelude.{Option, Some, None, Result, Ok, Err, if◌then◌else◌, option_and_then}
use Rattle.std.specs.Prelude.{codes}
use Rattle.std.specs.List.{list_all, position_or_len, before_first, after_first}
use Rattle.nutwords.specs.Natural.{read_natural}
use Rattle.nutwords.specs.Reading.{read_ups_name}
use Rattle.nutwords.specs.declared.faults.BadName.{BadName}
use Rattle.nutclient.specs.declared.limits.TheConstants.{HOST_LIMIT, PORT_LIMIT, DEFAULT_PORT}
use Rattle.nutclient.specs.declared.target.Target.{Target}

-- What is read, if it is lawful.
abbrev pub lawful : Result (List ℕ) BadName → Option (List ℕ)
lawful (Ok text) = Some text
lawful (Err bad) = None

-- What two of them make, where both are there.
abbrev pub both : {A B C : Type 0} → (A → B → C) → Option A → Option B → Option C
both make (Some a) (Some b) = Some (make a b)
both make (Some a) None = None
both make None b = None

-- ASCII letters, digits, full stop and dash.
abbrev pub is_host_byte : ℕ → Bool
is_host_byte b =
    (nat_le 97 b && nat_le b 122) || (nat_le 65 b && nat_le b 90) || (nat_le 48 b && nat_le b 57)
    || (b == 46) || (b == 45)

-- The name of a host: 1 to 255 of these bytes.
abbrev pub host_of : List ℕ → Option (List ℕ)
host_of text =
    if length text == 0 then None
    else if not (list_all is_host_byte text) then None
    else if nat_le (length text) HOST_LIMIT then Some text
    else None

-- The port that a text writes: 1 to 65,535, without leading zeros.
abbrev pub port_from : ℕ → Option ℕ
port_from port = if nat_le 1 port then Some port else None

abbrev pub port_of : List ℕ → Option ℕ
port_of text = option_and_then port_from (read_natural PORT_LIMIT text)

abbrev pub server_at : Option (List ℕ) → Option ℕ → Option Target
server_at = both (λ host port. record { host = host; port = port })

-- The byte is in the text.
abbrev pub has_byte : ℕ → List ℕ → Bool
has_byte byte text = nat_lt (position_or_len (λ b. b == byte) text) (length text)

-- `host` or `host:port`; the port is 3493 where none is named.
abbrev pub server_of : List ℕ → Option Target
server_of text =
    if has_byte 58 text
    then server_at (host_of (before_first (λ b. b == 58) text))
    (port_of (after_first (λ b. b == 58) text))
    else server_at (host_of text) (Some DEFAULT_PORT)

abbrev pub local_host : List ℕ
local_host = codes "localhost"

-- The server where none is named.
abbrev pub local_server : Target
local_server = record { host = local_host; port = DEFAULT_PORT }

-- The name of a UPS.
abbrev pub ups_of : List ℕ → Option (List ℕ)
ups_of text = lawful (read_ups_name text)

-- `ups`, `ups@host` or `ups@host:port`.
abbrev pub ups_place_of : List ℕ → Option (List ℕ × Target)
ups_place_of text =
    if has_byte 64 text
    then both (λ ups server. (ups, server)) (ups_of (before_first (λ b. b == 64) text))
    (server_of (after_first (λ b. b == 64) text))
    else both (λ ups server. (ups, server)) (ups_of text) (Some local_server)
