-- Tokens: 0 is the listener's, 1 to 32 are the drivers', 33 to 96 the clients', by their places.
use Rattle.std.specs.Prelude.{◌<◌, ◌-◌, ℕ, ⊤, if◌then◌else◌, nat_lt}
use Rattle.nutusers.specs.declared.limits.TheConstants.{SESSION_LIMIT}
use Rattle.nutusers.specs.declared.limits.TheConstants.{UPS_LIMIT}
use Rattle.nutloop.specs.declared.over_mio.tokens.Source.{Source}
use Rattle.nutloop.specs.declared.over_mio.tokens.Source.TheVariants.{Listener, Driver, Client}
use Rattle.nutloop.specs.declared.over_mio.tokens.Source.TheVariants.{Closing}
use Rattle.nutloop.specs.declared.over_mio.tokens.TheConstants.{FIRST_DRIVER, FIRST_CLIENT, CLOSING}

-- The places of drivers and clients are below their limits.
abbrev pub HasPlace : Source → Type 0
HasPlace Listener = ⊤
HasPlace (Driver place) = place < UPS_LIMIT
HasPlace (Client place) = place < SESSION_LIMIT
HasPlace Closing = ⊤

abbrev pub source_of : ℕ → Source
source_of token =
    if nat_lt token FIRST_DRIVER then Listener
    else if nat_lt token FIRST_CLIENT then Driver (token - FIRST_DRIVER)
    else if nat_lt token CLOSING then Client (token - FIRST_CLIENT)
    else Closing
