-- The network that a client is of.
use Rattle.std.specs.Prelude.{ℕ, ◌/◌, ◌%◌, List, [], ◌∷◌, ◌++◌, Option, codes, option_map, slice_index}
use Rattle.std.specs.Net.Reader.{read_ipv6, whole_value}
use Rattle.std.specs.Option.{option_map_or}
use Rattle.std.specs.Result.{result_unwrap_or}
use Rattle.nutwords.specs.Reading.{read_address}

-- The last hexadecimal digit of a number, and the four of a segment.
abbrev pub digit : ℕ → ℕ
digit n = slice_index (codes "0123456789abcdef") (n % 16)

abbrev pub digits : ℕ → List ℕ
digits n = digit (n / 4096) ∷ digit (n / 256) ∷ digit (n / 16) ∷ digit n ∷ []

abbrev pub half_of : List ℕ → List ℕ
half_of segments =
    digits (slice_index segments 0) ++ codes ":" ++ digits (slice_index segments 1) ++ codes ":"
    ++ digits (slice_index segments 2) ++ codes ":" ++ digits (slice_index segments 3)
    ++ codes "::/64"

-- The first half of what is an IPv6 address.
abbrev pub half_read : List ℕ → Option (List ℕ)
half_read text = option_map half_of (whole_value (read_ipv6 text))

-- Of an IPv6 address the network is its first half, the /64. Any other address is a network of its
-- own.
unfoldable pub network_of : List ℕ → List ℕ
network_of address =
    option_map_or (λ text. result_unwrap_or (read_address text) address) (half_read address) address
