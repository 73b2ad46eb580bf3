-- The doors at which newcomers knock.
use Rattle.std.specs.Prelude.{◌≡◌, ◌⊎◌, ◌∷◌, [], ◌||◌, ℕ, Bool, false, List, Option, Some}
use Rattle.std.specs.Prelude.{None, is_some, slice_get, IsTrue, ◌↔◌}
use Rattle.std.specs.Net.Addr.{HasPrefix, IsIpv4Mapped, IsLoopbackV4, IsLoopbackV6, MatchIp}
use Rattle.std.specs.Net.Addr.{ipv6_segments, low_octets}
use Rattle.std.specs.declared.net.ip_addr.IpAddr.{IpAddr}
use Rattle.std.specs.List.{list_any}
use Rattle.std.specs.Option.{option_map_or}
use Rattle.std.specs.declared.net.socket_addr.SocketAddr.{SocketAddr}
use Rattle.nutloop.specs.declared.over_mio.door.Door.{Door}
use Rattle.nutloop.specs.declared.over_mio.door.Entrance.{Entrance}
use Rattle.nutloop.specs.Pass.{FirstFrom}

-- Newcomers may be waiting at the door of a place.
abbrev pub is_knocked : List Door → ℕ → Bool
is_knocked doors place = option_map_or (λ door. door.is_knocked_at) (slice_get doors place) false

abbrev pub is_knocked_at : Entrance → Bool
is_knocked_at entrance =
    is_some entrance.newcomer || list_any (λ door. door.is_knocked_at) entrance.doors.items

abbrev pub is_tried_again : Entrance → Bool
is_tried_again entrance = list_any (λ door. door.is_tried_again) entrance.doors.items

-- The next door at which newcomers may be waiting: the first one from this place on, or else from
-- the first place on.
abbrev pub IsKnockedNext : List Door → ℕ → Option ℕ → Type 0
IsKnockedNext doors next result =
    FirstFrom (is_knocked doors) next result
    ⊎ (FirstFrom (is_knocked doors) next None × FirstFrom (is_knocked doors) 0 result)

-- It comes from this machine: of 127.0.0.0/8, of `::1`, or of an IPv6 address that maps one of
-- 127.0.0.0/8.
abbrev pub IsOfThisMachine : IpAddr → Bool → Type 0
IsOfThisMachine ip result =
    MatchIp ip (λ v4. IsTrue result ↔ IsLoopbackV4 v4)
    (λ v6. (IsIpv4Mapped (ipv6_segments v6)
    → (IsTrue result ↔ HasPrefix (low_octets v6) (127 ∷ [])))
    × (¬ (IsIpv4Mapped (ipv6_segments v6)) → (IsTrue result ↔ IsLoopbackV6 v6)))

-- The address is one of these.
abbrev pub is_one_of : List SocketAddr → SocketAddr → Type 0
is_one_of addresses address = (place : ℕ) × (slice_get addresses place ≡ Some address)
