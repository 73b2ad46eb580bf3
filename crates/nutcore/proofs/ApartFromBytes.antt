-- Sessions, and the server, except for the bytes that sessions hold and are owed.
use Rattle.std.proofs.Common.{◌≡◌, ℕ, List, [], ◌∷◌, Option, Some, None, refl, map, arith}
use Rattle.std.specs.Prelude.{option_map}
use Rattle.nutcore.proofs.Common.{length-map, SessionState, ServerState}
use Rattle.nutcore.specs.Session.{find, put, without, new_session}
use Rattle.nutcore.specs.Step.{opened}
use Rattle.nutcore.specs.Happenings.{without_bytes, apart_from_bytes}
use Rattle.std.proofs.lemmas.List.{map-append}
use Rattle.std.proofs.lemmas.Grind.{common_steps}

-- sessions except for what they hold and are owed
pub found_without : (c : ℕ) (xs : List SessionState) → find c (map without_bytes xs) ≡
    option_map without_bytes (find c xs)
found_without c [] = refl
found_without c (x ∷ xs) = grind (arith, common_steps, found_without c xs)

pub put_without : (y : SessionState) (xs : List SessionState) → map without_bytes (put y xs) ≡
    put (without_bytes y) (map without_bytes xs)
put_without y [] = refl
put_without y (x ∷ xs) = grind (arith, common_steps, put_without y xs)

pub closed_without : (c : ℕ) (xs : List SessionState) → map without_bytes (without c xs) ≡
    without c (map without_bytes xs)
closed_without c [] = refl
closed_without c (x ∷ xs) = grind (arith, common_steps, closed_without c xs)

-- an opening
pub core_opened : (s : ServerState) (address : List ℕ) (m : Option ℕ) →
    opened (apart_from_bytes s) address m ≡ apart_from_bytes (opened s address m)
unfolding opened
core_opened s address (Some k) = refl
core_opened s address None = grind (
  arith,
  length-map s.sessions without_bytes,
  map-append without_bytes s.sessions (new_session s.next_id address ∷ []),
)
