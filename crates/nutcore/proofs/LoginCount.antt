-- Counting the sessions that are logged in.
use Rattle.std.proofs.Common.{◌≡◌, ℕ, ◌+◌, ◌<◌, ◌≤◌, ◌++◌, Bool, List, []}
use Rattle.std.proofs.Common.{◌∷◌, refl, cond, map, take, length, get_or, arith}
use Rattle.std.proofs.Common.{length-append}
use Rattle.std.specs.Prelude.{count_by}
use Rattle.std.specs.List.{filter}
use Rattle.std.proofs.lemmas.List.{map-append, take_all, length-take}
use Rattle.std.proofs.lemmas.Simd.{map-map}
use Rattle.std.proofs.lemmas.List.Elements.{filter_more}
use Rattle.std.proofs.lemmas.Grind.{common_steps}
use Rattle.std.proofs.lemmas.List.Sums.{count_by_more_yes, count_by_more_no, count_by-le-length, length-filter}
use Rattle.nutcore.proofs.Common.{UpsId, SessionState}
use Rattle.nutanswer.specs.View.{ClientSeen, is_logged_in, addresses_at}
use Rattle.nutlisting.specs.Items.{client_item}
use Rattle.nutcore.specs.ByRight.{WhatIsCountedIsWhoIsThere}
use Rattle.nutcore.specs.Reply.{seen_client}

-- the session is logged in to the UPS
abbrev pub is_in : UpsId → SessionState → Bool
is_in u x = is_logged_in u (seen_client x)

-- one more session
pub count_more : (u : UpsId) (xs : List SessionState) (i : ℕ) (d : SessionState) → i <
    length xs → count_by (is_in u) (take (i + 1) xs) ≡ count_by (is_in u) (take i xs) +
    cond (is_in u (get_or xs i d)) 1 0
count_more u xs i d lt = grind (arith, count_by_more_yes (is_in u) xs i d lt, count_by_more_no (is_in u) xs i d lt)

-- as clients are seen
pub count_seen : (u : UpsId) (xs : List SessionState) →
    count_by (is_logged_in u) (map seen_client xs) ≡ count_by (is_in u) xs
count_seen u [] = refl
count_seen u (x ∷ xs) = grind (arith, common_steps, count_seen u xs)

-- the sessions that are logged in, as clients are seen
seen_filter : (u : UpsId) (xs : List SessionState) → addresses_at u (map seen_client xs) ≡
    map (λ (x : SessionState). x.address) (filter (is_in u) xs)
seen_filter u [] = refl
seen_filter u (x ∷ xs) = grind (arith, common_steps, seen_filter u xs)

-- the addresses once one more session is seen
pub list_more : (u : UpsId) (xs : List SessionState) (i : ℕ) (d : SessionState) → i < length xs
    → addresses_at u (map seen_client (take (i + 1) xs)) ≡
    addresses_at u (map seen_client (take i xs)) ++ addresses_at u (seen_client (get_or xs i d) ∷ [])
list_more u xs i d lt =
    let address : SessionState → List ℕ = λ (x : SessionState). x.address in
    let one : List SessionState = filter (is_in u) (get_or xs i d ∷ []) in
    cc (
      seen_filter u (take (i + 1) xs),
      filter_more (is_in u) xs i d lt,
      map-append address (filter (is_in u) (take i xs)) one,
      seen_filter u (take i xs),
      seen_filter u (get_or xs i d ∷ []),
    )

-- one session has one address at most
pub one_address : (u : UpsId) (x : ClientSeen) → length (addresses_at u (x ∷ [])) ≤ 1
one_address u x = grind arith

pub who_is_there : WhatIsCountedIsWhoIsThere
who_is_there = record {
  counted = λ s c line ups known read named. cc
      (read, named, count_seen known.id s.sessions, length-filter (is_in known.id) s.sessions);
  attached = λ s c line ups known read named. cc
      (read, named, count_seen known.id s.sessions, length-filter (is_in known.id) s.sessions);
  listed = λ s c line ups known read named.
      cc (
        read,
        named,
        seen_filter known.id s.sessions,
        map-map (client_item known.name) (λ (x : SessionState). x.address) (filter (is_in known.id) s.sessions),
      );
}

pub ruleset counting = (count_more, count_seen, take_all, count_by-le-length, length-take)

pub ruleset listing = (list_more, one_address, take_all, length-append)
