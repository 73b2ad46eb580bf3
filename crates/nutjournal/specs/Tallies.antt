-- The lines of a second, by what they are of.
use Rattle.std.specs.Prelude.{ℕ, ◌+◌, ◌++◌, take, drop, Bool, false, true, map, List, []}
use Rattle.std.specs.Prelude.{◌∷◌, if◌then◌else◌, ◌==◌, ◌&&◌, ◌||◌, not, nat_lt, length, slice_get}
use Rattle.std.specs.Prelude.{slice_set, unwrap_or, Option, Some, None, option_map}
use Rattle.std.specs.List.{list_any, position_or_len}
use Rattle.std.specs.Option.{option_eq, option_map_or}
use Rattle.std.specs.Str.{bytes_eq}
use Rattle.nutcore.specs.declared.note.Deed.{Deed}
use Rattle.nutcore.specs.declared.note.Verb.{Verb}
use Rattle.nutcore.specs.declared.note.Who.{Who}
use Rattle.nutcore.specs.declared.note.Verb.TheVariants as verbs
use Rattle.nutusers.specs.declared.ups_list.UpsId.{UpsId}
use Rattle.nutusers.specs.UpsList.{Ups}
use Rattle.nutjournal.specs.declared.tally.Kind.{Kind}
use Rattle.nutjournal.specs.declared.tally.Tally.{Tally}
use Rattle.nutjournal.specs.declared.tallies.Clients.{Clients}
use Rattle.nutjournal.specs.declared.tallies.GivenOrder.{GivenOrder}
use Rattle.nutjournal.specs.declared.tallies.Of.{Of}
use Rattle.nutjournal.specs.declared.tallies.Of.TheVariants as whose
use Rattle.nutjournal.specs.declared.tallies.Tallies.{Tallies}
use Rattle.nutjournal.specs.declared.tallies.TheConstants.{ADDRESS_COUNT, ORDER_COUNT, REFUSAL_LIMIT}
use Rattle.nutjournal.specs.Network.{network_of}
use Rattle.nutjournal.specs.Tally.{after_line, after_second, is_logged, nothing}

abbrev pub fresh : Tally
fresh = record { lines = 0; logged = 0; more = nothing; worst = None }

-- The place of an address, or their number where it has none.
abbrev pub is : List ℕ → Option (List ℕ) → Bool
is address that = option_map_or (λ x. bytes_eq x address) that false

abbrev pub place_of : List ℕ → List (Option (List ℕ)) → ℕ
place_of address all = position_or_len (is address) all

-- That of an address: its own, or that of all others where there is no room for it.
abbrev pub tally_of_address : List ℕ → Clients → Tally
tally_of_address address all =
    unwrap_or (slice_get all.tallies (place_of address all.addresses.items)) fresh

abbrev pub with_address : List ℕ → List (Option (List ℕ)) → List (Option (List ℕ))
with_address address all =
    if place_of address all == length all && nat_lt (length all) ADDRESS_COUNT
    then all ++ Some address ∷ [] else all

-- After a line it has one more.
abbrev pub after_address : Bool → List ℕ → Kind → Clients → Clients
after_address has_room address kind all =
    record {
      addresses = record { items = with_address address all.addresses.items };
      tallies = slice_set all.tallies (place_of address all.addresses.items)
          (after_line has_room (tally_of_address address all) kind);
    }

-- That of the UPS of a place.
abbrev pub tally_of_ups : ℕ → Tallies → Tally
tally_of_ups place all = unwrap_or (slice_get all.upses place) fresh

-- An order: whose it is, at which UPS, and what is asked for.
abbrev pub verb_number : Verb → ℕ
verb_number verbs.Login = 0
verb_number verbs.Primary = 1
verb_number verbs.Fsd = 2
verb_number verbs.SetVar = 3
verb_number verbs.InstCmd = 4

abbrev pub order_of : Deed → GivenOrder
order_of deed =
    record { user = deed.who.user; ups = deed.ups; verb = deed.verb; name = deed.name }

abbrev pub is_order_of : Deed → GivenOrder → Bool
is_order_of deed order =
    option_eq bytes_eq order.user deed.who.user
    && (option_eq bytes_eq order.ups deed.ups
    && (verb_number order.verb == verb_number deed.verb && option_eq bytes_eq order.name deed.name))

-- It is the first of its second, where there is room to keep it; a forced shutdown is even where
-- there is none.
abbrev pub is_fsd : Verb → Bool
is_fsd verbs.Fsd = true
is_fsd _ = false

abbrev pub is_known : Deed → List (Option GivenOrder) → Bool
is_known deed all = list_any (λ order. option_map_or (is_order_of deed) order false) all

abbrev pub is_first_order : Deed → List (Option GivenOrder) → Bool
is_first_order deed all =
    not (is_known deed all) && (nat_lt (length all) ORDER_COUNT || is_fsd deed.verb)

abbrev pub with_order : Deed → List (Option GivenOrder) → List (Option GivenOrder)
with_order deed all =
    if not (is_known deed all) && nat_lt (length all) ORDER_COUNT
    then all ++ Some (order_of deed) ∷ [] else all

-- Whether a line is logged: of a UPS, of what a user did, of an order, which is logged where it is
-- the first of its second, and of what any client may cause, where all addresses leave it room.
abbrev pub has_refusal_room : Tallies → Bool
has_refusal_room all = nat_lt all.refusals REFUSAL_LIMIT

abbrev pub is_ups_logged : ℕ → Kind → Tallies → Bool
is_ups_logged place kind all = is_logged true (tally_of_ups place all) kind

abbrev pub is_user_logged : List ℕ → Kind → Tallies → Bool
is_user_logged address kind all = is_logged true (tally_of_address address all.users) kind

abbrev pub is_order_logged : Deed → Kind → Tallies → Bool
is_order_logged deed kind all =
    is_first_order deed all.orders.items || is_user_logged deed.who.address kind all

abbrev pub is_client_logged : List ℕ → Kind → Tallies → Bool
is_client_logged address kind all =
    is_logged (has_refusal_room all) (tally_of_address (network_of address) all.clients) kind

-- What a line leaves: it counts for its UPS or its address. The first order of its kind is kept.
abbrev pub after_ups : ℕ → Kind → Tallies → Tallies
after_ups place kind all =
    record all { upses = slice_set all.upses place (after_line true (tally_of_ups place all) kind) }

abbrev pub after_user : List ℕ → Kind → Tallies → Tallies
after_user address kind all = record all { users = after_address true address kind all.users }

abbrev pub after_order : Deed → Kind → Tallies → Tallies
after_order deed kind all =
    let kept : Tallies =
    record all { orders = record { items = with_order deed all.orders.items } } in
    if is_first_order deed all.orders.items then kept else after_user deed.who.address kind kept

abbrev pub after_client : List ℕ → Kind → Tallies → Tallies
after_client address kind all =
    record all {
      clients = after_address (has_refusal_room all) (network_of address) kind all.clients;
      refusals = if is_client_logged address kind all then all.refusals + 1 else all.refusals;
    }

-- What a line is of: a UPS, what a user did at a UPS, an order, a client's line that was refused, or
-- a client that the server ended.
pub data Whose : Type 0 where
  of_ups : (u : UpsId) → Whose
  of_user : (u : UpsId) → (who : Who) → Whose
  of_order : (deed : Deed) → Whose
  of_refused : (deed : Deed) → Whose
  of_client : (address : List ℕ) → Whose

abbrev pub whose_of : Of → Whose
whose_of (whose.Ups u) = of_ups u
whose_of (whose.User u who) = of_user u who.now
whose_of (whose.Order deed) = of_order deed.now
whose_of (whose.Refused deed) = of_refused deed.now
whose_of (whose.Client address) = of_client address.now

-- The UPS that a line names.
abbrev pub name_at : UpsId → List Ups → Option (List ℕ)
name_at u list = option_map (λ ups. ups.name) (slice_get list u.place)

abbrev pub ups_of : List Ups → Whose → Option (List ℕ)
ups_of list (of_ups u) = name_at u list
ups_of list (of_user u who) = name_at u list
ups_of list (of_order deed) = deed.ups
ups_of list (of_refused deed) = deed.ups
ups_of list (of_client address) = None

abbrev pub is_line_logged : Whose → Kind → Tallies → Bool
is_line_logged (of_ups u) kind all = is_ups_logged u.place kind all
is_line_logged (of_user u who) kind all = is_user_logged who.address kind all
is_line_logged (of_order deed) kind all = is_order_logged deed kind all
is_line_logged (of_refused deed) kind all = is_client_logged deed.who.address kind all
is_line_logged (of_client address) kind all = is_client_logged address kind all

abbrev pub after_line_of : Whose → Kind → Tallies → Tallies
after_line_of (of_ups u) kind all = after_ups u.place kind all
after_line_of (of_user u who) kind all = after_user who.address kind all
after_line_of (of_order deed) kind all = after_order deed kind all
after_line_of (of_refused deed) kind all = after_client deed.who.address kind all
after_line_of (of_client address) kind all = after_client address kind all

abbrev pub first_mapped : (Tally → Tally) → ℕ → List Tally → List Tally
first_mapped f n all = map f (take n all) ++ drop n all

-- Once a minute begins, all addresses have room again. So many had lines, with the tally of all
-- others: the tallies behind these stay as they are.
abbrev pub clients_after_second : Bool → Clients → Clients
clients_after_second is_minute all = record {
  addresses = record { items = if is_minute then [] else all.addresses.items };
  tallies = first_mapped (λ y. after_second y is_minute) (length all.addresses.items + 1) all.tallies;
}

-- Once a second begins, so do that of these UPSs and those of all clients, and no order was given
-- in it.
abbrev pub after_second_of : ℕ → Bool → Tallies → Tallies
after_second_of count is_minute all = record {
  upses = first_mapped (λ y. after_second y is_minute) count all.upses;
  users = clients_after_second is_minute all.users;
  clients = clients_after_second is_minute all.clients;
  orders = record { items = [] };
  refusals = 0;
}
