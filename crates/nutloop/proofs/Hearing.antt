-- Who hears an event: the client or the driver of its place, and nobody else.
use Rattle.std.proofs.Common.{◌≡◌, ◌∙◌, ◌++◌, ℕ, Bool, true, false, List, []}
use Rattle.std.proofs.Common.{◌∷◌, Option, Some, None}
use Rattle.std.proofs.Common.{refl, ap, sym, subst}
use Rattle.std.specs.Prelude.{◌≢◌, ◌==◌, if◌then◌else◌, map, slice_get}
use denote.Ref.{Bor}
use Rattle.std.proofs.lemmas.List.{map-append}
use Rattle.std.specs.Option.{option_map}
use Rattle.std.proofs.lemmas.Bool.{eqb-true, eqb-false}
use Rattle.mio.specs.Event.{event_token}
use Rattle.mio.specs.declared.event.event.Event.{Event}
use Rattle.nutloop.specs.declared.over_mio.clients.Client.{Client}
use Rattle.nutloop.specs.declared.over_mio.drivers.Driver.{Driver}
use Rattle.nutloop.specs.declared.over_mio.door.Entrance.{Entrance}
use Rattle.nutloop.specs.declared.over_mio.tokens.Source.{Source}
use Rattle.nutloop.specs.declared.over_mio.tokens.Source.TheVariants as source
use Rattle.nutloop.specs.OverMio.{ClientsHear, DriversHear, StayInTheirPlaces, client_heard, driver_heard, heard_all}
use Rattle.nutloop.specs.OverMio.{is_of_source, is_same, who}
use Rattle.nutloop.specs.Pass.{client_in}
use Rattle.nutloop.specs.Tokens.{source_of}

heard_more : {X : Type 0} (hear : Event → X → X) (own : Source) (events : List Event) (e : Event) (x : X) →
    heard_all hear own (events ++ e ∷ []) x ≡
    (if is_of_source own e then hear e (heard_all hear own events x) else heard_all hear own events x)
heard_more hear own [] e x = refl
heard_more hear own (d ∷ events) e x =
    heard_more hear own events e (if is_of_source own d then hear d x else x)

-- A slot after one more event.
abbrev heard_by : {X : Type 0} → (Event → X → X) → Bool → Event → Option X → Option X
heard_by hear own e slot = if own then option_map (hear e) slot else slot

slot_hears : {X : Type 0} (hear : Event → X → X) (own : Source) (events : List Event) (e : Event)
    (old mid new : Option X) → mid ≡ option_map (heard_all hear own events) old →
    new ≡ heard_by hear (is_of_source own e) e mid →
    new ≡ option_map (heard_all hear own (events ++ e ∷ [])) old
slot_hears {X} hear own events e old mid new was is =
    is ∙ ap (heard_by hear (is_of_source own e) e) was ∙ by (is_of_source own e) refl old
  where
    by : (b : Bool) → is_of_source own e ≡ b → (old : Option X) →
        heard_by hear (is_of_source own e) e (option_map (heard_all hear own events) old) ≡
        option_map (heard_all hear own (events ++ e ∷ [])) old
    by true same None = rw same refl
    by false same None = rw same refl
    by true same (Some x) = rw same (ap Some (sym (heard_more hear own events e x ∙
        ap (λ b. if b then hear e (heard_all hear own events x) else heard_all hear own events x) same)))
    by false same (Some x) = rw same (ap Some (sym (heard_more hear own events e x ∙
        ap (λ b. if b then hear e (heard_all hear own events x) else heard_all hear own events x) same)))

-- What an event of this source leaves at each place.
pub clients_hear : (events : List Event) (e : Event) (at : Source) (old mid new : List (Option Client)) →
    source_of (event_token e).0 ≡ at → ClientsHear events old mid →
    ((place : ℕ) → client_in new place ≡
    heard_by client_heard (is_same (source.Client place) at) e (client_in mid place)) →
    ClientsHear (events ++ e ∷ []) old new
clients_hear events e at old mid new is before now place =
    slot_hears client_heard (source.Client place) events e (client_in old place) (client_in mid place)
    (client_in new place) (before place)
    (now place ∙ ap (λ (s : Source). heard_by client_heard (is_same (source.Client place) s) e
    (client_in mid place)) (sym is))

pub drivers_hear : (events : List Event) (e : Event) (at : Source) (old mid new : List Driver) →
    source_of (event_token e).0 ≡ at → DriversHear events old mid →
    ((place : ℕ) → slice_get new place ≡
    heard_by driver_heard (is_same (source.Driver place) at) e (slice_get mid place)) →
    DriversHear (events ++ e ∷ []) old new
drivers_hear events e at old mid new is before now place =
    slot_hears driver_heard (source.Driver place) events e (slice_get old place) (slice_get mid place)
    (slice_get new place) (before place)
    (now place ∙ ap (λ (s : Source). heard_by driver_heard (is_same (source.Driver place) s) e
    (slice_get mid place)) (sym is))

-- The own place hears, and the others don't.
pub own_hears : {X : Type 0} (hear : Event → X → X) (e : Event) (own : ℕ) (old new : ℕ → Option X) →
    new own ≡ option_map (hear e) (old own) → ((k : ℕ) → k ≢ own → new k ≡ old k) → (place : ℕ) →
    new place ≡ heard_by hear (place == own) e (old place)
own_hears {X} hear e own old new at others place = by (place == own) refl
  where
    by : (b : Bool) → (place == own) ≡ b → new place ≡ heard_by hear (place == own) e (old place)
    by true same =
        let is : place ≡ own = eqb-true place own same in
        rw same (subst (λ (k : ℕ). new k ≡ option_map (hear e) (old k)) (sym is) at)
    by false same = rw same (others place (eqb-false place own same))

-- What one more event leaves of the loop's invariant.
abbrev pub AllHear : List (Bor Event) → Entrance → Entrance → List (Option Client) → List (Option Client)
    → List Driver → List Driver → Type 0
AllHear events door entrance clients heard drivers told =
    (entrance ≡ record door { doors = entrance.doors })
    × ClientsHear (map (λ (e : Bor Event). e.now) events) clients heard
    × DriversHear (map (λ (e : Bor Event). e.now) events) drivers told

pub all_hear : (events : List (Bor Event)) (e : Bor Event) (at : Source) (door mid new : Entrance)
    (clients heard hears : List (Option Client)) (drivers told tells : List Driver) →
    source_of (event_token e.now).0 ≡ at → AllHear events door mid clients heard drivers told →
    new ≡ record door { doors = new.doors } →
    ((place : ℕ) → client_in hears place ≡
    heard_by client_heard (is_same (source.Client place) at) e.now (client_in heard place)) →
    ((place : ℕ) → slice_get tells place ≡
    heard_by driver_heard (is_same (source.Driver place) at) e.now (slice_get told place)) →
    AllHear (events ++ e ∷ []) door new clients hears drivers tells
all_hear events e at door mid new clients heard hears drivers told tells is before opens by_client by_driver =
    let join : map (λ (b : Bor Event). b.now) (events ++ e ∷ []) ≡
    map (λ (b : Bor Event). b.now) events ++ e.now ∷ [] =
    map-append (λ (b : Bor Event). b.now) events (e ∷ []) in (
      opens,
      subst (λ es. ClientsHear es clients hears) (sym join)
          (clients_hear (map (λ (b : Bor Event). b.now) events) e.now at clients heard hears is before.1 by_client),
      subst (λ es. DriversHear es drivers tells) (sym join)
          (drivers_hear (map (λ (b : Bor Event). b.now) events) e.now at drivers told tells is before.2 by_driver),
    )

-- Whoever hears stays.
who_after : (own : Bool) (e : Event) (x : Client) → who (Some (if own then client_heard e x else x)) ≡ who (Some x)
who_after true e x = refl
who_after false e x = refl

who_heard : (own : Source) (events : List Event) (x : Client) →
    who (Some (heard_all client_heard own events x)) ≡ who (Some x)
who_heard own [] x = refl
who_heard own (e ∷ events) x =
    who_heard own events (if is_of_source own e then client_heard e x else x) ∙ who_after (is_of_source own e) e x

pub heard_stay : (events : List Event) (old new : List (Option Client)) → ClientsHear events old new →
    StayInTheirPlaces old new
heard_stay events old new hear place = ap who (hear place) ∙ by (client_in old place)
  where
    by : (slot : Option Client) → who
        (option_map (heard_all client_heard (source.Client place) events) slot) ≡ who slot
    by None = refl
    by (Some x) = who_heard (source.Client place) events x

-- So whoever heard, and then stayed.
pub stay_joined : (old mid new : List (Option Client)) → StayInTheirPlaces old mid → StayInTheirPlaces mid new →
    StayInTheirPlaces old new
stay_joined old mid new a b place = b place ∙ a place
