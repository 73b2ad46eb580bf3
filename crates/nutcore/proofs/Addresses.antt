-- The addresses of sessions stay lawful, and the list of UPSs is never changed.
use Rattle.std.proofs.Common.{◌≡◌, ℕ, List, [], ◌∷◌, refl, sym, subst, All, IsTrue}
use Rattle.std.proofs.lemmas.List.Elements.{All-nil, All-cons, All-head, All-tail}
use Rattle.nutwords.specs.Reading.{is_address}
use Rattle.nutusers.specs.UpsList.{Ups}
use Rattle.nutcore.specs.Session.{SessionState, new_session}
use Rattle.nutcore.proofs.Common.{ServerState}
use Rattle.nutcore.specs.ReadsBack.{HasLawfulAddress}
use Rattle.nutcore.specs.Sound.{Each}
use Rattle.nutcore.specs.Addresses.{ANewServerHasLawfulAddresses, EveryRunKeepsAddressesLawful, EveryRunKeepsTheList}
use Rattle.nutcore.proofs.Kept.{IsKept, IsAny, any_event, by_run, kept_apart}
use Rattle.nutcore.proofs.Sound.{each_put, each_without, each_found}
use Rattle.nutcore.proofs.SoundUps.{each_last}

-- addresses
abbrev pub HaveLawfulAddresses : ServerState → Type 0
HaveLawfulAddresses s = Each HasLawfulAddress s.sessions

abbrev pub IsLawfulAddress : List ℕ → Type 0
IsLawfulAddress address = IsTrue (is_address address)

pub addresses_kept : IsKept HaveLawfulAddresses IsLawfulAddress
addresses_kept = kept_apart HaveLawfulAddresses IsLawfulAddress (record {
  puts = λ s c x y found same h. each_put HasLawfulAddress y
      (subst IsLawfulAddress (sym same) (each_found HasLawfulAddress c s.sessions x found h)) s.sessions h;
  others = λ s moment upses tracking h. h;
  opens = λ s address room own h. each_last HasLawfulAddress (new_session s.next_id address) own s.sessions h;
  closes = λ s c h. each_without HasLawfulAddress c s.sessions h;
})

each_of : (xs : List SessionState) → All HasLawfulAddress xs → Each HasLawfulAddress xs
each_of [] all = tt
each_of (x ∷ xs) all = (All-head HasLawfulAddress x xs all, each_of xs (All-tail HasLawfulAddress x xs all))

pub all_of_each : {A : Type 0} (P : A → Type 0) (xs : List A) → Each P xs → All P xs
all_of_each P [] each = All-nil P
all_of_each P (x ∷ xs) each = All-cons P x xs each.0 (all_of_each P xs each.1)

pub all_of : (xs : List SessionState) → Each HasLawfulAddress xs → All HasLawfulAddress xs
all_of xs each = all_of_each HasLawfulAddress xs each

pub new_addresses_lawful : ANewServerHasLawfulAddresses
new_addresses_lawful list users descriptions max_age = All-nil HasLawfulAddress

pub run_addresses_lawful : EveryRunKeepsAddressesLawful
run_addresses_lawful old new events outcomes r own h =
    all_of new.sessions (by_run HaveLawfulAddresses IsLawfulAddress addresses_kept old new events
    outcomes r own (each_of old.sessions h))

-- the list
pub list_kept : (list : List Ups) → IsKept (λ s. s.list ≡ list) IsAny
list_kept list = kept_apart (λ s. s.list ≡ list) IsAny
    (record {
      puts = λ s c x y found same h. h;
      others = λ s moment upses tracking h. h;
      opens = λ s address room own h. h;
      closes = λ s c h. h;
    })

pub run_keeps_list : EveryRunKeepsTheList
run_keeps_list old new events outcomes r =
    by_run (λ s. s.list ≡ old.list) IsAny (list_kept old.list) old new events outcomes r (any_event events) refl
