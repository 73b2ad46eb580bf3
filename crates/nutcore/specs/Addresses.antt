-- Addresses of sessions stay lawful, and the list of UPSs never changes.
use Rattle.std.specs.Prelude.{◌≡◌, ℕ, List, Option, Some, None, All, IfSome, IsTrue}
use Rattle.nutwords.specs.Reading.{is_address}
use Rattle.nutusers.specs.UpsList.{Ups}
use Rattle.nutusers.specs.Users.{User}
use Rattle.nutusers.specs.Descriptions.{Descriptions}
use Rattle.nutcore.specs.declared.event.Event.{Event}
use Rattle.nutcore.specs.declared.event.Event.TheVariants.{Open}
use Rattle.nutcore.specs.declared.event.Outcome.{Outcome}
use Rattle.nutcore.specs.ReadsBack.{HasLawfulAddress}
use Rattle.nutcore.specs.Run.{Run}
use Rattle.nutcore.specs.Server.{ServerState, new_server}

-- The address from which it opens a session.
abbrev pub opened_from : Event → Option (List ℕ)
opened_from (Open address) = Some address
opened_from _ = None

-- That address is lawful, as each `Address` is.
abbrev pub OpensLawfully : Event → Type 0
OpensLawfully event = IfSome (opened_from event) (λ address. IsTrue (is_address address))

-- A new server has no session.
abbrev pub ANewServerHasLawfulAddresses : Type 0
ANewServerHasLawfulAddresses =
    (list : List Ups) (users : List User) (descriptions : Descriptions) (max_age : ℕ)
    → All HasLawfulAddress (new_server list users descriptions max_age).sessions

abbrev pub EveryRunKeepsAddressesLawful : Type 0
EveryRunKeepsAddressesLawful =
    (old new : ServerState) (events : List Event) (outcomes : List Outcome)
    → Run old events outcomes new → All OpensLawfully events → All HasLawfulAddress old.sessions
    → All HasLawfulAddress new.sessions

-- The list of UPSs is never changed, so what holds of each of them holds for ever.
abbrev pub EveryRunKeepsTheList : Type 0
EveryRunKeepsTheList =
    (old new : ServerState) (events : List Event) (outcomes : List Outcome)
    → Run old events outcomes new → new.list ≡ old.list
