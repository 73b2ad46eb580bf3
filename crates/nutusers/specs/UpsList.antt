-- The list of UPSs, and the UPS that a name finds.
use Rattle.std.specs.Prelude.{ℕ, ◌≤◌, List, find, position, length, Option, None, IfSome, IsTrue}
use Rattle.std.specs.Prelude.{All}
use Rattle.std.specs.List.Sorted.{IsStrictlySortedBy}
use Rattle.std.specs.Str.{bytes_eq}
use Rattle.nutwords.specs.NameOrder.{byte_order}
use Rattle.nutwords.specs.Reading.{is_ups_name}
use Rattle.nutusers.specs.Texts.{is_description}
use Rattle.nutusers.specs.declared.limits.TheConstants.{UPS_LIMIT}
use Rattle.nutusers.specs.declared.ups_list.UpsId.{UpsId}

-- A UPS: its name, its description if the file has one, and the path of its driver's socket if the
-- file has one.
pub record Ups : Type 0 where
  pub name : List ℕ
  pub desc : Option (List ℕ)
  pub socket : Option (List ℕ)

-- A UPS of which only the name is known.
abbrev pub new_ups : List ℕ → Ups
new_ups name = record { name = name; desc = None; socket = None }

-- A UPS as its file's format demands: its name is lawful, and its description, if it has one.
pub record IsLawfulUps (ups : Ups) : Type 0 where
  pub name : IsTrue (is_ups_name ups.name)
  pub description : IfSome ups.desc (λ text. IsTrue (is_description text))

-- The names rise, so no name comes twice.
abbrev pub AreByName : List Ups → Type 0
AreByName upses = IsStrictlySortedBy (λ a b. byte_order a.name b.name) upses

-- What holds of every list of UPSs.
pub record IsList (list : List Ups) : Type 0 where
  pub by_name : AreByName list
  pub few : length list ≤ UPS_LIMIT
  pub lawful : All IsLawfulUps list

-- The UPS of this name.
abbrev pub ups_named : List ℕ → List Ups → Option Ups
ups_named name upses = find (λ ups. bytes_eq ups.name name) upses

-- The place of the UPS of this name, by which the server knows it.
abbrev pub place_of : List ℕ → List Ups → Option ℕ
place_of name upses = position (λ ups. bytes_eq ups.name name) upses

abbrev pub id_at : ℕ → UpsId
id_at place = record { place = place }
