-- What the configuration files mean, and how the program ends by one of them. `gives` is what
-- reading the file of a path gives.
use Rattle.std.specs.Prelude.{◌≡◌, ◌⊎◌, ℕ, List, [], ◌∷◌, Bool, Option, Some, None, Ok, codes}
use denote.Ref.{Bor}
use Rattle.nutwords.specs.Text.{lines_of}
use Rattle.nutusers.specs.File.{Format, Means}
use Rattle.nutusers.specs.UpsFile.{ups_format, adds_ups, IsUpsList}
use Rattle.nutusers.specs.UpsList.{Ups, new_ups}
use Rattle.nutusers.specs.UsersFile.{users_format, adds_to_users, AreUsers}
use Rattle.nutusers.specs.Users.{User}
use Rattle.nutusers.specs.DescriptionFile.{descriptions_format, adds_text, descriptions_of}
use Rattle.nutusers.specs.Descriptions.{Descriptions, no_descriptions}
use Rattle.nutcore.specs.Server.{new_server}
use Rattle.nutcore.specs.Cost.{RunningServer, begun}
use Rattle.upsd.specs.declared.ending.Ending.{Ending}
use Rattle.upsd.specs.declared.ending.Ending.TheVariants as endings
use Rattle.upsd.specs.declared.files.Configuration.{Configuration}
use Rattle.upsd.specs.declared.files.Files.{Files}
use Rattle.upsd.specs.declared.refused.Shape.{Shape}
use Rattle.upsd.specs.declared.refused.Shape.TheVariants.{Sections, Table}
use Rattle.upsd.specs.Ending.{EndsByRefusal}
use Rattle.upsd.specs.Reading.{Readings, CantBeRead}

-- The lines of the file of this path mean this; where no file is named, it is the other.
abbrev pub IsMeantBy : {A : Type 0} → Readings → (List (List ℕ) → A → Type 0) → A
    → Option (Bor (List ℕ)) → A → Type 0
IsMeantBy gives means other None meant = meant ≡ other
IsMeantBy gives means other (Some path) meant =
    (bytes : List ℕ) × gives path.now (Ok bytes) × means (lines_of bytes) meant

-- The list of only the UPS `su`.
abbrev pub su_alone : List Ups
su_alone = new_ups (codes "su") ∷ []

abbrev pub IsListOf : Readings → Option (Bor (List ℕ)) → List Ups → Type 0
IsListOf gives path list = IsMeantBy gives IsUpsList su_alone path list

abbrev pub AreUsersOf : Readings → Option (Bor (List ℕ)) → List User → Type 0
AreUsersOf gives path users = IsMeantBy gives AreUsers [] path users

abbrev pub AreDescriptionsOf : Readings → Option (Bor (List ℕ)) → Descriptions → Type 0
AreDescriptionsOf gives path descriptions =
    IsMeantBy gives (Means descriptions_format descriptions_of) no_descriptions path descriptions

-- The configuration is what these files mean.
pub record AreMeant (gives : Readings) (files : Files) (c : Configuration) : Type 0 where
  pub list : IsListOf gives files.ups c.list
  pub users : AreUsersOf gives files.users c.users
  pub descriptions : AreDescriptionsOf gives files.vars c.descriptions

-- The ending says that the file of this path can't be read, or that its format refuses it, or that
-- memory is refused.
abbrev pub FailsBy : Readings → Format → (List ℕ → Bool) → Shape → Option (Bor (List ℕ)) → Ending
    → Type 0
FailsBy gives format adds shape None ending = ending ≡ endings.Memory
FailsBy gives format adds shape (Some path) ending = CantBeRead gives path ending
    ⊎ ((file : List ℕ) × gives path.now (Ok file) × EndsByRefusal format adds shape path file ending)

-- The ending is about the first of the files that fails; those before it mean something.
abbrev pub FirstFails : Readings → Files → Ending → Type 0
FirstFails gives files ending = FailsBy gives ups_format adds_ups Sections files.ups ending
    ⊎ (((list : List Ups) × IsListOf gives files.ups list
    × FailsBy gives users_format adds_to_users Sections files.users ending)
    ⊎ ((list : List Ups) × ((users : List User) × IsListOf gives files.ups list
    × AreUsersOf gives files.users users
    × FailsBy gives descriptions_format adds_text Table files.vars ending)))

-- The server is a new one of what these files mean, with this greatest age.
abbrev pub IsServerOf : Readings → Files → ℕ → RunningServer → Type 0
IsServerOf gives files max_age server = (c : Configuration) × AreMeant gives files c
    × (server ≡ begun (new_server c.list c.users c.descriptions max_age))
