-- Values and descriptions, as clients see them.
use Rattle.std.specs.Prelude.{ℕ, Bool, List, ◌++◌, ◌&&◌, Option, Some, None, codes, if◌then◌else◌}
use Rattle.std.specs.Str.{bytes_eq}
use Rattle.nutdriver.specs.Variable.{VariableState}
use Rattle.nutusers.specs.UpsList.{Ups}

-- The value as clients see it: `FSD` precedes the status of a UPS for which a forced shutdown is
-- set.
abbrev pub shown : Bool → List ℕ → VariableState → List ℕ
shown fsd name variable =
    if fsd && bytes_eq name (codes "ups.status") then codes "FSD " ++ variable.value
    else variable.value

-- The description of a variable or of a command.
abbrev pub description_of : Option (List ℕ) → List ℕ
description_of None = codes "Description unavailable"
description_of (Some text) = text

-- A description of a UPS that may lack.
abbrev pub text_or_unavailable : Option (List ℕ) → List ℕ
text_or_unavailable None = codes "Unavailable"
text_or_unavailable (Some text) = text

-- The description of a UPS.
abbrev pub ups_description : Ups → List ℕ
ups_description ups = text_or_unavailable ups.desc
