-- What `ups.status` may be set to.
use Rattle.std.specs.Prelude.{ℕ, Bool, List, [], ◌∷◌, ◌||◌, ◌==◌, Option, Some, None, codes}
use Rattle.std.specs.Prelude.{length, nat_le, if◌then◌else◌}
use Rattle.std.specs.List.{list_all, list_any, slice_split}
use Rattle.std.specs.Str.{bytes_eq}
use Rattle.demodriver.specs.declared.status.TheConstants.{STATUS_LIMIT}

abbrev pub status_words : List (List ℕ)
status_words =
    codes "OL" ∷ codes "OB" ∷ codes "LB" ∷ codes "HB" ∷ codes "RB" ∷ codes "CHRG"
    ∷ codes "DISCHRG" ∷ codes "BYPASS" ∷ codes "CAL" ∷ codes "OFF" ∷ codes "OVER" ∷ codes "TRIM"
    ∷ codes "BOOST" ∷ codes "FSD" ∷ []

abbrev pub is_status_word : List ℕ → Bool
is_status_word word = list_any (λ known. bytes_eq word known) status_words

-- Nothing, or words of a status with a blank between each two.
abbrev pub is_status : List ℕ → Bool
is_status value =
    (length value == 0) || list_all is_status_word (slice_split (λ b. b == 32) value)

-- The status that the value is: at most 64 bytes.
abbrev pub status_in : List ℕ → Option (List ℕ)
status_in value =
    if is_status value
    then (if nat_le (length value) STATUS_LIMIT then Some value else None)
    else None
