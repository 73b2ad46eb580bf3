-- What follows the first word of a driver's line. The number of words, and the name or the id, are
-- looked at before what follows them.
use Rattle.std.specs.Prelude.{ℕ, ℤ, List, [], ◌∷◌, Option, Some, None, Result, Ok, Err, int_le}
use Rattle.std.specs.Prelude.{if◌then◌else◌, pos, neg_ℤ, ◌==◌}
use Rattle.nuttracking.specs.Id.{read_id}
use Rattle.nutwords.specs.Natural.{read_natural}
use Rattle.nutwords.specs.Reading.{read_name, read_value}
use Rattle.nutwords.specs.declared.faults.BadName.{BadName}
use Rattle.nutdriver.specs.declared.fault.DriverFault.{DriverFault}
use Rattle.nutdriver.specs.declared.fault.DriverFault.TheVariants.{Malformed, BadNumber, TooLong}
use Rattle.nutdriver.specs.declared.flags.Flags.{Flags}
use Rattle.nutdriver.specs.declared.range.Range.{Range}
use Rattle.nutdriver.specs.declared.limits.TheConstants.{NUMBER_LIMIT}
use Rattle.nutdriver.specs.Flags.{flags_of}

-- The number below 0 whose size this is: there is no -0.
abbrev pub below_zero : Option ℕ → Option ℤ
below_zero None = None
below_zero (Some size) = if size == 0 then None else Some (neg_ℤ (pos size))

abbrev pub not_below_zero : Option ℕ → Option ℤ
not_below_zero None = None
not_below_zero (Some size) = Some (pos size)

-- The number that the word writes: `0`, or an optional minus sign and digits that don't begin with
-- 0, within the limits.
abbrev pub read_number : List ℕ → Option ℤ
read_number [] = None
read_number (b ∷ bs) =
    if b == 45 then below_zero (read_natural NUMBER_LIMIT bs)
    else not_below_zero (read_natural NUMBER_LIMIT (b ∷ bs))

-- A name, or an id, beside what follows it, each of which may be refused: the first one's refusal
-- comes first.
abbrev pub beside : {A X : Type 0} → Result A DriverFault → Result X DriverFault
    → Result (A × X) DriverFault
beside (Err fault) x = Err fault
beside (Ok first) (Err fault) = Err fault
beside (Ok first) (Ok x) = Ok (first, x)

abbrev pub lawful_name : Result (List ℕ) BadName → Result (List ℕ) DriverFault
lawful_name (Err bad) = Err Malformed
lawful_name (Ok name) = Ok name

-- The bytes of a word are lawful, so the one thing that can be wrong with a value is its length.
abbrev pub lawful_value : Result (List ℕ) BadName → Result (List ℕ) DriverFault
lawful_value (Err bad) = Err TooLong
lawful_value (Ok value) = Ok value

abbrev pub lawful_id : Option ℕ → Result ℕ DriverFault
lawful_id None = Err Malformed
lawful_id (Some id) = Ok id

abbrev pub lawful_number : Option ℕ → Result ℕ DriverFault
lawful_number None = Err BadNumber
lawful_number (Some n) = Ok n

-- Two numbers of which the first isn't the greater.
abbrev pub lawful_range : Option ℤ → Option ℤ → Result Range DriverFault
lawful_range (Some least) (Some greatest) =
    if int_le least greatest then Ok (record { least = least; greatest = greatest })
    else Err BadNumber
lawful_range _ _ = Err BadNumber

-- `name`
abbrev pub name_alone : List (List ℕ) → Result (List ℕ) DriverFault
name_alone (name ∷ []) = lawful_name (read_name name)
name_alone _ = Err Malformed

-- `name value`
abbrev pub name_and_value : List (List ℕ) → Result (List ℕ × List ℕ) DriverFault
name_and_value (name ∷ value ∷ []) =
    beside (lawful_name (read_name name)) (lawful_value (read_value value))
name_and_value _ = Err Malformed

-- `name least greatest`
abbrev pub name_and_range : List (List ℕ) → Result (List ℕ × Range) DriverFault
name_and_range (name ∷ least ∷ greatest ∷ []) =
    beside (lawful_name (read_name name)) (lawful_range (read_number least) (read_number greatest))
name_and_range _ = Err Malformed

-- `name number`, of which the number isn't negative
abbrev pub name_and_aux : List (List ℕ) → Result (List ℕ × ℕ) DriverFault
name_and_aux (name ∷ aux ∷ []) =
    beside (lawful_name (read_name name)) (lawful_number (read_natural NUMBER_LIMIT aux))
name_and_aux _ = Err Malformed

-- `id number`, of which the number isn't negative
abbrev pub id_and_number : List (List ℕ) → Result (ℕ × ℕ) DriverFault
id_and_number (id ∷ number ∷ []) =
    beside (lawful_id (read_id id)) (lawful_number (read_natural NUMBER_LIMIT number))
id_and_number _ = Err Malformed

-- `name flag ..`
abbrev pub name_and_flags : List (List ℕ) → Result (List ℕ × Flags) DriverFault
name_and_flags [] = Err Malformed
name_and_flags (name ∷ words) = beside (lawful_name (read_name name)) (flags_of words)
