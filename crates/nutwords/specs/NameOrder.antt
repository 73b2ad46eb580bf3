-- The order of names, by their bytes.
use Rattle.std.specs.Prelude.{◌≡◌, ℕ, List}
use Rattle.std.specs.Ordering.{nat_cmp}
use Rattle.std.specs.declared.cmp.Ordering.{Ordering}
use Rattle.std.specs.declared.cmp.Ordering.TheVariants.{Equal}
use Rattle.std.specs.Cmp.Lexicographic.{slice_cmp}

-- Byte by byte, a beginning before what it begins.
abbrev pub byte_order : List ℕ → List ℕ → Ordering
byte_order = slice_cmp nat_cmp

-- Names are equal in the order only where they have the same bytes.
abbrev pub EqualsAreSame : Type 0
EqualsAreSame = (name other : List ℕ) → byte_order name other ≡ Equal → other ≡ name
