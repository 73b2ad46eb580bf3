-- The marked entries of a map.
use Rattle.std.specs.Prelude.{◌≡◌, Bool, List, filter, Option}
use Rattle.std.specs.declared.cmp.Ordering.{Ordering}
use Rattle.std.specs.List.{list_any}
use Rattle.std.specs.Fn.{Once, FnOnceReturnsAtMut}
use denote.Ref.{MutBor}
use Rattle.nutmap.specs.Entries.{first_entry, entries_after}

module _ {K V : Type 0} (marked : V → Bool) where
  -- those whose value is marked
  abbrev pub marked_entries : List (K × V) → List (K × V)
  marked_entries es = filter (λ e. marked e.1) es

  -- the one with the least key after a key, or with the least of all
  abbrev pub marked_after : (K → K → Ordering) → List (K × V) → Option K → Option (K × V)
  marked_after cmp es k = first_entry (marked_entries (entries_after cmp es k))

  -- there is one
  abbrev pub has_marked : List (K × V) → Bool
  has_marked es = list_any (λ e. marked e.1) es

-- a call of f leaves a value marked, or not, as it was
abbrev pub KeepsMarks : {V F : Type 0} → (V → Bool)
    → Once F (MutBor V × Unit {0}) (Unit {0} × (MutBor V × Unit {0})) → F → Type 0
KeepsMarks {V} marked g f =
    (before after : V) → FnOnceReturnsAtMut g f before tt after → marked after ≡ marked before
