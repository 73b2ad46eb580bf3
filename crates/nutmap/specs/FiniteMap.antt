-- A map's entries, read as a finite map.
use Rattle.std.specs.Prelude.{◌≡◌, ◌≢◌, ⊤, List, Option, None, Some}
use Rattle.std.specs.declared.cmp.Ordering.{Ordering}
use Rattle.std.specs.declared.cmp.Ordering.TheVariants.{Less, Equal}
use Rattle.nutmap.specs.Entries.{value_at}

module _ {K V : Type 0} (cmp : K → K → Ordering) where
  -- the new entries have v at the key, or no value where v is `None`, and at every other key what
  -- the old ones have
  pub record ChangesOneKey (old new : List (K × V)) (k : K) (v : Option V) : Type 0 where
    pub here : (q : K) → cmp k q ≡ Equal → value_at cmp new q ≡ v
    pub elsewhere : (q : K) → cmp k q ≢ Equal → value_at cmp new q ≡ value_at cmp old q

module _ {K : Type 0} (cmp : K → K → Ordering) where
  -- the key q comes after k, as every key does where none is given
  abbrev pub IsAfter : Option K → K → Type 0
  IsAfter None q = ⊤
  IsAfter (Some k) q = cmp k q ≡ Less

module _ {K V : Type 0} (cmp : K → K → Ordering) where
  -- no key after k has a value
  abbrev pub HasNoneAfter : List (K × V) → Option K → Type 0
  HasNoneAfter es k = (q : K) → IsAfter cmp k q → value_at cmp es q ≡ None

  -- the key of the entry e comes after k and has its value, and no key between the two has one
  pub record IsNextAfter (es : List (K × V)) (k : Option K) (e : K × V) : Type 0 where
    pub after : IsAfter cmp k e.0
    pub held : value_at cmp es e.0 ≡ Some e.1
    pub none_between : (q : K) → IsAfter cmp k q → cmp q e.0 ≡ Less → value_at cmp es q ≡ None
