-- What changes of a tree's maps say of its names, and how many entries they leave.
use Rattle.std.proofs.Common.{◌≡◌, ℕ, ◌+◌, ◌<◌, ◌≤◌, Bool, true, false, cond}
use Rattle.std.proofs.Common.{List, [], ◌∷◌, length, refl, ap, subst, arith}
use Rattle.std.specs.Prelude.{Option, Some, None, is_some, IsNone, IsTrue, IsFalse, ◌||◌}
use Rattle.std.specs.List.{list_any}
use Rattle.std.specs.Map.{keys_of, lookup, remove_entry}
use Rattle.std.specs.Set.{remove_key}
use Rattle.std.specs.BTreeMap.{insert_entry, is_at}
use Rattle.std.specs.BTreeSet.{insert_key}
use Rattle.std.specs.declared.cmp.Ordering.{Ordering}
use Rattle.std.specs.declared.cmp.Ordering.TheVariants.{Less, Equal, Greater}
use Rattle.std.specs.Ordering.{match_ordering}
use Rattle.std.specs.Fn.{Once, FnOnceReturnsAtMut}
use denote.Ref.{MutBor}
use Rattle.nutmap.specs.Entries.{ChangesValue}
use Rattle.nutmap.specs.Entries.{HasRisingKeys, value_at}
use Rattle.nutdriver.specs.Tree.{byte_order}
use Rattle.std.specs.Borrow.{Bor}
use Rattle.std.specs.Option.{option_copied}

module _ {K V : Type 0} (test : K → Bool) where
  any_cases : (b : Bool) (e : K × V) (o : Option V) (rest : Bool) → is_some o ≡ rest →
      is_some (cond b (Some e.1) o) ≡ (b || rest)
  any_cases true e o rest h = refl
  any_cases false e o rest h = h

  -- a key has a value exactly where it is among the keys
  pub is_some-lookup : (es : List (K × V)) → is_some (lookup test es) ≡ list_any test (keys_of es)
  is_some-lookup [] = refl
  is_some-lookup (e ∷ es) = any_cases (test e.0) e (lookup test es) (list_any test (keys_of es)) (is_some-lookup es)

  -- the keys without the first entry that passes
  pub keys_of-remove_entry : (es : List (K × V)) → keys_of (remove_entry test es) ≡ remove_key test (keys_of es)
  keys_of-remove_entry [] = refl
  keys_of-remove_entry (e ∷ es) = removed (test e.0) e es (remove_entry test es) (keys_of-remove_entry es)
    where
      removed : (b : Bool) (e : K × V) (es rest : List (K × V)) → keys_of rest ≡
          remove_key test (keys_of es) → keys_of (cond b es (e ∷ rest)) ≡
          cond b (keys_of es) (e.0 ∷ remove_key test (keys_of es))
      removed true e es rest h = refl
      removed false e es rest h = ap (λ ks. e.0 ∷ ks) h

module _ {K V : Type 0} (R : K → K → Ordering) (k : K) (v : V) where
  inserted : (c : Ordering) (e : K × V) (es rest : List (K × V)) → keys_of rest ≡
      insert_key R (keys_of es) k →
      keys_of (match_ordering c ((k, v) ∷ e ∷ es) ((e.0, v) ∷ es) (e ∷ rest)) ≡
      match_ordering c (k ∷ e.0 ∷ keys_of es) (e.0 ∷ keys_of es) (e.0 ∷ insert_key R (keys_of es) k)
  inserted Less e es rest h = refl
  inserted Equal e es rest h = refl
  inserted Greater e es rest h = ap (λ ks. e.0 ∷ ks) h

  -- the keys with one more entry
  pub keys_of-insert_entry : (es : List (K × V)) → keys_of (insert_entry R es k v) ≡ insert_key R (keys_of es) k
  keys_of-insert_entry [] = refl
  keys_of-insert_entry (e ∷ es) = inserted (R k e.0) e es (insert_entry R es k v) (keys_of-insert_entry es)

-- what nutmap's law says of how many entries a change leaves, for maps from names
abbrev pub CountsAdded : Type 0 → Type 0
CountsAdded V = (map : List (List ℕ × V)) (key : List ℕ) (value : V) →
    value_at byte_order map key ≡ None → length (insert_entry byte_order map key value) ≡ length map + 1

abbrev pub CountsReplaced : Type 0 → Type 0
CountsReplaced V = (map : List (List ℕ × V)) (key : List ℕ) (value before : V) →
    HasRisingKeys byte_order map → value_at byte_order map key ≡ Some before →
    length (insert_entry byte_order map key value) ≡ length map

abbrev pub CountsTakenOut : Type 0 → Type 0
CountsTakenOut V = (map : List (List ℕ × V)) (key : List ℕ) (before : V) →
    value_at byte_order map key ≡ Some before →
    length (remove_entry (is_at (byte_order key)) map) + 1 ≡ length map

abbrev pub KeepsAbsent : Type 0 → Type 0
KeepsAbsent V = (map : List (List ℕ × V)) (key : List ℕ) → value_at byte_order map key ≡
    None → remove_entry (is_at (byte_order key)) map ≡ map

module _ {V : Type 0} (added : CountsAdded V) (replaced : CountsReplaced V) (k : List ℕ) (v : V) (limit : ℕ) where
  few_by : (es : List (List ℕ × V)) (held : Option V) → value_at byte_order es k ≡ held →
      HasRisingKeys byte_order es → length es ≤ limit →
      (IsNone held → length es < limit) → length (insert_entry byte_order es k v) ≤ limit
  few_by es None is rising few room = omega (arith, added es k v is, room refl)
  few_by es (Some w) is rising few room = omega (arith, replaced es k v w rising is)

  -- an entry more is no entry too many, where there is room for a new key
  pub few_inserted : (es : List (List ℕ × V)) → HasRisingKeys byte_order es → length es ≤
      limit → (IsNone (value_at byte_order es k) → length es < limit) →
      length (insert_entry byte_order es k v) ≤ limit
  few_inserted es rising few room = few_by es (value_at byte_order es k) refl rising few room

module _ {V F : Type 0} (replaced : CountsReplaced V)
    {g : Once F (MutBor V × Unit {0}) (Unit {0} × (MutBor V × Unit {0}))} {f : F} (k : List ℕ) (limit : ℕ) where
  -- a value that is changed is no entry more
  pub few_changed : (is : Bool) (es new : List (List ℕ × V)) → HasRisingKeys byte_order es →
      (IsTrue is → ChangesValue g f byte_order es k new) → (IsFalse is → new ≡ es) →
      length es ≤ limit → length new ≤ limit
  few_changed true es new rising changed unchanged few =
      let d = changed refl in
      rw (d.leaves, replaced es k d.after d.before rising d.there) few
  few_changed false es new rising changed unchanged few = rw (unchanged refl) few

-- what a call does to what its reference is to
pub of_call : {F V R : Type 0} {g : Once F (MutBor V × Unit {0}) (R × (MutBor V × Unit {0}))}
    {f : F} {x y : V} {r : R} (P : V → V → Type 0) (called : FnOnceReturnsAtMut g f x r y) →
    P called.shown.now called.left.now → P x y
of_call {V = V} {y = y} P called p = subst (λ (z : V). P z y) called.shows (subst (P called.shown.now) called.leaves p)

module _ {V : Type 0} (taken : CountsTakenOut V) (absent : KeepsAbsent V) (k : List ℕ) (limit : ℕ) where
  few_left : (es : List (List ℕ × V)) (held : Option V) → value_at byte_order es k ≡ held →
      length es ≤ limit → length (remove_entry (is_at (byte_order k)) es) ≤ limit
  few_left es None is few = rw (absent es k is) few
  few_left es (Some w) is few = omega (arith, taken es k w is)

  -- an entry less is no entry too many
  pub few_removed : (es : List (List ℕ × V)) → length es ≤ limit →
      length (remove_entry (is_at (byte_order k)) es) ≤ limit
  few_removed es few = few_left es (value_at byte_order es k) refl few

pub is_some-copied : {V : Type 0} (held : Option (Bor V)) → is_some (option_copied held) ≡ is_some held
is_some-copied None = refl
is_some-copied (Some v) = refl

-- a variable that is found is there
pub is_there : {V : Type 0} {P : Type 0} (held : Option (Bor V)) (at : Option V) (v : Bor V) →
    option_copied held ≡ at → held ≡ Some v → IsNone at → P
is_there held at v same is none = absurd (cc)
