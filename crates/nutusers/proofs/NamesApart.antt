-- No two sections of an accepted file have one name, so the names rise once they are sorted.
use Rattle.std.proofs.Common.{◌≡◌, suc, ◌+◌, ◌<◌, ℕ, List, [], ◌∷◌, map}
use Rattle.std.proofs.Common.{reverse, Bool, true, false}
use Rattle.std.proofs.Common.{◌||◌, not, cond, Option, None, Some, is_some, refl, sym, ap}
use Rattle.std.proofs.Common.{subst, ◌∙◌, arith, length, get_or, Result, Ok, Err, inl, inr}
use Rattle.std.specs.Prelude.{MatchResult}
use Rattle.std.specs.Cmp.{IsTotalOrder}
use Rattle.std.specs.List.{find, list_any, Contains, IsDistinct, AllByRecursion, dedup, dedup_from}
use Rattle.std.specs.List.{position_or_len, slice_get}
use Rattle.std.specs.List.Sorted.{IsPermutation, IsSorted, IsSortedBy, IsStrictlySortedBy, IsSearchInRange}
use Rattle.std.specs.List.Sorted.{IsBinarySearchResult}
use Rattle.std.specs.Ordering.{eq_by_cmp, is_eq, is_lt, ordering_reverse}
use Rattle.std.specs.declared.cmp.Ordering.TheVariants.{Equal}
use Rattle.std.proofs.lemmas.Bool.{cases_Bool, cases_lt, or_parts}
use Rattle.std.proofs.lemmas.List.Folds.{find_at}
use Rattle.std.proofs.lemmas.List.Sums.{position_or_len_is}
use Rattle.std.proofs.lemmas.Option.{slice_get-get_or, slice_get_past}
use Rattle.std.proofs.lemmas.Slice.Eq.{bytes_eq-Decides}
use Rattle.std.specs.Str.{bytes_eq}
use Rattle.std.specs.declared.cmp.Ordering.{Ordering}
use Rattle.std.proofs.lemmas.Cmp.{nat_list_cmp_total, eq_by_cmp_equiv}
use Rattle.std.proofs.lemmas.List.Kept.{IsStrictlySortedBy-dedup}
use Rattle.std.proofs.lemmas.List.Sorted.{Contains-permutation, IsPermutation-reverse, list_any-IsPermutation}
use Rattle.std.proofs.lemmas.List.Sorted.{searchable_from_sorted}
use Rattle.std.proofs.lemmas.Map.Keys.{IsDistinct-cons, IsDistinct-head, IsDistinct-tail, IsDistinct-IsPermutation}
use Rattle.std.proofs.lemmas.Map.Keys.{IsDistinct-from_sorted, Less-from_sorted, apart_from_distinct}
use Rattle.std.proofs.lemmas.Map.Text.{is_eq-slice_cmp}
use Rattle.nutusers.specs.ConfigLine.{ConfigLine, silent, malformed, section, setting, upsmon, read_config_line}
use Rattle.nutusers.specs.File.{AreAccepted}
use Rattle.nutwords.specs.NameOrder.{byte_order}
use Rattle.nutusers.specs.Sections.{sections, with_last_line}
use Rattle.nutusers.specs.declared.fault.Cause.{Cause}
use Rattle.nutusers.specs.declared.fault.Cause.TheVariants.{BadName, Duplicate}

-- what is found is any
is_some-found : {X : Type 0} (p : X → Bool) (xs : List X) → is_some (find p xs) ≡ list_any p xs
is_some-found p [] = refl
is_some-found p (x ∷ xs) = elim (p x) as
    (λ b. is_some (cond b (Some x) (find p xs)) ≡ (b || list_any p xs))
    [ true ↦ refl | false ↦ is_some-found p xs ]

-- a section line that is accepted has a name that none has
pub not_there : (lawful there : Bool) (fault : Option Cause) →
    cond (not lawful) (Some BadName) (cond there (Some Duplicate) fault) ≡ None → there ≡ false
not_there true true fault h = absurd (cc h)
not_there true false fault h = refl
not_there false there fault h = absurd (cc h)

-- what the sections of a file mean, by name, and why a line is refused after them
pub record HasNames {A : Type 0} (name_of : A → List ℕ) (of : List ℕ × List ConfigLine → A)
    (fault : List A → ConfigLine → Option Cause) : Type 0 where
  pub named : (name : List ℕ) (lines : List ConfigLine) → name_of (of (name, lines)) ≡ name
  pub is_new : (all : List A) (name : List ℕ) → fault all (section name) ≡ None →
      is_some (find (λ a. bytes_eq (name_of a) name) all) ≡ false

-- what is found is there, and passes
found_is : {X : Type 0} (p : X → Bool) (xs : List X) (x : X) → find p xs ≡ Some x →
    Contains xs x × (p x ≡ true)
found_is p [] x h = absurd (cc h)
found_is p (y ∷ ys) x h = elim (cases_Bool (p y)) [
  | inl passes ↦ (let same : y ≡ x = cc (rw passes at h) in ((0, omega arith, same), sym (ap p same) ∙ passes))
  | inr other ↦ (let rest = found_is p ys x (rw other at h) in
      ((suc rest.0.0, omega (arith, rest.0.1), rest.0.2), rest.1))
]

-- what isn't any isn't found
none_found : {X : Type 0} (p : X → Bool) (xs : List X) → list_any p xs ≡ false → find p xs ≡ None
none_found p [] h = refl
none_found p (x ∷ xs) h = let parts = or_parts (p x) (list_any p xs) h in rw parts.0 (none_found p xs parts.1)

module _ {A : Type 0} (name_of : A → List ℕ) where
  -- their order is that of the names
  abbrev name_order : A → A → Ordering
  name_order a b = byte_order (name_of a) (name_of b)

  name_order_total : IsTotalOrder name_order
  name_order_total = record {
    antisymm = λ x y. nat_list_cmp_total.antisymm (name_of x) (name_of y);
    trans = λ x y z. nat_list_cmp_total.trans (name_of x) (name_of y) (name_of z);
    congr = λ x y z. nat_list_cmp_total.congr (name_of x) (name_of y) (name_of z);
  }

  abbrev pub same_name : A → A → Bool
  same_name = eq_by_cmp name_order

  flips : (x y : A) → same_name x y ≡ same_name y x
  flips x y = (eq_by_cmp_equiv name_order_total).symm x y

  -- a name that none has is apart from all
  apart_from : (name : List ℕ) (all : List A) →
      list_any (λ y. bytes_eq (name_of y) name) all ≡ false → (x : A) → name_of x ≡
      name → AllByRecursion (λ y. same_name x y ≡ false) all
  apart_from name [] h x is = tt
  apart_from name (y ∷ all) h x is =
      let parts = or_parts (bytes_eq (name_of y) name) (list_any (λ y. bytes_eq (name_of y) name) all) h in (
        flips x y ∙ is_eq-slice_cmp (name_of y) (name_of x) ∙ ap (bytes_eq (name_of y)) is ∙
            parts.0,
        apart_from name all parts.1 x is,
      )

  none_apart : IsDistinct same_name []
  unfolding IsDistinct
  none_apart = tt

  -- nothing is dropped where no two are the same
  dedup_from-apart : (k : A) (xs : List A) → IsDistinct same_name (k ∷ xs) →
      dedup_from same_name k xs ≡ k ∷ xs
  dedup_from-apart k [] h = refl
  dedup_from-apart k (x ∷ xs) h =
      rw (flips x k ∙ (IsDistinct-head same_name k (x ∷ xs) h).0)
      (ap (λ rest. k ∷ rest) (dedup_from-apart x xs (IsDistinct-tail same_name k (x ∷ xs) h)))

  dedup-apart : (xs : List A) → IsDistinct same_name xs → dedup same_name xs ≡ xs
  dedup-apart [] h = refl
  dedup-apart (x ∷ xs) h = dedup_from-apart x xs h

  -- the names of a list that is sorted by them rise, where no two are the same
  pub rising_names : (all list : List A) → IsDistinct same_name all → IsPermutation all list →
      IsSorted name_order list → IsStrictlySortedBy name_order list
  rising_names all list apart same sorted =
      subst (λ xs. IsStrictlySortedBy name_order xs)
      (dedup-apart list (IsDistinct-IsPermutation same_name flips all list same apart))
      (IsStrictlySortedBy-dedup name_order_total (λ x y. refl) list sorted)

  -- no name rises, and one
  pub none_rises : IsStrictlySortedBy name_order []
  unfolding IsStrictlySortedBy
  none_rises = tt

  pub rising_one : (x : A) → IsStrictlySortedBy name_order (x ∷ [])
  unfolding IsStrictlySortedBy
  rising_one x = (tt, tt)

  -- what stands at a place is found by its name, where no two names are the same
  found_there : (name : List ℕ) (xs : List A) (i : ℕ) (d : A) → IsDistinct same_name xs →
      i < length xs → name_of (get_or xs i d) ≡ name →
      find (λ a. bytes_eq (name_of a) name) xs ≡ Some (get_or xs i d)
  found_there name xs i d apart within here =
      let p : A → Bool = λ a. bytes_eq (name_of a) name in
      let first : position_or_len p xs ≡ i = position_or_len_is p xs i d (omega (arith, within))
      (λ k below. ap (bytes_eq (name_of (get_or xs k d))) (sym here) ∙
      sym (is_eq-slice_cmp (name_of (get_or xs k d)) (name_of (get_or xs i d))) ∙
      apart_from_distinct same_name xs k i d apart below within)
      (λ h. (bytes_eq-Decides (name_of (get_or xs i d)) name).1 here) in
      find_at p xs ∙ ap (slice_get xs) first ∙ slice_get-get_or xs i d within

  none_there : (name : List ℕ) (xs : List A) (d : A) →
      ((k : ℕ) → k < length xs → bytes_eq (name_of (get_or xs k d)) name ≡ false) →
      find (λ a. bytes_eq (name_of a) name) xs ≡ None
  none_there name xs d none =
      let p : A → Bool = λ a. bytes_eq (name_of a) name in
      let all : position_or_len p xs ≡ length xs = position_or_len_is p xs (length xs) d
      (omega arith) none (λ (h : length xs < length xs). absurd (omega arith)) in
      find_at p xs ∙ ap (slice_get xs) all ∙ slice_get_past xs (length xs) (omega arith)

  -- a name finds the same in any order
  alike : (name : List ℕ) (xs ys : List A) → IsDistinct same_name xs → IsPermutation xs ys →
      (found : Option A) → find (λ a. bytes_eq (name_of a) name) xs ≡ found →
      find (λ a. bytes_eq (name_of a) name) ys ≡ found
  alike name xs ys apart same None none =
      let p : A → Bool = λ a. bytes_eq (name_of a) name in
      none_found p ys (sym (list_any-IsPermutation p xs ys same) ∙ sym (is_some-found p xs) ∙ ap is_some none)
  alike name xs ys apart same (Some x) found =
      let is = found_is (λ a. bytes_eq (name_of a) name) xs x found in
      let there = Contains-permutation xs ys x same is.0 in
      let name_is : name_of (get_or ys there.0 x) ≡ name =
      ap name_of there.2 ∙ (bytes_eq-Decides (name_of x) name).0 is.1 in
      found_there name ys there.0 x (IsDistinct-IsPermutation same_name flips xs ys same apart) there.1 name_is ∙
      ap Some there.2

  pub found_alike : (name : List ℕ) (xs ys : List A) → IsDistinct same_name xs → IsPermutation xs ys →
      find (λ a. bytes_eq (name_of a) name) ys ≡ find (λ a. bytes_eq (name_of a) name) xs
  found_alike name xs ys apart same = alike name xs ys apart same _ refl

  -- names that rise are sorted
  sorted_names : (xs : List A) → IsStrictlySortedBy name_order xs →
      IsSortedBy (λ a b. is_lt (name_order a b)) xs
  sorted_names xs rise k d low within =
      let less = Less-from_sorted name_order xs k (k + 1) d rise (omega arith) within in
      ap is_lt (name_order_total.antisymm _ _ ∙ ap ordering_reverse less)

  same_bytes : (bytes name : List ℕ) → byte_order bytes name ≡ Equal → bytes ≡ name
  same_bytes bytes name is = (bytes_eq-Decides bytes name).0 (sym (is_eq-slice_cmp bytes name) ∙ ap is_eq is)

  -- what a search by halves answers: the one of this name, or that there is none
  pub searched : (name : List ℕ) (xs : List A) (d : A) (r : Result ℕ ℕ) →
      IsStrictlySortedBy name_order xs → IsSearchInRange r (length xs) →
      IsBinarySearchResult (λ (y : A). byte_order (name_of y) name) xs r →
      MatchResult r (λ i. find (λ a. bytes_eq (name_of a) name) xs ≡ Some (get_or xs i d))
      (λ i. find (λ a. bytes_eq (name_of a) name) xs ≡ None)
  searched name xs d (Ok i) rise within at =
      found_there name xs i d (IsDistinct-from_sorted name_order xs rise) within (same_bytes _ name (at d))
  searched name xs d (Err i) rise within parted =
      let parts = parted (searchable_from_sorted nat_list_cmp_total name_of xs name (sorted_names xs rise)) in
      none_there name xs d (λ k lt. sym (is_eq-slice_cmp _ name) ∙ elim (cases_lt k i) [
        | inl below ↦ ap is_eq (parts.0 k d (omega arith) below)
        | inr above ↦ ap is_eq (parts.1 k d above lt)
      ])

module _ {A : Type 0} {name_of : A → List ℕ} {of : List ℕ × List ConfigLine → A}
    {fault : List A → ConfigLine → Option Cause} (n : HasNames name_of of fault) where
  -- a line more leaves the names as they are
  apart_more : (line : ConfigLine) (ss : List (List ℕ × List ConfigLine)) →
      IsDistinct (same_name name_of) (map of ss) → IsDistinct (same_name name_of) (map of (with_last_line line ss))
  apart_more line [] h = h
  apart_more line ((name, lines) ∷ before) h =
      IsDistinct-cons (same_name name_of) _ _
      (subst (λ m. AllByRecursion (λ y. is_eq (byte_order m (name_of y)) ≡ false)
      (map of before)) (n.named name lines ∙ sym (n.named name (line ∷ lines)))
      (IsDistinct-head (same_name name_of) _ _ h))
      (IsDistinct-tail (same_name name_of) _ _ h)

  apart_line : (line : ConfigLine) (lines : List ConfigLine) →
      fault (reverse (map of (sections lines))) line ≡ None →
      IsDistinct (same_name name_of) (map of (sections lines)) →
      IsDistinct (same_name name_of) (map of (sections (line ∷ lines)))
  apart_line silent lines fine h = h
  apart_line malformed lines fine h = h
  apart_line (setting key value) lines fine h = apart_more (setting key value) (sections lines) h
  apart_line (upsmon role) lines fine h = apart_more (upsmon role) (sections lines) h
  apart_line (section name) lines fine h =
      let all = map of (sections lines) in
      let none = sym (is_some-found (λ (y : A). bytes_eq (name_of y) name) (reverse all)) ∙
      n.is_new (reverse all) name fine in
      IsDistinct-cons (same_name name_of) (of (name, [])) all
      (apart_from name_of name all (list_any-IsPermutation (λ (y : A). bytes_eq (name_of y) name)
      all (reverse all) (IsPermutation-reverse all) ∙ none) (of (name, [])) (n.named name [])) h

  -- no two sections of accepted lines have one name
  apart_backwards : (lines : List (List ℕ)) →
      AreAccepted (λ earlier line. fault
      (reverse (map of (sections (map read_config_line earlier)))) (read_config_line line)) lines
      → IsDistinct (same_name name_of) (map of (sections (map read_config_line lines)))
  apart_backwards [] h = none_apart name_of
  apart_backwards (line ∷ lines) h =
      apart_line (read_config_line line) (map read_config_line lines) h.0 (apart_backwards lines h.1)

  pub accepted_apart : (lines : List (List ℕ)) →
      AreAccepted (λ earlier line. fault
      (reverse (map of (sections (map read_config_line earlier)))) (read_config_line line)) lines
      → IsDistinct (same_name name_of) (reverse (map of (sections (map read_config_line lines))))
  accepted_apart lines h =
      let all = map of (sections (map read_config_line lines)) in
      IsDistinct-IsPermutation (same_name name_of) (flips name_of) all (reverse all)
      (IsPermutation-reverse all) (apart_backwards lines h)
