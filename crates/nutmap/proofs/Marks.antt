-- The marked entries of a node, and the walk from one to the next.
use Rattle.std.proofs.Common.{◌≡◌, Bool, true, false, ◌||◌, cond, List, [], ◌∷◌}
use Rattle.std.proofs.Common.{◌++◌, filter, Some, None, Option, MatchOption, refl, ap}
use Rattle.std.proofs.Common.{◌∙◌}
use Rattle.std.proofs.lemmas.List.Elements.{filter-append}
use Rattle.std.proofs.lemmas.List.Folds.{list_any-append}
use Rattle.std.specs.declared.cmp.Ordering.{Ordering}
use Rattle.std.specs.declared.cmp.Ordering.TheVariants.{Less, Equal, Greater}
use Rattle.std.specs.Ordering.{is_lt}
use Rattle.std.specs.Cmp.{IsTotalOrder}
use Rattle.std.specs.List.Sorted.{IsStrictlySortedBy}
use Rattle.nutmap.specs.Entries.{first_entry, entry_after, entries_after, HasRisingKeys}
use Rattle.nutmap.specs.Marked.{marked_entries, marked_after, has_marked}
use Rattle.nutmap.proofs.Above.{above}
use Rattle.nutmap.proofs.Collected.{above_less, above_equal, above_greater}
use Rattle.nutmap.proofs.Next.{after_walk}
use Rattle.nutmap.proofs.Ordered.{Rises, AllKeys}

module _ {K V : Type 0} (m : V → Bool) where
  any_of_three : (l : List (K × V)) (e : K × V) (r : List (K × V)) →
      has_marked m (l ++ e ∷ r) ≡ (has_marked m l || (m e.1 || has_marked m r))
  any_of_three l e r = list_any-append (λ e. m e.1) l (e ∷ r)

  none_cases : (b c : Bool) (x : K × V) (f : List (K × V)) → (b || c) ≡ false →
      (c ≡ false → f ≡ []) → cond b (x ∷ f) f ≡ []
  none_cases true c x f n h = absurd (cc)
  none_cases false c x f n h = h n

  -- where none is marked, there are none
  pub none_marked : (es : List (K × V)) → has_marked m es ≡ false → marked_entries m es ≡ []
  none_marked [] n = refl
  none_marked (e ∷ es) n = none_cases (m e.1) (has_marked m es) e (marked_entries m es) n (none_marked es)

  -- the two filters change places
  swap_cases : (p q : Bool) (x : K × V) (f g : (K × V) → Bool) (es : List (K × V)) → f x ≡
      p → g x ≡ q → filter f (filter g es) ≡ filter g (filter f es) →
      filter f (cond q (x ∷ filter g es) (filter g es)) ≡ filter g (cond p (x ∷ filter f es) (filter f es))
  swap_cases true true x f g es p q h = rw (p, q) (ap (λ l. x ∷ l) h)
  swap_cases true false x f g es p q h = rw q h
  swap_cases false true x f g es p q h = rw p h
  swap_cases false false x f g es p q h = h

  filters_swap : (f g : (K × V) → Bool) (es : List (K × V)) → filter f (filter g es) ≡ filter g (filter f es)
  filters_swap f g [] = refl
  filters_swap f g (e ∷ es) = swap_cases (f e) (g e) e f g es refl refl (filters_swap f g es)

  -- ---- the marked entries of a node: those of some on its left, its own, and those on its right
  first_of_more : (xs ys : List (K × V)) (x : K × V) → first_entry xs ≡ Some x →
      first_entry (xs ++ ys) ≡ Some x
  first_of_more [] ys x s = absurd (cc)
  first_of_more (e ∷ xs) ys x s = s

  first_of_none : (xs ys : List (K × V)) → first_entry xs ≡ None → first_entry (xs ++ ys) ≡ first_entry ys
  first_of_none [] ys n = refl
  first_of_none (e ∷ xs) ys n = absurd (cc)

  pub first_left : (l : List (K × V)) (e : K × V) (r : List (K × V)) (x : K × V) →
      first_entry (marked_entries m l) ≡ Some x → first_entry (marked_entries m (l ++ e ∷ r)) ≡ Some x
  first_left l e r x s = rw (filter-append (λ e. m e.1) l (e ∷ r))
      (first_of_more (marked_entries m l) (marked_entries m (e ∷ r)) x s)

  pub first_own : (l : List (K × V)) (e : K × V) (r : List (K × V)) →
      first_entry (marked_entries m l) ≡ None → m e.1 ≡ true →
      first_entry (marked_entries m (l ++ e ∷ r)) ≡ Some e
  first_own l e r n is = ap first_entry (filter-append (λ e. m e.1) l (e ∷ r)) ∙
      first_of_none (marked_entries m l) (marked_entries m (e ∷ r)) n ∙ rw is refl

  pub first_right : (l : List (K × V)) (e : K × V) (r : List (K × V)) →
      first_entry (marked_entries m l) ≡ None → m e.1 ≡ false →
      first_entry (marked_entries m (l ++ e ∷ r)) ≡ first_entry (marked_entries m r)
  first_right l e r n is = ap first_entry (filter-append (λ e. m e.1) l (e ∷ r)) ∙
      first_of_none (marked_entries m l) (marked_entries m (e ∷ r)) n ∙ rw is refl

  -- ---- the marked entries rise as all do
  all_marked : (P : K → Type 0) (es : List (K × V)) → AllKeys P es → AllKeys P (marked_entries m es)
  all_marked P [] a = tt
  all_marked P (e ∷ es) a = elim (m e.1) as
      (λ c. AllKeys P (cond c (e ∷ marked_entries m es) (marked_entries m es))) [
        | true ↦ (a.0, all_marked P es a.1)
        | false ↦ all_marked P es a.1
      ]

  rising_marked : (R : K → K → Ordering) (es : List (K × V)) → Rises R es → Rises R (marked_entries m es)
  unfolding IsStrictlySortedBy
  rising_marked R [] s = tt
  rising_marked R (e ∷ es) s = elim (m e.1) as
      (λ c. Rises R (cond c (e ∷ marked_entries m es) (marked_entries m es))) [
        | true ↦ (all_marked (λ k. R e.0 k ≡ Less) es s.0, rising_marked R es s.1)
        | false ↦ rising_marked R es s.1
      ]

  module _ (R : K → K → Ordering) where
    -- those after a key are the marked ones of the entries after it
    after_marked : (es : List (K × V)) (k : Option K) →
        entries_after R (marked_entries m es) k ≡ marked_entries m (entries_after R es k)
    after_marked es None = refl
    after_marked es (Some k) = filters_swap (λ e. is_lt (R k e.0)) (λ e. m e.1) es

    -- where none is marked, none is after a key
    pub none_after : (es : List (K × V)) (k : Option K) → has_marked m es ≡ false →
        marked_after m R es k ≡ None
    none_after es None n = rw (none_marked es n) refl
    none_after es (Some k) n = rw (← after_marked es (Some k), none_marked es n) refl

    walk_cases : (es : List (K × V)) (xs : List (K × V)) (next : Option (K × V)) →
        MatchOption next (xs ≡ []) (λ e. xs ≡ e ∷
        entries_after R (marked_entries m es) (Some e.0)) →
        MatchOption next (xs ≡ []) (λ e. xs ≡ e ∷ marked_entries m (entries_after R es (Some e.0)))
    walk_cases es xs None h = h
    walk_cases es xs (Some e) h = h ∙ ap (λ (l : List (K × V)). e ∷ l) (after_marked es (Some e.0))

module _ {K V : Type 0} (m : V → Bool) {R : K → K → Ordering} (o : IsTotalOrder R) where
  pub marked_walk : (es : List (K × V)) → HasRisingKeys R es → (k : Option K) →
      MatchOption (marked_after m R es k) (marked_entries m (entries_after R es k) ≡ [])
      (λ e. marked_entries m (entries_after R es k) ≡ e ∷ marked_entries m (entries_after R es (Some e.0)))
  marked_walk es s k = rw (← after_marked m R es k)
      (walk_cases m R es (entries_after R (marked_entries m es) k)
      (entry_after R (marked_entries m es) k)
      (after_walk o (marked_entries m es) (record { rising = rising_marked m R es s.rising }) k))

module _ {K V : Type 0} (m : V → Bool) {R : K → K → Ordering} (o : IsTotalOrder R) (q : K)
    (l : List (K × V)) (k : K) (w : V) (r : List (K × V)) (s : Rises R (l ++ (k, w) ∷ r)) where
  -- ---- the marked entries of a node above a key
  pub left_above : (x : K × V) → R q k ≡ Less → marked_after m R l (Some q) ≡ Some x →
      marked_after m R (l ++ (k, w) ∷ r) (Some q) ≡ Some x
  left_above x h is = rw (above_less o q l k w r s h) (first_left m (above (R q) l) (k, w) r x is)

  pub own_above : R q k ≡ Less → marked_after m R l (Some q) ≡ None → m w ≡ true →
      marked_after m R (l ++ (k, w) ∷ r) (Some q) ≡ Some (k, w)
  own_above h n is = rw (above_less o q l k w r s h) (first_own m (above (R q) l) (k, w) r n is)

  pub right_above : R q k ≡ Less → marked_after m R l (Some q) ≡ None → m w ≡ false →
      marked_after m R (l ++ (k, w) ∷ r) (Some q) ≡ marked_after m R r None
  right_above h n is = rw (above_less o q l k w r s h) (first_right m (above (R q) l) (k, w) r n is)

  pub equal_above : R q k ≡ Equal → marked_after m R (l ++ (k, w) ∷ r) (Some q) ≡ marked_after m R r None
  equal_above h = rw (above_equal o q l k w r s h) refl

  pub greater_above : R q k ≡ Greater → marked_after m R (l ++ (k, w) ∷ r) (Some q) ≡
      marked_after m R r (Some q)
  greater_above h = rw (above_greater o q l k w r s h) refl
