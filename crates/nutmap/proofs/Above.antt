-- The first entry above a key, double_rotation a place.
use Rattle.std.proofs.Common.{◌≡◌, Bool, true, false, cond, List, [], ◌∷◌, ◌++◌}
use Rattle.std.proofs.Common.{Some, None, Option, refl, ap, ◌∙◌}
use Rattle.std.specs.declared.cmp.Ordering.{Ordering}
use Rattle.std.specs.declared.cmp.Ordering.TheVariants.{Less, Equal, Greater}
use Rattle.std.specs.Ordering.{is_lt}
use Rattle.std.specs.Cmp.{IsTotalOrder}
use Rattle.std.specs.List.Sorted.{IsStrictlySortedBy}
use Rattle.std.specs.List.{filter}
use Rattle.std.specs.Map.{keys_of}
use Rattle.nutmap.specs.Entries.{first_entry}
use Rattle.nutmap.proofs.Ordered.{AllKeys, all_keys_map, IsPast, past_left, past_left_equal}

module _ {K V : Type 0} (c : K → Ordering) where
  -- the entries above what c compares, and the first of them
  abbrev pub above : List (K × V) → List (K × V)
  above es = filter (λ e. is_lt (c e.0)) es

  abbrev pub first_above : List (K × V) → Option (K × V)
  first_above es = first_entry (above es)

  some_cases : (b : Bool) (e x : K × V) (f g : List (K × V)) →
      (first_entry f ≡ Some x → first_entry g ≡ Some x) →
      first_entry (cond b (e ∷ f) f) ≡ Some x → first_entry (cond b (e ∷ g) g) ≡ Some x
  some_cases true e x f g h s = s
  some_cases false e x f g h s = h s

  pub above_some : (l m : List (K × V)) (x : K × V) → first_above l ≡ Some x → first_above (l ++ m) ≡ Some x
  above_some [] m x s = absurd (cc)
  above_some (e ∷ l) m x s = some_cases (is_lt (c e.0)) e x (above l) (above (l ++ m)) (above_some l m x) s

  none_cases : (b : Bool) (e : K × V) (f g h : List (K × V)) →
      (first_entry f ≡ None → first_entry g ≡ first_entry h) →
      first_entry (cond b (e ∷ f) f) ≡ None → first_entry (cond b (e ∷ g) g) ≡ first_entry h
  none_cases true e f g h t s = absurd (cc)
  none_cases false e f g h t s = t s

  pub above_none : (l m : List (K × V)) → first_above l ≡ None → first_above (l ++ m) ≡ first_above m
  above_none [] m s = refl
  above_none (e ∷ l) m s = none_cases (is_lt (c e.0)) e (above l) (above (l ++ m)) (above m) (above_none l m) s

  pub above_past : (l m : List (K × V)) → AllKeys (λ k. is_lt (c k) ≡ false) l →
      first_above (l ++ m) ≡ first_above m
  above_past [] m a = refl
  above_past (e ∷ l) m a = rw a.0 (above_past l m a.1)

  -- all of them where each key is above
  pub above_all : (es : List (K × V)) → AllKeys (λ k. c k ≡ Less) es → above es ≡ es
  above_all [] a = refl
  above_all (e ∷ es) a = rw a.0 (ap (λ (l : List (K × V)). e ∷ l) (above_all es a.1))

module _ {K V : Type 0} {R : K → K → Ordering} (o : IsTotalOrder R) (q : K) (l : List (K × V))
    (k : K) (w : V) (r : List (K × V)) (s : IsStrictlySortedBy R (keys_of (l ++ (k, w) ∷ r))) where
  not_lt : (l : List (K × V)) → IsPast R q l → AllKeys (λ k. is_lt (R q k) ≡ false) l
  not_lt l a = all_keys_map (λ k. R q k ≡ Greater) (λ k. is_lt (R q k) ≡ false) (λ k h. rw h refl) l a

  pub above_here : R q k ≡ Less → first_above (R q) l ≡ None →
      first_above (R q) (l ++ (k, w) ∷ r) ≡ Some (k, w)
  above_here h n = above_none (R q) l ((k, w) ∷ r) n ∙ rw h refl

  pub above_equal : R q k ≡ Equal → first_above (R q) (l ++ (k, w) ∷ r) ≡ first_above (R q) r
  above_equal h = above_past (R q) l ((k, w) ∷ r) (not_lt l (past_left_equal o q l (k, w) r s h)) ∙ rw h refl

  pub above_greater : R q k ≡ Greater → first_above (R q) (l ++ (k, w) ∷ r) ≡ first_above (R q) r
  above_greater h = above_past (R q) l ((k, w) ∷ r) (not_lt l (past_left o q l (k, w) r s h)) ∙ rw h refl
