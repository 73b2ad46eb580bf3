-- What comes after a key, and the walk from each key to the next.
use Rattle.std.proofs.Common.{◌≡◌, cond, List, [], ◌∷◌, Some, None, Option, refl, sym, ap, ◌∙◌}
use Rattle.std.specs.declared.cmp.Ordering.{Ordering}
use Rattle.std.specs.declared.cmp.Ordering.TheVariants.{Less, Equal, Greater}
use Rattle.std.specs.Ordering.{is_eq, is_lt}
use Rattle.std.specs.Prelude.{MatchOption}
use Rattle.std.specs.Cmp.{IsTotalOrder}
use Rattle.std.proofs.lemmas.Cmp.{tied_itself}
use Rattle.nutmap.specs.Entries.{value_at, first_entry, entry_after, entries_after, HasRisingKeys}
use Rattle.nutmap.specs.FiniteMap.{IsAfter, HasNoneAfter, IsNextAfter}
use Rattle.nutmap.proofs.Above.{above, above_all}
use Rattle.nutmap.proofs.Ordered.{Rises, all_keys_map, rising_all, rising_tail, before_right}
use Rattle.nutmap.proofs.Ordered.{lookup-before, greater_from_less, less_from_greater}

module _ {K : Type 0} {R : K → K → Ordering} (o : IsTotalOrder R) where
  -- where k is not below the key e, e is below what comes after k
  past_equal : (k e q : K) → R k e ≡ Equal → R k q ≡ Less → R q e ≡ Greater
  past_equal k e q h a = greater_from_less o e q (sym (o.congr k e q h) ∙ a)

  past_greater : (k e q : K) → R k e ≡ Greater → R k q ≡ Less → R q e ≡ Greater
  past_greater k e q h a = greater_from_less o e q (o.trans e k q (less_from_greater o k e h) a)

module _ {K V : Type 0} {R : K → K → Ordering} (o : IsTotalOrder R) where
  -- a key below the first has no value
  none_below : (q : K) (e : K × V) (es : List (K × V)) → Rises R (e ∷ es) → R q e.0 ≡
      Less → value_at R (e ∷ es) q ≡ None
  none_below q e es s h = lookup-before R q (e ∷ es) (before_right o q [] e es s h)

  -- the first entry has its value
  first_held : (e : K × V) (es : List (K × V)) → value_at R (e ∷ es) e.0 ≡ Some e.1
  first_held e es = ap (λ c. cond (is_eq c) (Some e.1) (value_at R es e.0)) (tied_itself o e.0)

  -- where e is below what comes after k, it plays no part
  next_cases : (k : K) (e : K × V) (es : List (K × V)) →
      ((q : K) → R k q ≡ Less → R q e.0 ≡ Greater) → (next : Option (K × V))
      → MatchOption next (HasNoneAfter R es (Some k)) (λ f. IsNextAfter R es (Some k) f)
      → MatchOption next (HasNoneAfter R (e ∷ es) (Some k)) (λ f. IsNextAfter R (e ∷ es) (Some k) f)
  next_cases k e es past None h = λ q a. skip q a ∙ h q a
    where
      skip : (q : K) → R k q ≡ Less → value_at R (e ∷ es) q ≡ value_at R es q
      skip q a = ap (λ c. cond (is_eq c) (Some e.1) (value_at R es q)) (past q a)
  next_cases k e es past (Some f) h = record {
    after = h.after;
    held = skip f.0 h.after ∙ h.held;
    none_between = λ q a l. skip q a ∙ h.none_between q a l;
  }
    where
      skip : (q : K) → R k q ≡ Less → value_at R (e ∷ es) q ≡ value_at R es q
      skip q a = ap (λ c. cond (is_eq c) (Some e.1) (value_at R es q)) (past q a)

  first_next : (k : Option K) (e : K × V) (es : List (K × V)) → Rises R (e ∷ es) →
      IsAfter R k e.0 → IsNextAfter R (e ∷ es) k e
  first_next k e es s a = record {
    after = a;
    held = first_held e es;
    none_between = λ q b l. none_below q e es s l;
  }

  above_cases : (k : K) (e : K × V) (es : List (K × V)) → Rises R (e ∷ es) →
      MatchOption (first_entry (above (R k) es)) (HasNoneAfter R es (Some k)) (λ f. IsNextAfter R es (Some k) f)
      → (c : Ordering) → R k e.0 ≡ c →
      MatchOption (first_entry (cond (is_lt c) (e ∷ above (R k) es) (above (R k) es)))
      (HasNoneAfter R (e ∷ es) (Some k)) (λ f. IsNextAfter R (e ∷ es) (Some k) f)
  above_cases k e es s n Less h = first_next (Some k) e es s h
  above_cases k e es s n Equal h = next_cases k e es (λ q a. past_equal o k e.0 q h a) (first_entry (above (R k) es)) n
  above_cases k e es s n Greater h =
      next_cases k e es (λ q a. past_greater o k e.0 q h a) (first_entry (above (R k) es)) n

  above_next : (es : List (K × V)) → Rises R es → (k : K) →
      MatchOption (first_entry (above (R k) es)) (HasNoneAfter R es (Some k)) (λ e. IsNextAfter R es (Some k) e)
  above_next [] s k = λ q a. refl
  above_next (e ∷ es) s k = above_cases k e es s (above_next es (rising_tail R e es s) k) (R k e.0) refl

  pub after_next : (es : List (K × V)) → HasRisingKeys R es → (k : Option K) →
      MatchOption (entry_after R es k) (HasNoneAfter R es k) (λ e. IsNextAfter R es k e)
  after_next [] s None = λ q a. refl
  after_next (e ∷ es) s None = first_next None e es s.rising tt
  after_next es s (Some k) = above_next es s.rising k

  -- ---- a walk
  -- what comes after the first entry's key is the others
  after_first : (e : K × V) (es : List (K × V)) → Rises R (e ∷ es) → above (R e.0) (e ∷ es) ≡ es
  after_first e es s = ap (λ c. cond (is_lt c) (e ∷ above (R e.0) es) (above (R e.0) es))
      (tied_itself o e.0) ∙ above_all (R e.0) es (rising_all R [] e es s).1

  walk_cases : (k : K) (e : K × V) (es : List (K × V)) →
      ((q : K) → R k q ≡ Less → R q e.0 ≡ Greater) → (next : Option (K × V)) (rest : List (K × V))
      → MatchOption next (HasNoneAfter R es (Some k)) (λ f. IsNextAfter R es (Some k) f)
      → MatchOption next (rest ≡ []) (λ f. rest ≡ f ∷ above (R f.0) es)
      → MatchOption next (rest ≡ []) (λ f. rest ≡ f ∷ above (R f.0) (e ∷ es))
  walk_cases k e es past None rest n h = h
  walk_cases k e es past (Some f) rest n h = h ∙
      ap (λ c. f ∷ cond (is_lt c) (e ∷ above (R f.0) es) (above (R f.0) es)) (sym (past f.0 n.after))

  above_walk_cases : (k : K) (e : K × V) (es : List (K × V)) → Rises R (e ∷ es) →
      MatchOption (first_entry (above (R k) es)) (above (R k) es ≡ [])
      (λ f. above (R k) es ≡ f ∷ above (R f.0) es)
      → (c : Ordering) → R k e.0 ≡ c
      → MatchOption (first_entry (cond (is_lt c) (e ∷ above (R k) es) (above (R k) es)))
      (cond (is_lt c) (e ∷ above (R k) es) (above (R k) es) ≡ [])
      (λ f. cond (is_lt c) (e ∷ above (R k) es) (above (R k) es) ≡ f ∷ above (R f.0) (e ∷ es))
  above_walk_cases k e es s w Less h =
      let later = all_keys_map (λ q. R e.0 q ≡ Less) (λ q. R k q ≡ Less)
      (λ q l. o.trans k e.0 q h l) es (rising_all R [] e es s).1 in
      ap (λ (l : List (K × V)). e ∷ l) (above_all (R k) es later ∙ sym (after_first e es s))
  above_walk_cases k e es s w Equal h =
      walk_cases k e es (λ q a. past_equal o k e.0 q h a) (first_entry (above (R k) es))
      (above (R k) es) (above_next es (rising_tail R e es s) k) w
  above_walk_cases k e es s w Greater h =
      walk_cases k e es (λ q a. past_greater o k e.0 q h a) (first_entry (above (R k) es))
      (above (R k) es) (above_next es (rising_tail R e es s) k) w

  above_walk : (es : List (K × V)) → Rises R es → (k : K) →
      MatchOption (first_entry (above (R k) es)) (above (R k) es ≡ [])
      (λ e. above (R k) es ≡ e ∷ above (R e.0) es)
  above_walk [] s k = refl
  above_walk (e ∷ es) s k = above_walk_cases k e es s (above_walk es (rising_tail R e es s) k) (R k e.0) refl

  pub after_walk : (es : List (K × V)) → HasRisingKeys R es → (k : Option K) →
      MatchOption (entry_after R es k) (entries_after R es k ≡ [])
      (λ e. entries_after R es k ≡ e ∷ entries_after R es (Some e.0))
  after_walk [] s None = refl
  after_walk (e ∷ es) s None = ap (λ (l : List (K × V)). e ∷ l) (sym (after_first e es s.rising))
  after_walk es s (Some k) = above_walk es s.rising k
