-- A list of entries as a finite map.
use Rattle.std.proofs.Common.{◌≡◌, Bool, true, false, cond, List, [], ◌∷◌, Some, None, Option, refl, ap}
use Rattle.std.specs.declared.cmp.Ordering.{Ordering}
use Rattle.std.specs.declared.cmp.Ordering.TheVariants.{Less, Equal, Greater}
use Rattle.std.specs.Ordering.{match_ordering, is_eq}
use Rattle.std.specs.Cmp.{IsTotalOrder}
use Rattle.std.specs.Map.{remove_entry, keys_of}
use Rattle.std.specs.BTreeMap.{insert_entry, is_at}
use Rattle.std.proofs.lemmas.Cmp.{alike_right, eq_by_cmp_equiv}
use Rattle.std.proofs.lemmas.Map.{lookup-remove_entry}
use Rattle.std.proofs.lemmas.Map.Keys.{IsDistinct-from_sorted}
use Rattle.nutmap.specs.Entries.{value_at, HasRisingKeys}
use Rattle.nutmap.proofs.Ordered.{less_from_greater}

pub equal_when : (c : Ordering) → is_eq c ≡ true → c ≡ Equal
equal_when Less h = absurd (cc)
equal_when Equal h = refl
equal_when Greater h = absurd (cc)

module _ {K V : Type 0} {R : K → K → Ordering} (o : IsTotalOrder R) where
  insert_cases : (c : Ordering) (k q : K) (v : V) (e : K × V) (es ins : List (K × V)) →
      R k e.0 ≡ c → value_at R ins q ≡ cond (is_eq (R q k)) (Some v) (value_at R es q) →
      value_at R (match_ordering c ((k, v) ∷ e ∷ es) ((e.0, v) ∷ es) (e ∷ ins)) q ≡
      cond (is_eq (R q k)) (Some v) (value_at R (e ∷ es) q)
  insert_cases Less k q v e es ins h i = refl
  insert_cases Equal k q v e es ins h i = rw (alike_right o k e.0 q h) (twice (is_eq (R q e.0)) v e.1 (value_at R es q))
    where
      twice : (b : Bool) (x y : V) (z : Option V) → cond b (Some x) z ≡ cond b (Some x) (cond b (Some y) z)
      twice true x y z = refl
      twice false x y z = refl
  insert_cases Greater k q v e es ins h i = rw i (apart (R q e.0) (R q k) refl refl)
    where
      apart : (a b : Ordering) → R q e.0 ≡ a → R q k ≡ b →
          cond (is_eq a) (Some e.1) (cond (is_eq b) (Some v) (value_at R es q)) ≡
          cond (is_eq b) (Some v) (cond (is_eq a) (Some e.1) (value_at R es q))
      apart Less b p r = refl
      apart Greater b p r = refl
      apart Equal Less p r = refl
      apart Equal Greater p r = refl
      apart Equal Equal p r = absurd (cc (p, r, h, o.congr q e.0 k p, less_from_greater o k e.0 h))

  pub value_at-insert : (es : List (K × V)) (k : K) (v : V) (q : K) →
      value_at R (insert_entry R es k v) q ≡ cond (is_eq (R q k)) (Some v) (value_at R es q)
  value_at-insert [] k v q = refl
  value_at-insert (e ∷ es) k v q =
      insert_cases (R k e.0) k q v e es (insert_entry R es k v) refl (value_at-insert es k v q)

  pub value_at-remove : (es : List (K × V)) → HasRisingKeys R es → (k q : K) →
      value_at R (remove_entry (is_at (R k)) es) q ≡ cond (is_eq (R k q)) None (value_at R es q)
  value_at-remove es s k q = lookup-remove_entry (eq_by_cmp_equiv o) (is_at (R k))
      (λ x y h. ap is_eq (o.congr k x y (equal_when (R k x) h))) q es (IsDistinct-from_sorted R (keys_of es) s.rising)
