-- How many entries a change leaves.
use Rattle.std.proofs.Common.{◌≡◌, suc, ◌+◌, Bool, true, false, cond, List, [], ◌∷◌}
use Rattle.std.proofs.Common.{length, Some, None, Option, refl, ap, arith}
use Rattle.std.specs.declared.cmp.Ordering.{Ordering}
use Rattle.std.specs.declared.cmp.Ordering.TheVariants.{Less, Equal, Greater}
use Rattle.std.specs.Ordering.{match_ordering, is_eq}
use Rattle.std.specs.Cmp.{IsTotalOrder}
use Rattle.std.specs.Map.{lookup, remove_entry}
use Rattle.std.specs.BTreeMap.{insert_entry, is_at}
use Rattle.nutmap.proofs.Ordered.{Rises, rising_tail, before_right, lookup-before}

module _ {K V : Type 0} (R : K → K → Ordering) (q : K) (v : V) where
  new_cases : (c : Ordering) (e : K × V) (es ins : List (K × V)) (o : Option V) →
      (o ≡ None → length ins ≡ length es + 1) → cond (is_eq c) (Some e.1) o ≡ None →
      length (match_ordering c ((q, v) ∷ e ∷ es) ((e.0, v) ∷ es) (e ∷ ins)) ≡ suc (length es) + 1
  new_cases Less e es ins o h n = omega arith
  new_cases Equal e es ins o h n = absurd (cc)
  new_cases Greater e es ins o h n = omega (arith, h n)

  -- a new key adds an entry
  pub length-insert_new : (es : List (K × V)) → lookup (is_at (R q)) es ≡ None →
      length (insert_entry R es q v) ≡ length es + 1
  length-insert_new [] n = omega arith
  length-insert_new (e ∷ es) n =
      new_cases (R q e.0) e es (insert_entry R es q v) (lookup (is_at (R q)) es) (length-insert_new es) n

module _ {K V : Type 0} (test : K → Bool) where
  gone_cases : (c : Bool) (e : K × V) (es rest : List (K × V)) (o : Option V) (w : V) →
      (o ≡ Some w → length rest + 1 ≡ length es) → cond c (Some e.1) o ≡ Some w →
      length (cond c es (e ∷ rest)) + 1 ≡ suc (length es)
  gone_cases true e es rest o w h n = omega arith
  gone_cases false e es rest o w h n = omega (arith, h n)

  -- a key that is there takes its entry along
  pub length-remove_entry : (es : List (K × V)) (w : V) → lookup test es ≡ Some w →
      length (remove_entry test es) + 1 ≡ length es
  length-remove_entry [] w n = absurd (cc)
  length-remove_entry (e ∷ es) w n =
      gone_cases (test e.0) e es (remove_entry test es) (lookup test es) w (length-remove_entry es w) n

  none_cases : (c : Bool) (e : K × V) (es rest : List (K × V)) (o : Option V) →
      (o ≡ None → rest ≡ es) → cond c (Some e.1) o ≡ None → cond c es (e ∷ rest) ≡ e ∷ es
  none_cases true e es rest o h n = absurd (cc)
  none_cases false e es rest o h n = ap (λ l. e ∷ l) (h n)

  -- a key that is not there takes nothing along
  pub remove_entry-none : (es : List (K × V)) → lookup test es ≡ None → remove_entry test es ≡ es
  remove_entry-none [] n = refl
  remove_entry-none (e ∷ es) n =
      none_cases (test e.0) e es (remove_entry test es) (lookup test es) (remove_entry-none es) n

module _ {K V : Type 0} {R : K → K → Ordering} (o : IsTotalOrder R) (q : K) (v : V) where
  old_cases : (c : Ordering) (e : K × V) (es ins : List (K × V)) (w : V) → R q e.0 ≡ c →
      Rises R (e ∷ es) → (lookup (is_at (R q)) es ≡ Some w → length ins ≡ length es) →
      cond (is_eq c) (Some e.1) (lookup (is_at (R q)) es) ≡ Some w →
      length (match_ordering c ((q, v) ∷ e ∷ es) ((e.0, v) ∷ es) (e ∷ ins)) ≡ suc (length es)
  old_cases Less e es ins w h s r n =
      let none = lookup-before R q es (before_right o q [] e es s h).1 in
      absurd (cc (none, n))
  old_cases Equal e es ins w h s r n = refl
  old_cases Greater e es ins w h s r n = ap suc (r n)

  -- a key that is there adds none
  pub length-insert_old : (es : List (K × V)) (w : V) → Rises R es →
      lookup (is_at (R q)) es ≡ Some w → length (insert_entry R es q v) ≡ length es
  length-insert_old [] w s n = absurd (cc)
  length-insert_old (e ∷ es) w s n =
      old_cases (R q e.0) e es (insert_entry R es q v) w refl s (length-insert_old es w (rising_tail R e es s)) n
