-- What a change does to the entries as a finite map.
use Rattle.std.proofs.Common.{◌≡◌, ◌≢◌, false, cond, List, Some, None, refl, ap, ◌∙◌}
use Rattle.std.specs.declared.cmp.Ordering.{Ordering}
use Rattle.std.specs.declared.cmp.Ordering.TheVariants.{Less, Equal, Greater}
use Rattle.std.specs.Ordering.{is_eq}
use Rattle.std.specs.Cmp.{IsTotalOrder}
use Rattle.std.specs.BTreeMap.{insert_entry, is_at}
use Rattle.std.specs.Map.{remove_entry}
use Rattle.std.proofs.lemmas.Cmp.{tied_back}
use Rattle.nutmap.specs.Entries.{value_at, HasRisingKeys}
use Rattle.nutmap.specs.FiniteMap.{ChangesOneKey}
use Rattle.nutmap.proofs.Finite.{value_at-insert, value_at-remove}

other_cases : (c : Ordering) → c ≢ Equal → is_eq c ≡ false
other_cases Less n = refl
other_cases Equal n = absurd (n refl)
other_cases Greater n = refl

module _ {K V : Type 0} {R : K → K → Ordering} (o : IsTotalOrder R) where
  pub insert_changes : (es : List (K × V)) (k : K) (v : V) → ChangesOneKey R es (insert_entry R es k v) k (Some v)
  insert_changes es k v = record {
    here = λ q h. value_at-insert o es k v q ∙
        ap (λ c. cond (is_eq c) (Some v) (value_at R es q)) (tied_back o k q h);
    elsewhere = λ q n. value_at-insert o es k v q ∙
        ap (λ b. cond b (Some v) (value_at R es q)) (other_cases (R q k) (λ e. n (tied_back o q k e)));
  }

  pub remove_changes : (es : List (K × V)) → HasRisingKeys R es → (k : K) →
      ChangesOneKey R es (remove_entry (is_at (R k)) es) k None
  remove_changes es s k = record {
    here = λ q h. value_at-remove o es s k q ∙ ap (λ c. cond (is_eq c) None (value_at R es q)) h;
    elsewhere = λ q n. value_at-remove o es s k q ∙ ap (λ b. cond b None (value_at R es q)) (other_cases (R k q) n);
  }
