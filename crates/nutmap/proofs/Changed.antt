-- A value that is changed on one side of a node, or in its middle, is changed in the whole of it.
use Rattle.std.proofs.Common.{List, ◌∷◌, ◌++◌, ap, sym, ◌∙◌}
use Rattle.std.specs.declared.cmp.Ordering.{Ordering}
use Rattle.std.specs.declared.cmp.Ordering.TheVariants.{Less, Equal, Greater}
use Rattle.std.specs.Cmp.{IsTotalOrder}
use Rattle.std.specs.Fn.{Once, FnOnceReturnsAtMut}
use Rattle.std.specs.Prelude.{◌≡◌}
use denote.Ref.{MutBor}
use Rattle.nutmap.specs.Entries.{ChangesValue}
use Rattle.nutmap.proofs.Ordered.{Rises, lookup_left, lookup_middle, lookup_right, insert_left}
use Rattle.nutmap.proofs.Ordered.{insert_middle, insert_right}

module _ {K V F : Type 0} {R : K → K → Ordering} (o : IsTotalOrder R)
    (g : Once F (MutBor V × Unit {0}) (Unit {0} × (MutBor V × Unit {0}))) (f : F) (q : K)
    (l : List (K × V)) (k : K) (w : V) (r : List (K × V)) (s : Rises R (l ++ (k, w) ∷ r)) where
  pub changed_left : (new : List (K × V)) → R q k ≡ Less → ChangesValue g f R l q new →
      ChangesValue g f R (l ++ (k, w) ∷ r) q (new ++ (k, w) ∷ r)
  changed_left new h c = record {
    before = c.before;
    after = c.after;
    there = lookup_left o q l k w r s h ∙ c.there;
    called = c.called;
    leaves = ap (λ es. es ++ (k, w) ∷ r) c.leaves ∙ sym (insert_left o q l k w r s c.after h);
  }

  pub changed_middle : (v : V) → R q k ≡ Equal → FnOnceReturnsAtMut g f w tt v →
      ChangesValue g f R (l ++ (k, w) ∷ r) q (l ++ (k, v) ∷ r)
  changed_middle v h called = record {
    before = w;
    after = v;
    there = lookup_middle o q l k w r s h;
    called = called;
    leaves = sym (insert_middle o q l k w r s v h);
  }

  pub changed_right : (new : List (K × V)) → R q k ≡ Greater → ChangesValue g f R r q new →
      ChangesValue g f R (l ++ (k, w) ∷ r) q (l ++ (k, w) ∷ new)
  changed_right new h c = record {
    before = c.before;
    after = c.after;
    there = lookup_right o q l k w r s h ∙ c.there;
    called = c.called;
    leaves = ap (λ es. l ++ (k, w) ∷ es) c.leaves ∙ sym (insert_right o q l k w r s c.after h);
  }
