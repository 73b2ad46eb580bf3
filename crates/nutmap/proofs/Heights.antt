-- A tree that is balanced has enough entries for its height.
use Rattle.std.proofs.Common.{◌≡◌, ℕ, suc, ◌+◌, ◌-◌, ◌*◌, ◌/◌, ◌^◌}
use Rattle.std.proofs.Common.{◌≤◌, ◌<◌, max, Bool, true, false, nat_lt, List, []}
use Rattle.std.proofs.Common.{◌∷◌, ◌++◌, length, refl, arith, length-append}
use Rattle.std.proofs.Math.Nat.{pow-suc, pow-zero}
use Rattle.std.proofs.Math.Pow.{pow_mono}
use Rattle.std.proofs.lemmas.Bool.{ltb-true, ltb-false}
use Rattle.std.specs.declared.cmp.Ordering.{Ordering}
use Rattle.nutmap.specs.Digits.{digits, most_nodes}
use Rattle.nutmap.specs.Entries.{HasRisingKeys}
use Rattle.nutmap.specs.Marked.{has_marked}
use Rattle.nutmap.specs.Tree.{IsTree, IsNode, IsBalanced}
use Rattle.nutmap.proofs.Digits.{lt_digits}
use Rattle.nutmap.proofs.Ordered.{none_rise}

-- the power that the lesser side reaches, twice
enough_twice : (hl hr k a b : ℕ) → k ≤ hl / 2 → k ≤ hr / 2 → 2 ^ (hl / 2) ≤ a + 1 →
    2 ^ (hr / 2) ≤ b + 1 → 2 ^ suc k ≤ a + b + 2
enough_twice hl hr k a b p q l r =
    let x = pow_mono p in
    let y = pow_mono q in
    rw (pow-suc 2 k) (omega (arith, x, y))

enough_cases : (hl hr h a b : ℕ) (small : Bool) → nat_lt h 2 ≡ small → 2 ^ (hl / 2) ≤ a +
    1 → 2 ^ (hr / 2) ≤ b + 1 → IsBalanced hl hr → h ≡ max hl hr + 1 → 2 ^ (h / 2) ≤ a + b + 2
enough_cases hl hr h a b true s l r c e =
    let lt : h < 2 = ltb-true h 2 s in
    let none : h / 2 ≡ 0 = omega arith in
    rw (none, pow-zero 2) (omega arith)
enough_cases hl hr h a b false s l r c e =
    let ge : 2 ≤ h = ltb-false h 2 s in
    let more : h / 2 ≡ suc (h / 2 - 1) = omega arith in
    rw more (enough_twice hl hr (h / 2 - 1) a b (omega arith) (omega arith) l r)

node_enough : (hl hr h a b : ℕ) → 2 ^ (hl / 2) ≤ a + 1 → 2 ^ (hr / 2) ≤ b + 1 →
    IsBalanced hl hr → h ≡ max hl hr + 1 → 2 ^ (h / 2) ≤ a + b + 2
node_enough hl hr h a b l r c e = enough_cases hl hr h a b (nat_lt h 2) refl l r c e

pub node_tree : {K V : Type 0} (R : K → K → Ordering) (marks : V → Bool)
    (es fs : List (K × V)) (e : K × V) (hl hr h : ℕ) (says : Bool) → IsTree R es hl →
    IsTree R fs hr → HasRisingKeys R (es ++ e ∷ fs) → IsBalanced hl hr → h ≡ max hl hr +
    1 → says ≡ has_marked marks (es ++ e ∷ fs) → IsNode R marks (es ++ e ∷ fs) hl hr h says
node_tree R marks es fs e hl hr h says l r s c is marked = record {
  marked = marked;
  tree = record {
    rising = s.rising;
    enough = rw length-append (omega (arith, node_enough hl hr h (length es) (length fs) l.enough r.enough c is));
  };
  height = is;
  balanced = c;
}

pub empty_tree : {K V : Type 0} (R : K → K → Ordering) → IsTree {K = K} {V = V} R [] 0
empty_tree R = record { rising = none_rise R; enough = omega arith }

-- the height of a tree is bounded by the digits
height_digits : {K V : Type 0} (R : K → K → Ordering) (es : List (K × V)) (h : ℕ) →
    IsTree R es h → h + 1 ≤ 2 * digits (length es + 1)
height_digits R es h t = omega (arith, lt_digits (h / 2) (length es + 1) t.enough)

-- three nodes a level, and one more, are within the bound
pub cost_fits : {K V : Type 0} (R : K → K → Ordering) (es : List (K × V)) (h old new : ℕ) →
    IsTree R es h → new ≤ old + 3 * h + 1 → new ≤ old + most_nodes (length es)
cost_fits R es h old new t le = omega (arith, height_digits R es h t)
