-- The first line of some bytes, and their first LF.
use Rattle.std.proofs.Common.{◌≡◌, ℕ, zero, suc, ◌<◌, Bool, true, false, eqb, List, []}
use Rattle.std.proofs.Common.{◌∷◌, ◌++◌, length, drop, Some, None, refl, sym, subst, ap}
use Rattle.std.proofs.Common.{◌∙◌, arith, append-nil, length-append}
use Rattle.std.specs.Prelude.{◌||◌}
use Rattle.arrayvec.specs.ArrayVec.{ArrayVec}
use Rattle.nutwords.specs.SplitLine.{split_line}
use Rattle.nutwords.specs.Cut.{has_lf}
use Rattle.nutwords.specs.Cut.{Cuts}
use Rattle.nutwords.specs.Found.{FindsLine}
use Rattle.nutwords.specs.declared.cut.Cut.TheVariants.{Line}
use Rattle.nutwords.proofs.Lines.{with_byte, split_line-other, split_line-append, none-of_map}
use Rattle.nutwords.proofs.Pieces.{some_none, parts, with_byte-some, at_lf, split_line-behind}
use Rattle.std.proofs.lemmas.Bool.{or_parts}

both : (x y : Bool) → x ≡ false → y ≡ false → (x || y) ≡ false
both true y h k = cc
both false y h k = k

-- no LF, no line
pub no_lf-none : (text : List ℕ) → has_lf text ≡ false → split_line text ≡ None
no_lf-none [] h = refl
no_lf-none (x ∷ text) h = let p = or_parts (eqb x 10) (has_lf text) h in
    split_line-other x text p.0 ∙ ap (with_byte x) (no_lf-none text p.1)

pub none-no_lf : (text : List ℕ) → split_line text ≡ None → has_lf text ≡ false
none-no_lf [] h = refl
none-no_lf (x ∷ text) h =
    elim (eqb x 10) as (λ v. eqb x 10 ≡ v → has_lf (x ∷ text) ≡ false) [
      | true ↦ λ e. absurd (some_none (sym (at_lf x text e) ∙ h))
      | false ↦ λ e. both (eqb x 10) (has_lf text) e
          (none-no_lf text (none-of_map (λ s. (x ∷ s.0, s.1)) (split_line text)
          (sym (split_line-other x text e) ∙ h)))
    ] refl

-- the first line has no LF
pub line-no_lf : (text first rest : List ℕ) → split_line text ≡ Some (first, rest) → has_lf first ≡ false
line-no_lf [] first rest h = absurd (some_none (sym h))
line-no_lf (x ∷ text) first rest h =
    elim (eqb x 10) as (λ v. eqb x 10 ≡ v → has_lf first ≡ false) [
      | true ↦ λ e. subst (λ f. has_lf f ≡ false) (parts [] text first rest (sym (at_lf x text e) ∙ h)).0 refl
      | false ↦ λ e.
          let s = with_byte-some x (split_line text) first rest (sym (split_line-other x text e) ∙ h) in
          subst (λ f. has_lf f ≡ false) (sym s.2) (both (eqb x 10) (has_lf s.0) e (line-no_lf text s.0 rest s.1))
    ] refl

-- and what has none is cut off at the LF after it
pub line-cut : (text first rest : List ℕ) → text ≡ first ++ 10 ∷ rest → has_lf first ≡
    false → split_line text ≡ Some (first, rest)
line-cut text first rest whole none = ap split_line whole ∙
    split_line-append first (10 ∷ rest) (no_lf-none first none) ∙ ap (λ t. Some (t, rest)) (append-nil first)

-- a line that wasn't whole takes some of the piece
pub cut-found : (held piece after : List ℕ) (line : ArrayVec ℕ) (used : ℕ) →
    split_line held ≡ None → Cuts held piece (Line line used) after → FindsLine held piece line.items used
cut-found held piece after line used none c =
    let b = split_line-behind held piece line.items (drop used piece) none c.0 in
    let l : length piece ≡ length (b.0 ++ 10 ∷ drop used piece) = ap length b.2 in
    let m = length-append b.0 (10 ∷ drop used piece) in
    (c.0, some used (drop used piece) refl (omega (arith, l, m)), c.1, c.2)
  where
    some : (n : ℕ) (rest : List ℕ) → rest ≡ drop n piece → length rest < length piece → 0 < n
    some zero rest e h = let same : length rest ≡ length piece = ap length e in absurd (omega (arith, same, h))
    some (suc n) rest e h = omega arith
