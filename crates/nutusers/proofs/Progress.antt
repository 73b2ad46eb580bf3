-- How far a file has been read.
use Rattle.std.proofs.Common.{◌≡◌, ℕ, ◌+◌, ◌≤◌, Bool, true, List, [], ◌∷◌}
use Rattle.std.proofs.Common.{◌++◌, length, reverse, None, refl, sym, ap, ◌∙◌}
use Rattle.std.proofs.Common.{append_assoc, append-nil, arith, length-append}
use Rattle.std.proofs.lemmas.List.{reverse-append, reverse-reverse, length-reverse}
use Rattle.nutusers.specs.File.{Format, AreAccepted, IsRefused, IsByLines, Means, verdict_of}
use Rattle.nutusers.specs.declared.fault.Cause.{Cause}
use Rattle.nutusers.specs.declared.fault.Cause.TheVariants.{Memory}

-- the first lines are read, all of them are accepted, and the value is what they mean; the others
-- are left
pub record HasRead (format : Format) {A : Type 0} (meaning : List (List ℕ) → A)
    (lines left : List (List ℕ)) (number : ℕ) (value : A) : Type 0 where
  pub earlier : List (List ℕ)
  pub whole : lines ≡ reverse earlier ++ left
  pub accepted : AreAccepted format earlier
  pub number_is : number ≡ length earlier
  pub value_is : value ≡ meaning earlier

-- what the lines come to, one after another
pub comes_to : {A : Type 0} → (A → List ℕ → A) → A → List (List ℕ) → A
comes_to with_line none [] = none
comes_to with_line none (line ∷ earlier) = with_line (comes_to with_line none earlier) line

pub by_lines : {A : Type 0} (with_line : A → List ℕ → A) (none : A) →
    IsByLines with_line none (comes_to with_line none)
unfolding comes_to
by_lines with_line none = record { nothing = refl; one_more = λ line earlier. refl }

pub reverse-cons : {X : Type 0} (x : X) (xs : List X) → reverse (x ∷ xs) ≡ reverse xs ++ x ∷ []
reverse-cons x xs = reverse-append (x ∷ []) xs

module _ {format : Format} {A : Type 0} {meaning : List (List ℕ) → A} {lines : List (List ℕ)} where
  -- no line is read
  pub nothing_read : (value : A) → value ≡ meaning [] → HasRead format meaning lines lines 0 value
  nothing_read value h = record { earlier = []; whole = refl; accepted = tt; number_is = refl; value_is = h }

  -- a line more is read
  pub one_read : (line : List ℕ) (left : List (List ℕ)) (n : ℕ) (value next : A) →
      (h : HasRead format meaning lines (line ∷ left) n value) → format h.earlier line ≡
      None → next ≡ meaning (line ∷ h.earlier) → HasRead format meaning lines left (n + 1) next
  one_read line left n value next h fine is = record {
    earlier = line ∷ h.earlier;
    whole = h.whole ∙ sym (ap (λ front. front ++ left) (reverse-cons line h.earlier) ∙
        append_assoc (reverse h.earlier) (line ∷ []) left);
    accepted = (fine, h.accepted);
    number_is = omega (arith, h.number_is);
    value_is = is;
  }

  -- all lines are read
  pub all_read : (n : ℕ) (value : A) → HasRead format meaning lines [] n value → Means format meaning lines value
  all_read n value h =
      let back : reverse lines ≡ h.earlier =
      ap reverse (h.whole ∙ append-nil (reverse h.earlier)) ∙ reverse-reverse h.earlier in
      record { accepted = rw back h.accepted; value_is = rw back h.value_is }

  -- the next line is refused
  pub next_refused : (adds : List ℕ → Bool) (line : List ℕ) (left : List (List ℕ)) (n : ℕ)
      (value : A) (cause : Cause) → (h : HasRead format meaning lines (line ∷ left) n value) →
      format h.earlier line ≡ verdict_of cause
      → (cause ≡ Memory → adds line ≡ true) →
      IsRefused format adds lines (record { line = n + 1; cause = cause })
  next_refused adds line left n value cause h why memory =
      record {
        earlier = h.earlier;
        line = line;
        later = left;
        whole = h.whole;
        accepted = h.accepted;
        number = ap (λ m. m + 1) h.number_is;
        here = why;
        memory = memory;
      }

  -- a line that is left is not beyond the last
  pub room : (line : List ℕ) (left : List (List ℕ)) (n : ℕ) (value : A) →
      HasRead format meaning lines (line ∷ left) n value → n + 1 ≤ length lines
  room line left n value h =
      let parts : length lines ≡ length (reverse h.earlier) + length (line ∷ left) =
      ap length h.whole ∙ length-append (reverse h.earlier) (line ∷ left) in
      omega (arith, parts, length-reverse h.earlier, h.number_is)
