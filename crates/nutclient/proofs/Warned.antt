-- The warning after a text.
use Rattle.std.proofs.Common.{◌≡◌, ◌++◌, ◌∷◌, ◌∙◌, ℕ, List, []}
use Rattle.std.proofs.Common.{append_assoc, Bool, false, length}
use Rattle.std.proofs.Common.{ap, refl, subst, sym}
use Rattle.std.specs.Prelude.{◌==◌, ◌&&◌, codes, not}
use Rattle.nutrequest.specs.declared.faults.ClientFault.TheVariants.{ErrWord}
use Rattle.nutrequest.specs.Orders.{has_order_in}
use Rattle.nutclient.specs.Why.{is_refusal, look_first, named_reason, subject_of, warned, why_of}
use Rattle.nutclient.specs.Why.{NoOrderIsGivenUnseen}
use Rattle.std.proofs.Math.Bool.{and-false}

pub warned_some : (why : List ℕ) → (length why == 0) ≡ false → (why ++ codes "; ") ++ look_first ≡ warned why
warned_some [] h = cc h
warned_some (b ∷ why) h = append_assoc (b ∷ why) (codes "; ") look_first

warned_ends : (why : List ℕ) → (front : List ℕ) × (warned why ≡ front ++ look_first)
warned_ends [] = ([], refl)
warned_ends (b ∷ why) = (b ∷ why ++ codes "; ", sym (append_assoc (b ∷ why) (codes "; ") look_first))

pub unseen : NoOrderIsGivenUnseen
unseen = record {
  warned = λ requests sent fault cause there no.
      subst (λ (b : Bool). (front : List ℕ) × (why_of b (subject_of requests) fault cause ≡ front ++ look_first))
      (sym (ap (λ b. b && not (is_refusal fault)) there ∙ ap not no))
      (warned_ends (named_reason (subject_of requests) fault cause));
  not_sent = λ requests sent fault cause none.
      ap (λ b. why_of (b && not (is_refusal fault)) (subject_of requests) fault cause) none;
  refused = λ requests sent word cause.
      ap (λ b. why_of b (subject_of requests) (ErrWord word) cause) (and-false (has_order_in requests sent));
}
