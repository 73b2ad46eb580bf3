-- The refusal that is computed is the one that is given.
use Rattle.std.proofs.Common.{◌≡◌, ◌≢◌, ℕ, ◌+◌, Bool, List, [], ◌∷◌}
use Rattle.std.proofs.Common.{◌++◌, length, reverse, Some, refl, sym, ap, ◌∙◌}
use Rattle.std.proofs.Common.{append_assoc, append-nil}
use Rattle.std.proofs.lemmas.List.{reverse-reverse}
use Rattle.nutusers.specs.File.{Format, AreAccepted, verdict_of}
use Rattle.nutusers.specs.FirstRefusal.{refusal_or, refusal_after, first_refusal, HasOneRefusal}
use Rattle.nutusers.specs.declared.fault.Cause.{Cause}
use Rattle.nutusers.specs.declared.fault.Cause.TheVariants as causes
use Rattle.nutusers.proofs.Progress.{reverse-cons}

-- accepted lines are passed over
refusal-after_accepted : (format : Format) (earlier rest : List (List ℕ)) →
    AreAccepted format earlier → first_refusal format (reverse earlier ++ rest) ≡ refusal_after format earlier rest
refusal-after_accepted format [] rest h = refl
refusal-after_accepted format (line ∷ earlier) rest h =
    ap (first_refusal format) (ap (λ front. front ++ rest) (reverse-cons line earlier) ∙
    append_assoc (reverse earlier) (line ∷ []) rest)
    ∙ refusal-after_accepted format earlier (line ∷ rest) h.1
    ∙ ap (λ fault. refusal_or (length earlier + 1) fault (refusal_after format (line ∷ earlier) rest)) h.0

verdict_of-cause : (cause : Cause) → cause ≢ causes.Memory → verdict_of cause ≡ Some cause
verdict_of-cause causes.Malformed h = refl
verdict_of-cause causes.OutsideSection h = refl
verdict_of-cause causes.BadName h = refl
verdict_of-cause causes.Duplicate h = refl
verdict_of-cause causes.UnknownKey h = refl
verdict_of-cause causes.BadValue h = refl
verdict_of-cause causes.Memory h = absurd (h refl)

pub has_one_refusal : (format : Format) (adds : List ℕ → Bool) (lines : List (List ℕ)) →
    HasOneRefusal format adds lines
has_one_refusal format adds lines = record {
  accepted = λ h. ap (first_refusal format)
      (sym (reverse-reverse lines) ∙ sym (append-nil (reverse (reverse lines)))) ∙
      refusal-after_accepted format (reverse lines) [] h;
  refused = λ fault h told.
      ap (first_refusal format) h.whole
      ∙ refusal-after_accepted format h.earlier (h.line ∷ h.later) h.accepted
      ∙ ap (λ why. refusal_or (length h.earlier + 1) why
      (refusal_after format (h.line ∷ h.earlier) h.later)) (h.here ∙ verdict_of-cause fault.cause told)
      ∙ ap (λ number. Some (record { line = number; cause = fault.cause })) (sym h.number);
}
