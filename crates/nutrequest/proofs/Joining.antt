-- Words joined by blanks.
use Rattle.std.proofs.Common.{◌≡◌, ◌∙◌, ℕ, ◌<◌, List, [], ◌∷◌, ◌++◌}
use Rattle.std.proofs.Common.{Option, Some, None, length, drop, map, refl, sym, ap, append_assoc}
use Rattle.std.proofs.Common.{append-nil, arith, length-drop}
use Rattle.std.specs.Prelude.{option_to_list}
use Rattle.std.specs.List.{flat_map, join_with_byte}
use denote.Ref.{Bor}
use Rattle.nutrequest.specs.Reply.{behind}

-- they are the first one, and the others each after a blank
pub joined : (verb : List ℕ) (words : List (Bor (List ℕ))) (last : Option (List ℕ))
    → join_with_byte 32 (verb ∷ (map (λ word. word.now) words ++ option_to_list last))
    ≡ verb ++ (flat_map (λ word. 32 ∷ word.now) words ++ flat_map (λ word. 32 ∷ word) (option_to_list last))
joined verb [] None = sym (append-nil verb)
joined verb [] (Some word) = ap (λ t. verb ++ 32 ∷ t) (sym (append-nil word))
joined verb (word ∷ words) last =
    ap (λ t. verb ++ 32 ∷ t) (joined word.now words last
    ∙ sym (append_assoc word.now (flat_map (λ w. 32 ∷ w.now) words)
    (flat_map (λ w. 32 ∷ w) (option_to_list last))))

-- no words are after words that are left, where none come
pub nothing_behind : (front : List (Bor (List ℕ))) (i : ℕ) → i < length front →
    (words : List (List ℕ)) → words ≡ []
    → None ≡ behind (map (λ word. word.now) (drop i front)) words
nothing_behind front i within words none =
    by_rest (drop i front) refl ∙ ap (behind (map (λ word. word.now) (drop i front))) (sym none)
  where
    by_rest : (rest : List (Bor (List ℕ))) → drop i front ≡ rest → None ≡
        behind (map (λ word. word.now) rest) []
    by_rest [] e = absurd (omega (arith, ap length e, length-drop i front, within))
    by_rest (word ∷ rest) e = refl
