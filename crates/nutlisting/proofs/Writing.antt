-- The text of a listing is its lines, one after another.
use Rattle.std.proofs.Common.{◌≡◌, ℕ, List, [], ◌∷◌, ◌++◌, refl, sym, ap, subst}
use Rattle.std.proofs.Common.{◌∙◌, append_assoc, append-nil}
use Rattle.std.specs.List.{concat}
use Rattle.nutlisting.specs.Items.{ListingState, text_of, lines_of}
use Rattle.nutlisting.specs.Lines.{IsWholeLine, AreLines}
use Rattle.nutlisting.proofs.Joined.{no_lines, joined_with}

pub lines_are_text : (l : ListingState) → concat (lines_of l) ≡ text_of l
lines_are_text l = refl

-- lines of the text are made, and `left` isn't
pub record AreMade (text left : List ℕ) : Type 0 where
  pub made : List ℕ
  pub whole : text ≡ made ++ left
  pub are_lines : AreLines made

-- none is made yet
pub none_made : (text left : List ℕ) → left ≡ text → AreMade text left
none_made text left e = record { made = []; whole = sym e; are_lines = no_lines }

-- a line more is made
pub line_made : (text line : List ℕ) (left others : List (List ℕ)) → left ≡ line ∷
    others → IsWholeLine line → AreMade text (concat left) → AreMade text (concat others)
line_made text line left others e w h = record {
  made = h.made ++ line;
  whole = h.whole ∙ ap (λ (z : List (List ℕ)). h.made ++ concat z) e ∙
      sym (append_assoc h.made line (concat others));
  are_lines = joined_with h.made line (h.made ++ line) refl h.are_lines w;
}

-- all are
pub all_made : (text : List ℕ) (left : List (List ℕ)) → left ≡ [] →
    AreMade text (concat left) → AreLines text
all_made text left e h = subst AreLines
    (sym (h.whole ∙ ap (λ (z : List (List ℕ)). h.made ++ concat z) e ∙ append-nil h.made)) h.are_lines
