-- The lines of a text, and of texts one after another.
use Rattle.std.proofs.Common.{◌≡◌, ℕ, List, [], ◌∷◌, ◌++◌, refl, sym, ap, ◌∙◌, append-nil}
use Rattle.std.specs.List.{flat_map, AllByRecursion}
use Rattle.std.proofs.lemmas.List.Concat.{flat_map-append}
use Rattle.nutlisting.specs.Lines.{IsAnswerLine, IsWholeLine, AreLines}

pub no_lines : AreLines []
no_lines = record { lines = []; each = tt; whole = refl }

both_all : (a b : List (List ℕ)) → AllByRecursion IsAnswerLine a →
    AllByRecursion IsAnswerLine b → AllByRecursion IsAnswerLine (a ++ b)
both_all [] b h k = k
both_all (line ∷ a) b h k = (h.0, both_all a b h.1 k)

line_joined : (text line : List ℕ) → AreLines text → IsWholeLine line → AreLines (text ++ line)
line_joined text line h k = record {
  lines = h.lines ++ k.line ∷ [];
  each = both_all h.lines (k.line ∷ []) h.each (k.answer, tt);
  whole = ap (λ z. z ++ line) h.whole ∙
      ap (λ z. flat_map (λ line. line ++ 10 ∷ []) h.lines ++ z)
      (k.whole ∙ sym (append-nil (k.line ++ 10 ∷ []))) ∙
      sym (flat_map-append (λ line. line ++ 10 ∷ []) h.lines (k.line ∷ []));
}

-- a line more
pub joined_with : (before line after : List ℕ) → after ≡ before ++ line →
    AreLines before → IsWholeLine line → AreLines after
joined_with before line after e h k = rw e (line_joined before line h k)
