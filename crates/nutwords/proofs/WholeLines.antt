-- The whole lines of some bytes, and what is unfinished after them.
use Rattle.std.proofs.Common.{◌≡◌, ℕ, ◌<◌, ◌+◌, cond, List, [], ◌∷◌, ◌++◌}
use Rattle.std.proofs.Common.{Option, Some, None, refl, sym, ◌∙◌, ap, arith, length, take}
use Rattle.std.proofs.Common.{drop, append_assoc, length-append}
use Rattle.std.specs.Prelude.{take_while}
use Rattle.std.specs.Option.{option_map, option_map_or}
use Rattle.std.proofs.lemmas.Bool.{cond-true, cond-false, lt-ltb, le-leb, lt-leb}
use Rattle.std.proofs.lemmas.Bool.Decides.{nat_tests}
use Rattle.std.proofs.lemmas.List.Sums.{take_while-cons}
use Rattle.std.proofs.Math.Seq.{drop-append-add, take-append_seam}
use Rattle.nutwords.specs.SplitLine.{split_line, first_line, rest_after}
use Rattle.nutwords.specs.Cut.{FirstLineAndTheRestAreAll}
use Rattle.nutwords.specs.Cut.{FirstLineIsTheFrontOfItsLength, FirstLfEndsTheFirstLine}
use Rattle.nutwords.specs.Lines.{Tail, Unfinished, Overlong, IsCutInto, line as one_line, unfinished, overlong}
use Rattle.nutwords.specs.SplitLine.{with_lf}
use Rattle.nutwords.specs.WholeLines.{joined, ended_lines, is_short, whole_lines, unfinished_after}
use Rattle.nutwords.specs.WholeLines.{is_too_long, tail_after}
use Rattle.nutwords.specs.declared.limits.TheConstants.{LINE_ROOM}
use Rattle.nutwords.proofs.Lines.{split_line-none, split_line-at}
use Rattle.nutwords.proofs.Pieces.{some_none, split_line-whole, split_line-long, IsCutInto-some}

-- the lines that an LF ends: the first, and those of the rest
abbrev first_and_more : Option (List ℕ × List ℕ) → List (List ℕ)
first_and_more o = option_map_or (λ split. split.0 ∷ ended_lines split.1) o []

ended_by : (text : List ℕ) → ended_lines text ≡ first_and_more (split_line text)
unfolding ended_lines
ended_by [] = refl
ended_by (b ∷ text) = grind (arith, ended_by text)

-- the whole lines: a first one that is short, and those of the rest
whole_first : (text line rest : List ℕ) → split_line text ≡ Some (line, rest) →
    length line < LINE_ROOM → whole_lines text ≡ line ∷ whole_lines rest
unfolding whole_lines
whole_first text line rest split short =
    ap (take_while is_short) (ended_by text ∙ ap first_and_more split) ∙
    take_while-cons is_short line (ended_lines rest) ∙ cond-true _ _ _ (lt-ltb (length line) LINE_ROOM short)

pub rest_behind : (text line rest : List ℕ) → split_line text ≡ Some (line, rest) →
    length line < LINE_ROOM → unfinished_after text ≡ unfinished_after rest
unfolding unfinished_after
rest_behind text line rest split short =
    let more : List ℕ = joined (whole_lines rest) in
    ap (λ (lines : List (List ℕ)). drop (length (joined lines)) text) (whole_first text line rest split short)
    ∙ ap (λ (n : ℕ). drop n text) (length-append (with_lf line) more)
    ∙ ap (drop (length (with_lf line) + length more))
    (split_line-whole text line rest split ∙ sym (append_assoc line (10 ∷ []) rest))
    ∙ drop-append-add (with_lf line) rest (length more)

-- none where the first is too long, or isn't there
no_whole : (text : List ℕ) → ((line rest : List ℕ) → split_line text ≡
    Some (line, rest) → length line < LINE_ROOM → ⊥) → whole_lines text ≡ []
unfolding whole_lines
no_whole text never = ap (take_while is_short) (ended_by text) ∙ by_first (split_line text) refl
  where
    by_first : (o : Option (List ℕ × List ℕ)) → split_line text ≡ o →
        take_while is_short (first_and_more o) ≡ []
    by_first None e = refl
    by_first (Some split) e = take_while-cons is_short split.0 (ended_lines split.1) ∙
        grind (arith, nat_tests, never split.0 split.1 e)

-- the lines and the tail of a text, of which no byte is lost
pub record IsCutSo (text : List ℕ) (lines : List (List ℕ)) (tail : Tail) : Type 0 where
  pub lines_are : whole_lines text ≡ lines
  pub tail_is : tail_after text ≡ tail
  pub all : text ≡ joined lines ++ unfinished_after text

all_unfinished : (text : List ℕ) (tail : Tail) →
    cond (is_too_long text) Overlong (Unfinished text) ≡ tail → whole_lines text ≡ [] → IsCutSo text [] tail
unfolding unfinished_after
all_unfinished text tail is none = let rest : unfinished_after text ≡ text =
    ap (λ (lines : List (List ℕ)). drop (length (joined lines)) text) none in
    record {
      lines_are = none;
      tail_is = ap (λ (z : List ℕ). cond (is_too_long z) Overlong (Unfinished z)) rest ∙ is;
      all = sym rest;
    }

again : (a b c : List ℕ) → a ++ 10 ∷ (b ++ c) ≡ (with_lf a ++ b) ++ c
again a b c = simp append_assoc

cut_so : (text : List ℕ) (lines : List (List ℕ)) (tail : Tail) → IsCutInto text lines tail →
    IsCutSo text lines tail
cut_so text _ tail (one_line {rest = rest} {first = first} {lines = lines} split short more) =
    let so = cut_so rest lines tail more in
    let behind = rest_behind text first rest split short in
    record {
      lines_are = whole_first text first rest split short ∙ ap (λ (z : List (List ℕ)). first ∷ z) so.lines_are;
      tail_is = ap (λ (z : List ℕ). cond (is_too_long z) Overlong (Unfinished z)) behind ∙ so.tail_is;
      all =
          split_line-whole text first rest split
          ∙ ap (λ (z : List ℕ). first ++ 10 ∷ z)
          (so.all ∙ ap (λ (z : List ℕ). joined lines ++ z) (sym behind))
          ∙ again first (joined lines) (unfinished_after text);
    }
cut_so text _ _ (unfinished none short) =
    all_unfinished text (Unfinished text) (cond-false _ _ _ (lt-leb LINE_ROOM (length text) short))
    (no_whole text (λ line rest split few. some_none (sym split ∙ none)))
cut_so text _ _ (overlong none long) =
    all_unfinished text Overlong (cond-true _ _ _ (le-leb LINE_ROOM (length text) long))
    (no_whole text (λ line rest split few. split_line-long LINE_ROOM text line rest split few none))

pub the_cut : (text : List ℕ) → (cut : IsCutInto text (whole_lines text) (tail_after text)) ×
    (text ≡ joined (whole_lines text) ++ unfinished_after text)
the_cut text =
    let cut = IsCutInto-some text in
    let so = cut_so text cut.0 cut.1 cut.2 in
    rw (so.lines_are, so.tail_is) (cut.2, so.all)

-- The first LF ends the first line.
pub found_end : FirstLfEndsTheFirstLine
found_end bytes None h = ap (option_map (λ split. split.0)) (split_line-none bytes (λ j lt e. h j (omega arith) lt e))
found_end bytes (Some end) h = (
  h.0.high,
  ap (option_map (λ split. split.0))
      (split_line-at bytes end h.0.high (λ j lt e. h.0.before j (omega arith) lt e) h.1),
)

-- and the first line, its LF and the rest are all
first_and_rest : (bytes line : List ℕ) → first_line bytes ≡ Some line → bytes ≡ line ++
    10 ∷ rest_after line bytes
first_and_rest bytes line h = by_split (split_line bytes) refl h
  where
    by_split : (o : Option (List ℕ × List ℕ)) → split_line bytes ≡ o →
        option_map (λ split. split.0) o ≡ Some line → bytes ≡ line ++ 10 ∷ rest_after line bytes
    by_split None e h = cc
    by_split (Some split) e h =
        let first : split.0 ≡ line = cc h in
        let whole : bytes ≡ line ++ 10 ∷ split.1 = split_line-whole bytes split.0 split.1 e ∙
        ap (λ (z : List ℕ). z ++ 10 ∷ split.1) first in
        whole ∙ ap (λ (z : List ℕ). line ++ 10 ∷ z)
        (sym (drop-append-add line (10 ∷ split.1) 1) ∙ ap (drop (length line + 1)) (sym whole))

pub first_line_splits : FirstLineAndTheRestAreAll
first_line_splits bytes line h = first_and_rest bytes line h ∙
    sym (append_assoc line (10 ∷ []) (rest_after line bytes))

pub first_line_front : FirstLineIsTheFrontOfItsLength
first_line_front bytes end h = by_first (first_line bytes) refl h
  where
    by_first : (o : Option (List ℕ)) → first_line bytes ≡ o → option_map length o ≡
        Some end → (o ≡ Some (take end bytes)) × (end < length bytes)
    by_first None e h = cc
    by_first (Some line) e h =
        let long : length line ≡ end = cc h in
        let whole = first_and_rest bytes line e in
        let front : take end bytes ≡ line = ap (λ (n : ℕ). take n bytes) (sym long) ∙
        ap (take (length line)) whole ∙ take-append_seam line (10 ∷ rest_after line bytes) in
        (ap Some (sym front), omega (arith, ap length whole, length-append line (10 ∷ rest_after line bytes)))
