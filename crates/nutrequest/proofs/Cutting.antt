-- The lines of some bytes, from how nutwords cuts them.
use Rattle.std.proofs.Common.{◌≡◌, ℕ, ◌<◌, ◌≤◌, List, [], ◌∷◌, ◌++◌}
use Rattle.std.proofs.Common.{length, take, Some, None, sym, ap, ◌∙◌, arith, append_assoc}
use Rattle.std.proofs.Common.{length-append}
use Rattle.std.proofs.lemmas.List.{take-append-le}
use Rattle.nutwords.specs.SplitLine.{split_line}
use Rattle.nutwords.specs.Lines.{IsCutInto, Tail, Unfinished, Overlong, line as a_line, unfinished, overlong}
use Rattle.nutwords.specs.WholeLines.{whole_lines, unfinished_after, tail_after}
use Rattle.nutwords.specs.declared.limits.TheConstants.{LINE_ROOM}
use Rattle.nutwords.proofs.PublicLaws.{first_line_is_cut_off, one_cutting, whole_lines_are_the_cut}
use Rattle.nutwords.proofs.PublicLaws.{whole_lines_and_the_rest_are_all}
use Rattle.nutwords.proofs.PublicLaws.{rest_is_that_behind_the_first}
use Rattle.nutrequest.specs.Lines.{lines, found, Line, TooLong}

-- a cut of the bytes is the one of which the lines are made
found_so : (bytes : List ℕ) (ls : List (List ℕ)) (tail : Tail) → IsCutInto bytes ls tail →
    lines bytes ≡ found ls tail (unfinished_after bytes)
found_so bytes ls tail cut =
    let same = one_cutting bytes ls (whole_lines bytes) tail (tail_after bytes) cut (whole_lines_are_the_cut bytes) in
    ap (λ (all : List (List ℕ)). found all (tail_after bytes) (unfinished_after bytes)) same.0
    ∙ ap (λ (end : Tail). found ls end (unfinished_after bytes)) same.1

-- the first line is whole and short enough
pub first_found : (bytes line rest : List ℕ) → split_line bytes ≡ Some (line, rest) →
    length line < LINE_ROOM → lines bytes ≡ Line line rest ∷ lines rest
first_found bytes line rest split short =
    found_so bytes (line ∷ whole_lines rest) (tail_after rest) (a_line split short (whole_lines_are_the_cut rest))
    ∙ ap (found (line ∷ whole_lines rest) (tail_after rest))
    (rest_is_that_behind_the_first bytes line rest split short)
    ∙ ap (λ (left : List ℕ). Line line left ∷ lines rest) (sym (whole_lines_and_the_rest_are_all rest))

-- and so it is with more bytes
pub first_of_more : (bytes line rest more : List ℕ) → split_line bytes ≡ Some (line, rest) →
    length line < LINE_ROOM → lines (bytes ++ more) ≡ Line line (rest ++ more) ∷ lines (rest ++ more)
first_of_more bytes line rest more split short =
    let cut = (first_line_is_cut_off bytes line rest).0 split in
    let whole = ap (λ (front : List ℕ). front ++ more) cut.0 ∙ append_assoc line (10 ∷ rest) more in
    first_found (bytes ++ more) line (rest ++ more)
    ((first_line_is_cut_off (bytes ++ more) line (rest ++ more)).1 (whole, cut.1)) short

kept_more : (old came kept more : List ℕ) → kept ≡ old ++ came → old ++ (came ++ more) ≡ kept ++ more
kept_more old came kept more same = sym (append_assoc old came more) ∙
    ap (λ (front : List ℕ). front ++ more) (sym same)

pub first_line : (old came kept line new : List ℕ) → kept ≡ old ++ came →
    split_line kept ≡ Some (line, new) → length line < LINE_ROOM → (more : List ℕ) →
    lines (old ++ (came ++ more)) ≡ Line line (new ++ more) ∷ lines (new ++ more)
first_line old came kept line new same split short more =
    ap lines (kept_more old came kept more same) ∙ first_of_more kept line new more split short

-- 2,048 bytes stand without LF
pub first_too_long : (old came kept : List ℕ) → kept ≡ old ++ came →
    split_line (take LINE_ROOM kept) ≡ None → LINE_ROOM ≤ length kept →
    (more : List ℕ) → lines (old ++ (came ++ more)) ≡ TooLong ∷ []
first_too_long old came kept same none long more =
    let still : split_line (take LINE_ROOM (kept ++ more)) ≡ None =
    ap split_line (take-append-le LINE_ROOM kept more long) ∙ none in
    ap lines (kept_more old came kept more same) ∙
    found_so (kept ++ more) [] Overlong (overlong still (omega (arith, length-append kept more)))

-- no line is whole
pub first_open : (old kept : List ℕ) → kept ≡ old → split_line kept ≡ None →
    length kept < LINE_ROOM → lines old ≡ []
first_open old kept same none short = ap lines (sym same) ∙ found_so kept [] (Unfinished kept) (unfinished none short)
