-- The lines of a listing end in LF.
use Rattle.std.proofs.Common.{◌≡◌, ℕ, Bool, false, List, [], ◌∷◌, ◌++◌, drop, map}
use Rattle.std.proofs.Common.{refl, ap, ◌∙◌, zero, suc}
use Rattle.std.specs.Prelude.{not, codes}
use Rattle.std.specs.List.{concat, join_with_byte, AllByRecursion}
use Rattle.nutwords.specs.Frame.{line_of}
use Rattle.nutlisting.specs.Counts.{is_lf, leaves_open, is_open}
use Rattle.nutlisting.specs.Items.{ListingState, lines_of}
use Rattle.nutlisting.specs.Laws.{BegunLinesAreEnded}
use Rattle.nutlisting.proofs.Counting.{leaves_open-append, whole-line}

-- no line is unfinished after the text
abbrev Ends : List ℕ → Type 0
Ends text = (unfinished : Bool) → leaves_open unfinished text ≡ false

line_ends : (words : List (List ℕ)) → Ends (line_of words)
line_ends words unfinished = whole-line unfinished (join_with_byte 32 words)

items_end : (items : List (List (List ℕ))) (last : List (List ℕ)) →
    AllByRecursion Ends (map line_of items ++ line_of last ∷ [])
items_end [] last = (line_ends last, tt)
items_end (item ∷ items) last = (line_ends item, items_end items last)

lines_end : (l : ListingState) → AllByRecursion Ends (lines_of l)
lines_end l = (
  line_ends (codes "BEGIN" ∷ codes "LIST" ∷ l.kind ∷ l.names),
  items_end l.items (codes "END" ∷ codes "LIST" ∷ l.kind ∷ l.names),
)

all_left : (n : ℕ) (lines : List (List ℕ)) → AllByRecursion Ends lines → AllByRecursion Ends (drop n lines)
all_left zero lines h = h
all_left (suc n) [] h = tt
all_left (suc n) (line ∷ lines) h = all_left n lines h.1

joined_end : (lines : List (List ℕ)) → AllByRecursion Ends lines → is_open (concat lines) ≡ false
joined_end [] h = refl
joined_end (line ∷ lines) h = leaves_open-append false line (concat lines) ∙
    ap (λ unfinished. leaves_open unfinished (concat lines)) (h.0 false) ∙ joined_end lines h.1

-- an end of a text that ends in LF ends in LF
drop_ends : (n : ℕ) (unfinished : Bool) (text : List ℕ) → leaves_open unfinished text ≡
    false → is_open (drop n text) ≡ false
drop_ends zero unfinished [] h = refl
drop_ends zero unfinished (b ∷ text) h = h
drop_ends (suc n) unfinished [] h = refl
drop_ends (suc n) unfinished (b ∷ text) h = drop_ends n (not (is_lf b)) text h

pub begun_lines_are_ended : BegunLinesAreEnded
begun_lines_are_ended p = drop_ends p.offset false (concat (drop p.done (lines_of p.listing)))
    (joined_end (drop p.done (lines_of p.listing)) (all_left p.done (lines_of p.listing) (lines_end p.listing)))
