-- The lines after those that are done, as the lines of the listing that are left.
use Rattle.std.proofs.Common.{◌≡◌, ℕ, ◌+◌, ◌-◌, ◌<◌, ◌≤◌, Bool, true}
use Rattle.std.proofs.Common.{false, eqb, List, [], ◌∷◌, ◌++◌, length, take, drop, map}
use Rattle.std.proofs.Common.{min, Option, None, refl, sym, ap, ◌∙◌, subst, arith}
use Rattle.std.proofs.Common.{length-drop, length-append}
use Rattle.std.specs.Prelude.{codes}
use Rattle.std.specs.List.{concat, join_with_byte}
use Rattle.std.proofs.lemmas.List.{drop-drop, drop-append-le}
use Rattle.std.proofs.lemmas.Bool.Decides.{nat_tests}
use Rattle.nutwords.specs.Frame.{line_of}
use Rattle.nutlisting.specs.Items.{listing_of}
use Rattle.nutlisting.specs.Counts.{count_more}
use Rattle.nutlisting.specs.Counts.{PlacesAlike}
use Rattle.nutlisting.specs.Items.{text_of, lines_of, edge_line}
use Rattle.nutlisting.specs.Stages.{Reached, lines_past, items_past, lines_done, position, IsPosition, IsWithin, IsNext}
use Rattle.nutlisting.specs.Items.{rest}
use Rattle.nutlisting.specs.declared.listing.Content.{Content}
use Rattle.nutlisting.specs.declared.listing.stage.Stage.{Stage}
use Rattle.nutlisting.specs.declared.listing.stage.Stage.TheVariants.{Start, Names, Items, Done}
use Rattle.nutlisting.specs.declared.outbox.TheConstants.{QUEUE_LIMIT}
use Rattle.nutlisting.proofs.Filling.{advance_whole, advance_piece}
use Rattle.nutlisting.proofs.Writing.{lines_are_text}

behind : (n : ℕ) (xs : List (List ℕ)) (line : List ℕ) (others : List (List ℕ)) → line ∷
    others ≡ drop n xs → others ≡ drop (n + 1) xs
behind n xs line others e = ap (drop 1) e ∙ drop-drop 1 n xs

eqb-pos : (n : ℕ) → 0 < n → eqb n 0 ≡ false
eqb-pos n h = grind (arith, nat_tests)

-- one line on, one more is done
pub next_at : (content : Content) (reached after : Reached) (line : List ℕ) →
    lines_past content reached ≡ drop (lines_done content reached) (lines_of (listing_of content))
    → lines_past content reached ≡ line ∷ lines_past content after →
    lines_past content after ≡ drop (lines_done content after) (lines_of (listing_of content))
next_at content reached after line at first =
    let one : lines_done content reached + 1 ≡ lines_done content after =
    omega (
      arith,
      ap length first,
      ap length at,
      length-drop (lines_done content reached) (lines_of (listing_of content)),
    ) in
    behind (lines_done content reached) (lines_of (listing_of content)) line
    (lines_past content after) (sym first ∙ at) ∙ ap (λ n. drop n (lines_of (listing_of content))) one

some_line : (words : List (List ℕ)) → 0 < length (line_of words)
some_line words = omega (arith, length-append (join_with_byte 32 words) (10 ∷ []))

items_begin : (items : List (List (List ℕ))) (last : List (List ℕ)) →
    IsWithin (map line_of items ++ line_of last ∷ []) 0
items_begin [] last = some_line last
items_begin (item ∷ items) last = some_line item

-- the beginning of the next line is within it
begins : (content : Content) (reached : Reached) → IsWithin (lines_past content reached) 0
begins content (Start, last) = some_line
    (codes "BEGIN" ∷ codes "LIST" ∷ (listing_of content).kind ∷ (listing_of content).names)
begins content (Names, last) = items_begin (items_past content (Names, last))
    (codes "END" ∷ codes "LIST" ∷ (listing_of content).kind ∷ (listing_of content).names)
begins content (Items n, last) = items_begin (items_past content (Items n, last))
    (codes "END" ∷ codes "LIST" ∷ (listing_of content).kind ∷ (listing_of content).names)
begins content (Done, last) = refl

-- the position at the beginning
pub position_start : (content : Content) → IsPosition content (Start, None) 0
position_start content = record { at = grind arith; within = begins content (Start, None) }

-- one line on
pub position_next : (content : Content) (reached after : Reached) (offset : ℕ) (line : List ℕ)
    → IsPosition content reached offset → IsNext content reached line after → IsPosition content after 0
position_next content reached after offset line h n = record {
  at = next_at content reached after line h.at n.first;
  within = begins content after;
}

pub in_line : (content : Content) (reached after : Reached) (offset : ℕ) (line : List ℕ) →
    IsPosition content reached offset → IsNext content reached line after → offset < length line
in_line content reached after offset line h n = subst (λ lines. IsWithin lines offset) n.first h.within

-- some bytes on
pub position_within : (content : Content) (reached after : Reached) (offset offset' : ℕ)
    (line : List ℕ) → IsPosition content reached offset →
    IsNext content reached line after → offset' < length line → IsPosition content reached offset'
position_within content reached after offset offset' line h n l = record {
  at = h.at;
  within = subst (λ lines. IsWithin lines offset') (sym n.first) l;
}

pub rest_at : (content : Content) (reached : Reached) (offset : ℕ) →
    IsPosition content reached offset → rest (position content reached offset) ≡
    drop offset (concat (lines_past content reached))
rest_at content reached offset h = ap (λ (lines : List (List ℕ)). drop offset (concat lines)) (sym h.at)

-- at the beginning the rest is the text
pub rest_start : (content : Content) → rest (position content (Start, None) 0) ≡ text_of (listing_of content)
rest_start content = rest_at content (Start, None) 0 (position_start content) ∙ lines_are_text (listing_of content)

-- the rest, from the next line on
rest_line : (content : Content) (reached after : Reached) (offset : ℕ) (line : List ℕ) →
    IsPosition content reached offset → IsNext content reached line after →
    rest (position content reached offset) ≡ drop offset line ++ concat (lines_past content after)
rest_line content reached after offset line h n =
    let few : offset ≤ length line = omega (arith, in_line content reached after offset line h n) in
    rest_at content reached offset h ∙
    ap (λ (lines : List (List ℕ)). drop offset (concat lines)) n.first ∙
    drop-append-le offset line (concat (lines_past content after)) few

-- the rest of a line is placed whole
pub placed_whole : (content : Content) (reached after : Reached) (offset placed m : ℕ)
    (queue line : List ℕ) → IsPosition content reached offset →
    IsNext content reached line after → length queue < QUEUE_LIMIT → placed ≡
    min (length (drop offset line)) (QUEUE_LIMIT - length queue) → offset + placed ≡ length line
    → PlacesAlike queue (rest (position content reached offset)) m
    (queue ++ take placed (drop offset line)) (rest (position content after 0)) (count_more m 1)
placed_whole content reached after offset placed m queue line h n room p full =
    rw (rest_at content reached offset h, rest_at content after 0 (position_next content reached after offset line h n))
    (advance_whole queue line (lines_past content reached) (lines_past content after) offset placed
    m n.first n.whole_line (in_line content reached after offset line h n) room p full)

-- a piece of it is placed
pub placed_piece : (content : Content) (reached after : Reached) (offset placed m : ℕ)
    (queue line : List ℕ) → IsPosition content reached offset →
    IsNext content reached line after → length queue < QUEUE_LIMIT → placed ≡
    min (length (drop offset line)) (QUEUE_LIMIT - length queue) → (offset + placed ≡ length line → ⊥)
    → PlacesAlike queue (rest (position content reached offset)) m
    (queue ++ take placed (drop offset line)) (rest (position content reached (offset + placed))) (count_more m 1)
placed_piece content reached after offset placed m queue line h n room p part =
    let within : offset < length line = in_line content reached after offset line h n in
    let on : offset + placed < length line = omega (arith, length-drop offset line) in
    rw (
      rest_at content reached offset h,
      rest_at content reached (offset + placed)
          (position_within content reached after offset (offset + placed) line h n on),
    )
    (advance_piece queue line (lines_past content reached) (lines_past content after) offset placed
    m n.first n.whole_line within room p part)

-- the rest falls
pub falls_whole : (content : Content) (reached after : Reached) (offset : ℕ) (line : List ℕ) →
    IsPosition content reached offset → IsNext content reached line after →
    length (rest (position content after 0)) < length (rest (position content reached offset))
falls_whole content reached after offset line h n =
    omega (
      arith,
      ap length (rest_line content reached after offset line h n),
      ap length (rest_at content after 0 (position_next content reached after offset line h n)),
      in_line content reached after offset line h n,
      length-append (drop offset line) (concat (lines_past content after)),
      length-drop offset line,
    )

abbrev pub is_last : Stage → Bool
is_last Done = true
is_last _ = false

items_left : (items : List (List (List ℕ))) (last : List (List ℕ)) (offset : ℕ) →
    IsWithin (map line_of items ++ line_of last ∷ []) offset → 0 <
    length (drop offset (concat (map line_of items ++ line_of last ∷ [])))
items_left [] last offset h = omega (arith, h, length-drop offset (line_of last ++ []), length-append (line_of last) [])
items_left (item ∷ items) last offset h =
    omega (
      arith,
      h,
      length-drop offset
          (line_of item ++ concat (map line_of items ++ line_of last ∷ [])),
      length-append (line_of item) (concat (map line_of items ++ line_of last ∷ [])),
    )

left_at : (content : Content) (reached : Reached) (offset : ℕ) →
    IsWithin (lines_past content reached) offset →
    eqb (length (drop offset (concat (lines_past content reached)))) 0 ≡ is_last reached.0
left_at content (Start, last) offset h =
    eqb-pos _ (omega (
      arith,
      h,
      length-drop offset (concat (lines_past content (Start, last))),
      length-append (edge_line (codes "BEGIN") (listing_of content))
          (concat (map line_of (listing_of content).items ++ edge_line (codes "END") (listing_of content) ∷ [])),
    ))
left_at content (Names, last) offset h =
    eqb-pos _ (items_left (items_past content (Names, last))
    (codes "END" ∷ codes "LIST" ∷ (listing_of content).kind ∷ (listing_of content).names) offset h)
left_at content (Items n, last) offset h =
    eqb-pos _ (items_left (items_past content (Items n, last))
    (codes "END" ∷ codes "LIST" ∷ (listing_of content).kind ∷ (listing_of content).names) offset h)
left_at content (Done, last) offset h = rw h refl

-- nothing rests only after END
pub rests_unless_done : (content : Content) (stage : Stage) (last : Option (List ℕ))
    (offset : ℕ) → IsPosition content (stage, last) offset →
    eqb (length (rest (position content (stage, last) offset))) 0 ≡ is_last stage
rests_unless_done content stage last offset h =
    ap (λ (text : List ℕ). eqb (length text) 0) (rest_at content (stage, last) offset h) ∙
    left_at content (stage, last) offset h.within

pub not_last : (stage : Stage) → (stage ≡ Done → ⊥) → is_last stage ≡ false
not_last Done h = absurd (h refl)
not_last stage h = refl
