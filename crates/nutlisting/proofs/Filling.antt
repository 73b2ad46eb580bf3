-- One line, or the piece of it that fits, is placed.
use Rattle.std.proofs.Common.{◌≡◌, ℕ, ◌+◌, ◌-◌, ◌<◌, ◌≤◌, false, List, []}
use Rattle.std.proofs.Common.{◌∷◌, ◌++◌, length, take, drop, sym, ap, ◌∙◌, arith}
use Rattle.std.proofs.Common.{append_assoc, length-append, length-take, length-drop, min}
use Rattle.std.specs.List.{concat}
use Rattle.std.proofs.lemmas.List.{take-append-le, drop-append-le, append-nil, take_all, drop-drop}
use Rattle.std.proofs.Math.Seq.{take-append-add, drop-append-add}
use Rattle.nutlisting.specs.Counts.{is_open, lines, count_more}
use Rattle.nutlisting.specs.Counts.{what_fits, what_stays, PlacesAlike}
use Rattle.nutlisting.specs.Lines.{IsWholeLine}
use Rattle.nutlisting.specs.declared.outbox.TheConstants.{QUEUE_LIMIT}
use Rattle.nutlisting.proofs.LineFacts.{IsLine, is_line}
use Rattle.nutlisting.proofs.Counting.{lines-append, lines-line, lines-piece, whole-line}
use Rattle.nutlisting.proofs.Counting.{count_more-add, no_lf-take, no_lf-drop}

pub joins_alike : (r s r' s' r'' s'' : List ℕ) (m m' m'' : ℕ) → PlacesAlike r s m r' s' m' →
    PlacesAlike r' s' m' r'' s'' m'' → PlacesAlike r s m r'' s'' m''
joins_alike r s r' s' r'' s'' m m' m'' a b =
    record { placed = b.placed ∙ a.placed; stays = b.stays ∙ a.stays; counted = b.counted ∙ a.counted }

pub line_lines : (p : List ℕ) → IsLine p → lines p ≡ 1
line_lines p h = ap lines h.ends ∙ lines-line h.body h.whole

pub line_whole : (p : List ℕ) → IsLine p → is_open p ≡ false
line_whole p h = ap is_open h.ends ∙ whole-line false h.body

-- what is left of a line is a line
pub line_drop : (n : ℕ) (p : List ℕ) → n < length p → IsLine p → IsLine (drop n p)
line_drop n p l h =
    let few : n ≤ length h.body = omega (arith, ap length h.ends, length-append h.body (10 ∷ [])) in
    record {
      body = drop n h.body;
      ends = ap (drop n) h.ends ∙ drop-append-le n h.body (10 ∷ []) few;
      whole = no_lf-drop n h.body h.whole;
    }

-- a whole line fits
pub places_line : (r p s : List ℕ) (m : ℕ) → IsLine p → length r + length p ≤
    QUEUE_LIMIT → PlacesAlike r (p ++ s) m (r ++ p) s (count_more m 1)
places_line r p s m h l = record {
  placed = append_assoc r p (what_fits (r ++ p) s) ∙ ap (λ xs. r ++ xs) (sym fits);
  stays = sym stays;
  counted = count_more-add m 1 (lines (what_fits (r ++ p) s)) ∙ ap (count_more m) (sym count);
}
  where
    room : QUEUE_LIMIT - length r ≡ length p + (QUEUE_LIMIT - length (r ++ p))
    room = omega (arith, length-append r p)

    fits : what_fits r (p ++ s) ≡ p ++ what_fits (r ++ p) s
    fits = ap (λ n. take n (p ++ s)) room ∙ take-append-add p s (QUEUE_LIMIT - length (r ++ p))

    stays : what_stays r (p ++ s) ≡ what_stays (r ++ p) s
    stays = ap (λ n. drop n (p ++ s)) room ∙ drop-append-add p s (QUEUE_LIMIT - length (r ++ p))

    count : lines (what_fits r (p ++ s)) ≡ 1 + lines (what_fits (r ++ p) s)
    count = ap lines fits ∙ lines-append p (what_fits (r ++ p) s) (line_whole p h) ∙
        ap (λ n. n + lines (what_fits (r ++ p) s)) (line_lines p h)

-- a piece of a line fits
pub places_piece : (r p s : List ℕ) (m : ℕ) → IsLine p → length r < QUEUE_LIMIT →
    QUEUE_LIMIT - length r < length p →
    PlacesAlike r (p ++ s) m (r ++ take (QUEUE_LIMIT - length r) p)
    (drop (QUEUE_LIMIT - length r) p ++ s) (count_more m 1)
places_piece r p s m h l k = record {
  placed = append_nothing ∙ ap (λ xs. r ++ xs) (sym fits);
  stays = nothing_drops ∙ sym stays;
  counted = ap (λ xs. count_more (count_more m 1) (lines xs)) nothing_fits ∙
      count_more-add m 1 0 ∙ ap (count_more m) (sym count);
}
  where
    full : QUEUE_LIMIT - length (r ++ take (QUEUE_LIMIT - length r) p) ≡ 0
    full = omega (arith, length-append r (take (QUEUE_LIMIT - length r) p), length-take (QUEUE_LIMIT - length r) p)

    nothing_fits : what_fits (r ++ take (QUEUE_LIMIT - length r) p) (drop (QUEUE_LIMIT - length r) p ++ s) ≡ []
    nothing_fits = ap (λ n. take n (drop (QUEUE_LIMIT - length r) p ++ s)) full

    nothing_drops : what_stays (r ++ take (QUEUE_LIMIT - length r) p)
        (drop (QUEUE_LIMIT - length r) p ++ s) ≡ drop (QUEUE_LIMIT - length r) p ++ s
    nothing_drops = ap (λ n. drop n (drop (QUEUE_LIMIT - length r) p ++ s)) full

    few : QUEUE_LIMIT - length r ≤ length p
    few = omega arith

    fits : what_fits r (p ++ s) ≡ take (QUEUE_LIMIT - length r) p
    fits = take-append-le (QUEUE_LIMIT - length r) p s few

    stays : what_stays r (p ++ s) ≡ drop (QUEUE_LIMIT - length r) p ++ s
    stays = drop-append-le (QUEUE_LIMIT - length r) p s few

    append_nothing : (r ++ take (QUEUE_LIMIT - length r) p) ++
        what_fits (r ++ take (QUEUE_LIMIT - length r) p) (drop (QUEUE_LIMIT - length r) p ++ s) ≡
        r ++ take (QUEUE_LIMIT - length r) p
    append_nothing = ap (λ xs. (r ++ take (QUEUE_LIMIT - length r) p) ++ xs) nothing_fits ∙
        append-nil (r ++ take (QUEUE_LIMIT - length r) p)

    body_few : QUEUE_LIMIT - length r ≤ length h.body
    body_few = omega (arith, ap length h.ends, length-append h.body (10 ∷ []))

    piece : take (QUEUE_LIMIT - length r) p ≡ take (QUEUE_LIMIT - length r) h.body
    piece = ap (take (QUEUE_LIMIT - length r)) h.ends ∙
        take-append-le (QUEUE_LIMIT - length r) h.body (10 ∷ []) body_few

    count : lines (what_fits r (p ++ s)) ≡ 1
    count =
        let some : 0 < length (take (QUEUE_LIMIT - length r) h.body) =
        omega (arith, body_few, length-take (QUEUE_LIMIT - length r) h.body) in
        ap lines (fits ∙ piece) ∙ lines-piece (take (QUEUE_LIMIT - length r) h.body) some
        (no_lf-take (QUEUE_LIMIT - length r) h.body h.whole)

-- The rest of a cursor in a line: what is left of the line, and the lines after it.
rest_in : (after : List (List ℕ)) (line : List ℕ) (offset : ℕ) (behind : List (List ℕ)) →
    after ≡ line ∷ behind → offset < length line → drop offset (concat after) ≡
    drop offset line ++ concat behind
rest_in after line offset behind e l =
    let few : offset ≤ length line = omega arith in
    ap (λ xs. drop offset (concat xs)) e ∙ drop-append-le offset line (concat behind) few

pub advance_whole : (r line : List ℕ) (after behind : List (List ℕ)) (offset placed m : ℕ) →
    after ≡ line ∷ behind → IsWholeLine line → offset < length line → length r <
    QUEUE_LIMIT → placed ≡ min (length (drop offset line)) (QUEUE_LIMIT - length r) → offset +
    placed ≡ length line → PlacesAlike r (drop offset (concat after)) m
    (r ++ take placed (drop offset line)) (concat behind) (count_more m 1)
advance_whole r line after behind offset placed m e w l room p full =
    let h = is_line line w in
    let all : take placed (drop offset line) ≡ drop offset line =
    take_all placed (drop offset line) (omega (arith, length-drop offset line)) in
    let fits : length r + length (drop offset line) ≤ QUEUE_LIMIT = omega (arith, length-drop offset line) in
    rw (rest_in after line offset behind e l, all)
    (places_line r (drop offset line) (concat behind) m (line_drop offset line l h) fits)

pub advance_piece : (r line : List ℕ) (after behind : List (List ℕ)) (offset placed m : ℕ) →
    after ≡ line ∷ behind → IsWholeLine line → offset < length line → length r <
    QUEUE_LIMIT → placed ≡ min (length (drop offset line)) (QUEUE_LIMIT - length r) →
    (offset + placed ≡ length line → ⊥) →
    PlacesAlike r (drop offset (concat after)) m (r ++ take placed (drop offset line))
    (drop (offset + placed) (concat after)) (count_more m 1)
advance_piece r line after behind offset placed m e w l room p part =
    let h = is_line line w in
    let short : QUEUE_LIMIT - length r < length (drop offset line) = omega (arith, length-drop offset line) in
    let size : placed ≡ QUEUE_LIMIT - length r = omega (arith, length-drop offset line) in
    let few : placed ≤ length (drop offset line) = omega arith in
    let left : drop (offset + placed) (concat after) ≡ drop placed (drop offset line) ++ concat behind =
    sym (drop-drop placed offset (concat after)) ∙
    ap (drop placed) (rest_in after line offset behind e l) ∙
    drop-append-le placed (drop offset line) (concat behind) few in
    rw (rest_in after line offset behind e l, left, size)
    (places_piece r (drop offset line) (concat behind) m (line_drop offset line l h) room short)
