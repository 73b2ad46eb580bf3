-- A listing's text is read back.
use Rattle.std.proofs.Common.{◌≡◌, ℕ, List, [], ◌∷◌, ◌++◌, refl, sym, subst, ap}
use Rattle.std.proofs.Common.{◌∙◌, arith, append_assoc, append-nil, length-append}
use Rattle.std.specs.Prelude.{codes, map}
use Rattle.std.proofs.lemmas.List.{map-append}
use Rattle.std.specs.List.{AllZip, concat, flat_map, join_with_byte}
use Rattle.nutwords.specs.Grammar.{Spells, bare, quoted, Reads}
use Rattle.nutwords.specs.Spelling.{with_backslashes}
use Rattle.nutwords.specs.Frame.{line_of, begin_line, end_line, frame_lines, frame}
use Rattle.nutwords.specs.Lines.{Unfinished, line, unfinished}
use Rattle.nutwords.specs.Listing.{IsWritten, as_it_is, in_quotes, IsWrittenLine, ReadsAsLines}
use Rattle.nutwords.specs.Listing.{ReadsLineByLine, IsWrittenListing, listing_words}
use Rattle.nutwords.proofs.FaultLemmas.{words_of-reads}
use Rattle.nutwords.proofs.Quoting.{Units-with_backslashes}
use Rattle.nutwords.proofs.Listing.{Units-plain, SpellAll, nothing, one_more, Reads-joined}
use Rattle.nutwords.proofs.Listing.{split_line-line, split_line-lawful}
use Rattle.nutwords.proofs.Lawful.{Reads-lawful}
use Rattle.nutwords.proofs.Pieces.{IsCutInto-one}

-- A line has one reading.
pub Reads-one : (text : List ℕ) (words others : List (List ℕ)) → Reads text words →
    Reads text others → others ≡ words
Reads-one text words others r s = sym (words_of-reads text others s) ∙ words_of-reads text words r

-- what is written spells the word
IsWritten-spells : (text word : List ℕ) → IsWritten text word → Spells text word
IsWritten-spells text _ (as_it_is n h) = bare (Units-plain text h, n)
IsWritten-spells _ word (in_quotes h) = quoted (with_backslashes word, Units-with_backslashes word h, refl)

written_spell : (texts words : List (List ℕ)) → AllZip IsWritten texts words → SpellAll texts words
written_spell [] [] h = nothing
written_spell (t ∷ texts) (w ∷ words) h = one_more (IsWritten-spells t w h.0) (written_spell texts words h.1)
written_spell [] (w ∷ words) h = absurd h
written_spell (t ∷ texts) [] h = absurd h

-- a written line reads as its words
IsWrittenLine-reads : (texts words : List (List ℕ)) → IsWrittenLine texts words →
    Reads (join_with_byte 32 texts) words
IsWrittenLine-reads texts words i = Reads-joined texts words (written_spell texts words i.written)

-- The lines of written words are read line by line.
IsWrittenLine-lines : (items rows : List (List (List ℕ))) → AllZip IsWrittenLine items rows →
    ReadsLineByLine (map line_of items) rows
IsWrittenLine-lines [] [] h = ([], refl, unfinished refl (omega arith), tt)
IsWrittenLine-lines (t ∷ items) (w ∷ rows) h =
    let reads = IsWrittenLine-reads t w h.0 in
    let none = split_line-lawful (join_with_byte 32 t) (Reads-lawful (join_with_byte 32 t) w reads) in
    let l = length-append (join_with_byte 32 t) (10 ∷ []) in
    let f = h.0.fits in
    let r = IsWrittenLine-lines items rows h.1 in (
      join_with_byte 32 t ∷ r.0,
      ap (λ ls. line_of t ∷ ls) r.1,
      line (split_line-line t (concat (map line_of items)) none) (omega (arith, l, f)) r.2,
      (reads, r.3),
    )
IsWrittenLine-lines [] (w ∷ rows) h = absurd h
IsWrittenLine-lines (t ∷ items) [] h = absurd h

-- one more written line after others
AllZip-one_more : (items rows : List (List (List ℕ))) (texts words : List (List ℕ)) →
    AllZip IsWrittenLine items rows → IsWrittenLine texts words →
    AllZip IsWrittenLine (items ++ texts ∷ []) (rows ++ words ∷ [])
AllZip-one_more [] [] texts words h i = (i, tt)
AllZip-one_more (t ∷ items) (w ∷ rows) texts words h i = (h.0, AllZip-one_more items rows texts words h.1 i)
AllZip-one_more [] (w ∷ rows) texts words h i = absurd h
AllZip-one_more (t ∷ items) [] texts words h i = absurd h

-- The lines of a listing read as its words.
pub lines_are_read_back : (kind : List ℕ) (names asked : List (List ℕ))
    (items rows : List (List (List ℕ))) → IsWrittenListing kind names items asked rows →
    ReadsLineByLine (frame_lines kind names items) (listing_words asked rows)
lines_are_read_back kind names asked items rows h =
    subst (λ ls. ReadsLineByLine (begin_line kind names ∷ ls) (listing_words asked rows))
    (map-append line_of items (end_words ∷ []))
    (IsWrittenLine-lines (begin_words ∷ (items ++ end_words ∷ [])) (listing_words asked rows)
    (begin, AllZip-one_more items rows end_words (codes "END" ∷ codes "LIST" ∷ asked) h.2 end))
  where
    begin_words : List (List ℕ)
    begin_words = codes "BEGIN" ∷ codes "LIST" ∷ kind ∷ names

    end_words : List (List ℕ)
    end_words = codes "END" ∷ codes "LIST" ∷ kind ∷ names

    begin : IsWrittenLine begin_words (codes "BEGIN" ∷ codes "LIST" ∷ asked)
    begin = record { written = (as_it_is (omega arith) refl, (as_it_is (omega arith) refl, h.0)); fits = h.1 }

    end : IsWrittenLine end_words (codes "END" ∷ codes "LIST" ∷ asked)
    end = record {
      written = (as_it_is (omega arith) refl, (as_it_is (omega arith) refl, h.0));
      fits
          = omega (arith, h.1);
    }

-- and so does its text
pub listing_is_read_back : (kind : List ℕ) (names asked : List (List ℕ))
    (items rows : List (List (List ℕ))) → IsWrittenListing kind names items asked rows →
    ReadsAsLines (frame kind names items) (listing_words asked rows)
listing_is_read_back kind names asked items rows h = let r =
    lines_are_read_back kind names asked items rows h in (r.0, r.2, r.3)

-- A listing is its first line, the items' lines and its last line.
pub frame_in_parts : (kind : List ℕ) (names : List (List ℕ)) (items : List (List (List ℕ)))
    → frame kind names items ≡ begin_line kind names ++ (flat_map line_of items ++ end_line kind names)
frame_in_parts kind names items = ap (λ t. begin_line kind names ++ t) (parts items)
  where
    parts : (xs : List (List (List ℕ))) →
        concat (map line_of xs ++ end_line kind names ∷ []) ≡ flat_map line_of xs ++ end_line kind names
    parts [] = append-nil (end_line kind names)
    parts (x ∷ xs) = ap (λ t. line_of x ++ t) (parts xs) ∙
        sym (append_assoc (line_of x) (flat_map line_of xs) (end_line kind names))

-- A text of whole lines has one reading.
pub ReadsAsLines-one : (text : List ℕ) (rows others : List (List (List ℕ))) →
    ReadsAsLines text rows → ReadsAsLines text others → others ≡ rows
ReadsAsLines-one text rows others r o =
    let c = IsCutInto-one text r.0 o.0 (Unfinished []) (Unfinished []) r.1 o.1 in
    same r.0 rows others r.2 (subst (λ ls. AllZip Reads ls others) c.0 o.2)
  where
    same : (ls : List (List ℕ)) (rs os : List (List (List ℕ))) → AllZip Reads ls rs →
        AllZip Reads ls os → os ≡ rs
    same [] [] [] h k = refl
    same (l ∷ ls) (r ∷ rs) (o ∷ os) h k = ap (λ x. x ∷ os) (Reads-one l r o h.0 k.0) ∙
        ap (λ xs. r ∷ xs) (same ls rs os h.1 k.1)
    same [] (r ∷ rs) os h k = absurd h
    same [] [] (o ∷ os) h k = absurd k
    same (l ∷ ls) [] os h k = absurd h
    same (l ∷ ls) (r ∷ rs) [] h k = absurd k
