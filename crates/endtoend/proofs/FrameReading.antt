-- A frame is read as its items.
use Rattle.std.proofs.Common.{◌≡◌, ℕ, ◌+◌, ◌<◌, ◌≤◌, true, ltb, List, []}
use Rattle.std.proofs.Common.{◌∷◌, ◌++◌, length, Some, refl, sym, ap, ◌∙◌, arith}
use Rattle.std.proofs.Common.{append_assoc, append-nil, length-append}
use Rattle.std.specs.Prelude.{codes, map, option_to_list, All}
use Rattle.std.specs.List.{AllZip}
use Rattle.std.specs.Str.{bytes_eq}
use Rattle.std.proofs.lemmas.Bool.Decides.{nat_tests}
use Rattle.std.proofs.lemmas.List.Elements.{All-head, All-tail}
use Rattle.std.proofs.lemmas.Slice.Eq.{bytes_eq-Decides}
use Rattle.nutwords.specs.Frame.{frame, frame_lines, line_of}
use Rattle.nutwords.specs.Grammar.{Reads}
use Rattle.nutwords.specs.Lines.{IsCutInto, Unfinished, line, unfinished}
use Rattle.nutwords.specs.Listing.{IsWrittenLine, ReadsLineByLine, listing_words}
use Rattle.nutwords.proofs.PublicLaws.{lines_are_read_back}
use Rattle.nutrequest.specs.Lines.{lines}
use Rattle.nutrequest.proofs.PublicLaws.{the_first_line_is_found}
use Rattle.nutrequest.specs.declared.item.Item.{Item}
use Rattle.nutrequest.specs.declared.request.Query.{Query}
use Rattle.nutrequest.specs.declared.request.Query.TheVariants.{Ups, Var, Rw, Cmd, Client}
use Rattle.nutrequest.specs.declared.request.Request.TheVariants.{List as ListOf, GetVar, GetNumAttach}
use Rattle.nutrequest.specs.Request.{kind_of, ups_of, asked_words}
use Rattle.nutrequest.specs.Reply.{Reply, Whole, reply, reply_from, first_of, later_of, after_later}
use Rattle.nutrequest.specs.Reply.{after_first, items_from, one_item, behind, is_count, is_nothing}
use Rattle.nutrequest.specs.Reply.{is_frame}
use Rattle.endtoend.specs.Frames.{item_words, IsItem, AFrameIsReadAsItsItems}
use Rattle.endtoend.proofs.LineReading.{written_line, line_before}
use Rattle.nutrequest.specs.declared.limits.TheConstants.{ITEM_LIMIT}
use Rattle.nutwords.proofs.FaultLemmas.{words_of-reads}
use Rattle.nutdriver.proofs.SoundTrees.{bytes_same}

-- words are after themselves with nothing left
pub behind-same : (front rest : List (List ℕ)) → behind front (front ++ rest) ≡ Some rest
behind-same [] rest = refl
behind-same (word ∷ front) rest = rw (bytes_same word) (behind-same front rest)

-- the words of BEGIN and of END are those of the frame
frame_known : (verb : List ℕ) (query : Query) →
    is_frame verb query (verb ∷ codes "LIST" ∷ asked_words query) ≡ true
frame_known verb query =
    let all : List (List ℕ) = verb ∷ codes "LIST" ∷ asked_words query in
    ap is_nothing (ap (behind all) (sym (append-nil all)) ∙ behind-same all [])

abbrev begin_words : Query → List (List ℕ)
begin_words query = codes "BEGIN" ∷ codes "LIST" ∷ asked_words query

abbrev end_words : Query → List (List ℕ)
end_words query = codes "END" ∷ codes "LIST" ∷ asked_words query

-- what follows BEGIN are items
begin_read : (query : Query) (rest : List ℕ) →
    after_first (ListOf query) (first_of (ListOf query) (begin_words query)) rest ≡ items_from query [] (lines rest)
begin_read query rest = rw (frame_known (codes "BEGIN") query) refl

-- END ends them
end_read : (query : Query) (items : List Item) (rest : List ℕ) (go : List Item → Reply) →
    after_later (later_of query (end_words query)) items rest go ≡ Whole items rest
end_read query items rest go = rw (frame_known (codes "END") query) refl

-- an item joins those before it
item_read : (query : Query) (item : Item) (items : List Item) (rest : List ℕ)
    (go : List Item → Reply) → IsItem query item → length items < ITEM_LIMIT →
    after_later (later_of query (item_words query item)) items rest go ≡ go (items ++ item ∷ [])
item_read Ups item items rest go i few = let e : ltb (length items) ITEM_LIMIT ≡ true =
    grind (arith, nat_tests) in rw (i.name, e) refl
item_read (Var ups) item items rest go i few = let e : ltb (length items) ITEM_LIMIT ≡ true =
    grind (arith, nat_tests) in rw (bytes_same ups, i.name, e) refl
item_read (Rw ups) item items rest go i few = let e : ltb (length items) ITEM_LIMIT ≡ true =
    grind (arith, nat_tests) in rw (bytes_same ups, i.name, e) refl
item_read (Cmd ups) item items rest go i few = let e : ltb (length items) ITEM_LIMIT ≡ true =
    grind (arith, nat_tests) in rw (bytes_same ups, i.name, e)
    (ap (λ value. go (items ++ record { name = item.name; value = value } ∷ [])) (sym (i.value refl)))
item_read (Client ups) item items rest go i few = let e : ltb (length items) ITEM_LIMIT ≡ true =
    grind (arith, nat_tests) in rw (bytes_same ups, i.name, e)
    (ap (λ value. go (items ++ record { name = item.name; value = value } ∷ [])) (sym (i.value refl)))

-- a line that is read as these words
abbrev next_items : Query → List Item → List ℕ → List (List ℕ) → Reply
next_items query items rest words =
    after_later (later_of query words) items rest (λ all. items_from query all (lines rest))

-- the later lines are the items and END
items_read : (query : Query) (text : List ℕ) (ls : List (List ℕ)) (items before : List Item) (more : List ℕ)
    → IsCutInto text ls (Unfinished []) →
    AllZip Reads ls (map (item_words query) items ++ end_words query ∷ []) →
    All (IsItem query) items → length before + length items ≤ ITEM_LIMIT
    → items_from query before (lines (text ++ more)) ≡ Whole (before ++ items) more
items_read query text (first ∷ []) [] before more (line {rest = rest} cut few (unfinished e f)) (r, t) known fits =
    ap (items_from query before) (the_first_line_is_found text first [] more cut few)
    ∙ ap (next_items query before more) (words_of-reads first (end_words query) r)
    ∙ end_read query before more (λ all. items_from query all (lines more))
    ∙ ap (λ all. Whole all more) (sym (append-nil before))
items_read query text (first ∷ ls) (item ∷ items) before more (line {rest = rest} cut few cuts)
    (r, reads) known fits =
    ap (items_from query before) (the_first_line_is_found text first rest more cut few)
    ∙ ap (next_items query before (rest ++ more)) (words_of-reads first (item_words query item) r)
    ∙ item_read query item before (rest ++ more)
    (λ all. items_from query all (lines (rest ++ more))) (All-head (IsItem query) item items known) (omega arith)
    ∙ items_read query rest ls items (before ++ item ∷ []) more cuts reads
    (All-tail (IsItem query) item items known) (omega (arith, length-append before (item ∷ [])))
    ∙ ap (λ all. Whole all more) (append_assoc before (item ∷ []) items)
items_read query text [] [] before more cuts reads known fits = absurd reads
items_read query text [] (item ∷ items) before more cuts reads known fits = absurd reads
items_read query text (first ∷ second ∷ ls) [] before more cuts (r, reads) known fits = absurd reads

pub frame_read : AFrameIsReadAsItsItems
frame_read = λ query written items more h known few. whole query written items more
    (lines_are_read_back (kind_of query) (option_to_list (ups_of query)) (asked_words query) written
    (map (item_words query) items) h) known few
  where
    whole : (query : Query) (written : List (List (List ℕ))) (items : List Item) (more : List ℕ)
        → ReadsLineByLine (frame_lines (kind_of query) (option_to_list (ups_of query)) written)
        (listing_words (asked_words query) (map (item_words query) items)) →
        All (IsItem query) items → length items ≤ ITEM_LIMIT
        → reply (ListOf query) (frame (kind_of query) (option_to_list (ups_of query)) written ++
        more) ≡ Whole items more
    whole query written items more ([], e, cut, reads) known fits = absurd reads
    whole query written items more (first ∷ ls, e, line {rest = rest} cut few cuts, (r, reads)) known fits =
        ap (reply_from (ListOf query))
        (the_first_line_is_found (frame (kind_of query) (option_to_list (ups_of query)) written)
        first rest more cut few)
        ∙ ap (λ words. after_first (ListOf query) (first_of (ListOf query) words) (rest ++ more))
        (words_of-reads first (begin_words query) r)
        ∙ begin_read query (rest ++ more)
        ∙ items_read query rest ls items [] more cuts reads known (omega arith)

-- the one line of a GET NUMATTACH
pub number_read : (ups number : List ℕ) (more : List ℕ) → is_count number ≡ true →
    IsWrittenLine (codes "NUMATTACH" ∷ ups ∷ number ∷ []) (codes "NUMATTACH" ∷ ups ∷ number ∷ [])
    → reply (GetNumAttach ups) (line_of (codes "NUMATTACH" ∷ ups ∷ number ∷ []) ++ more) ≡
    Whole (one_item number) more
number_read ups number more count h =
    let words : List (List ℕ) = codes "NUMATTACH" ∷ ups ∷ number ∷ [] in
    let r = written_line words words h in
    ap (reply_from (GetNumAttach ups)) (line_before words words more r)
    ∙ ap (λ ws. after_first (GetNumAttach ups) (first_of (GetNumAttach ups) ws) more)
    (words_of-reads r.line words r.reads)
    ∙ (rw (behind-same (codes "NUMATTACH" ∷ ups ∷ []) (number ∷ [])) (rw count refl))

-- the one line of a GET VAR
pub value_read : (ups name value : List ℕ) (texts : List (List ℕ)) (more : List ℕ) →
    IsWrittenLine texts (codes "VAR" ∷ ups ∷ name ∷ value ∷ []) →
    reply (GetVar ups name) (line_of texts ++ more) ≡ Whole (one_item value) more
value_read ups name value texts more h =
    let words : List (List ℕ) = codes "VAR" ∷ ups ∷ name ∷ value ∷ [] in
    let r = written_line texts words h in
    ap (reply_from (GetVar ups name)) (line_before texts words more r)
    ∙ ap (λ ws. after_first (GetVar ups name) (first_of (GetVar ups name) ws) more)
    (words_of-reads r.line words r.reads)
    ∙ (rw (behind-same (codes "VAR" ∷ ups ∷ name ∷ []) (value ∷ [])) refl)
