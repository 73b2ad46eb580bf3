-- The lines that a client reads, one after another.
use Rattle.std.proofs.Common.{◌≡◌, ℕ, ◌<◌, List, [], ◌∷◌, ◌++◌, length}
use Rattle.std.proofs.Common.{get_or, false, refl, ap, arith}
use Rattle.std.specs.Prelude.{codes}
use Rattle.std.specs.Result.{result_unwrap_or}
use Rattle.nutwords.specs.Cut.{has_lf}
use Rattle.nutwords.specs.Frame.{line_of, frame_lines}
use Rattle.nutwords.specs.Grammar.{Reads}
use Rattle.nutwords.specs.Lines.{line as a_line}
use Rattle.nutwords.specs.Listing.{as_it_is, IsWrittenLine, ReadsLineByLine, listing_words}
use Rattle.nutwords.specs.Scan.{words_of}
use Rattle.nutwords.proofs.PublicLaws.{first_line_is_cut_off, lines_are_read_back, read_line_is_the_grammar}
use Rattle.nutrequest.specs.Lines.{lines, Line}
use Rattle.nutwords.specs.declared.limits.TheConstants.{LINE_ROOM}
use Rattle.nutrequest.proofs.PublicLaws.{the_first_line_is_found}
use Rattle.nutwords.proofs.FaultLemmas.{words_of-reads}

-- A line that is written so: it has no LF but its last byte, it is short enough, and it reads as
-- its words.
pub record IsReadLine (texts words : List (List ℕ)) : Type 0 where
  pub line : List ℕ
  pub whole : line_of texts ≡ line ++ 10 ∷ []
  pub no_lf : has_lf line ≡ false
  pub short : length line < LINE_ROOM
  pub reads : Reads line words

pub written_line : (texts words : List (List ℕ)) → IsWrittenLine texts words → IsReadLine texts words
written_line texts words h = by (lines_are_read_back (codes "VAR") [] (codes "VAR" ∷ [])
    (texts ∷ []) (words ∷ []) ((as_it_is (omega arith) refl, tt), omega arith, (h, tt)))
  where
    by : ReadsLineByLine (frame_lines (codes "VAR") [] (texts ∷ []))
        (listing_words (codes "VAR" ∷ []) (words ∷ [])) → IsReadLine texts words
    by ([], same, cut, reads) = absurd reads
    by (first ∷ [], same, cut, (r, reads)) = absurd reads
    by (
      first ∷ second ∷ ls,
      same,
      a_line {rest = after} e few (a_line {rest = rest} k short cuts),
      (r, (q, reads)),
    ) = record {
      line = second;
      whole = ap (λ xs. get_or xs 1 []) same;
      no_lf = ((first_line_is_cut_off after second rest).0 k).1;
      short = short;
      reads = q;
    }

-- Such a line is found before whatever stands after it.
pub line_before : (texts words : List (List ℕ)) (more : List ℕ) (r : IsReadLine texts words) →
    lines (line_of texts ++ more) ≡ Line r.line more ∷ lines more
line_before texts words more r =
    the_first_line_is_found (line_of texts) r.line [] more
    ((first_line_is_cut_off (line_of texts) r.line []).1 (r.whole, r.no_lf)) r.short
