-- The lines of errors are lawful bytes.
use Rattle.std.proofs.Common.{arith, ◌≡◌, true, refl, [], ◌∷◌, length, leb}
use Rattle.std.proofs.lemmas.Bool.{leb-true}
use Rattle.std.specs.Prelude.{codes}
use Rattle.std.specs.List.{list_all, join_with_byte}
use Rattle.nutwords.specs.Bytes.{is_lawful}
use Rattle.nutcommand.specs.declared.err_word.ErrWord.{ErrWord}
use Rattle.nutwords.specs.declared.limits.TheConstants.{LINE_LIMIT}
use Rattle.nutlisting.specs.Lines.{IsAnswerLine}
use Rattle.nutcommand.specs.ErrWord.{spelling_of}
use Rattle.nutanswer.specs.Laws.{ErrorLinesAreWhole}

pub error_lawful : (word : ErrWord) →
    list_all is_lawful (join_with_byte 32 (codes "ERR" ∷ spelling_of word ∷ [])) ≡ true
error_lawful word = grind arith

error_short : (word : ErrWord) →
    leb (length (join_with_byte 32 (codes "ERR" ∷ spelling_of word ∷ []))) LINE_LIMIT ≡ true
error_short word = grind arith

error_answer : (word : ErrWord) → IsAnswerLine (join_with_byte 32 (codes "ERR" ∷ spelling_of word ∷ []))
error_answer word = record { fits = leb-true _ _ (error_short word); lawful = error_lawful word }

pub error_lines_are_whole : ErrorLinesAreWhole
error_lines_are_whole word = record {
  line = join_with_byte 32 (codes "ERR" ∷ spelling_of word ∷ []);
  whole = refl;
  answer = error_answer word;
}
