-- The laws of this crate that a proof in a crate above may cite: each is what a function of
-- src/laws.rt ensures.
use Rattle.std.proofs.Common.{[], ◌++◌, drop, refl, sym, subst}
use Rattle.nutwords.specs.Answers.{FirstAnswersAreTheFirst, AnswersAreCutInOneWay}
use Rattle.nutwords.specs.Found.{EachCallTakesALine, EachCutIsFound, FoundLineIsFirst, RestIsUnfinished, RestIsOverlong}
use Rattle.nutwords.specs.Frame.{FrameIsInThreeParts}
use Rattle.nutwords.specs.Lines.{IsCutInto, Unfinished, line, unfinished, overlong}
use Rattle.nutwords.specs.Lines.{PiecesGiveTheLines, CutsDoNotMatter, EachTextIsCut, OneCutting}
use Rattle.nutwords.specs.Lines.{NoByteIsLost, LinesAreJoined}
use Rattle.nutwords.specs.Listing.{LinesAreReadBack, ListingIsReadBack, OneReading}
use Rattle.nutwords.specs.Meaning.{WordsOrFault, NotBoth, OneListOfWords, OneFault}
use Rattle.nutwords.specs.Meaning.{ReadLineIsTheGrammar, ReadLineIsTheFault}
use Rattle.nutwords.specs.Spelled.{QuotedIsSpelled, BareIsSpelled, PlainStandsForItself}
use Rattle.nutwords.specs.Spelling.{QuotedIsShort}
use Rattle.nutwords.specs.Cut.{FirstLineIsCutOff, NoLineWithoutLf, HeldGoesInFront}
use Rattle.nutwords.specs.Cut.{FirstLineAndTheRestAreAll, FirstLineIsTheFrontOfItsLength}
use Rattle.nutwords.specs.Cut.{FirstLfEndsTheFirstLine}
use Rattle.nutwords.specs.WholeLines.{WholeLinesAreTheCut, WholeLinesAndTheRestAreAll, RestIsThatBehindTheFirst}
use Rattle.nutwords.proofs.Answers as answers
use Rattle.nutwords.proofs.Backslashes as backslashes
use Rattle.nutwords.proofs.Complete.{read_line-complete}
use Rattle.nutwords.proofs.Escapes.{quoted_spelled, bare_spelled}
use Rattle.nutwords.proofs.FaultLemmas.{IsFault-no_words}
use Rattle.nutwords.proofs.Lines.{split_line-append}
use Rattle.nutwords.proofs.OneFault.{IsFault-one, computed-words, computed-fault, fault-computed}
use Rattle.nutwords.proofs.OneFault as meaning
use Rattle.nutwords.proofs.Pieces.{split_line-whole, IsCutInto-some, IsCutInto-one, IsCutInto-whole, IsCutInto-append}
use Rattle.nutwords.proofs.Pieces as pieces
use Rattle.nutwords.proofs.ReadBack.{Reads-one, ReadsAsLines-one, frame_in_parts}
use Rattle.nutwords.proofs.ReadBack as back
use Rattle.nutwords.proofs.Splits.{no_lf-none, none-no_lf, line-no_lf, line-cut, cut-found}
use Rattle.nutwords.proofs.Splitting.{unescaped-same}
use Rattle.nutwords.proofs.WholeLines.{the_cut, rest_behind, first_line_splits, first_line_front, found_end}

-- line_has_one_meaning
pub words_or_fault : WordsOrFault
words_or_fault = λ line. meaning.words_or_fault line

pub not_both : NotBoth
not_both = λ line words fault reads bad. IsFault-no_words line fault bad words reads

pub one_list_of_words : OneListOfWords
one_list_of_words = λ line words others reads also. Reads-one line words others reads also

pub one_fault : OneFault
one_fault = λ line fault other bad also. IsFault-one line fault other bad also

-- read_line_is_the_grammar
pub read_line_is_the_grammar : ReadLineIsTheGrammar
read_line_is_the_grammar = λ line words. (λ h. computed-words line words h, λ r. read_line-complete line words r)

pub read_line_is_the_fault : ReadLineIsTheFault
read_line_is_the_fault = λ line fault. (λ h. computed-fault line fault h, λ f. fault-computed line fault f)

-- spellings_are_words
pub quoted_is_spelled : QuotedIsSpelled
quoted_is_spelled = λ text word units. quoted_spelled text word units

pub bare_is_spelled : BareIsSpelled
bare_is_spelled = λ text word units. bare_spelled text word units.0

pub plain_stands_for_itself : PlainStandsForItself
plain_stands_for_itself = λ text none. unescaped-same text none

-- written_spellings_are_short
pub quoted_is_short : QuotedIsShort
quoted_is_short = λ word. backslashes.quoted_short word

-- first_line_is_cut_off
pub first_line_is_cut_off : FirstLineIsCutOff
first_line_is_cut_off = λ text first rest.
    (λ h. (split_line-whole text first rest h, line-no_lf text first rest h), λ p. line-cut text first rest p.0 p.1)

pub no_line_without_lf : NoLineWithoutLf
no_line_without_lf = λ text. (λ h. none-no_lf text h, λ h. no_lf-none text h)

pub held_goes_in_front : HeldGoesInFront
held_goes_in_front = λ held text none. split_line-append held text none

pub first_line_and_the_rest_are_all : FirstLineAndTheRestAreAll
first_line_and_the_rest_are_all = first_line_splits

pub first_line_is_the_front_of_its_length : FirstLineIsTheFrontOfItsLength
first_line_is_the_front_of_its_length = first_line_front

pub first_lf_ends_the_first_line : FirstLfEndsTheFirstLine
first_lf_ends_the_first_line = found_end

-- each_call_takes_a_line
pub each_call_takes_a_line : EachCallTakesALine
each_call_takes_a_line = λ held piece first used f.
    (split_line-whole (held ++ piece) first (drop used piece) f.0, f.1, f.2)

pub each_cut_is_found : EachCutIsFound
each_cut_is_found = λ held piece after first used none cut. cut-found held piece after first used none cut

pub found_line_is_first : FoundLineIsFirst
found_line_is_first = λ held piece first used lines tail f rest. line f.0 f.3 rest

pub rest_is_unfinished : RestIsUnfinished
rest_is_unfinished = λ held piece after f. subst
    (λ end. IsCutInto (held ++ piece) [] (Unfinished end)) (sym f.2) (unfinished f.0 f.1)

pub rest_is_overlong : RestIsOverlong
rest_is_overlong = λ held piece after f. overlong f.0 f.1

-- cuts_do_not_matter
pub pieces_give_the_lines : PiecesGiveTheLines
pieces_give_the_lines = λ ps lines tail. pieces.pieces_give_the_lines ps lines tail

pub cuts_do_not_matter : CutsDoNotMatter
cuts_do_not_matter = λ ps others lines tail same gives. pieces.cuts_do_not_matter ps others lines tail same gives

pub each_text_is_cut : EachTextIsCut
each_text_is_cut = λ text. IsCutInto-some text

pub one_cutting : OneCutting
one_cutting = λ text lines others tail end first second. IsCutInto-one text lines others tail end first second

pub no_byte_is_lost : NoByteIsLost
no_byte_is_lost = λ text rest lines cut. IsCutInto-whole text rest lines (Unfinished rest) cut refl

pub lines_are_joined : LinesAreJoined
lines_are_joined = λ text more lines others tail cut behind. IsCutInto-append text more lines
    others (Unfinished []) tail cut refl behind

-- whole_lines_are_the_cut
pub whole_lines_are_the_cut : WholeLinesAreTheCut
whole_lines_are_the_cut = λ bytes. (the_cut bytes).0

pub whole_lines_and_the_rest_are_all : WholeLinesAndTheRestAreAll
whole_lines_and_the_rest_are_all = λ bytes. (the_cut bytes).1

pub rest_is_that_behind_the_first : RestIsThatBehindTheFirst
rest_is_that_behind_the_first = λ bytes first rest split short. rest_behind bytes first rest split short

-- listing_is_read_back
pub lines_are_read_back : LinesAreReadBack
lines_are_read_back = λ kind names asked items rows written. back.lines_are_read_back kind names
    asked items rows written

pub listing_is_read_back : ListingIsReadBack
listing_is_read_back = λ kind names asked items rows written fits each. back.listing_is_read_back
    kind names asked items rows (written, fits, each)

pub frame_is_in_three_parts : FrameIsInThreeParts
frame_is_in_three_parts = λ kind names items. frame_in_parts kind names items

pub one_reading : OneReading
one_reading = λ text rows others reads also. ReadsAsLines-one text rows others reads also

-- answers_are_cut_in_one_way
pub first_answers_are_the_first : FirstAnswersAreTheFirst
first_answers_are_the_first = λ all firsts rest each shaped same. answers.first_answers all firsts
    rest each shaped same

pub answers_are_cut_in_one_way : AnswersAreCutInOneWay
answers_are_cut_in_one_way = λ all others each shaped same. answers.one_way all others each shaped same
