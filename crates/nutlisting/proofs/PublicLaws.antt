-- The laws of this crate that a proof in a crate above may cite: each is what a function of
-- src/laws.rt ensures.
use Rattle.nutlisting.specs.Counted.{WhatIsPlacedIsCounted}
use Rattle.nutlisting.proofs.Counted as counting
use Rattle.nutlisting.specs.Lawful.{TextsAreLawful, LawfulWordsAreALine, SoundTreesHaveSoundEntries}
use Rattle.nutlisting.specs.Laws.{LinesAreTheText, BegunLinesAreEnded, LinesAddUp, WhatIsOfferedIsTheQueue}
use Rattle.nutlisting.proofs.Writing as writing
use Rattle.nutlisting.proofs.Ended as ended
use Rattle.nutlisting.proofs.AddingUp as adding
use Rattle.nutlisting.proofs.Owing as owing
use Rattle.nutlisting.specs.ReadsBack.{LawfulListingsReadBack}
use Rattle.nutlisting.proofs.ReadsBack as back
use Rattle.nutlisting.specs.Lines.{IdsAreLawful}
use Rattle.nutlisting.proofs.Lawful as lawful
use Rattle.nuttracking.proofs.PublicLaws.{ids_are_plain}

-- lines_are_the_text
pub lines_are_the_text : LinesAreTheText
lines_are_the_text = writing.lines_are_text

-- begun_lines_are_ended
pub begun_lines_are_ended : BegunLinesAreEnded
begun_lines_are_ended = ended.begun_lines_are_ended

-- lines_add_up
pub lines_add_up : LinesAddUp
lines_add_up = adding.lines_add_up

-- what_is_offered_is_the_queue
pub what_is_offered_is_the_queue : WhatIsOfferedIsTheQueue
what_is_offered_is_the_queue = owing.offered_is

-- ids_are_lawful
pub ids_are_lawful : IdsAreLawful
ids_are_lawful = record { long = ids_are_plain.long; lawful = lawful.id_lawful }

-- words_are_lawful
pub texts_are_lawful : TextsAreLawful
texts_are_lawful = lawful.texts_are_lawful

pub lawful_words_are_a_line : LawfulWordsAreALine
lawful_words_are_a_line = lawful.lawful_words_are_a_line

pub sound_entries : SoundTreesHaveSoundEntries
sound_entries = back.sound_entries

-- lawful_listings_are_read_back
pub lawful_listings_read_back : LawfulListingsReadBack
lawful_listings_read_back = back.lawful_listings_read_back

-- what_is_placed_is_counted
pub what_is_placed_is_counted : WhatIsPlacedIsCounted
what_is_placed_is_counted = counting.what_is_placed_is_counted
