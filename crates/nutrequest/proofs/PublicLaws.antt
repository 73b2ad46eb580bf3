-- The laws of this crate that a proof in a crate above may cite: each is what a function of
-- src/laws.rt ensures.
use Rattle.nutrequest.specs.Lines.{TheFirstLineIsFound}
use Rattle.nutrequest.proofs.Cutting.{first_of_more}

-- lines_are_those_of_the_cut
pub the_first_line_is_found : TheFirstLineIsFound
the_first_line_is_found = λ bytes line rest more split short. first_of_more bytes line rest more split short
