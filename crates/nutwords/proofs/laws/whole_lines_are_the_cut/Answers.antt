use Rattle.nutwords.proofs.PublicLaws as law
use Rattle.nutwords.proofs.laws.whole_lines_are_the_cut.Goals as goal

pub returns : goal.returns
returns c = record {
  cut = law.whole_lines_are_the_cut;
  all = law.whole_lines_and_the_rest_are_all;
  rest = law.rest_is_that_behind_the_first;
}
