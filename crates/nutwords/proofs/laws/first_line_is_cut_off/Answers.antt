use Rattle.nutwords.proofs.PublicLaws as law
use Rattle.nutwords.proofs.laws.first_line_is_cut_off.Goals as goal

pub returns : goal.returns
returns c = record {
  line = law.first_line_is_cut_off;
  none = law.no_line_without_lf;
  held = law.held_goes_in_front;
  all = law.first_line_and_the_rest_are_all;
  front = law.first_line_is_the_front_of_its_length;
  end = law.first_lf_ends_the_first_line;
}
