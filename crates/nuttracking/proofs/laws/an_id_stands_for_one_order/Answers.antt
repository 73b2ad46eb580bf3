use Rattle.nuttracking.proofs.PublicLaws as law
use Rattle.nuttracking.proofs.laws.an_id_stands_for_one_order.Goals as goal

pub returns : goal.returns
returns c = record {
  first = law.nothing_is_sound;
  kept = law.acts_keep_it_sound;
  apart = law.known_ids_are_written_apart;
  numbers = law.lawful_acts_keep_numbers_lawful;
}
