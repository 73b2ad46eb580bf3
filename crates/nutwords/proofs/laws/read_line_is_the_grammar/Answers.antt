use Rattle.nutwords.proofs.PublicLaws as law
use Rattle.nutwords.proofs.laws.read_line_is_the_grammar.Goals as goal

pub returns-clause-words : goal.returns-clause-words
returns-clause-words c = law.read_line_is_the_grammar

pub returns-clause-fault : goal.returns-clause-fault
returns-clause-fault c = law.read_line_is_the_fault
