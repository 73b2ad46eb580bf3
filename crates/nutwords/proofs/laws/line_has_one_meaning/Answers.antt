use Rattle.nutwords.proofs.PublicLaws as law
use Rattle.nutwords.proofs.laws.line_has_one_meaning.Goals as goal

pub returns-clause-some : goal.returns-clause-some
returns-clause-some c = law.words_or_fault

pub returns-clause-not_both : goal.returns-clause-not_both
returns-clause-not_both c = law.not_both

pub returns-clause-words : goal.returns-clause-words
returns-clause-words c = law.one_list_of_words

pub returns-clause-fault : goal.returns-clause-fault
returns-clause-fault c = law.one_fault
