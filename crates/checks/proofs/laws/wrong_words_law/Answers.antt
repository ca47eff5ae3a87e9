use Rattle.checks.proofs.WrongLemmas.{shown_words, shown_objects}
use Rattle.checks.proofs.laws.wrong_words_law.Goals as goal

pub returns-clause-words : goal.returns-clause-words
returns-clause-words c = shown_words

pub returns-clause-objects : goal.returns-clause-objects
returns-clause-objects c = shown_objects
