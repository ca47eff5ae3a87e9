use Rattle.libv7.specs.PlaceAnswers.{FitsWith}
use Rattle.libv7.proofs.OriginLemmas.{IsSoFar}
use Rattle.libv7.proofs.places_call.only_word.Given as goal

abbrev pub invariant-loop-word : goal.invariant-loop-word
invariant-loop-word l = IsSoFar (FitsWith l.program l.object l.text) l.word l.found
