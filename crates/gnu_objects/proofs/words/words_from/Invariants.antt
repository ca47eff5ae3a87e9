use Rattle.std.proofs.Common.{◌≡◌}
use Rattle.gnu_objects.specs.GnuForm.{words_from}
use Rattle.gnu_objects.proofs.words.words_from.Given as goal

abbrev pub invariant-loop-n : goal.invariant-loop-n
invariant-loop-n l = l.words.items ≡ words_from l.bytes l.at l.n
