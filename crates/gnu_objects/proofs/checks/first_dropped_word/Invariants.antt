use Rattle.std.proofs.Common.{◌≡◌, drop}
use Rattle.gnu_objects.specs.GnuRefusals.{first_refusal, word_refusal}
use Rattle.gnu_objects.proofs.checks.first_dropped_word.Given as goal

-- the words so far refer to symbols that stay
abbrev pub invariant-loop-n : goal.invariant-loop-n
invariant-loop-n l =
    first_refusal (word_refusal l.strings l.symbols l.flags) 0 l.words
    ≡ first_refusal (word_refusal l.strings l.symbols l.flags) l.n (drop l.n l.words)
