use Rattle.std.proofs.Common.{◌≡◌, ◌++◌, drop, map}
use Rattle.aout_core.specs.Placed.{placed_from, words_of}
use Rattle.libv7.specs.ObjectParts.{object_word, object_words}
use Rattle.libv7.proofs.part_lists.object_words.Given as goal

-- the words so far, and those that are left
abbrev pub invariant-loop-number : goal.invariant-loop-number
invariant-loop-number l =
    l.words.items ++ map object_word (placed_from l.file l.part l.number (drop l.number (words_of l.file l.part))) ≡ object_words l.file l.part
