use Rattle.std.proofs.Common.{◌≡◌, ◌++◌, drop, map, string_bytes}
use Rattle.v7_explain.specs.Runs.{link_words}
use Rattle.v7_explain.proofs.map.link_words.Given as goal

-- the arguments so far are there
abbrev pub invariant-loop-word : goal.invariant-loop-word
invariant-loop-word l = link_words (map string_bytes l.words) ≡ map string_bytes l.all.items ++ map string_bytes (drop l.word-index l.words)
