use Rattle.std.proofs.Common.{◌≡◌, ◌+◌, ◌++◌, drop}
use Rattle.checks.specs.{Wrong.bad_words, internal.BadWords.all_bad}
use Rattle.checks.proofs.wrong.put_bad.Given as goal

-- the bad words so far, and those that are left
abbrev pub invariant-loop-reloc : goal.invariant-loop-reloc
invariant-loop-reloc l =
    (all_bad l.list.items ++ bad_words l.file l.place l.index (drop l.reloc-index l.relocs)
    ≡ all_bad l.initial.list.items ++ bad_words l.file l.place l.first l.relocs)
    × (l.index ≡ l.first + l.reloc-index)
