use Rattle.std.proofs.Common.{◌≡◌, ◌++◌, drop, map}
use Rattle.link_maps.specs.Records.{word_record}
use Rattle.link_maps.proofs.records.put_words.Given as goal

abbrev pub invariant-loop-word : goal.invariant-loop-word
invariant-loop-word l =
    l.records.items ++ map (word_record l.at l.object l.number) (drop l.word-index l.words)
    ≡ l.initial.records.items ++ map (word_record l.at l.object l.number) l.words
