use Rattle.std.proofs.Common.{◌≡◌, ◌++◌, drop, length}
use Rattle.libv7.specs.RemarkAnswers.{records_from, texts_of}
use Rattle.libv7.proofs.remarks_call.put_records.Given as goal

-- what there is so far, and what the findings that are left give
abbrev pub invariant-loop-finding : goal.invariant-loop-finding
invariant-loop-finding l =
    (l.texts.items ++ texts_of (drop l.finding-index l.findings) ≡ texts_of l.findings)
    × (l.records.items ++ records_from l.header (length l.texts.items) (drop l.finding-index l.findings)
    ≡ records_from l.header 0 l.findings)
