-- Bad relocation words that were collected, as findings.
use Rattle.std.specs.Prelude.{true, List, map}
use Rattle.checks.specs.{declared.wrong.BadWord.BadWord, Found.Found}

abbrev pub bad_found : BadWord → Found
bad_found b = record { place = b.place; kind = b.kind; is_sure = true }

abbrev pub all_bad : List BadWord → List Found
all_bad bad = map bad_found bad
