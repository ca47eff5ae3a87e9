use Rattle.std.proofs.Common.{◌≡◌, ◌++◌, ◌-◌, false}
use Rattle.texts.specs.Columns.{blanks}
use Rattle.texts.proofs.text.Text.put_blanks.Given as goal

abbrev pub invariant-loop : goal.invariant-loop
invariant-loop l =
    l.self.is_cut ≡ false → (l.initial.self.is_cut ≡ false)
    × (l.self.bytes ++ blanks (l.count - l.counter) ≡ l.initial.self.bytes ++ blanks l.count)
