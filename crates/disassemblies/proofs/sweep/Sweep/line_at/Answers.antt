use Rattle.std.proofs.Common.{◌≤◌, ◌+◌, length, sym, subst}
use Rattle.instructions.specs.{declared.unix.Decoder.TheVariants.Unix, declared.unix.UnixLine.UnixLine, UnixLines.unix_length}
use Rattle.disassemblies.proofs.{ListedLemmas.listed_fits, ListedLemmas.listed_short, SweptLemmas.line_there}
use Rattle.disassemblies.proofs.sweep.Sweep.line_at.Goals as goal

pub returns-in-Some-clause-fits : goal.returns-in-Some-clause-fits
returns-in-Some-clause-fits c =
    let same = line_there c.args.self.now c.args.place c.in-Some.line c.in-Some.ensures in
    subst (λ (l : UnixLine). c.args.place + unix_length l ≤ length c.args.self.now.text_words) (sym same)
    (listed_fits Unix c.args.self.now c.args.place c.requires)

pub returns-in-Some-clause-short : goal.returns-in-Some-clause-short
returns-in-Some-clause-short c =
    let same = line_there c.args.self.now c.args.place c.in-Some.line c.in-Some.ensures in
    subst (λ (l : UnixLine). unix_length l ≤ 5) (sym same) (listed_short Unix c.args.self.now c.args.place).1
