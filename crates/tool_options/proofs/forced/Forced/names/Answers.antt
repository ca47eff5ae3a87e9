use Rattle.std.proofs.Common.{◌≤◌, arith}
use Rattle.tool_options.proofs.ForcedLemmas.{few_names}
use Rattle.tool_options.proofs.forced.Forced.names.Goals as goal

pub shared_whole_as_front-result : goal.shared_whole_as_front-result
shared_whole_as_front-result c =
    let few : c.self.inside.count ≤ 64 =
    few_names 64 c.self.inside.count c.self.inside.slots c.self.invariant.counted c.self.invariant.from_front in
    omega arith

pub returns-clause-short : goal.returns-clause-short
returns-clause-short c =
    let few : c.self.inside.count ≤ 64 =
    few_names 64 c.self.inside.count c.self.inside.slots c.self.invariant.counted c.self.invariant.from_front in
    omega (arith, c.self.invariant.counted)
