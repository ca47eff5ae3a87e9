use Rattle.std.proofs.Common.{◌-◌, ◌≤◌, ◌∙◌, drop, ap, length, arith}
use Rattle.aout_core.proofs.BlockLemmas.{length-slice_range, slice_range-front}
use Rattle.aout_core.proofs.block.Block.pass.Goals as goal

pub returns : goal.returns
returns c =
    let inside = c.self.inside in
    let within : inside.end ≤ length inside.bytes = omega arith in
    let fits : c.args.n ≤ inside.end - inside.start =
    omega (arith, ap length c.self.view_is, length-slice_range inside.bytes inside.start inside.end within) in
    slice_range-front inside.bytes inside.start inside.end c.args.n fits ∙ ap (drop c.args.n) c.self.view_is
