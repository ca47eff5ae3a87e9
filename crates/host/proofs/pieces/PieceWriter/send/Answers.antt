use Rattle.host.specs.{declared.pieces.TheConstants.PIECE_SIZE, Pieces.Held}
use Rattle.std.proofs.Common.{◌-◌, ◌≤◌, drop, length, ap, ◌∙◌, arith}
use Rattle.aout_core.proofs.BlockLemmas.{slice_range-front, length-slice_range}
use Rattle.host.proofs.PieceLemmas.{sent}
use Rattle.host.proofs.pieces.PieceWriter.send.Goals as goal

pub returns-clause-kept : goal.returns-clause-kept
returns-clause-kept g c =
    let inside = c.self.inside in
    let within : inside.end ≤ length inside.bytes = omega arith in
    let fits : c.in_ok-n.n ≤ inside.end - inside.start =
    omega (arith, c.in_ok-n.ensures.bound, ap length c.part.ensures, length-slice_range inside.bytes inside.start inside.end within) in
    sent g.F.Write.contents c.args.self.now inside.file c.write.new.self inside.bytes c.part.result.now inside.start inside.end
    c.in_ok-n.n (PIECE_SIZE - inside.end) fits c.self.view_is c.part.ensures c.in_ok-n.ensures.bytes

pub returns-clause-left : goal.returns-clause-left
returns-clause-left g c =
    let inside = c.self.inside in
    let within : inside.end ≤ length inside.bytes = omega arith in
    let fits : c.in_ok-n.n ≤ inside.end - inside.start =
    omega (arith, c.in_ok-n.ensures.bound, ap length c.part.ensures, length-slice_range inside.bytes inside.start inside.end within) in
    slice_range-front inside.bytes inside.start inside.end c.in_ok-n.n fits ∙ ap (λ (s : Held _). drop c.in_ok-n.n s.held) c.self.view_is
