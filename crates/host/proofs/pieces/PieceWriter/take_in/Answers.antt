use Rattle.host.specs.declared.pieces.TheConstants.{PIECE_SIZE}
use Rattle.std.proofs.Common.{◌≡◌, ◌≤◌, take, length, arith, rules}
use Rattle.host.proofs.PieceLemmas.{taken}
use Rattle.host.proofs.pieces.PieceWriter.take_in.Goals as goal

pub returns-clause-value : goal.returns-clause-value
returns-clause-value g c =
    let inside = c.self.inside in
    let new = c.copy_from_slice.new.self in
    let ordered : inside.start ≤ inside.end = omega arith in
    let within : inside.end ≤ length inside.bytes = omega arith in
    let same : new ≡ take c.min-n.result c.args.bytes.now = search rules in
    let long : length new ≡ c.min-n.result = search rules in
    taken c.args.self.now inside.file inside.bytes new _ (take c.min-n.result c.args.bytes.now) inside.start inside.end c.min-n.result PIECE_SIZE
    ordered within long same c.self.view_is
