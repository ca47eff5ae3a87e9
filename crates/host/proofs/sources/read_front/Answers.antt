use Rattle.host.proofs.ReadingLemmas.{not_taken}
use Rattle.host.proofs.sources.read_front.Goals as goal

pub returns-in-Err-clause-err : goal.returns-in-Err-clause-err
returns-in-Err-clause-err g c =
    let old = g.O.FileSystem.history c.args.file_system.now in
    let new = g.O.FileSystem.history c.bytes_at.new.file_system in
    not_taken old new c.args.path.now c.args.most c.in-Err.why c.fault_of.result c.in-Err.ensures c.fault_of.ensures
