use Rattle.std.proofs.Common.{rules, ◌≡◌, false}
use Rattle.host.specs.Sources.{is_kept}
use Rattle.v7_from_gnu.proofs.StoringLemmas.{stops_storing}
use Rattle.v7_from_gnu.proofs.storing.store_each.Goals as goal

pub returns-in-Some : goal.returns-in-Some
returns-in-Some g c =
    let t = c.target-item.result in
    let path : c.as_str-path.result.now ≡ c.target-item.result.source.to = search rules in
    let file : c.file.result.now ≡ c.target-item.result.object = search rules in
    let unkept : is_kept c.store-stored.result ≡ false = search rules in
    stops_storing (g.O.FileSystem.history c.args.file_system.now) (g.O.FileSystem.history c.loop-target.file_system)
    (g.O.FileSystem.history c.store-stored.new.self)
    c.args.targets.now c.loop-target.target-index t c.as_str-path.result.now c.file.result.now c.store-stored.result
    c.not_stored.result
    c.loop-target.invariant c.loop-target-test.true c.target-item.is c.store-stored.ensures path file unkept c.not_stored.ensures
