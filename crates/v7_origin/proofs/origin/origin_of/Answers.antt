use Rattle.std.proofs.Common.{map, subst, inr}
use Rattle.std.specs.Prelude.{string_bytes}
use Rattle.v7_origin.specs.Runs.{AreFoundIn, FindsAmong}
use Rattle.v7_origin.proofs.origin.origin_of.Goals as goal

pub returns : goal.returns
returns g c =
    let old = g.O.FileSystem.history c.args.file_system.now in
    let new = g.O.FileSystem.history c.find_among.new.file_system in
    let found = map string_bytes c.in_ok-found.found.items in
    inr (
      found,
      subst (λ folder. AreFoundIn folder found) c.value_of.ensures c.in_ok-found.ensures,
      subst (λ paths. FindsAmong c.args.given.now (map string_bytes paths) old new c.find_among.result) c.deref.ensures.value c.find_among.ensures,
    )
