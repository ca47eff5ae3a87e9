use Rattle.std.proofs.Common.{rules, ◌≡◌, map, refl, string_bytes, subst, sym}
use Rattle.v7_explain.specs.Runs.{IsMapping, MapsCall}
use Rattle.v7_explain.proofs.MapLemmas.{maps_other}
use Rattle.v7_explain.proofs.map.map_call.Goals as goal

pub returns-in-Ld : goal.returns-in-Ld
returns-in-Ld g c =
    let old = g.O.FileSystem.history c.args.file_system.now in
    let new = g.O.FileSystem.history c.map_link.new.file_system in
    let same : c.deref.result.now ≡ c.in-Ld.files.items = search rules in
    subst (λ call. MapsCall call old new c.map_link.result) (sym c.in-Ld.is)
    (subst (λ files. IsMapping (map string_bytes files) old new c.map_link.result) same c.map_link.ensures)

pub returns-in_ok-refused_answer-in_default : goal.returns-in_ok-refused_answer-in_default
returns-in_ok-refused_answer-in_default g c =
    let old = g.O.FileSystem.history c.args.file_system.now in
    maps_other c.args.call.now old old _ c.in_default.not-Ld refl c.in_ok-refused_answer-in_default.ensures
