use Rattle.std.proofs.Common.{rules, ◌≡◌, [], ◌∷◌, ◌++◌, string_bytes}
use Rattle.v7tools.proofs.{EventLemmas.{one_more, passed_on}, FileRunLemmas.{stops_storing, strip_at, strips_more}}
use Rattle.v7tools.proofs.files.commands.store_stripped.Goals as goal

pub loop-path-preserved : goal.loop-path-preserved
loop-path-preserved g c =
    let before = g.O.FileSystem.history c.loop-path.file_system in
    let new = g.O.FileSystem.history c.store-stored.new.self in
    let at : c.as_str.result.now ≡ string_bytes c.in-Some.path = search rules in
    let done = c.loop-path.invariant in
    let asked = strip_at before new _ _ (c.in-Some.path, c.in-Some.file) c.store-stored.result c.store-stored.ensures at
    c.strip_file.ensures in (
      done.0 ++ (c.in-Some.path, c.in-Some.file) ∷ [],
      one_more c.args.loaded.items done.0 c.loop-path.path-iterator.rest.items c.next.new.self.rest.items
          (c.in-Some.path, c.in-Some.file) done.1 c.in-Some.ensures.steps.0,
      strips_more (g.O.FileSystem.history c.args.file_system.now) before new done.0
          (c.in-Some.path, c.in-Some.file) c.store-stored.result done.2 asked c.in_ok-check_stored.ensures,
    )

pub returns-in_err-check_stored : goal.returns-in_err-check_stored
returns-in_err-check_stored g c =
    let old = g.O.FileSystem.history c.args.file_system.now in
    let before = g.O.FileSystem.history c.loop-path.file_system in
    let new = g.O.FileSystem.history c.store-stored.new.self in
    let at : c.as_str.result.now ≡ string_bytes c.in-Some.path = search rules in
    let done = c.loop-path.invariant in
    let fault = c.in_err-check_stored.field-0.0 in
    let asked =
    strip_at before new _ _ (c.in-Some.path, c.in-Some.file) c.store-stored.result c.store-stored.ensures at c.strip_file.ensures in
    rw (passed_on c.from_residual.result fault c.from_residual.ensures.1)
    (stops_storing old before new c.args.loaded.items done.0 c.loop-path.path-iterator.rest.items
    c.next.new.self.rest.items (c.in-Some.path, c.in-Some.file) c.store-stored.result fault
    done.1 c.in-Some.ensures.steps.0 done.2 asked c.in_err-check_stored.ensures)
