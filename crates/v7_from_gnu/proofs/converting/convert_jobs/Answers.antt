use Rattle.std.proofs.Common.{rules, ◌≡◌, false, refl, inl, inr}
use Rattle.std.specs.Prelude.{Ok, Err}
use Rattle.host.specs.Answers.{Refuses}
use Rattle.v7_from_gnu.specs.Checks.{ChecksInputs, has_path_twice}
use Rattle.v7_from_gnu.proofs.converting.convert_jobs.Goals as goal

pub returns : goal.returns
returns g c =
    let looked = g.O.FileSystem.history c.check_inputs.new.file_system in
    let inputs : ChecksInputs c.args.jobs.items (g.O.FileSystem.history c.args.file_system.now) looked (Ok tt) = search rules in
    let paths : has_path_twice c.args.jobs.items ≡ false = search rules in
    inr (tt, looked, inputs, inr (tt, looked, (refl, paths), c.convert_checked.ensures))

pub returns-in_err-check_inputs : goal.returns-in_err-check_inputs
returns-in_err-check_inputs g c =
    let fault = c.in_err-check_inputs.field-0.0 in
    let inputs : ChecksInputs c.args.jobs.items (g.O.FileSystem.history c.args.file_system.now)
    (g.O.FileSystem.history c.check_inputs.new.file_system) (Err fault) = search rules in
    inl (fault, inputs, search rules)

pub returns-in_err-check_paths : goal.returns-in_err-check_paths
returns-in_err-check_paths g c =
    let looked = g.O.FileSystem.history c.check_inputs.new.file_system in
    let fault = c.in_err-check_paths.field-0.0 in
    let inputs : ChecksInputs c.args.jobs.items (g.O.FileSystem.history c.args.file_system.now) looked (Ok tt) = search rules in
    let paths : Refuses 2 (has_path_twice c.args.jobs.items) (Err fault) = search rules in
    inr (tt, looked, inputs, inl (fault, (refl, paths), search rules))
