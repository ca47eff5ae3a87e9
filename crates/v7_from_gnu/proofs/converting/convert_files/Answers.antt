use Rattle.std.proofs.Common.{rules, ◌≡◌, subst}
use Rattle.v7_from_gnu.specs.{Jobs.Conversion, Runs.IsConversion}
use Rattle.v7_from_gnu.proofs.converting.convert_files.Goals as goal

pub returns : goal.returns
returns g c =
    let parts = c.conversion.inside in
    let made : Conversion = record { options = parts.options; is_quiet = parts.is_quiet; jobs = parts.jobs.items } in
    let same : made ≡ c.args.conversion = search rules in
    subst (λ (it : Conversion). IsConversion it (g.O.FileSystem.history c.args.file_system.now) (g.O.FileSystem.history c.convert_jobs.new.file_system)
    c.convert_jobs.result) same c.convert_jobs.ensures
