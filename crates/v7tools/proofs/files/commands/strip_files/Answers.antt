use Rattle.std.proofs.Common.{inl, inr}
use Rattle.v7tools.proofs.EventLemmas.{passed_on}
use Rattle.v7tools.proofs.files.commands.strip_files.Goals as goal

pub returns-in_err-loaded : goal.returns-in_err-loaded
returns-in_err-loaded g c =
    inl (
      c.in_err-loaded.field-0.0,
      c.in_err-loaded.ensures,
      passed_on _ _ c.from_residual.ensures.1,
    )

pub returns : goal.returns
returns g c =
    inr (c.in_ok-loaded.loaded.items, g.O.FileSystem.history c.load_all.new.file_system, c.in_ok-loaded.ensures, c.store_stripped.ensures)
