use Rattle.std.proofs.Common.{rules, ◌≡◌, refl, subst, inl, inr}
use Rattle.symtools.specs.{Files.by_bytes, SizeLines.size_text}
use Rattle.v7tools.specs.FileRuns.{Lists, OnlyWriteFailed}
use Rattle.v7tools.proofs.EventLemmas.{passed_on}
use Rattle.v7tools.proofs.files.commands.size_files.Goals as goal

pub returns-in_err-loaded-clause-run : goal.returns-in_err-loaded-clause-run
returns-in_err-loaded-clause-run g c =
    inl (
      c.in_err-loaded.field-0.0,
      c.in_err-loaded.ensures,
      record { refusal = passed_on _ _ c.from_residual.ensures.1; silent = refl },
    )

pub returns-clause-run : goal.returns-clause-run
returns-clause-run g c =
    let same : c.deref.result.now ≡ c.in_ok-loaded.loaded.items = search rules in
    inr (
      c.in_ok-loaded.loaded.items,
      c.in_ok-loaded.ensures,
      subst (λ files. Lists g.W.Write.contents (OnlyWriteFailed (by_bytes files)) (size_text (by_bytes files))
          c.put_sizes.result c.args.output.now c.put_sizes.new.output) same c.put_sizes.ensures.run,
    )
