use Rattle.std.proofs.Common.{rules, ◌≡◌, refl, subst, inl, inr}
use Rattle.v7_from_gnu.specs.Runs.{StoresAll}
use Rattle.v7_from_gnu.proofs.converting.convert_checked.Goals as goal

pub returns : goal.returns
returns g c =
    let between = g.O.FileSystem.history c.read_all.new.file_system in
    let after = g.O.FileSystem.history c.store_all.new.file_system in
    let same : c.deref.result.now ≡ c.in_ok-targets.targets.items = search rules in
    let stored = subst (λ targets. StoresAll targets between after c.store_all.result) same c.store_all.ensures in
    inr (
      c.in_ok-sources.sources.items,
      between,
      c.in_ok-sources.ensures,
      inr (c.in_ok-targets.targets.items, between, (refl, c.in_ok-targets.ensures.ok), stored),
    )

pub returns-in_err-sources : goal.returns-in_err-sources
returns-in_err-sources g c = inl (c.in_err-sources.field-0.0, c.in_err-sources.ensures, search rules)

pub returns-in_err-targets : goal.returns-in_err-targets
returns-in_err-targets g c =
    let between = g.O.FileSystem.history c.read_all.new.file_system in
    inr (
      c.in_ok-sources.sources.items,
      between,
      c.in_ok-sources.ensures,
      inl (c.in_err-targets.field-0.0, (refl, c.in_err-targets.ensures.err), search rules),
    )
