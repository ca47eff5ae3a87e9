use Rattle.std.proofs.Common.{rules, ◌≡◌, refl, subst, inl, inr}
use Rattle.std.specs.Prelude.{true}
use Rattle.aout_core.specs.{Decoding.decode, Refusals.refused}
use Rattle.host.specs.declared.answer.Fault.TheVariants.{Memory}
use Rattle.v7_explain.specs.{Files.IsSaid, declared.explaining.Mode.TheVariants.Listing}
use Rattle.v7_explain.proofs.storing.store_listing.Goals as goal

pub returns : goal.returns
returns g c =
    let between = g.O.FileSystem.history c.read_whole.new.file_system in
    let same : c.deref.result.now ≡ c.in_ok-bytes.bytes.items = search rules in
    let said : IsSaid (Listing true) c.in_ok-bytes.bytes.items (decode c.in_ok-bytes.bytes.items) c.in_ok-said.said =
    subst (λ bytes. IsSaid (Listing true) bytes (decode bytes) c.in_ok-said.said) same c.in_ok-said.ensures in
    inr (
      tt,
      g.O.FileSystem.history c.check_output.new.file_system,
      c.in_ok-check_output.ensures,
      inr (
        c.in_ok-bytes.bytes.items,
        between,
        c.in_ok-bytes.ensures.ok,
        inr (
          c.in_ok-said.said,
          between,
          (refl, said),
          c.store.ensures,
        ),
      ),
    )

pub returns-in_err-said : goal.returns-in_err-said
returns-in_err-said g c =
    inr (
      tt,
      g.O.FileSystem.history c.check_output.new.file_system,
      c.in_ok-check_output.ensures,
      inr (
        c.in_ok-bytes.bytes.items,
        g.O.FileSystem.history c.read_whole.new.file_system,
        c.in_ok-bytes.ensures.ok,
        inl (Memory refused, (refl, refl), search rules),
      ),
    )

pub returns-in_err-check_output : goal.returns-in_err-check_output
returns-in_err-check_output g c = inl (c.in_err-check_output.field-0.0, c.in_err-check_output.ensures, search rules)
