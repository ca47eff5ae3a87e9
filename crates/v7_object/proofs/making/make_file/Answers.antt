use Rattle.std.proofs.Common.{rules, ◌≡◌, Some, refl, subst, inl, inr}
use Rattle.host.specs.Answers.{Stops, is_none}
use Rattle.v7_object.specs.Runs.{file_in}
use Rattle.v7_object.proofs.making.make_file.Goals as goal

pub returns : goal.returns
returns g c =
    let same : c.deref.result.now ≡ c.in_ok-text.text.items = search rules in
    let between = g.O.FileSystem.history c.read_whole.new.file_system in
    let found = subst (λ text. file_in c.args.addresses text ≡ Some c.in_ok-file.file) same c.in_ok-file.ensures in
    inr (
      tt,
      g.O.FileSystem.history c.check_output.new.file_system,
      c.in_ok-check_output.ensures,
      inr (c.in_ok-text.text.items, between, c.in_ok-text.ensures.ok, inr (c.in_ok-file.file, between, (refl, found), c.store.ensures)),
    )

pub returns-in_err-check_output : goal.returns-in_err-check_output
returns-in_err-check_output g c = inl (c.in_err-check_output.field-0.0, c.in_err-check_output.ensures, search rules)

pub returns-in_err-file : goal.returns-in_err-file
returns-in_err-file g c =
    let same : c.deref.result.now ≡ c.in_ok-text.text.items = search rules in
    let between = g.O.FileSystem.history c.read_whole.new.file_system in
    let fault = c.in_err-file.field-0.0 in
    let found = subst (λ text. Stops (is_none (file_in c.args.addresses text)) 1 fault) same c.in_err-file.ensures in
    inr (
      tt,
      g.O.FileSystem.history c.check_output.new.file_system,
      c.in_ok-check_output.ensures,
      inr (c.in_ok-text.text.items, between, c.in_ok-text.ensures.ok, inl (fault, (refl, found), search rules)),
    )
