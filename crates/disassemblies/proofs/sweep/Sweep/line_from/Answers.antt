use Rattle.std.proofs.{Common.{◌≡◌, ◌<◌, ◌≤◌, Some, length, ◌∙◌, ap, sym, rules}, lemmas.Option.{slice_get-get_or, slice_get_past}}
use Rattle.std.specs.Prelude.{slice_get}
use Rattle.aout_core.specs.Contents.{Contents}
use Rattle.disassemblies.specs.Starts.{swept_line}
use Rattle.disassemblies.proofs.SweptLemmas.{there, nowhere}
use Rattle.disassemblies.proofs.sweep.Sweep.line_from.Goals as goal

pub returns-in-Some : goal.returns-in-Some
returns-in-Some c =
    let lines = c.deref.result.now in
    let line = c.in-Some.line.now in
    let inside : c.args.place < length lines = search rules in
    let found : slice_get lines c.args.place ≡ Some line =
    slice_get-get_or lines c.args.place line inside ∙ ap Some (sym c.in-Some.ensures.lookup.1) in
    there c.self.inside.named lines c.args.place line (c.deref.ensures.value ∙ c.self.invariant) found
    ∙ ap (λ (f : Contents). swept_line f c.args.place) c.self.view_is

pub returns-in-None : goal.returns-in-None
returns-in-None c =
    let lines = c.deref.result.now in
    let past : length lines ≤ c.args.place = search rules in
    nowhere c.self.inside.named lines c.args.place (c.deref.ensures.value ∙ c.self.invariant) (slice_get_past lines c.args.place past)
    ∙ ap (λ (f : Contents). swept_line f c.args.place) c.self.view_is
