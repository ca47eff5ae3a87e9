use Rattle.std.proofs.Common.{◌≡◌, ℕ, ◌+◌, ◌-◌, ◌<◌, List, Bool, true, length, sym, ◌∙◌, ap, rules}
use Rattle.std.specs.Prelude.{slice_index}
use Rattle.aout_core.specs.Contents.{Contents}
use Rattle.instructions.specs.{declared.line.Line.TheVariants.Plain, declared.unix.UnixLine.TheVariants.Machine, UnixLines.unix_length}
use Rattle.disassemblies.specs.{Lines.unix_line_in, Listed.listed_line, internal.Labelled.any_marked}
use Rattle.disassemblies.proofs.ListedLemmas.{listed_by}
use Rattle.disassemblies.proofs.listed.ListedLines.at.Goals as goal

pub returns-then-any_marked-clause-line : goal.returns-then-any_marked-clause-line
returns-then-any_marked-clause-line c =
    let file = c.self.inside.file.now in
    let inside : c.args.place < length file.text_words = search rules in
    let counted : c.length.result ≡ unix_length (unix_line_in c.args.decoder file c.args.place) =
    c.length.ensures ∙ ap unix_length c.unix_line_in-line.ensures.line in
    let marked : true ≡ any_marked c.self.inside.labelled.items (c.args.place + 1) (unix_length (unix_line_in c.args.decoder file c.args.place) - 1) =
    sym c.if-any_marked.true ∙ c.any_marked.ensures
    ∙ ap (λ (l : List Bool). any_marked l (c.args.place + 1) (c.length.result - 1)) c.deref.ensures.value
    ∙ ap (λ (n : ℕ). any_marked c.self.inside.labelled.items (c.args.place + 1) (n - 1)) counted in
    ap (λ (ws : List ℕ). Machine (Plain (slice_index ws c.args.place))) c.text_words.ensures.value
    ∙ listed_by c.args.decoder file c.self.inside.labelled.items c.args.place true c.self.invariant inside marked
    ∙ ap (λ (f : Contents). listed_line c.args.decoder f c.args.place) c.self.view_is
