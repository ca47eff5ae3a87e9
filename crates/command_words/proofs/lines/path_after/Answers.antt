use Rattle.std.proofs.Common.{◌≡◌, ◌++◌, ◌∙◌, ℕ, List, drop, sym, ap}
use Rattle.command_words.proofs.AskedLemmas.{path_without_word, path_of_some}
use Rattle.command_words.proofs.lines.path_after.Goals as goal

pub returns-in_err-path : goal.returns-in_err-path
returns-in_err-path c = rw c.from_residual.ensures (path_without_word c.args.word.now c.args.line.now c.in_err-path.ensures.cases)

pub returns-else-is_empty : goal.returns-else-is_empty
returns-else-is_empty c =
    let (n, (size, whole, boundary), is, left) = c.in_ok-path.ensures.cases in
    let word = c.args.word.now in
    let line = c.args.line.now in
    let joined : line ≡ word ++ c.in_ok-path.path.now = whole ∙ ap (λ (l : List ℕ). word ++ l) (sym is) in
    (path_of_some word line c.in_ok-path.path.now joined (sym c.is_empty.ensures ∙ c.if-is_empty.false), is ∙ ap (λ k. drop k line) size)
