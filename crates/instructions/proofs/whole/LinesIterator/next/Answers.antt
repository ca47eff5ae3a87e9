use Rattle.std.proofs.Common.{◌≡◌, ◌-◌, ◌<◌, ◌∷◌, length, take, drop, sym, ◌∙◌, ap, arith, rules}
use Rattle.instructions.specs.{declared.line.Line.Line, Lines.line_at, Lines.line_length, Lines.lines}
use Rattle.instructions.proofs.AlikeLemmas.{lines_some}
use Rattle.instructions.proofs.whole.LinesIterator.next.Goals as goal

pub returns-clause-steps : goal.returns-clause-steps
returns-clause-steps c =
    let is : c.decode-line.result ≡ line_at c.args.self.now.words.now 0 = c.decode-line.ensures.line in
    let long : c.length.result ≡ line_length (line_at c.args.self.now.words.now 0) = c.length.ensures ∙ ap line_length is in
    let some : 0 < length c.args.self.now.words.now = search rules in
    lines_some c.args.self.now.words.now c.length.result some long
    ∙ ap (λ (line : Line). line ∷ lines
    (take (length c.args.self.now.words.now - c.length.result) (drop c.length.result c.args.self.now.words.now))) (sym is)

pub returns-clause-goes : goal.returns-clause-goes
returns-clause-goes c =
    let fewer : length (lines (take (length c.args.self.now.words.now - c.length.result) (drop c.length.result c.args.self.now.words.now)))
    < length (lines c.args.self.now.words.now) =
    omega (arith, ap length (returns-clause-steps c)) in
    record { on = λ f. (search rules, search rules, fewer); keeps = search rules; rests = λ f. search rules }
