use Rattle.std.proofs.Common.{ℕ, List, ◌∙◌, sym, subst, arith, rules}
use Rattle.std.specs.Io.KnownBytes.{Appends}
use Rattle.aout_core.specs.{declared.symbol.Symbol.Symbol, Wires.AppendsPrefix}
use Rattle.aout_core.proofs.PutsLemmas.{writes_in_part}
use Rattle.link_session.specs.{declared.state.State.State, Undo.image_of}
use Rattle.symtools.specs.SymbolLines.{symbol_line}
use Rattle.v7tools.specs.Answers.{entry_of}
use Rattle.v7tools.proofs.ListingLemmas.{sent_next, stops_next, sent_all}
use Rattle.v7tools.proofs.session.externals.put_externals.Goals as goal

pub returns-in_err-line : goal.returns-in_err-line
returns-in_err-line g c =
    let encoding = λ (e : List ℕ × State). symbol_line (entry_of e.0 e.1) in
    let old = g.W.Write.contents c.args.answers.now.device in
    let mid = g.W.Write.contents c.loop-index.answers.device in
    let new = g.W.Write.contents c.line.new.out.device in
    let entry = c.unwrap-name.result in
    writes_in_part c.from_residual-in_err-line.ensures.0 (search rules) (search rules)
    (stops_next encoding (image_of c.args.session.now).externals c.loop-index.index (entry.0, entry.1) old mid new
    (sym c.external.ensures ∙ c.unwrap-name.ensures) c.loop-index.invariant.gone
    (subst (λ (s : Symbol). AppendsPrefix mid new (symbol_line s)) c.entry_of.ensures c.in_err-line.ensures.bytes))

pub loop-index-preserved : goal.loop-index-preserved
loop-index-preserved g c =
    let encoding = λ (e : List ℕ × State). symbol_line (entry_of e.0 e.1) in
    let old = g.W.Write.contents c.args.answers.now.device in
    let mid = g.W.Write.contents c.loop-index.answers.device in
    let new = g.W.Write.contents c.line.new.out.device in
    let entry = c.unwrap-name.result in
    record {
      unlatched = search rules;
      gone =
          sent_next encoding (image_of c.args.session.now).externals c.loop-index.index (entry.0, entry.1) old mid new
          (sym c.external.ensures ∙ c.unwrap-name.ensures) c.loop-index.invariant.gone
          (subst (λ (s : Symbol). Appends mid new (symbol_line s)) c.entry_of.ensures c.in_ok-line.ensures.bytes);
    }

pub returns : goal.returns
returns g c =
    let old = g.W.Write.contents c.args.answers.now.device in
    let now = g.W.Write.contents c.loop-index.answers.device in
    record {
      fault = search rules;
      latched = search rules;
      bytes =
          sent_all (λ (e : List ℕ × State). symbol_line (entry_of e.0 e.1))
          (image_of c.args.session.now).externals c.loop-index.index old now (omega arith) c.loop-index.invariant.gone;
    }
