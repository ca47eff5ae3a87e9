use Rattle.std.proofs.Common.{◌≡◌, ◌∙◌, ℕ, ◌+◌, List, [], ◌∷◌, ◌++◌, length, drop, ap, sym, subst, rules}
use Rattle.std.proofs.lemmas.List.{append-nil, drop_more}
use Rattle.aout_core.specs.declared.symbol.Symbol.{Symbol}
use Rattle.texts.specs.Lines.{text_of}
use Rattle.listings.specs.Listing.{IsSymbolLine}
use Rattle.listings.proofs.WriteLemmas.{symbols_step, symbols_last, put_step}
use Rattle.listings.proofs.write.put_symbols.Goals as goal

pub loop-symbol-preserved : goal.loop-symbol-preserved
loop-symbol-preserved g c = (
  ap (λ (n : ℕ). n + 1) c.loop-symbol.invariant.0,
  λ rest are uncut.
      let i = c.loop-symbol.symbol-index in
      let s = c.symbol-item.result in
      let put = c.put_symbol.ensures uncut in
      let l = put.1.1.0 in
      let line : IsSymbolLine i s l = subst (λ (n : ℕ). IsSymbolLine n s l) c.loop-symbol.invariant.0 put.1.1.1 in
      let so_far = c.loop-symbol.invariant.1 (l ∷ rest)
      (symbols_step i s c.args.symbols.now l rest (drop_more c.args.symbols.now i _ c.loop-symbol-test.true
      ∙ ap (λ (x : Symbol). x ∷ drop (i + 1) c.args.symbols.now) (sym c.symbol-item.is)) line are) put.0 in (
        so_far.0,
        (
          so_far.1.0,
          so_far.1.1,
          put_step c.args.text.now.bytes c.loop-symbol.text.bytes c.put_symbol.new.text.bytes (text_of so_far.1.0) (l ∷ []) rest
              (put.1.2 ∙ ap (λ (y : List (List ℕ)). c.loop-symbol.text.bytes ++ text_of y) put.1.1.2) so_far.1.2,
        ),
      ),
)

pub returns : goal.returns
returns g c =
    let end : c.loop-symbol.symbol-index ≡ length c.args.symbols.now = search rules in
    λ uncut.
    let so_far = c.loop-symbol.invariant.1 [] (symbols_last c.loop-symbol.symbol-index c.args.symbols.now end) uncut in
    (so_far.0, (so_far.1.0, so_far.1.1, sym (append-nil c.loop-symbol.text.bytes) ∙ so_far.1.2))
