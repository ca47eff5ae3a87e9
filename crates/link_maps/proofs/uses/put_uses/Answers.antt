use Rattle.std.proofs.Common.{◌≡◌, ℕ, ◌+◌, List, ◌∷◌, ◌++◌, drop, sym, ap, ◌∙◌, append_assoc}
use Rattle.std.proofs.lemmas.List.{drop_more}
use Rattle.aout_core.specs.{Contents.Contents, declared.symbol.Symbol.Symbol}
use Rattle.disassemblies.specs.Starts.{starts}
use Rattle.instructions.specs.declared.unix.Decoder.TheVariants.{Unix}
use Rattle.link_maps.specs.Uses.{Use, use_by, uses_by}
use Rattle.link_maps.proofs.uses.put_uses.Goals as goal

pub loop-number-preserved : goal.loop-number-preserved
loop-number-preserved c =
    let o : Contents = c.args.file.now in
    let n : ℕ = c.loop-number.number in
    let s : Symbol = c.symbol-item.result in
    let symbols : List Symbol = c.symbols-symbol-items.result.now in
    let before : List Use = c.loop-number.uses.items in
    let after : List Use = uses_by c.args.object (starts Unix o) o (n + 1) (drop (n + 1) symbols) in
    let left : drop n symbols ≡ s ∷ drop (n + 1) symbols =
    drop_more symbols n s c.loop-number-test.true ∙ ap (λ (x : Symbol). x ∷ drop (n + 1) symbols) (sym c.symbol-item.is) in
    ap (λ (us : List Use). us ++ after) c.in_ok-put_use.ensures
    ∙ append_assoc before (use_by c.args.object (starts Unix c.in_ok-lined.lined) c.in_ok-lined.lined n s) after
    ∙ ap (λ (l : Contents). before ++ (use_by c.args.object (starts Unix l) l n s ++ after)) c.in_ok-lined.ensures
    ∙ ap (λ (ss : List Symbol). before ++ uses_by c.args.object (starts Unix o) o n ss) (sym left)
    ∙ c.loop-number.invariant
