use Rattle.std.proofs.Common.{◌≡◌, ℕ, ◌+◌, ◌-◌, drop, subst, arith}
use Rattle.gnu_objects.specs.internal.AlikeNames.{FindsAlike}
use Rattle.gnu_objects.proofs.AlikeLemmas.{puts_more}
use Rattle.gnu_objects.proofs.alike.NamedSymbols.new.Goals as goal

pub loop-n-preserved : goal.loop-n-preserved
loop-n-preserved c =
    let strings = c.args.strings.now in
    let symbols = c.args.symbols.now in
    let n : ℕ = c.loop-n.n - 1 in
    let back : c.loop-n.n ≡ n + 1 = omega (arith, c.loop-n-test.true) in
    record {
      inside = omega (arith, c.loop-n.invariant.inside);
      finds =
          puts_more strings c.args.externals symbols n _ c.loop-n.names c.put_symbol.new.names
          (omega (arith, c.loop-n-test.true, c.loop-n.invariant.inside)) c.in_ok-put_symbol.ensures
          (subst (λ (m : ℕ). FindsAlike strings c.args.externals m (drop m symbols) c.loop-n.names)
          back c.loop-n.invariant.finds);
    }

pub invariant_of-result : goal.invariant_of-result
invariant_of-result c =
    let end : c.loop-n.n ≡ 0 = omega (arith, c.loop-n-test.false) in
    record {
      finds = subst (λ (m : ℕ). FindsAlike c.args.strings.now c.args.externals m (drop m c.args.symbols.now) c.loop-n.names) end
          c.loop-n.invariant.finds;
    }
