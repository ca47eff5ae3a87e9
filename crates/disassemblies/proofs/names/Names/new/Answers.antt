use Rattle.std.proofs.{Common.{rules, List, sym, subst}, lemmas.List.Sorted.{answers_always, list_any-IsPermutation}}
use Rattle.std.specs.List.Sorted.{IsPermutation, IsStableByKey}
use Rattle.aout_core.specs.declared.symbol.Symbol.{Symbol}
use Rattle.disassemblies.specs.internal.Ordered.{key, key_cmp}
use Rattle.disassemblies.proofs.names.Names.new.Goals as goal

pub invariant_of-result : goal.invariant_of-result
invariant_of-result c =
    let ordered : List Symbol = c.sort_by_key.new.self.items in
    let keys = answers_always _ _ _ (λ f a r next called. search rules) in
    let moved = subst (λ (ss : List Symbol). IsPermutation ss ordered) c.in_ok-ordered.ensures.items c.sort_by_key.ensures.permutation in
    record {
      are_ordered = record {
        same = λ p. sym (list_any-IsPermutation p c.args.symbols.now ordered moved);
        sorted = c.in_ok-sort_by_key.ensures.sorted key keys;
        stable =
            subst (λ (ss : List Symbol). IsStableByKey key key_cmp ss ordered) c.in_ok-ordered.ensures.items
            (c.sort_by_key.ensures.stable key keys);
      };
    }
