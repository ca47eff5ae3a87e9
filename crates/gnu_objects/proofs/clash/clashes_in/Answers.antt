use Rattle.std.proofs.Common.{◌≡◌, List, ℕ, None, get_or, rules}
use Rattle.gnu_objects.specs.{Clashes.names_of, internal.AlikeNames.found}
use Rattle.gnu_objects.proofs.ExternalLemmas.{found_more, has_next, no_names}
use Rattle.gnu_objects.proofs.clash.clashes_in.Goals as goal

pub loop-n-init : goal.loop-n-init
loop-n-init c =
    let empty : (q : List ℕ) → found c.new-names.result q ≡ None = λ q. search rules in
    record { has = no_names c.new-names.result empty; left = search rules }

pub loop-n-preserved : goal.loop-n-preserved
loop-n-preserved c =
    let all = c.args.all.now in
    let n : ℕ = c.loop-n.n in
    let e = c.index-all-n.result in
    let at : e ≡ get_or all n e = c.index-all-n.is in
    record {
      has = has_next all n e 0 c.loop-n.names c.put_name.new.names c.loop-n-test.true at c.loop-n.invariant.has
          c.in_ok-put_name.ensures;
      left = found_more all n e (names_of c.loop-n.clashes.items) (names_of c.push_clash.new.clashes.items) c.loop-n-test.true at
          c.in_ok-push_clash.ensures c.loop-n.invariant.left;
    }
