use Rattle.std.proofs.Common.{◌≡◌, ℕ, List, Some, cond, take, nat_eq, refl, ap, ◌∙◌, rules}
use Rattle.std.specs.Cmp.Lexicographic.{pointwise}
use Rattle.indexmap.specs.IndexMap.{get}
use Rattle.gnu_objects.specs.declared.alike.Equals.{Equals}
use Rattle.gnu_objects.proofs.AlikeLemmas.{puts_name}
use Rattle.gnu_objects.proofs.alike.put_name.Goals as goal

pub returns : goal.returns
returns c =
    let name : List ℕ = c.args.name.now in
    let copied : c.extend_from_slice.new.self.items ≡ name = search rules in
    let e : Equals = record { name = c.extend_from_slice.new.self; number = c.args.number; other = c.found.result } in
    puts_name name c.args.number e c.args.names.now c.insert.new.self copied refl c.found.ensures
    (λ (k : List ℕ). c.in_ok-insert.ensures.updates.0 k
    ∙ ap (λ (key : List ℕ). cond (pointwise nat_eq key k) (Some e) (get (pointwise nat_eq) c.args.names.now k))
    (c.from_bytes.ensures ∙ ap (take 8) c.requires))
