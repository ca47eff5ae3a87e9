-- Names padded in eight bytes.
use Rattle.std.proofs.Common.{◌≡◌, ℕ, ◌+◌, ◌-◌, ◌≤◌, List, ◌++◌, length, take, drop, replicate, sym, ap, ◌∙◌, arith}
use Rattle.std.proofs.{lemmas.List.drop-replicate, lemmas.List.take-replicate, Math.Seq.take-append-add}
use Rattle.aout_core.specs.Names.{padded}

-- a name of at most eight bytes at the beginning of eight NULs
pub padded_name : (name : List ℕ) → length name ≤ 8 → name ++ drop (length name) (replicate 8 0) ≡ padded name
padded_name name h =
    let split : length name + (8 - length name) ≡ 8 = omega arith in
    let same : drop (length name) (replicate 8 0) ≡ take (8 - length name) (replicate 8 0) =
    drop-replicate (length name) 8 0 ∙ sym (take-replicate (8 - length name) 8 0 (omega arith)) in
    ap (λ l. name ++ l) same ∙ sym (take-append-add name (replicate 8 0) (8 - length name)) ∙ ap (λ k. take k (name ++ replicate 8 0)) split
