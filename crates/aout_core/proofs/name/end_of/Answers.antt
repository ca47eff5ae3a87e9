use Rattle.std.proofs.Common.{◌≡◌, eqb, length, sym, ap, ◌∙◌, arith, rules, w8}
use Rattle.std.proofs.lemmas.Simd.{bitmask_splat, leading_from_mask_l, trailing_mask_l}
use lib.Count.{count_trailing_zeros}
use Rattle.aout_core.proofs.NameLemmas.{position_or_len-nul}
use Rattle.aout_core.proofs.name.end_of.Goals as goal

pub returns-then-nuls-eq0 : goal.returns-then-nuls-eq0
returns-then-nuls-eq0 c =
    let bytes = c.args.bytes in
    let long : length bytes ≡ 8 = search rules in
    let hits = bitmask_splat w8 eqb bytes 8 0 long (omega arith) in
    sym (leading_from_mask_l (λ x. eqb x 0) bytes (sym hits ∙ c.if-nuls-eq0.true) ∙ long) ∙ position_or_len-nul bytes

pub returns-else-nuls-eq0 : goal.returns-else-nuls-eq0
returns-else-nuls-eq0 c =
    let bytes = c.args.bytes in
    let long : length bytes ≡ 8 = search rules in
    let hits = bitmask_splat w8 eqb bytes 8 0 long (omega arith) in
    ap (count_trailing_zeros 64) hits ∙ trailing_mask_l (λ x. eqb x 0) 64 bytes (omega arith) (omega arith) ∙ position_or_len-nul bytes
