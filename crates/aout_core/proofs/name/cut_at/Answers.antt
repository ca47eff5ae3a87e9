use Rattle.std.proofs.{Common.{◌∷◌, [], ◌∙◌, ltb, ap, replicate, rules, w8}, lemmas.Simd.tops_compared}
use lib.Lanes.{sel_l}
use Rattle.aout_core.proofs.NameLemmas.{lanes_kept}
use Rattle.aout_core.proofs.name.cut_at.Goals as goal

pub returns : goal.returns
returns c =
    ap (λ ms. sel_l ms c.args.bytes (replicate 8 0)) (tops_compared w8 ltb (0 ∷ 1 ∷ 2 ∷ 3 ∷ 4 ∷ 5 ∷ 6 ∷ 7 ∷ []) (replicate 8 c.args.end))
    ∙ lanes_kept c.args.bytes c.args.end (search rules) c.requires
