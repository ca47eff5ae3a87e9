use Rattle.std.proofs.Common.{ℕ, List, ◌++◌, length, drop, replicate, ap, ◌∙◌}
use Rattle.aout_core.specs.Names.{padded}
use Rattle.link_maps.proofs.PaddedLemmas.{padded_name}
use Rattle.link_maps.proofs.records.padded.Goals as goal

pub returns : goal.returns
returns c =
    let text = c.as_bytes-text.result.now in
    ap (λ (l : List ℕ). l ++ drop (length text) (replicate 8 0)) c.copy_from_slice.ensures.after
    ∙ padded_name text c.as_bytes-text.ensures.short
    ∙ ap padded c.as_bytes-text.ensures.value
