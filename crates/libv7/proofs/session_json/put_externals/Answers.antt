use Rattle.std.proofs.Common.{◌++◌, ◌∙◌, sym}
use Rattle.libv7.specs.{Items.{each, named}, SessionJson.external_item}
use Rattle.libv7.proofs.ItemLemmas.{one_more_at}
use Rattle.libv7.proofs.session_json.put_externals.Goals as goal

pub loop-index-preserved : goal.loop-index-preserved
loop-index-preserved c =
    let es = named c.args.session.now in
    λ whole.
    let put = c.put_external.ensures whole in
    let so_far = c.loop-index.invariant put.0 in (
      so_far.0,
      one_more_at external_item es c.loop-index.index (c.unwrap-name.result.0, c.unwrap-name.result.1)
          (c.args.text.now.bytes ++ each external_item es) c.loop-index.text.bytes c.put_external.new.text.bytes
          (sym c.external.ensures ∙ c.unwrap-name.ensures) so_far.1 put.1,
    )
