use Rattle.std.proofs.Common.{◌≡◌, ◌++◌, drop, false}
use Rattle.libv7.specs.{Items.{each, each_from, named}, SessionJson.external_item}
use Rattle.libv7.proofs.session_json.put_externals.Given as goal

-- what is there, with the items that are left, makes the whole
abbrev pub invariant-loop-index : goal.invariant-loop-index
invariant-loop-index l =
    l.text.is_cut ≡ false → (l.initial.text.is_cut ≡ false)
    × (l.initial.text.bytes ++ each external_item (named l.session)
    ≡ l.text.bytes ++ each_from external_item l.index (drop l.index (named l.session)))
