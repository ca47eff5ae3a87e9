use Rattle.std.proofs.Common.{◌≡◌, ◌++◌, drop, false}
use Rattle.link_session.specs.Sessions.{newest}
use Rattle.libv7.specs.{Items.{each, each_from, named}, SessionJson.mark_item}
use Rattle.libv7.proofs.session_json.put_marks.Given as goal

-- what is there, with the items that are left, makes the whole
abbrev pub invariant-loop-index : goal.invariant-loop-index
invariant-loop-index l =
    l.text.is_cut ≡ false → (l.initial.text.is_cut ≡ false)
    × (l.initial.text.bytes ++ each (mark_item (named l.session)) (newest l.session.journal)
    ≡ l.text.bytes ++ each_from (mark_item (named l.session)) l.index (drop l.index (newest l.session.journal)))
