use Rattle.std.proofs.Common.{◌≡◌, ◌+◌, ◌≤◌, ◌<◌, false, length, rules}
use Rattle.link_maps.specs.Records.{is_same_name}
use Rattle.link_maps.proofs.RecordLemmas.{last_of_name, last_use}
use Rattle.link_maps.proofs.groups.uses_of_name.Goals.{then-loop-last-test+else-is_same_name, else-loop-last-test}
use Rattle.link_maps.proofs.groups.uses_of_name.Goals as goal

pub returns-clause-value : goal.returns-clause-value
returns-clause-value c =
    elim c.loop-last-test.branch [
      | then-loop-last-test+else-is_same_name w ↦
          let inside : c.loop-last.last + 1 < length c.args.uses.now = search rules in
          let other : is_same_name w.index-uses-last.result w.index-uses-last-in-loop-last.result ≡ false = search rules in
          last_of_name c.args.uses.now c.loop-last.last c.loop-last.invariant.1 w.index-uses-last.result
          w.index-uses-last-in-loop-last.result inside
          w.index-uses-last.is w.index-uses-last-in-loop-last.is other
      | else-loop-last-test w ↦
          let end : length c.args.uses.now ≤ c.loop-last.last + 1 = search rules in
          last_use c.args.uses.now c.loop-last.last c.loop-last.invariant.1 c.loop-last.invariant.0 end
    ]
