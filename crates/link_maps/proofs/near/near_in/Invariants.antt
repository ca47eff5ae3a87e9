use Rattle.std.proofs.Common.{◌≡◌, ◌++◌, drop}
use Rattle.link_maps.specs.Leads.{near_among}
use Rattle.link_maps.proofs.near.near_in.Given as goal

-- the words so far, and those that are left
abbrev pub invariant-loop-lead : goal.invariant-loop-lead
invariant-loop-lead l =
    l.found.items ++ near_among l.labels.names.symbols.now (drop l.lead-index l.leads) ≡ near_among l.labels.names.symbols.now l.leads
