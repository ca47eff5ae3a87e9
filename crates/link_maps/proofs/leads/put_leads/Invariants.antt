use Rattle.std.proofs.Common.{◌≡◌, ◌++◌, drop}
use Rattle.std.specs.List.{flat_map}
use Rattle.aout_core.specs.Placed.{placed_from, words_of}
use Rattle.link_maps.specs.Leads.{lead_at, leads_of}
use Rattle.link_maps.proofs.leads.put_leads.Given as goal

-- the words so far, and those that are left
abbrev pub invariant-loop-number : goal.invariant-loop-number
invariant-loop-number l =
    l.found.items ++ flat_map (lead_at l.starts l.file) (placed_from l.file l.part l.number (drop l.number (words_of l.file l.part)))
    ≡ l.initial.found.items ++ leads_of l.starts l.file l.part
