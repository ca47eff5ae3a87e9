use Rattle.std.proofs.Common.{◌≡◌, ◌+◌, ◌++◌, drop, take}
use Rattle.std.specs.Map.{keys_of}
use Rattle.link_session.specs.internal.Additions.{external_names, new_count}
use Rattle.link_session.proofs.limits.count_again.Given as goal

-- the count so far, and what is left to count
abbrev pub invariant-loop-i : goal.invariant-loop-i
invariant-loop-i l =
    l.count + new_count (keys_of l.externals.entries ++ external_names (take l.i l.symbols)) (drop l.i l.symbols)
    ≡ new_count (keys_of l.externals.entries) l.symbols
