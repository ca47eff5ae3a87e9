use Rattle.std.proofs.Common.{◌≡◌, ◌-◌, ◌*◌, ◌/◌, [], length}
use Rattle.libv7.specs.LinkRequests.{with_names}
use Rattle.libv7.proofs.requests.forced_names.Given as goal

-- the names so far, with those of the bytes that are left, make the whole
abbrev pub invariant-loop-i : goal.invariant-loop-i
invariant-loop-i l =
    (length l.rest ≡ 8 * (length l.bytes / 8 - l.i))
    × (with_names (length l.bytes / 8) 0 [] l.bytes ≡ with_names (length l.bytes / 8 - l.i) l.i l.forced l.rest)
