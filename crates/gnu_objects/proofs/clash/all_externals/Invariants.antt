use Rattle.std.proofs.Common.{◌≡◌, ◌++◌, drop, map}
use Rattle.std.specs.List.{flat_map}
use Rattle.gnu_objects.specs.{Clashes.externals_of, internal.Externals.names_in}
use Rattle.gnu_objects.proofs.clash.all_externals.Given as goal

-- the externals so far, and those of the files that are left
abbrev pub invariant-loop-file : goal.invariant-loop-file
invariant-loop-file l =
    names_in l.all.items ++ flat_map externals_of (map (λ f. f.now) (drop l.file l.files))
    ≡ flat_map externals_of (map (λ f. f.now) l.files)
