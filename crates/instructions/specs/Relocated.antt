-- Which words a link changes. (a.out(5))
use Rattle.std.specs.Prelude.{◌%◌, Bool, false, not, eqb, Option, Some, None}
use Rattle.aout_core.specs.declared.reloc.Reloc.{Reloc}

-- the word of this relocation word is relocated: its low four bits are not all 0
abbrev pub is_relocated : Option Reloc → Bool
is_relocated None = false
is_relocated (Some r) = not (eqb (r.0 % 0o20) 0)
