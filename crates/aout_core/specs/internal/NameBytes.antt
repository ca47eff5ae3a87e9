-- A name in the eight bytes that the code keeps.
use Rattle.std.specs.Prelude.{◌≡◌, ℕ, List}
use Rattle.std.proofs.Common.{ap}
use Rattle.aout_core.specs.{declared.name.Name.TheInside.Inside, Names.before_nul, Names.padded}

-- the eight bytes are the padded name if only NULs follow a NUL
pub from_padded : (a : Inside) → padded (before_nul a.padded_bytes) ≡ a.padded_bytes →
    (let b : Inside = record { padded_bytes = padded (before_nul a.padded_bytes) } in b) ≡ a
from_padded a e = ap (λ (bytes : List ℕ). let b : Inside = record { padded_bytes = bytes } in b) e
