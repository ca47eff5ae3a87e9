-- A writer that passes its bytes on in blocks.
--
-- To write each line to a device would cost a call for each. So bytes wait until a block is full, or until they are flushed.
use Rattle.std.specs.Prelude.{ℕ, List}

-- a device, and the bytes that wait for it
pub record Blocked (W : Type 0) : Type 0 where
  pub device : W
  pub waiting : List ℕ
