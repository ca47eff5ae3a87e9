-- Which address of a space is in a segment.
use Rattle.std.proofs.Common.{rules, ◌≡◌, ℕ, ◌+◌, ◌<◌, ◌≤◌, true}
use Rattle.aout_core.specs.{declared.header.Header.Header, declared.symbol.Segment.Segment}
use Rattle.laws.specs.Core.{Space, has_segment, first_address, bytes_of, is_in}

-- what it is to be in a segment
pub record IsWithin (h : Header) (space : Space) (segment : Segment) (address : ℕ) : Type 0 where
  pub has : has_segment h.magic segment space ≡ true
  pub from : first_address h segment ≤ address
  pub before : address < first_address h segment + bytes_of h segment

module _ (h : Header) (space : Space) (segment : Segment) (address : ℕ) where
  -- an address that is in a segment passes the test
  pub within_back : IsWithin h space segment address → is_in h space segment address ≡ true
  within_back w = search rules
