-- The segment with a number.
use Rattle.std.proofs.{Common.{ℕ, zero, suc, Bool, true, false, eqb, sym, subst, arith}, lemmas.Bool.ne_eqb}
use Rattle.aout_core.specs.declared.symbol.Segment.TheVariants.{Undefined, Absolute, TextSeg, DataSeg, BssSeg, Other}
use Rattle.aout_core.specs.{declared.symbol.Segment.Segment, WellFormed.segment_numbered}

-- what holds of each segment holds of the one with a number, where 0 alone is the number of no definition
pub by_number : (P : Bool → Segment → Type 0) → P true Undefined → P false Absolute → P false TextSeg →
    P false DataSeg → P false BssSeg → P false Other → (n : ℕ) → P (eqb n 0) (segment_numbered n)
by_number P undefined absolute text datas bss other zero = undefined
by_number P undefined absolute text datas bss other (suc zero) = absolute
by_number P undefined absolute text datas bss other (suc (suc zero)) = text
by_number P undefined absolute text datas bss other (suc (suc (suc zero))) = datas
by_number P undefined absolute text datas bss other (suc (suc (suc (suc zero)))) = bss
by_number P undefined absolute text datas bss other (suc (suc (suc (suc (suc n))))) =
    subst (λ (t : Bool). P t Other) (sym (ne_eqb (suc (suc (suc (suc (suc n))))) 0 (λ e. omega arith))) other
