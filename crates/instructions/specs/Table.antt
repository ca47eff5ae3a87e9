-- The table of instructions. (as(1); the handbooks of the PDP-11/70 and of other PDP-11s)
--
-- Read each line aloud: the operands in the order of the text, and then, for each instruction, the word whose fields are all 0 and the
-- operation. Fields has the bits of each operand. The lines are in the order of the assembler's manual, and at their end are those of
-- other machines of the family. What is left out are those for the maintenance of the floating-point processor, 170003 to
-- 170007.
use Rattle.std.specs.Prelude.{ℕ, Option, Some, None, List, [], ◌∷◌, ◌++◌, map}
use Rattle.instructions.specs.declared.operation.Operation.TheVariants.{Clc, Clv, Clz, Cln, Sec, Sev, Sez, Sen, Halt, ClcClv, ClcClz}
use Rattle.instructions.specs.declared.operation.Operation.TheVariants.{ClvClz, ClcClvClz, ClcCln, ClvCln, ClcClvCln, ClzCln, ClcClzCln}
use Rattle.instructions.specs.declared.operation.Operation.TheVariants.{ClvClzCln, SecAndSev, SecSev, SecSez, SevSez, SecSevSez, SecSen}
use Rattle.instructions.specs.declared.operation.Operation.TheVariants.{SevSen, SecSevSen, SezSen, SecSezSen, SevSezSen, Wait, Rti, Bpt}
use Rattle.instructions.specs.declared.operation.Operation.TheVariants.{Iot, Reset, Rtt, Nop, Ccc, Scc, Cfcc, Setf, Seti, Setd, Setl, Jmp}
use Rattle.instructions.specs.declared.operation.Operation.TheVariants.{Swab, Clr, Clrb, Com, Comb, Inc, Incb, Dec, Decb, Neg, Negb, Adc}
use Rattle.instructions.specs.declared.operation.Operation.TheVariants.{Adcb, Sbc, Sbcb, Tst, Tstb, Ror, Rorb, Rol, Rolb, Asr, Asrb, Asl}
use Rattle.instructions.specs.declared.operation.Operation.TheVariants.{Aslb, Sxt, Mfpi, Mtpi, Mfpd, Mtpd, Ldfps, Stfps, Stst, Mov, Movb}
use Rattle.instructions.specs.declared.operation.Operation.TheVariants.{Cmp, Cmpb, Bit, Bitb, Bic, Bicb, Bis, Bisb, Add, Sub, Jsr, Xor, Mul}
use Rattle.instructions.specs.declared.operation.Operation.TheVariants.{Div, Ash, Ashc, Rts, Br, Bne, Beq, Bge, Blt, Bgt, Ble, Bpl, Bmi}
use Rattle.instructions.specs.declared.operation.Operation.TheVariants.{Bhi, Blos, Bvc, Bvs, Bcc, Bcs, Sob, Sys, Emt, Mark, Spl, Clrf, Tstf}
use Rattle.instructions.specs.declared.operation.Operation.TheVariants.{Absf, Negf, Mulf, Modf, Addf, Movf, Subf, Cmpf, Divf, Movof, Movfo}
use Rattle.instructions.specs.declared.operation.Operation.TheVariants.{Movei, Movfi, Movie, Movif, Mfpt, Csm, Tstset, Wrtlck, Mtps, Mfps}
use Rattle.instructions.specs.declared.operation.Operation.TheVariants.{Fadd, Fsub, Fmul, Fdiv, Commercial}
use Rattle.instructions.specs.{declared.field.Field.Field, declared.operation.Operation.Operation, declared.table.Row.Row}
use Rattle.instructions.specs.declared.field.Field.TheVariants as fields

-- the rows of instructions with these operands
abbrev pub rows_with : Option Field → Option Field → List (ℕ × Operation) → List Row
rows_with first second entries = map (λ e. record { operation = e.1; base = e.0; first = first; second = second }) entries

abbrev pub table : List Row
table =
    rows_with None None ((0o000241, Clc) ∷ (0o000242, Clv) ∷ (0o000244, Clz) ∷ (0o000250, Cln) ∷ (0o000261, Sec) ∷
    (0o000262, Sev) ∷ (0o000264, Sez) ∷ (0o000270, Sen) ∷ [])
    ++ rows_with None None (
    (0o000243, ClcClv) ∷ (0o000245, ClcClz) ∷ (0o000246, ClvClz) ∷ (0o000247, ClcClvClz) ∷ (0o000251, ClcCln) ∷
    (0o000252, ClvCln) ∷ (0o000253, ClcClvCln) ∷ (0o000254, ClzCln) ∷ (0o000255, ClcClzCln) ∷ (0o000256, ClvClzCln) ∷ [])
    ++ rows_with None None (
    (0o000260, SecAndSev) ∷ (0o000263, SecSev) ∷ (0o000265, SecSez) ∷ (0o000266, SevSez) ∷ (0o000267, SecSevSez) ∷
    (0o000271, SecSen) ∷ (0o000272, SevSen) ∷ (0o000273, SecSevSen) ∷ (0o000274, SezSen) ∷ (0o000275, SecSezSen) ∷
    (0o000276, SevSezSen) ∷ [])
    ++ rows_with None None ((0o000000, Halt) ∷ (0o000001, Wait) ∷ (0o000002, Rti) ∷ (0o000003, Bpt) ∷ (0o000004, Iot) ∷
    (0o000005, Reset) ∷ (0o000006, Rtt) ∷ (0o000240, Nop) ∷ (0o000257, Ccc) ∷ (0o000277, Scc) ∷ [])
    ++ rows_with None None ((0o170000, Cfcc) ∷ (0o170001, Setf) ∷ (0o170002, Seti) ∷ (0o170011, Setd) ∷ (0o170012, Setl) ∷ [])
    ++ rows_with (Some fields.Destination) None ((0o000100, Jmp) ∷ (0o000300, Swab) ∷ [])
    ++ rows_with (Some fields.Destination) None ((0o005000, Clr) ∷ (0o105000, Clrb) ∷ (0o005100, Com) ∷
    (0o105100, Comb) ∷ (0o005200, Inc) ∷ (0o105200, Incb) ∷ (0o005300, Dec) ∷ (0o105300, Decb) ∷ [])
    ++ rows_with (Some fields.Destination) None ((0o005400, Neg) ∷ (0o105400, Negb) ∷ (0o005500, Adc) ∷
    (0o105500, Adcb) ∷ (0o005600, Sbc) ∷ (0o105600, Sbcb) ∷ (0o005700, Tst) ∷ (0o105700, Tstb) ∷ [])
    ++ rows_with (Some fields.Destination) None ((0o006000, Ror) ∷ (0o106000, Rorb) ∷ (0o006100, Rol) ∷
    (0o106100, Rolb) ∷ (0o006200, Asr) ∷ (0o106200, Asrb) ∷ (0o006300, Asl) ∷ (0o106300, Aslb) ∷ (0o006700, Sxt) ∷ [])
    ++ rows_with (Some fields.Destination) None ((0o006500, Mfpi) ∷ (0o006600, Mtpi) ∷ (0o106500, Mfpd) ∷ (0o106600, Mtpd) ∷ [])
    ++ rows_with (Some fields.Destination) None ((0o170100, Ldfps) ∷ (0o170200, Stfps) ∷ (0o170300, Stst) ∷ [])
    ++ rows_with (Some fields.Source) (Some fields.Destination)
    ((0o010000, Mov) ∷ (0o110000, Movb) ∷ (0o020000, Cmp) ∷ (0o120000, Cmpb) ∷ (0o030000, Bit) ∷ (0o130000, Bitb) ∷ [])
    ++ rows_with (Some fields.Source) (Some fields.Destination)
    ((0o040000, Bic) ∷ (0o140000, Bicb) ∷ (0o050000, Bis) ∷ (0o150000, Bisb) ∷ (0o060000, Add) ∷ (0o160000, Sub) ∷ [])
    ++ rows_with (Some fields.Register) (Some fields.Destination) ((0o004000, Jsr) ∷ (0o074000, Xor) ∷ [])
    ++ rows_with (Some fields.Destination) (Some fields.Register)
    ((0o070000, Mul) ∷ (0o071000, Div) ∷ (0o072000, Ash) ∷ (0o073000, Ashc) ∷ [])
    ++ rows_with (Some fields.LowRegister) None ((0o000200, Rts) ∷ [])
    ++ rows_with (Some fields.Forward) None ((0o000400, Br) ∷ (0o001000, Bne) ∷ (0o001400, Beq) ∷ (0o002000, Bge) ∷
    (0o002400, Blt) ∷ (0o003000, Bgt) ∷ (0o003400, Ble) ∷ [])
    ++ rows_with (Some fields.Forward) None ((0o100000, Bpl) ∷ (0o100400, Bmi) ∷ (0o101000, Bhi) ∷ (0o101400, Blos) ∷
    (0o102000, Bvc) ∷ (0o102400, Bvs) ∷ (0o103000, Bcc) ∷ (0o103400, Bcs) ∷ [])
    ++ rows_with (Some fields.Register) (Some fields.Backward) ((0o077000, Sob) ∷ [])
    ++ rows_with (Some fields.Byte) None ((0o104400, Sys) ∷ [])
    ++ rows_with (Some fields.Byte) None ((0o104000, Emt) ∷ [])
    ++ rows_with (Some fields.SixBits) None ((0o006400, Mark) ∷ [])
    ++ rows_with (Some fields.ThreeBits) None ((0o000230, Spl) ∷ [])
    ++ rows_with (Some fields.Floating) None ((0o170400, Clrf) ∷ (0o170500, Tstf) ∷ (0o170600, Absf) ∷ (0o170700, Negf) ∷ [])
    ++ rows_with (Some fields.Floating) (Some fields.Accumulator) ((0o171000, Mulf) ∷ (0o171400, Modf) ∷
    (0o172000, Addf) ∷ (0o172400, Movf) ∷ (0o173000, Subf) ∷ (0o173400, Cmpf) ∷ (0o174400, Divf) ∷ (0o177400, Movof) ∷ [])
    ++ rows_with (Some fields.Accumulator) (Some fields.Floating) ((0o174000, Movf) ∷ (0o176000, Movfo) ∷ [])
    ++ rows_with (Some fields.Accumulator) (Some fields.Destination) ((0o175000, Movei) ∷ (0o175400, Movfi) ∷ [])
    ++ rows_with (Some fields.Destination) (Some fields.Accumulator) ((0o176400, Movie) ∷ (0o177000, Movif) ∷ [])
    ++ rows_with None None ((0o000007, Mfpt) ∷ [])
    ++ rows_with (Some fields.Destination) None
    ((0o007000, Csm) ∷ (0o007200, Tstset) ∷ (0o007300, Wrtlck) ∷ (0o106400, Mtps) ∷ (0o106700, Mfps) ∷ [])
    ++ rows_with (Some fields.LowRegister) None ((0o075000, Fadd) ∷ (0o075010, Fsub) ∷ (0o075020, Fmul) ∷ (0o075030, Fdiv) ∷ [])
    ++ rows_with (Some fields.NineBits) None ((0o076000, Commercial) ∷ [])
