-- The law of instructions at sure places, at a sample, and without its premise.
use Rattle.std.proofs.Common.{◌≡◌, ◌≢◌, ℕ, ◌+◌, ◌*◌, ◌/◌, false, true, List, [], ◌∷◌, ◌++◌, drop, Option, Some, inl, refl, arith}
use Rattle.std.specs.{Prelude.Ok, Prelude.slice_get, List.AllByRecursion}
use Rattle.aout_core.specs.{declared.symbol.Symbol.Symbol, declared.symbol.Segment.TheVariants.TextSeg, declared.reloc.Reloc.Reloc}
use Rattle.aout_core.specs.{Contents.Contents, Words.plus, WellFormed.kind_of, WellFormed.symbol_number}
use Rattle.aout_core.specs.declared.reloc.Kind.TheVariants as kinds
use Rattle.link_session.specs.{Starts.total, Sessions.IsObject}
use Rattle.tool_options.specs.{declared.options.Keep.TheVariants.Nothing, Choices.Choices}
use Rattle.link_out.specs.{Results.Outcome, function.Link.link}
use Rattle.laws.specs.{relation.Relocated.entry_of}
use Rattle.laws.specs.{OperandWords.machine_value, OperandPlaces.{addressing_of, IsOperand}, ReachedInstructions.KeepsInstruction}
use Rattle.instructions.specs.{declared.mode.Addressing.Addressing, declared.mode.Addressing.TheVariants.Relative}
use Rattle.instructions.specs.{Alike.is_cut, UnixLines.call_of}
use Rattle.instructions.specs.{declared.operation.Operation.TheVariants.{Mov, Jsr}, declared.mode.Mode.TheVariants.{Direct, Index}}
use Rattle.instructions.specs.{declared.operand.Operand.Operand, declared.operand.Operand.TheVariants.{General, Register}}
use Rattle.instructions.specs.{declared.instruction.Instruction.Instruction, Rows.{begins, row_of}, Instructions.instruction_of}
use Rattle.instructions.specs.declared.field.Field.TheVariants as fields
use Rattle.instructions.specs.declared.mode.Register.TheVariants as registers
use Rattle.checks.specs.{declared.evidence.Evidence.Evidence, declared.evidence.Evidence.TheVariants.Promise, Trust.is_sure}
use Rattle.checks.specs.{Suspicions.suspicions, SureLaw.NoneIsSure}
use Rattle.laws.proofs.ReachedInstructionLemmas.{reached_instructions_kept}
use Rattle.laws.proofs.examples.Samples.{sym as entry, object, _f, _count, b_o, main_o, twice_o, count_o, plain}
use Rattle.laws.proofs.examples.MachineExamples.{forward, all_good, main_linked, count_good}
use Rattle.laws.proofs.examples.{ClauseLemmas.as_object, NearLaws.different, NeededPremises.all_kept, NeededPremises.link_of}

-- nothing is suspicious in `main.o`, if all of its text is instructions, as from its symbol on

main_is_sure : NoneIsSure (suspicions Promise main_o)
unfolding row_of begins call_of
main_is_sure = tt

call_is_sure : is_sure Promise main_o 2 ≡ true
unfolding row_of begins call_of
call_is_sure = refl

abbrev call : Instruction
call = record {
  row = record { operation = Jsr; base = 0o4000; first = Some fields.Register; second = Some fields.Destination };
  first = Some (Register registers.Pc);
  second = Some (General Index registers.Pc);
}

-- so the call is in the program, with what its relocation word says
reached_instruction_says : KeepsInstruction plain (link_of forward plain) main_linked.rows forward [] main_o 2 0o4767 (0o177770 ∷ 0o207 ∷ []) call
unfolding row_of begins
reached_instruction_says =
    reached_instructions_kept [] [] main_o (twice_o ∷ count_o ∷ []) plain (link_of forward plain) all_good
    (omega arith, (omega arith, (omega arith, (omega arith, (omega arith, tt))))) Promise main_is_sure main_linked
    2 call_is_sure 0o4767 (0o177770 ∷ 0o207 ∷ []) refl call refl refl

-- without the premise: an operand word whose pc bit was forgotten refers to a name, and finds another place in the program
abbrev forgotten_o : Contents
forgotten_o =
    object (0o16700 ∷ 0o177774 ∷ 0o207 ∷ []) (0 ∷ 0o30 ∷ 0 ∷ []) [] [] 0 (entry _f 0o42 0 ∷ entry _count 0o40 0 ∷ [])

-- an operand that refers to a name is as far beyond its value as in the object
abbrev FindsItsName : (Contents → Type 0) → Type 0
FindsItsName Premise =
    (forced : List (List ℕ)) (before : List Contents) (k : Contents) (after : List Contents) (o : Choices) (x : Outcome) →
    AllByRecursion IsObject (before ++ k ∷ after) → Premise k → o.keep ≢ Nothing → o.relocatable ≡ false →
    link forced (before ++ k ∷ after) o ≡ Ok x →
    (e : Evidence) (i : ℕ) → is_sure e k i ≡ true → (w : ℕ) (following : List ℕ) → drop i k.text_words ≡ w ∷ following →
    (instruction : Instruction) → instruction_of w ≡ Some instruction → is_cut (instruction_of w) following ≡ false →
    (operand : Option Operand) (p : ℕ) → IsOperand instruction i operand p → (a : Addressing) → addressing_of operand ≡ Some a →
    (u word : ℕ) (r : Reloc) (s row : Symbol) → slice_get k.text_words p ≡ Some u → slice_get k.text_reloc p ≡ Some r →
    kind_of r ≡ Some kinds.External → slice_get k.symbols (symbol_number r) ≡ Some s → entry_of x.file.symbols s.name ≡ Some row →
    slice_get x.file.text_words (total TextSeg before / 2 + p) ≡ Some word →
    machine_value a (total TextSeg before + 2 * p + 2) word ≡ plus row.value (machine_value a (2 * p + 2) u)

abbrev fetch : Instruction
fetch = record {
  row = record { operation = Mov; base = 0o10000; first = Some fields.Source; second = Some fields.Destination };
  first = Some (General Index registers.Pc);
  second = Some (General Direct registers.R0);
}

reached_instruction_needs_nothing_suspicious : FindsItsName (λ k. Unit {0}) → ⊥
unfolding row_of begins call_of
reached_instruction_needs_nothing_suspicious law =
    different 10 8 refl
    (law [] (b_o ∷ []) forgotten_o (count_o ∷ []) plain (link_of (b_o ∷ forgotten_o ∷ count_o ∷ []) plain) (
      as_object b_o refl refl refl refl refl refl refl refl,
      (as_object forgotten_o refl refl refl refl refl refl refl refl, (count_good, tt)),
    ) tt all_kept refl refl
    Promise 0 refl 0o16700 (0o177774 ∷ 0o207 ∷ []) refl fetch refl refl
    (Some (General Index registers.Pc)) 1 (inl (refl, refl)) Relative refl
    0o177774 4 (record { 0 = 0o30 }) (entry _count 0o40 0) (entry _count 0o43 8) refl refl refl refl refl refl)

-- and this is reported
forgotten_is_reported : NoneIsSure (suspicions Promise forgotten_o) → ⊥
unfolding row_of begins call_of
forgotten_is_reported none = let e : true ≡ false = none.0 in absurd cc
