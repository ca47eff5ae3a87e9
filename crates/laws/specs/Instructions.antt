-- Linking preserves instructions. (ld(1), the handbook of the PDP-11/70)
--
-- If a link does not change the first word of an instruction, and that is not cut, the linked file has the same instruction in its place:
-- the same operation, modes, registers and numbers. An operand word may be another one, and is then the word that relocation makes of it.
use Rattle.std.specs.{Prelude.{◌≡◌, ℕ, ◌+◌, ◌/◌, false, List, ◌∷◌, ◌++◌, drop, Some, slice_get}, List.AllByRecursion}
use Rattle.aout_core.specs.{declared.symbol.Symbol.Symbol, declared.symbol.Segment.TheVariants.TextSeg, declared.reloc.Reloc.Reloc}
use Rattle.aout_core.specs.{Contents.Contents, Contents.IsWord}
use Rattle.link_session.specs.{Starts.total, Sessions.IsObject}
use Rattle.tool_options.specs.Choices.{Choices}
use Rattle.link_out.specs.Results.{Outcome}
use Rattle.laws.specs.{relation.Relocated.IsRelocated, relation.LinkedFrom.IsLinkedFrom}
use Rattle.instructions.specs.{Alike.{AlikeLine, is_cut}, Instructions.instruction_of, Lines.line_of, Relocated.is_relocated}

-- word i of the text of k is w; the file has v in its place, which is what relocation makes of w
pub record IsLinkedWord (file : Contents) (rows : List Symbol) (os before : List Contents) (k : Contents) (i w v : ℕ) : Type 0 where
  pub reloc : Reloc
  pub word : slice_get k.text_words i ≡ Some w
  pub at : slice_get k.text_reloc i ≡ Some reloc
  pub is : IsRelocated file rows os before k TextSeg i w reloc
  pub there : slice_get file.text_words (total TextSeg before / 2 + i) ≡ Some v

-- the file has that first word i words after the text of k begins in it, and the same instruction there
pub record KeepsLineAt (file : Contents) (rows : List Symbol) (os before : List Contents) (k : Contents) (i w : ℕ)
    (following : List ℕ) : Type 0 where
  pub more : List ℕ
  pub there : drop (total TextSeg before / 2 + i) file.text_words ≡ w ∷ more
  pub alike : AlikeLine (IsLinkedWord file rows os before k) i (line_of (instruction_of w) w following) (line_of (instruction_of w) w more)

-- wherever an instruction begins in the text of k, if its first word is not relocated and it is not cut, it is in the file; nothing is
-- asked of any other word
abbrev pub InstructionsAreThere : Type 0
InstructionsAreThere = (forced : List (List ℕ)) (before : List Contents) (k : Contents) (after : List Contents) (o : Choices)
    (x : Outcome) → AllByRecursion IsObject (before ++ k ∷ after) → AllByRecursion IsWord k.text_words →
    (l : IsLinkedFrom forced (before ++ k ∷ after) o x) →
    (i w : ℕ) (following : List ℕ) → drop i k.text_words ≡ w ∷ following → is_relocated (slice_get k.text_reloc i) ≡ false →
    is_cut (instruction_of w) following ≡ false → KeepsLineAt x.file l.rows (before ++ k ∷ after) before k i w following
