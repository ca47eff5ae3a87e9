-- When two texts decode alike: line by line the same operations, modes, registers and numbers, with other operand words.
use Rattle.std.specs.Prelude.{◌≡◌, ℕ, zero, suc, ◌+◌, Bool, false, nat_lt, Option, Some, None, List, [], ◌∷◌, length, drop}
use Rattle.instructions.specs.{Instructions.{instruction_of, word_count_of, following_words}, declared.instruction.Instruction.Instruction}
use Rattle.instructions.specs.{declared.line.Line.Line, declared.line.Line.TheVariants.{Plain, Decoded}, Lines.{line_of, line_length}}

-- the operand word at a place, if there is one, and what is there in the other text
abbrev pub AlikeWords : (ℕ → ℕ → ℕ → Type 0) → ℕ → Option ℕ → Option ℕ → Type 0
AlikeWords P place None None = Unit {0}
AlikeWords P place (Some w) (Some v) = P place w v
AlikeWords P place _ _ = ⊥

-- the line at a place, and what is there in the other text
abbrev pub AlikeLine : (ℕ → ℕ → ℕ → Type 0) → ℕ → Line → Line → Type 0
AlikeLine P place (Plain w) (Plain v) = v ≡ w
AlikeLine P place (Decoded i a b) (Decoded j c d) =
    (j ≡ i) × AlikeWords P (place + 1) a c × AlikeWords P (place + 1 + word_count_of i.first) b d
AlikeLine P place _ _ = ⊥

-- the lines from a place on
abbrev pub AlikeLines : (ℕ → ℕ → ℕ → Type 0) → ℕ → List Line → List Line → Type 0
AlikeLines P place [] [] = Unit {0}
AlikeLines P place (line ∷ lines) (other ∷ others) = AlikeLine P place line other × AlikeLines P (place + line_length line) lines others
AlikeLines P place _ _ = ⊥

-- the words end before the instruction does: it is cut
abbrev pub is_cut : Option Instruction → List ℕ → Bool
is_cut None following = false
is_cut (Some i) following = nat_lt (length following) (following_words i)

-- no first word from a place on is one that moves, and no instruction is cut; at most so many lines
abbrev pub AreWhole : (ℕ → Bool) → ℕ → ℕ → List ℕ → Type 0
AreWhole moves zero place words = Unit {0}
AreWhole moves (suc most) place [] = Unit {0}
AreWhole moves (suc most) place (w ∷ following) =
    let n : ℕ = line_length (line_of (instruction_of w) w following) in
    (moves place ≡ false) × (is_cut (instruction_of w) following ≡ false) × AreWhole moves most (place + n) (drop n (w ∷ following))
