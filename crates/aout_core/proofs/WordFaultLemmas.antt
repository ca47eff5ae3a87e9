-- The first bad word of two lists, one after the other.
use Rattle.std.proofs.Common.{◌≡◌, ℕ, ◌+◌, List, [], ◌∷◌, ◌++◌, length, Option, Some, None, refl, ◌∙◌, ap, arith}
use Rattle.aout_core.specs.{WellFormed.{first_of, word_fault, first_bad_word, first_object_fault}, declared.reloc.Reloc.Reloc}
use Rattle.aout_core.specs.{declared.symbol.Symbol.Symbol, declared.object.ObjectFault.ObjectFault, Contents.Contents}

first_of-assoc : (a b c : Option ObjectFault) → first_of a (first_of b c) ≡ first_of (first_of a b) c
first_of-assoc None b c = refl
first_of-assoc (Some x) b c = refl

pub first_bad_word-append : (symbols : List Symbol) (i n : ℕ) (first second : List Reloc) → i + length first ≡ n →
    first_bad_word symbols i (first ++ second) ≡ first_of (first_bad_word symbols i first) (first_bad_word symbols n second)
first_bad_word-append symbols i n [] second e = ap (λ k. first_bad_word symbols k second) (omega arith)
first_bad_word-append symbols i n (r ∷ rs) second e =
    ap (λ later. first_of (word_fault symbols i r) later) (first_bad_word-append symbols (i + 1) n rs second (omega arith))
    ∙ first_of-assoc (word_fault symbols i r) (first_bad_word symbols (i + 1) rs) (first_bad_word symbols n second)

-- why a file with the magic of an object and with relocation is none
fault_of_words : (c : Contents) → c.header.magic ≡ 263 → c.header.flag ≡ 0 →
    first_object_fault c ≡ first_of (first_bad_word c.symbols 0 c.text_reloc) (first_bad_word c.symbols (length c.text_reloc) c.data_reloc)
fault_of_words c magic flag =
    rw (magic, flag) (first_bad_word-append c.symbols 0 (length c.text_reloc) c.text_reloc c.data_reloc (omega arith))

-- the first bad word of an object is in text, if one is there
pub fault_in_text : (c : Contents) (fault : ObjectFault) → c.header.magic ≡ 263 → c.header.flag ≡ 0 →
    first_bad_word c.symbols 0 c.text_reloc ≡ Some fault → first_object_fault c ≡ Some fault
fault_in_text c fault magic flag e =
    fault_of_words c magic flag ∙ ap (λ first. first_of first (first_bad_word c.symbols (length c.text_reloc) c.data_reloc)) e

-- and else it is that of data, which is counted after text
pub fault_in_data : (c : Contents) → c.header.magic ≡ 263 → c.header.flag ≡ 0 →
    first_bad_word c.symbols 0 c.text_reloc ≡ None → first_object_fault c ≡ first_bad_word c.symbols (length c.text_reloc) c.data_reloc
fault_in_data c magic flag e =
    fault_of_words c magic flag ∙ ap (λ first. first_of first (first_bad_word c.symbols (length c.text_reloc) c.data_reloc)) e
