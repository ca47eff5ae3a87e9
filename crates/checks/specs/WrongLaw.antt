-- What holds of a file of which no relocation word is found wrong.
use Rattle.std.specs.Prelude.{◌≡◌, ◌↔◌, true, eqb, [], ◌++◌, None}
use Rattle.aout_core.specs.{Contents.Contents, WellFormed.first_bad_word, WellFormed.IsWellFormed}
use Rattle.checks.specs.Wrong.{wrong_words}

-- the check of an object finds no bad relocation word
abbrev pub WrongWordsLaw : Type 0
WrongWordsLaw = (c : Contents) → (wrong_words c ≡ []) ↔ (first_bad_word c.symbols 0 (c.text_reloc ++ c.data_reloc) ≡ None)

-- so a file is an object if and only if it has the magic number of one, relocation, and no wrong relocation word
abbrev pub WrongObjectsLaw : Type 0
WrongObjectsLaw =
    (c : Contents) → IsWellFormed c ↔ ((eqb c.header.magic 0o407 ≡ true) × (eqb c.header.flag 0 ≡ true) × (wrong_words c ≡ []))
