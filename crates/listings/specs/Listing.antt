-- The listing of a file, which describes each byte of it: lines of columns. (a.out(5); the form: own choice)
--
-- A listing begins and ends with notes, and each note is a line that begins with a slash. A line gives the magic number unless it is
-- 0407, and another the flag unless it is 0. The words of text and of data follow, the size of bss, the entry point and the unused word
-- unless they are 0, and the table. A line may end with a remark, and labels may precede the line of a word or follow the last one. The
-- last line is `end`, so a listing that was cut is known. What notes, labels and remarks say is free, as long as a reader skips it.
use Rattle.std.specs.Prelude.{◌≡◌, ℕ, ◌+◌, ◌-◌, ◌%◌, ◌≤◌, false, eqb, if◌then◌else◌, List, [], ◌∷◌, ◌++◌, drop, replicate, length, Option, Some, None}
use Rattle.std.specs.{Prelude.{slice_get, codes, Ok}, List.AllByRecursion}
use Rattle.aout_core.specs.{declared.header.Header.Header, declared.reloc.Reloc.Reloc, declared.symbol.Symbol.Symbol, Contents.Contents}
use Rattle.aout_core.specs.Addresses.{data_start_in}
use Rattle.listings.specs.{Columns.row_of, Drafts.Draft, Reading.{is_numbered, row_read}}
use Rattle.texts.specs.{Numbers.six_digits, Numbers.octal, Names.printable_name, Lines.text_of}

-- ---- what is said beside the file

-- no newline, and no other byte below the blank
abbrev pub IsLine : List ℕ → Type 0
IsLine l = AllByRecursion (λ (b : ℕ). 32 ≤ b) l

-- a line that a reader skips: a note or a label
abbrev pub IsSkipped : List ℕ → Type 0
IsSkipped l = IsLine l × ((d : Draft) → row_read d (row_of l) ≡ Ok d)

abbrev pub AreSkipped : List (List ℕ) → Type 0
AreSkipped ls = AllByRecursion IsSkipped ls

-- a remark, which does not begin with a number
abbrev pub IsRemark : List ℕ → Type 0
IsRemark l = IsLine l × (is_numbered l ≡ false)

-- ---- lines

-- two columns, and one blank more than n between them
abbrev pub gap : ℕ → List ℕ → List ℕ → List ℕ
gap n a b = a ++ 32 ∷ (replicate n 32 ++ b)

-- two blanks, of which gap writes one, and those that the column lacks of this width
abbrev pub wide : ℕ → List ℕ → ℕ
wide width a = 1 + (width - length a)

abbrev pub remarked : List ℕ → List ℕ
remarked [] = []
remarked (b ∷ bs) = 32 ∷ 32 ∷ b ∷ bs

-- an address, a word, and its relocation word if it has one
abbrev pub word_columns : ℕ → ℕ → Option Reloc → List ℕ
word_columns at w None = gap 1 (six_digits at) (six_digits w)
word_columns at w (Some r) = gap 1 (six_digits at) (gap (wide 4 (octal r.0)) (six_digits w) (octal r.0))

abbrev pub word_line : List ℕ → ℕ → ℕ → Option Reloc → List ℕ
word_line said at w r = word_columns at w r ++ remarked said

-- the line of a word, and the labels before it
pub record IsWord (at w : ℕ) (r : Option Reloc) (ls : List (List ℕ)) : Type 0 where
  pub labels : List (List ℕ)
  pub said : List ℕ
  pub are_skipped : AreSkipped labels
  pub is_remark : IsRemark said
  pub lines : ls ≡ labels ++ word_line said at w r ∷ []

-- the words of a part from an address on, and the labels of its end
abbrev pub AreWords : ℕ → List ℕ → List Reloc → List (List ℕ) → Type 0
AreWords at [] rs ls = AreSkipped ls
AreWords at (w ∷ ws) rs ls =
    (first : List (List ℕ)) × (others : List (List ℕ)) × IsWord (at % 65536) w (slice_get rs 0) first × AreWords (at + 2) ws (drop 1 rs) others
    × (ls ≡ first ++ others)

-- the numbers of a symbol, and a remark
abbrev pub symbol_numbers : List ℕ → Symbol → List ℕ
symbol_numbers said s = gap 1 (octal s.type_bits) (six_digits s.value ++ remarked said)

abbrev pub symbol_line : List ℕ → ℕ → Symbol → List ℕ
symbol_line said n s =
    gap (wide 4 (octal n)) (octal n)
    (gap (wide 8 (printable_name s.name) + (3 - length (octal s.type_bits))) (printable_name s.name) (symbol_numbers said s))

abbrev pub IsSymbolLine : ℕ → Symbol → List ℕ → Type 0
IsSymbolLine n s l = (said : List ℕ) × IsRemark said × (l ≡ symbol_line said n s)

abbrev pub AreSymbols : ℕ → List Symbol → List (List ℕ) → Type 0
AreSymbols n [] ls = ls ≡ []
AreSymbols n (s ∷ ss) ls =
    (l : List ℕ) × (others : List (List ℕ)) × IsSymbolLine n s l × AreSymbols (n + 1) ss others × (ls ≡ l ∷ others)

abbrev pub named_line : List ℕ → ℕ → List ℕ
named_line word n = gap 0 word (six_digits n)

-- a line, unless the number is the usual one
abbrev pub unusual : ℕ → List ℕ → ℕ → List (List ℕ)
unusual usual word n = if eqb n usual then [] else named_line word n ∷ []

abbrev pub head_lines : Header → List (List ℕ)
head_lines h = unusual 0o407 (codes "magic") h.magic ++ unusual 0 (codes "flag") h.flag

abbrev pub bss_lines : Header → List (List ℕ)
bss_lines h = gap 0 (codes "bss") (octal h.bss_size) ∷ (unusual 0 (codes "entry") h.entry_point ++ unusual 0 (codes "unused") h.unused)

-- ---- the whole

-- a listing but for its last line
pub record IsBeforeEnd (c : Contents) (ls : List (List ℕ)) : Type 0 where
  pub notes : List (List ℕ)
  pub text : List (List ℕ)
  pub «data» : List (List ℕ)
  pub symbols : List (List ℕ)
  pub findings : List (List ℕ)
  pub are_notes : AreSkipped notes
  pub are_text : AreWords 0 c.text_words c.text_reloc text
  pub are_data : AreWords (data_start_in c.header) c.data_words c.data_reloc «data»
  pub are_symbols : AreSymbols 0 c.symbols symbols
  pub are_findings : AreSkipped findings
  pub lines : ls
      ≡ notes ++ (head_lines c.header ++ ((codes "text" ∷ text) ++ ((codes "data" ∷ «data») ++ (bss_lines c.header
      ++ ((codes "symbols" ∷ symbols) ++ findings)))))

-- the lines of a listing of a file
abbrev pub IsListing : Contents → List (List ℕ) → Type 0
IsListing c ls = (before : List (List ℕ)) × IsBeforeEnd c before × (ls ≡ before ++ codes "end" ∷ [])

-- the text of a listing
abbrev pub IsListed : Contents → List ℕ → Type 0
IsListed c text = (ls : List (List ℕ)) × IsListing c ls × (text ≡ text_of ls)
