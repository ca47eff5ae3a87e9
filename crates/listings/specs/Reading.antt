-- Which file a listing describes: line by line, each line by its columns and by what was read before it.
--
-- A row that begins with a digit belongs to the section that was opened last. Any other row begins with a word. A row without columns,
-- one that begins with a slash and a label are skipped. Columns after those that a row needs are a remark, and are not read; the first
-- one of a remark on a word does not consist of digits alone. After `end` there are only such lines as are skipped.
--
-- A listing that was cut is refused: with the head that v7-explain writes it has to have `end` too.
--
-- After a mistake reading goes on. The row with the mistake adds nothing to the file, but the next address follows its own.
use Rattle.std.specs.Prelude.{ℕ, ◌+◌, ◌%◌, Bool, true, false, ◌&&◌, ◌||◌, nat_le, nat_lt, nat_eq, eqb, if◌then◌else◌, List, [], ◌∷◌, ◌++◌, length}
use Rattle.std.specs.Prelude.{Result, Ok, Err, Option, Some, None, codes}
use Rattle.std.specs.{Cmp.Lexicographic.pointwise, List.list_all, List.list_any, List.starts_with, List.ends_with}
use Rattle.aout_core.specs.{declared.reloc.Reloc.Reloc, declared.symbol.Symbol.Symbol, Contents.{Contents, is_magic}, Addresses.data_start}
use Rattle.listings.specs.{declared.draft.Addresses.Addresses, declared.draft.Addresses.TheVariants.{Compared, Computed}}
use Rattle.listings.specs.declared.fault.Reason.TheVariants.{WrongAddress, WrongNumber, TooManyWords, TooManySymbols, NoSection}
use Rattle.listings.specs.declared.fault.Reason.TheVariants.{UnknownWord, OutOfOrder, TooLate, AfterTable, NoMagic, OddSize, ExtraNumber}
use Rattle.listings.specs.declared.fault.Reason.TheVariants.{AfterEnd, NoEnd}
use Rattle.listings.specs.declared.fault.Section.TheVariants.{InHeader, InText, InData, InSymbols, Ended}
use Rattle.listings.specs.declared.fault.Word.TheVariants.{Text, Data, Symbols, Bss, Entry, Unused, Magic, Flag, End, Unknown}
use Rattle.listings.specs.{Columns.{Row, row_of, skip, column, column_place, first_stray}, Drafts.{Segment, Draft, empty_draft, finished}}
use Rattle.listings.specs.{declared.fault.Reason.Reason, declared.fault.Section.Section, declared.fault.Word.Word}
use Rattle.listings.specs.{declared.fault.Fault.Fault, Octal.number, Names.name_of}
use Rattle.texts.specs.Lines.{lines_in}

-- the number of a column, and what is wrong in it
abbrev pub Mistake : Type 0
Mistake = ℕ × Reason

infixl 10 ◌>>=◌
abbrev pub ◌>>=◌ : {A B E : Type 0} → Result A E → (A → Result B E) → Result B E
(Ok x) >>= f = f x
(Err e) >>= f = Err e

abbrev pub in_column : {A : Type 0} → ℕ → Result A Reason → Result A Mistake
in_column k (Ok x) = Ok x
in_column k (Err reason) = Err (k, reason)

abbrev pub is_decimal : ℕ → Bool
is_decimal b = nat_le 48 b && nat_lt b 58

abbrev pub begins_with_digit : List ℕ → Bool
begins_with_digit [] = false
begins_with_digit (b ∷ bs) = is_decimal b

-- a column of digits alone, which `1:` and `2f+4` are not
abbrev pub is_digits : List ℕ → Bool
is_digits bs = begins_with_digit bs && list_all is_decimal bs

-- the first column of a remark consists of digits
abbrev pub is_numbered : List ℕ → Bool
is_numbered remark = is_digits (column (skip remark))

-- no number is in the column of a remark
abbrev pub unnumbered : {A : Type 0} → ℕ → List ℕ → A → Result A Mistake
unnumbered k remark x = if is_digits remark then Err (k, ExtraNumber) else Ok x

-- a relocation word, if the file has relocation by its flag, and then a remark
abbrev pub relocs_of : ℕ → List ℕ → List ℕ → Result (List Reloc) Mistake
relocs_of flag third fourth =
    if eqb flag 0 then in_column 2 (number third) >>= (λ n. unnumbered 3 fourth ((let r : Reloc = record { 0 = n } in r) ∷ []))
    else unnumbered 2 third []

abbrev pub with_word : Segment → ℕ → List Reloc → Segment
with_word s w rs = record { words = s.words ++ w ∷ []; relocs = s.relocs ++ rs }

-- any address is right if addresses are computed
abbrev pub is_right : Addresses → ℕ → ℕ → Bool
is_right Compared at next = eqb at next
is_right Computed at next = true

-- a word of a segment, at the next address
abbrev pub word_entry : Addresses → ℕ → ℕ → Segment → Row → Result Segment Mistake
word_entry a next flag s r =
    in_column 0 (number r.first) >>= λ at.
    in_column 1 (number r.second) >>= λ w.
    relocs_of flag r.third r.fourth >>= λ rs.
    if nat_lt (length s.words) 32767
    then (if is_right a at next then Ok (with_word s w rs) else Err (0, WrongAddress next))
    else Err (0, TooManyWords)

abbrev pub symbol_entry : ℕ → List Symbol → Row → Result (List Symbol) Mistake
symbol_entry next ss r =
    in_column 0 (number r.first) >>= λ n.
    in_column 1 (name_of r.second) >>= λ name.
    in_column 2 (number r.third) >>= λ type.
    in_column 3 (number r.fourth) >>= λ value.
    if nat_lt (length ss) 5461
    then (if eqb n next then Ok (ss ++ (let s : Symbol = record { name = name; type_bits = type; value = value } in s) ∷ [])
    else Err (0, WrongNumber next))
    else Err (0, TooManySymbols)

-- a row that begins with a digit
abbrev pub entry_in : Section → Draft → Row → Result Draft Mistake
entry_in InHeader d r = Err (0, NoSection)
entry_in InText d r =
    word_entry d.addresses d.next d.flag d.text_part r >>= λ s. Ok (record d { text_part = s; next = (d.next + 2) % 65536 })
entry_in InData d r =
    word_entry d.addresses d.next d.flag d.data_part r >>= λ s. Ok (record d { data_part = s; next = (d.next + 2) % 65536 })
entry_in InSymbols d r = symbol_entry d.next d.symbols r >>= λ ss. Ok (record d { symbols = ss; next = (d.next + 1) % 65536 })
entry_in Ended d r = Err (0, AfterEnd)

abbrev pub is_word : List ℕ → List ℕ → Bool
is_word a b = pointwise nat_eq a b

abbrev pub word_in : List ℕ → Word
word_in first =
    if is_word first (codes "text") then Text
    else (if is_word first (codes "data") then Data
    else (if is_word first (codes "symbols") then Symbols
    else (if is_word first (codes "bss") then Bss
    else (if is_word first (codes "entry") then Entry
    else (if is_word first (codes "unused") then Unused
    else (if is_word first (codes "magic") then Magic
    else (if is_word first (codes "flag") then Flag
    else (if is_word first (codes "end") then End
    else Unknown))))))))

-- the order of the sections
abbrev pub rank : Section → ℕ
rank InHeader = 0
rank InText = 1
rank InData = 2
rank InSymbols = 3
rank Ended = 4

-- the first address or number of a section: data follow the text
abbrev pub first_in : Section → Draft → ℕ
first_in InData d = data_start d.magic d.next % 65536
first_in _ d = 0

abbrev pub opened : Section → Draft → Result Draft Mistake
opened s d = if nat_lt (rank d.section) (rank s) then Ok (record d { section = s; next = first_in s d }) else Err (0, OutOfOrder)

-- before the first section
abbrev pub only_first : Section → Result Draft Mistake → Result Draft Mistake
only_first InHeader found = found
only_first _ found = Err (0, TooLate)

-- before the symbols, and after them only the end
abbrev pub not_last : Section → Word → Result Draft Mistake → Result Draft Mistake
not_last InSymbols End found = found
not_last InSymbols _ found = Err (0, AfterTable)
not_last Ended _ found = Err (0, AfterEnd)
not_last _ _ found = found

abbrev pub named_by : Word → Draft → Result ℕ Mistake → Result Draft Mistake
named_by Text d n = opened InText d
named_by Data d n = opened InData d
named_by Symbols d n = opened InSymbols d
named_by Bss d n = n >>= (λ x. if eqb (x % 2) 0 then Ok (record d { bss = x }) else Err (1, OddSize))
named_by Entry d n = n >>= (λ x. Ok (record d { entry = x }))
named_by Unused d n = n >>= (λ x. Ok (record d { unused = x }))
named_by Magic d n = only_first d.section (n >>= (λ x. if is_magic x then Ok (record d { magic = x }) else Err (1, NoMagic)))
named_by Flag d n = only_first d.section (n >>= (λ x. Ok (record d { flag = x })))
named_by End d n = opened Ended d
named_by Unknown d n = Err (0, UnknownWord)

-- a row that begins with a word
abbrev pub named : Draft → Row → Result Draft Mistake
named d r = not_last d.section (word_in r.first) (named_by (word_in r.first) d (in_column 1 (number r.second)))

-- `NAME:` alone, or `NAME = .+K`
abbrev pub is_label : Row → Bool
is_label r =
    (is_word r.second [] && ends_with eqb r.first (codes ":"))
    || (is_word r.second (codes "=") && starts_with eqb r.third (codes ".+"))

abbrev pub row_by : List ℕ → Draft → Row → Result Draft Mistake
row_by [] d r = Ok d
row_by (b ∷ bs) d r = if eqb b 47 then Ok d else (if is_decimal b then entry_in d.section d r else (if is_label r then Ok d else named d r))

abbrev pub row_read : Draft → Row → Result Draft Mistake
row_read d r = row_by r.first d r

-- ---- mistakes

-- the address or number that a row has, or the next one
abbrev pub own : ℕ → Result ℕ Reason → ℕ
own next (Ok n) = n
own next (Err reason) = next

abbrev pub next_after : Section → ℕ → ℕ → ℕ
next_after InHeader next n = next
next_after Ended next n = next
next_after InSymbols next n = (n + 1) % 65536
next_after _ next n = (n + 2) % 65536

-- a draft after a row with a mistake
abbrev pub passed : Draft → Row → Draft
passed d r = if begins_with_digit r.first then record d { next = next_after d.section d.next (own d.next (number r.first)) } else d

-- the mistakes of a listing, at least one
pub record Mistakes : Type 0 where
  pub first : Fault
  pub others : List Fault

-- the mistakes so far, and with a further one; after the first at most nine are kept
pub record Noted : Type 0 where
  pub first : Option Fault
  pub others : List Fault

abbrev pub noted_by : Option Fault → List Fault → Fault → Noted
noted_by None others f = record { first = Some f; others = others }
noted_by (Some g) others f = record { first = Some g; others = if nat_lt (length others) 9 then others ++ f ∷ [] else others }

-- ---- lines

-- what has been read before the line of this number
pub record State : Type 0 where
  pub number : ℕ
  pub draft : Draft
  pub noted : Noted

abbrev pub fault_at : ℕ → List ℕ → Mistake → Fault
fault_at n line m = record { line = n; column = column_place m.0 line; reason = m.1 }

abbrev pub line_by : State → List ℕ → Result Draft Mistake → State
line_by s l (Ok d) = record { number = s.number + 1; draft = d; noted = s.noted }
line_by s l (Err m) = record {
  number = s.number + 1;
  draft = passed s.draft (row_of l);
  noted = noted_by s.noted.first s.noted.others (fault_at s.number l m);
}

abbrev pub line_read : State → List ℕ → State
line_read s l = line_by s l (row_read s.draft (row_of l))

abbrev pub lines_read : State → List (List ℕ) → State
lines_read s [] = s
lines_read s (l ∷ ls) = lines_read (line_read s l) ls

abbrev pub at_first_line : Addresses → State
at_first_line a = record { number = 1; draft = empty_draft a; noted = record { first = None; others = [] } }

-- a note on the magic number, `/ 000  000407  magic: ..`, as the head has it that v7-explain writes
abbrev pub is_head : Row → Bool
is_head r = is_word r.first (codes "/") && (is_word r.second (codes "000") && is_word r.fourth (codes "magic:"))

abbrev pub has_head : List (List ℕ) → Bool
has_head ls = list_any (λ (l : List ℕ). is_head (row_of l)) ls

-- what ended in a section does not lack its end
abbrev pub lacks_end : Bool → Section → Bool
lacks_end needs_end Ended = false
lacks_end needs_end _ = needs_end

abbrev pub one_mistake : Fault → Mistakes
one_mistake f = record { first = f; others = [] }

abbrev pub file_by : Bool → State → Option Fault → Result Contents Mistakes
file_by is_cut s (Some f) = Err (record { first = f; others = s.noted.others })
file_by is_cut s None =
    if is_cut then Err (one_mistake (record { line = s.number; column = 1; reason = NoEnd })) else Ok (finished s.draft)

-- the file, if the listing need not have an end or has one
abbrev pub file_of : Bool → State → Result Contents Mistakes
file_of needs_end s = file_by (lacks_end needs_end s.draft.section) s s.noted.first

abbrev pub unless_stray : Option Fault → Result Contents Mistakes → Result Contents Mistakes
unless_stray None found = found
unless_stray (Some f) found = Err (one_mistake f)

-- the file that a listing describes, or its first ten mistakes
abbrev pub read : Addresses → List ℕ → Result Contents Mistakes
read a text = unless_stray (first_stray text) (file_of (has_head (lines_in text)) (lines_read (at_first_line a) (lines_in text)))
