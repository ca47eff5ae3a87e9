-- A draft stays one of a file, whatever row is read.
use Rattle.std.proofs.lemmas.Grind.{common_steps}
use Rattle.std.proofs.Common.{◌≡◌, ℕ, ◌+◌, ◌<◌, Bool, true, false, eqb, eqb-true, List, [], ◌∷◌, length, arith, length-append, rules}
use Rattle.std.proofs.lemmas.Bool.{ltb-true}
use Rattle.std.specs.Prelude.{◌%◌, if◌then◌else◌, nat_lt, Result, Ok, Err}
use Rattle.aout_core.specs.{declared.reloc.Reloc.Reloc, declared.symbol.Symbol.Symbol}
use Rattle.listings.specs.Drafts.{Segment, Draft}
use Rattle.listings.specs.Reading.{Mistake, ◌>>=◌, in_column, unnumbered, relocs_of, is_right, with_word, word_entry, symbol_entry}
use Rattle.listings.specs.Reading.{entry_in, only_first, not_last, named_by, begins_with_digit, row_by, row_read, own, next_after, State}
use Rattle.listings.specs.{Reading.{line_by, line_read}, declared.draft.Addresses.Addresses}
use Rattle.listings.specs.{declared.fault.Reason.TheVariants.{WrongAddress, TooManyWords}, internal.Whole.{IsWhole, Begins, IsDraft}}
use Rattle.listings.specs.{declared.fault.Section.TheVariants.{InHeader, InText, InData, InSymbols, Ended}, declared.fault.Section.Section}
use Rattle.listings.specs.{declared.fault.Word.Word, Columns.{Row, row_of}, Octal.number}

-- what holds of a value that may be missing
abbrev Holds : {B : Type 0} → (B → Type 0) → Result B Mistake → Type 0
Holds P (Ok x) = P x
Holds P (Err m) = Unit {0}

then_holds : {A B : Type 0} (P : B → Type 0) (m : Result A Mistake) (f : A → Result B Mistake) →
    ((x : A) → Holds P (f x)) → Holds P (m >>= f)
then_holds h m f h3 = search rules

both_hold : {A B : Type 0} (Q : A → Type 0) (P : B → Type 0) (m : Result A Mistake) (f : A → Result B Mistake) →
    Holds Q m → ((x : A) → Q x → Holds P (f x)) → Holds P (m >>= f)
both_hold h h1 m f q h5 = search rules

if_holds : {B : Type 0} (P : B → Type 0) (t : Bool) (x y : Result B Mistake) → (t ≡ true → Holds P x) → Holds P y →
    Holds P (if t then x else y)
if_holds h t x y hx hy = search rules

-- a word more
one_more : (t : Bool) (a b w : ℕ) → a ≡ (if t then w else 0) → b ≡ (if t then 1 else 0) → a + b ≡ (if t then w + 1 else 0)
one_more t a b w ha hb = search rules

relocs_by : (t : Bool) (m : Result ℕ Mistake) (third fourth : List ℕ) →
    Holds (λ (rs : List Reloc). length rs ≡ (if t then 1 else 0))
    (if t then m >>= (λ n. unnumbered 3 fourth ((let r : Reloc = record { 0 = n } in r) ∷ [])) else unnumbered 2 third [])
relocs_by t m third fourth = search (rules, then_holds, if_holds)

relocs_few : (flag : ℕ) (third fourth : List ℕ) →
    Holds (λ (rs : List Reloc). length rs ≡ (if eqb flag 0 then 1 else 0)) (relocs_of flag third fourth)
relocs_few flag third fourth = relocs_by (eqb flag 0) (in_column 2 (number third)) third fourth

word_more : (flag : ℕ) (s : Segment) (w : ℕ) (rs : List Reloc) → IsWhole flag s → length s.words < 32767 →
    length rs ≡ (if eqb flag 0 then 1 else 0) → IsWhole flag (with_word s w rs)
word_more flag s w rs h room few = search (rules, length-append, one_more)

last_whole : (a : Addresses) (next flag at w : ℕ) (s : Segment) (rs : List Reloc) → IsWhole flag s →
    length rs ≡ (if eqb flag 0 then 1 else 0) →
    Holds (IsWhole flag) (if nat_lt (length s.words) 32767
    then (if is_right a at next then Ok (with_word s w rs) else Err (0, WrongAddress next)) else Err (0, TooManyWords))
last_whole a next flag at w s rs h few = search (rules, if_holds, word_more, ltb-true)

word_whole : (a : Addresses) (next flag : ℕ) (s : Segment) (r : Row) → IsWhole flag s → Holds (IsWhole flag) (word_entry a next flag s r)
word_whole a next flag s r h = search (rules, then_holds, both_hold, relocs_few, last_whole)

abbrev Few : List Symbol → Type 0
Few ss = length ss < 5462

symbol_few : (next : ℕ) (ss : List Symbol) (r : Row) → Few ss → Holds Few (symbol_entry next ss r)
symbol_few next ss r h = search (rules, then_holds, if_holds, ltb-true, length-append)

text_keeps : (d : Draft) (m : Result Segment Mistake) → d.section ≡ InText → Holds (IsWhole d.flag) m → IsDraft d →
    Holds IsDraft (m >>= (λ s. Ok (record d { text_part = s; next = (d.next + 2) % 65536 })))
text_keeps d m is few h = search rules

data_keeps : (d : Draft) (m : Result Segment Mistake) → d.section ≡ InData → Holds (IsWhole d.flag) m → IsDraft d →
    Holds IsDraft (m >>= (λ s. Ok (record d { data_part = s; next = (d.next + 2) % 65536 })))
data_keeps d m is few h = search rules

-- a row that begins with a digit
entry_keeps : (d : Draft) (r : Row) (s : Section) → d.section ≡ s → IsDraft d → Holds IsDraft (entry_in s d r)
entry_keeps d r InHeader is h = tt
entry_keeps d r InText is h = text_keeps d (word_entry d.addresses d.next d.flag d.text_part r) is
    (word_whole d.addresses d.next d.flag d.text_part r h.text_part) h
entry_keeps d r InData is h = data_keeps d (word_entry d.addresses d.next d.flag d.data_part r) is
    (word_whole d.addresses d.next d.flag d.data_part r h.data_part) h
entry_keeps d r InSymbols is h = grind (arith, common_steps, both_hold, symbol_few)
entry_keeps d r Ended is h = tt

flag_keeps : (d : Draft) (n : Result ℕ Mistake) (s : Section) → d.section ≡ s → IsDraft d →
    Holds IsDraft (only_first s (n >>= (λ x. Ok (record d { flag = x }))))
flag_keeps d n s is h = search rules

first_holds : (s : Section) (found : Result Draft Mistake) → Holds IsDraft found → Holds IsDraft (only_first s found)
first_holds s found h = search rules

last_holds : (s : Section) (w : Word) (found : Result Draft Mistake) → Holds IsDraft found → Holds IsDraft (not_last s w found)
last_holds s w found h = search rules

in_section : (d : Draft) (s : Section) (n : ℕ) → IsDraft d → Begins s d.text_part d.data_part → IsDraft (record d { section = s; next = n })
in_section d s n h begins = search rules

word_keeps : (w : Word) (d : Draft) (n : Result ℕ Mistake) → IsDraft d → Holds IsDraft (named_by w d n)
word_keeps w d n h = grind (arith, common_steps, if_holds, in_section, then_holds, eqb-true, first_holds, flag_keeps)

row_keeps_by : (first : List ℕ) (d : Draft) (r : Row) → IsDraft d → Holds IsDraft (row_by first d r)
row_keeps_by [] d r h = h
row_keeps_by (b ∷ bs) d r h = search (rules, if_holds, entry_keeps, last_holds, word_keeps)

passed_keeps : (d : Draft) (t : Bool) (n : ℕ) → IsDraft d → IsDraft (if t then record d { next = n } else d)
passed_keeps d true n h = search rules
passed_keeps d false n h = h

line_keeps_by : (s : State) (l : List ℕ) (found : Result Draft Mistake) → Holds IsDraft found → IsDraft s.draft → IsDraft (line_by s l found).draft
line_keeps_by s l (Ok d) h before = h
line_keeps_by s l (Err m) h before =
    passed_keeps s.draft (begins_with_digit (row_of l).first)
    (next_after s.draft.section s.draft.next (own s.draft.next (number (row_of l).first))) before

-- whether the line has a mistake or not
pub line_keeps : (s : State) (l : List ℕ) → IsDraft s.draft → IsDraft (line_read s l).draft
line_keeps s l h = line_keeps_by s l (row_read s.draft (row_of l)) (row_keeps_by (row_of l).first s.draft (row_of l) h) h
