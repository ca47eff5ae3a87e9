-- The listing of a file says that file.
use Rattle.std.proofs.Common.{◌≡◌, ℕ, ◌+◌, ◌*◌, ◌%◌, ◌<◌, Bool, true, false, cond, eqb, eqb-true, List, [], ◌∷◌, ◌++◌, length, refl, sym}
use Rattle.std.proofs.{Common.{◌∙◌, ap, subst, arith, rules, append_assoc, ne_eqb, le-ltb}, lemmas.List.append-nil}
use Rattle.std.specs.{Prelude.{codes, slice_get, ◌-◌, if◌then◌else◌, IsTrue, drop, Option, Some, None, Result, Ok, Err}, List.AllByRecursion}
use Rattle.aout_core.specs.{Contents.{Contents, is_magic, has_whole_sizes, IsWord, IsSound}, declared.reloc.Reloc.Reloc}
use Rattle.aout_core.specs.{declared.symbol.Symbol.Symbol, declared.header.Header.Header, Addresses.data_start}
use Rattle.listings.specs.declared.fault.Section.TheVariants.{InText, InData, Ended}
use Rattle.listings.specs.Columns.{Row, row_of, column, from_third, from_fourth, stray_from}
use Rattle.listings.specs.Drafts.{Segment, Draft, empty_segment, empty_draft, finished}
use Rattle.listings.specs.Listing.{IsLine, IsSkipped, IsWord as IsWordIn, AreWords, AreSymbols, IsBeforeEnd, IsListing, gap, wide, remarked}
use Rattle.listings.specs.Listing.{word_line, named_line, unusual, head_lines, bss_lines}
use Rattle.listings.specs.Reading.{◌>>=◌, in_column, named, is_label, row_read, lines_read, at_first_line, has_head, unless_stray, file_of}
use Rattle.listings.specs.{Reading.read, declared.draft.Addresses.Addresses, declared.fault.Fault.Fault}
use Rattle.listings.specs.{declared.fault.Reason.Reason, declared.fault.Reason.TheVariants.{NoMagic, OddSize}, Octal.number}
use Rattle.texts.specs.{Numbers.six_digits, Numbers.octal, Lines.lines_in, Lines.text_of, Names.printable_name}
use Rattle.listings.proofs.OctalLemmas.{IsNumber, octal_again, short_again, octal_digits, short_digits}
use Rattle.listings.proofs.ColumnLemmas.{IsColumn, ink, number_column, row_two, line_of_column, line_gap, line_last, lines_again}
use Rattle.listings.proofs.NameLemmas.{name_column}
use Rattle.listings.proofs.RowLemmas.{at_line, Reads, reads_nil, reads_one, reads_both, reads_more, entry_row, Enters, AreRelocs, line_with}
use Rattle.listings.proofs.RowLemmas.{line_alone, skipped_read, words_with, words_alone, in_symbols, symbols_read}

-- no line has a newline
abbrev AreLines : List (List ℕ) → Type 0
AreLines ls = AllByRecursion IsLine ls

lines_append : (xs ys : List (List ℕ)) → AreLines xs → AreLines ys → AreLines (xs ++ ys)
lines_append [] ys hx hy = hy
lines_append (x ∷ xs) ys hx hy = (hx.0, lines_append xs ys hx.1 hy)

octal_column : (n : ℕ) → IsColumn (six_digits n)
octal_column n = number_column (six_digits n) (octal_digits n)

short_column : (n : ℕ) → IsColumn (octal n)
short_column n = number_column (octal n) (short_digits n)

word_line_is : (said : List ℕ) (at w : ℕ) (r : Option Reloc) → IsLine said → IsLine (word_line said at w r)
word_line_is said at w None is = search (rules, line_alone, line_gap, octal_column, line_last)
word_line_is said at w (Some r) is = search (rules, line_with, line_gap, octal_column, line_last, short_column)

skipped_are : (ls : List (List ℕ)) → AllByRecursion IsSkipped ls → AreLines ls
skipped_are [] h = tt
skipped_are (l ∷ ls) h = (h.0.0, skipped_are ls h.1)

of_word : (at w : ℕ) (r : Option Reloc) (ls : List (List ℕ)) → IsWordIn at w r ls → AreLines ls
of_word at w r ls is =
    subst AreLines (sym is.lines) (lines_append is.labels (word_line is.said at w r ∷ []) (skipped_are is.labels is.are_skipped)
    (word_line_is is.said at w r is.is_remark.0, tt))

words_are : (at : ℕ) (ws : List ℕ) (rs : List Reloc) (ls : List (List ℕ)) → AreWords at ws rs ls → AreLines ls
words_are at [] rs ls are = skipped_are ls are
words_are at (w ∷ ws) rs ls are =
    subst AreLines (sym are.4) (lines_append are.0 are.1 (of_word (at % 65536) w (slice_get rs 0) are.0 are.2)
    (words_are (at + 2) ws (drop 1 rs) are.1 are.3))

symbols_are : (n : ℕ) (ss : List Symbol) (ls : List (List ℕ)) → AreSymbols n ss ls → AreLines ls
symbols_are n [] ls are = subst AreLines (sym are) tt
symbols_are n (s ∷ ss) ls are =
    let a = octal n in
    let b = printable_name s.name in
    let c = octal s.type_bits in
    let said = are.2.0 in
    let e = six_digits s.value ++ remarked said in
    let is : IsLine are.0 =
    subst IsLine (sym are.2.2) (line_gap (wide 4 a) a (gap (wide 8 b + (3 - length c)) b (gap 1 c e)) (short_column n)
    (line_gap (wide 8 b + (3 - length c)) b (gap 1 c e) (name_column s.name)
    (line_gap 1 c e (short_column s.type_bits) (line_last (six_digits s.value) said (octal_column s.value) are.2.1.0)))) in
    subst AreLines (sym are.4) (is, symbols_are (n + 1) ss are.1 are.3)

magic_column : IsColumn (codes "magic")
magic_column = (omega arith, (omega arith, (omega arith, (omega arith, (omega arith, tt)))))

flag_column : IsColumn (codes "flag")
flag_column = (omega arith, (omega arith, (omega arith, (omega arith, tt))))

entry_column : IsColumn (codes "entry")
entry_column = (omega arith, (omega arith, (omega arith, (omega arith, (omega arith, tt)))))

unused_column : IsColumn (codes "unused")
unused_column = (omega arith, (omega arith, (omega arith, (omega arith, (omega arith, (omega arith, tt))))))

bss_column : IsColumn (codes "bss")
bss_column = (omega arith, (omega arith, (omega arith, tt)))

text_column : IsColumn (codes "text")
text_column = (omega arith, (omega arith, (omega arith, (omega arith, tt))))

data_column : IsColumn (codes "data")
data_column = (omega arith, (omega arith, (omega arith, (omega arith, tt))))

symbols_column : IsColumn (codes "symbols")
symbols_column = (omega arith, (omega arith, (omega arith, (omega arith, (omega arith, (omega arith, (omega arith, tt)))))))

named_line_is : (w : List ℕ) (n : ℕ) → IsColumn w → IsLine (named_line w n)
named_line_is w n h = line_gap 0 w (six_digits n) h (line_of_column (six_digits n) (ink (six_digits n) (octal_column n)))

unusual_by : (usual n : ℕ) (w : List ℕ) (t : Bool) → eqb n usual ≡ t → IsColumn w → AreLines (unusual usual w n)
unusual_by usual n w t e h = search (rules, named_line_is)

unusual_are : (usual n : ℕ) (w : List ℕ) → IsColumn w → AreLines (unusual usual w n)
unusual_are usual n w h = unusual_by usual n w (eqb n usual) refl h

end_column : IsColumn (codes "end")
end_column = (omega arith, (omega arith, (omega arith, tt)))

abbrev data_begin : Contents → ℕ
data_begin c = data_start c.header.magic c.header.text_size

head_are : (h : Header) → AreLines (head_lines h)
head_are h =
    lines_append (unusual 0o407 (codes "magic") h.magic) (unusual 0 (codes "flag") h.flag)
    (unusual_are 0o407 h.magic (codes "magic") magic_column) (unusual_are 0 h.flag (codes "flag") flag_column)

bss_are : (h : Header) → AreLines (bss_lines h)
bss_are h = (
  line_gap 0 (codes "bss") (octal h.bss_size) bss_column (line_of_column (octal h.bss_size) (ink (octal h.bss_size) (short_column h.bss_size))),
  lines_append (unusual 0 (codes "entry") h.entry_point) (unusual 0 (codes "unused") h.unused)
      (unusual_are 0 h.entry_point (codes "entry") entry_column) (unusual_are 0 h.unused (codes "unused") unused_column),
)

before_end_are : (c : Contents) (ls : List (List ℕ)) → IsBeforeEnd c ls → AreLines ls
before_end_are c ls is =
    let last = (codes "symbols" ∷ is.symbols) ++ is.findings in
    let after_data = bss_lines c.header ++ last in
    let after_text = (codes "data" ∷ is.«data») ++ after_data in
    let after_head = (codes "text" ∷ is.text) ++ after_text in
    subst AreLines (sym is.lines)
    (lines_append is.notes (head_lines c.header ++ after_head) (skipped_are is.notes is.are_notes)
    (lines_append (head_lines c.header) after_head (head_are c.header)
    (lines_append (codes "text" ∷ is.text) after_text
    (line_of_column (codes "text") text_column, words_are 0 c.text_words c.text_reloc is.text is.are_text)
    (lines_append (codes "data" ∷ is.«data») after_data
    (line_of_column (codes "data") data_column, words_are (data_begin c) c.data_words c.data_reloc is.«data» is.are_data)
    (lines_append (bss_lines c.header) last (bss_are c.header)
    (lines_append (codes "symbols" ∷ is.symbols) is.findings
    (line_of_column (codes "symbols") symbols_column, symbols_are 0 c.symbols is.symbols is.are_symbols)
    (skipped_are is.findings is.are_findings)))))))

listing_are : (c : Contents) (ls : List (List ℕ)) → IsListing c ls → AreLines ls
listing_are c ls is =
    subst AreLines (sym is.2) (lines_append is.0 (codes "end" ∷ []) (before_end_are c is.0 is.1)
    (line_of_column (codes "end") end_column, tt))

-- no line has a byte that no listing has
stray_line : (n k : ℕ) (l rest : List ℕ) → IsLine l → stray_from n k (l ++ 10 ∷ rest) ≡ stray_from (n + 1) 1 rest
stray_line n k [] rest h = refl
stray_line n k (b ∷ bs) rest h = let low = h.0 in rw (ne_eqb b 10 (λ is. absurd (omega arith)), le-ltb b 32 low) (stray_line n (k + 1) bs rest h.1)

none_stray : (n : ℕ) (ls : List (List ℕ)) → AreLines ls → stray_from n 1 (text_of ls) ≡ None
none_stray n [] h = refl
none_stray n (l ∷ ls) h =
    ap (stray_from n 1) (append_assoc l (10 ∷ []) (text_of ls)) ∙ stray_line n 1 l (text_of ls) h.0 ∙ none_stray (n + 1) ls h.1

unlabelled : (d : Draft) (f g k m : List ℕ) → IsNumber g →
    let r : Row = record { first = f; second = g; third = k; fourth = m } in
    (if is_label r then Ok d else named d r) ≡ named d r
unlabelled d f g k m h = search rules

-- a word of the header
header_row : (d : Draft) (w : List ℕ) (n : ℕ) (put : ℕ → Draft) → IsColumn w → IsWord n →
    ((k m : List ℕ) → row_read d (record { first = w; second = six_digits n; third = k; fourth = m })
    ≡ (in_column 1 (number (six_digits n)) >>= (λ (x : ℕ). Ok (put x)))) → row_read d (row_of (named_line w n)) ≡ Ok (put n)
header_row d w n put h small found =
    ap (row_read d) (ap (λ (y : List ℕ). row_of (gap 0 w y)) (sym (append-nil (six_digits n)))
    ∙ row_two 0 w (six_digits n) [] h (octal_column n))
    ∙ found (column (from_third (gap 0 w (six_digits n ++ [])))) (column (from_fourth (gap 0 w (six_digits n ++ []))))
    ∙ ap (λ (x : Result ℕ Reason). in_column 1 x >>= (λ (y : ℕ). Ok (put y))) (octal_again n small)

-- the size of bss, which has to be even
short_row : (d : Draft) (w : List ℕ) (n : ℕ) (put : ℕ → Draft) → IsColumn w → IsWord n → eqb (n % 2) 0 ≡ true →
    ((k m : List ℕ) → row_read d (record { first = w; second = octal n; third = k; fourth = m })
    ≡ (in_column 1 (number (octal n)) >>= (λ (x : ℕ). if eqb (x % 2) 0 then Ok (put x) else Err (1, OddSize)))) →
    row_read d (row_of (gap 0 w (octal n))) ≡ Ok (put n)
short_row d w n put h small even found =
    ap (row_read d) (ap (λ (y : List ℕ). row_of (gap 0 w y)) (sym (append-nil (octal n))) ∙ row_two 0 w (octal n) [] h (short_column n))
    ∙ found (column (from_third (gap 0 w (octal n ++ [])))) (column (from_fourth (gap 0 w (octal n ++ []))))
    ∙ ap (λ (x : Result ℕ Reason). in_column 1 x >>= (λ (y : ℕ). if eqb (y % 2) 0 then Ok (put y) else Err (1, OddSize)))
    (short_again n small)
    ∙ rw even refl

-- what has been read after the magic number
abbrev with_magic : Addresses → ℕ → Draft
with_magic a n = let d : Draft = empty_draft a in record d { magic = n }

whole_bss : (h : Header) → IsTrue (has_whole_sizes h) → eqb (h.bss_size % 2) 0 ≡ true
whole_bss h whole = search rules

-- the magic number, which has to be one that a file has
magic_row : (a : Addresses) (n : ℕ) → IsWord n → IsTrue (is_magic n) →
    row_read (empty_draft a) (row_of (named_line (codes "magic") n)) ≡ Ok (with_magic a n)
magic_row a n small is =
    ap (row_read (empty_draft a)) (ap (λ (y : List ℕ). row_of (gap 0 (codes "magic") y)) (sym (append-nil (six_digits n)))
    ∙ row_two 0 (codes "magic") (six_digits n) [] magic_column (octal_column n))
    ∙ unlabelled (empty_draft a) (codes "magic") (six_digits n) (column (from_third (gap 0 (codes "magic") (six_digits n ++ []))))
    (column (from_fourth (gap 0 (codes "magic") (six_digits n ++ [])))) (octal_digits n)
    ∙ ap (λ (x : Result ℕ Reason). in_column 1 x >>= (λ (y : ℕ). if is_magic y then Ok (with_magic a y) else Err (1, NoMagic)))
    (octal_again n small)
    ∙ rw is refl

-- a word of the header that is left out, as the draft has it already
unusual_reads_by : (put : ℕ → Draft) (usual n : ℕ) (w : List ℕ) (t : Bool) → eqb n usual ≡ t →
    row_read (put usual) (row_of (named_line w n)) ≡ Ok (put n) → Reads (put usual) (unusual usual w n) (put n)
unusual_reads_by put usual n w true e found =
    rw e (subst (λ (y : ℕ). Reads (put usual) [] (put y)) (sym (eqb-true n usual e)) (reads_nil (put usual)))
unusual_reads_by put usual n w false e found = rw e (reads_one (put usual) (put n) (named_line w n) found)

unusual_reads : (put : ℕ → Draft) (usual n : ℕ) (w : List ℕ) →
    row_read (put usual) (row_of (named_line w n)) ≡ Ok (put n) → Reads (put usual) (unusual usual w n) (put n)
unusual_reads put usual n w found = unusual_reads_by put usual n w (eqb n usual) refl found

-- and after the flag
abbrev with_flag : Addresses → Contents → ℕ → Draft
with_flag a c n = let d : Draft = with_magic a c.header.magic in record d { flag = n }

abbrev head_draft : Addresses → Contents → Draft
head_draft a c = with_flag a c c.header.flag

head_reads : (a : Addresses) (c : Contents) → IsSound c → Reads (empty_draft a) (head_lines c.header) (head_draft a c)
head_reads a c sound =
    let h = sound.header in
    reads_both (empty_draft a) (with_magic a c.header.magic) (head_draft a c) (unusual 0o407 (codes "magic") c.header.magic)
    (unusual 0 (codes "flag") c.header.flag)
    (unusual_reads (with_magic a) 0o407 c.header.magic (codes "magic") (magic_row a c.header.magic h.magic sound.fits.magic))
    (unusual_reads (with_flag a c) 0 c.header.flag (codes "flag")
    (header_row (with_magic a c.header.magic) (codes "flag") c.header.flag (with_flag a c) flag_column h.flag
    (λ k m. unlabelled (with_magic a c.header.magic) (codes "flag") (six_digits c.header.flag) k m (octal_digits c.header.flag))))

-- what has been read within the text, the data and the table, and what is next
abbrev in_text : Addresses → Contents → Segment → ℕ → Draft
in_text a c s n = let d : Draft = head_draft a c in record d { section = InText; next = n; text_part = s }

abbrev text_segment : Contents → Segment
text_segment c = record { words = c.text_words; relocs = c.text_reloc }

abbrev data_segment : Contents → Segment
data_segment c = record { words = c.data_words; relocs = c.data_reloc }

abbrev in_data : Addresses → Contents → Segment → ℕ → Draft
in_data a c s n = let d : Draft = head_draft a c in record d { section = InData; next = n; text_part = text_segment c; data_part = s }

abbrev text_end : Contents → ℕ
text_end c = (0 + 2 * length c.text_words) % 65536

abbrev data_end : Contents → ℕ
data_end c = (data_begin c + 2 * length c.data_words) % 65536

abbrev data_draft : Addresses → Contents → Draft
data_draft a c = in_data a c (data_segment c) (data_end c)

abbrev with_bss : Addresses → Contents → ℕ → Draft
with_bss a c n = let d : Draft = data_draft a c in record d { bss = n }

abbrev with_entry : Addresses → Contents → ℕ → Draft
with_entry a c n = let d : Draft = with_bss a c c.header.bss_size in record d { entry = n }

abbrev with_unused : Addresses → Contents → ℕ → Draft
with_unused a c n = let d : Draft = with_entry a c c.header.entry_point in record d { unused = n }

abbrev header_draft : Addresses → Contents → Draft
header_draft a c = with_unused a c c.header.unused

abbrev in_table : Addresses → Contents → Draft
in_table a c = in_symbols (header_draft a c) c.symbols (0 + length c.symbols)

bss_reads : (a : Addresses) (c : Contents) → IsSound c → Reads (data_draft a c) (bss_lines c.header) (header_draft a c)
bss_reads a c sound =
    let h = sound.header in
    reads_more (data_draft a c) (with_bss a c c.header.bss_size) (header_draft a c) (gap 0 (codes "bss") (octal c.header.bss_size))
    (unusual 0 (codes "entry") c.header.entry_point ++ unusual 0 (codes "unused") c.header.unused)
    (short_row (data_draft a c) (codes "bss") c.header.bss_size (with_bss a c) bss_column h.bss_size (whole_bss c.header sound.fits.sizes)
    (λ k m. unlabelled (data_draft a c) (codes "bss") (octal c.header.bss_size) k m (short_digits c.header.bss_size)))
    (reads_both (with_bss a c c.header.bss_size) (with_entry a c c.header.entry_point) (header_draft a c)
    (unusual 0 (codes "entry") c.header.entry_point) (unusual 0 (codes "unused") c.header.unused)
    (unusual_reads (with_entry a c) 0 c.header.entry_point (codes "entry")
    (header_row (with_bss a c c.header.bss_size) (codes "entry") c.header.entry_point (with_entry a c) entry_column h.entry_point (λ k m.
    unlabelled (with_bss a c c.header.bss_size) (codes "entry") (six_digits c.header.entry_point) k m (octal_digits c.header.entry_point))))
    (unusual_reads (with_unused a c) 0 c.header.unused (codes "unused")
    (header_row (with_entry a c c.header.entry_point) (codes "unused") c.header.unused (with_unused a c) unused_column h.unused (λ k m.
    unlabelled (with_entry a c c.header.entry_point) (codes "unused") (six_digits c.header.unused) k m (octal_digits c.header.unused)))))

-- the relocation of a segment is whole, or not there
segment_reads : (put : Segment → ℕ → Draft) (a : Addresses) (flag at size : ℕ) (ws : List ℕ)
    (rs : List Reloc) (ls : List (List ℕ)) (t : Bool) → AreWords at ws rs ls → eqb flag 0 ≡ t →
    Enters put a flag → 2 * length ws ≡ size → size < 65536 → 2 * length rs ≡ cond t size 0 →
    AllByRecursion IsWord ws → AreRelocs rs →
    Reads (put empty_segment (at % 65536)) ls (put (record { words = ws; relocs = rs }) ((at + 2 * length ws) % 65536))
segment_reads put a flag at size ws rs ls true are on enters long small also words relocs =
    words_with put a flag at empty_segment ws rs ls are enters on (omega arith) words relocs (omega arith)
segment_reads put a flag at size ws [] ls false are off enters long small also words relocs =
    words_alone put a flag at empty_segment ws ls are enters off words (omega arith)
segment_reads put a flag at size ws (r ∷ rs) ls false are off enters long small also words relocs = absurd (omega arith)

-- text ends where its size says
text_ends : (c : Contents) → IsSound c → text_end c ≡ c.header.text_size
text_ends c sound =
    let long = sound.fits.text in
    let small = sound.header.text_size in
    omega arith

body_reads : (a : Addresses) (c : Contents) (ls : List (List ℕ)) (is : IsBeforeEnd c ls) → IsSound c →
    Reads (head_draft a c) ((codes "text" ∷ is.text) ++ ((codes "data" ∷ is.«data»)
    ++ (bss_lines c.header ++ ((codes "symbols" ∷ is.symbols) ++ is.findings)))) (in_table a c)
body_reads a c ls is sound =
    let fits = sound.fits in
    let flag = c.header.flag in
    let text_draft = in_text a c (text_segment c) (text_end c) in
    let text : Reads (in_text a c empty_segment 0) is.text text_draft =
    segment_reads (in_text a c) a flag 0 c.header.text_size c.text_words c.text_reloc is.text (eqb flag 0) is.are_text refl
    (λ s n f g k m h. entry_row (in_text a c s n) f g k m h)
    fits.text sound.header.text_size fits.text_relocation sound.text_words sound.text_reloc in
    let data_first = in_data a c empty_segment (data_begin c % 65536) in
    let data_rows : Reads data_first is.«data» (data_draft a c) =
    segment_reads (in_data a c) a flag (data_begin c) c.header.data_size c.data_words c.data_reloc is.«data» (eqb flag 0) is.are_data refl
    (λ s n f g k m h. entry_row (in_data a c s n) f g k m h) fits.«data»
    sound.header.data_size fits.data_relocation sound.data_words sound.data_reloc in
    let data_opens : row_read text_draft (row_of (codes "data")) ≡ Ok data_first =
    ap (λ (n : ℕ). Ok (in_data a c empty_segment (data_start c.header.magic n % 65536))) (text_ends c sound) in
    let whole = fits.table in
    let small = sound.header.symbol_size in
    let table_first = in_symbols (header_draft a c) [] 0 in
    let table : Reads table_first is.symbols (in_table a c) =
    symbols_read (header_draft a c) 0 [] c.symbols is.symbols is.are_symbols refl sound.symbols (omega arith) in
    let last = (codes "symbols" ∷ is.symbols) ++ is.findings in
    let after_data = bss_lines c.header ++ last in
    let after_text = (codes "data" ∷ is.«data») ++ after_data in
    reads_both (head_draft a c) text_draft (in_table a c) (codes "text" ∷ is.text) after_text
    (reads_more (head_draft a c) (in_text a c empty_segment 0) text_draft (codes "text") is.text refl text)
    (reads_both text_draft (data_draft a c) (in_table a c) (codes "data" ∷ is.«data») after_data
    (reads_more text_draft data_first (data_draft a c) (codes "data") is.«data» data_opens data_rows)
    (reads_both (data_draft a c) (header_draft a c) (in_table a c) (bss_lines c.header) last (bss_reads a c sound)
    (reads_both (header_draft a c) (in_table a c) (in_table a c) (codes "symbols" ∷ is.symbols) is.findings
    (reads_more (header_draft a c) table_first (in_table a c) (codes "symbols") is.symbols refl table)
    (skipped_read (in_table a c) is.findings is.are_findings))))

-- after the last line
abbrev at_end : Addresses → Contents → Draft
at_end a c = let d : Draft = in_table a c in record d { section = Ended; next = 0 }

finished_is : (a : Addresses) (c : Contents) → IsSound c → finished (at_end a c) ≡ c
finished_is a c sound = search rules

pub listing_read : (a : Addresses) (c : Contents) (ls : List (List ℕ)) → IsListing c ls → IsSound c → read a (text_of ls) ≡ Ok c
listing_read a c ls is sound =
    let table = in_table a c in
    let last = at_end a c in
    let none = empty_draft a in
    let parts = is.1 in
    let lines = lines_in (text_of ls) in
    let body = (codes "text" ∷ parts.text) ++ ((codes "data" ∷ parts.«data»)
    ++ (bss_lines c.header ++ ((codes "symbols" ∷ parts.symbols) ++ parts.findings))) in
    let before : Reads none is.0 table =
    subst (λ (y : List (List ℕ)). Reads none y table) (sym parts.lines)
    (reads_both none none table parts.notes (head_lines c.header ++ body) (skipped_read none parts.notes parts.are_notes)
    (reads_both none (head_draft a c) table (head_lines c.header) body (head_reads a c sound) (body_reads a c is.0 parts sound))) in
    let whole : Reads none ls last =
    subst (λ (y : List (List ℕ)). Reads none y last) (sym is.2)
    (reads_both none table last is.0 (codes "end" ∷ []) before (reads_one table last (codes "end") refl)) in
    let all = whole 1 [] in
    let said : lines_read (at_first_line a) lines ≡ at_line all.0 last =
    ap (lines_read (at_first_line a)) (lines_again ls (listing_are c ls is))
    ∙ ap (lines_read (at_first_line a)) (sym (append-nil ls))
    ∙ all.1 in
    ap (λ (stray : Option Fault). unless_stray stray (file_of (has_head lines) (lines_read (at_first_line a) lines)))
    (none_stray 1 ls (listing_are c ls is))
    ∙ ap (file_of (has_head lines)) said
    ∙ ap Ok (finished_is a c sound)
