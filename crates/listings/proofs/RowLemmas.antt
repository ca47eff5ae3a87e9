-- Rows that were written say what was written.
use Rattle.std.proofs.Common.{◌≡◌, ℕ, ◌+◌, ◌*◌, ◌%◌, ◌<◌, true, false, eqb, List, [], ◌∷◌, ◌++◌, length, refl, sym, ◌∙◌, ap, subst, arith}
use Rattle.std.proofs.{Common.{append_assoc, length-append, replicate, rules}, lemmas.List.append-nil}
use Rattle.std.specs.{Prelude.◌-◌, Prelude.Option, Prelude.Some, Prelude.None, Prelude.slice_get, Prelude.Result, Prelude.Ok, List.AllByRecursion}
use Rattle.aout_core.specs.{declared.reloc.Reloc.Reloc, declared.symbol.Symbol.Symbol, Contents.{IsWord, IsSymbol}}
use Rattle.listings.specs.Listing.{IsSkipped, IsWord as IsWordIn, AreWords, AreSymbols, gap, wide, remarked, word_line, symbol_line}
use Rattle.listings.specs.Reading.{Mistake, ◌>>=◌, is_digits, is_numbered, relocs_of, with_word, is_right, word_entry, symbol_entry, entry_in, row_read}
use Rattle.listings.specs.{Reading.{State, line_by, lines_read}, declared.draft.Addresses.Addresses}
use Rattle.listings.specs.{declared.draft.Addresses.TheVariants.{Compared, Computed}, declared.fault.Section.TheVariants.InSymbols}
use Rattle.listings.specs.{Octal.number, Columns.{row_of, column, from_third, from_fourth}, Names.name_of, Drafts.{Segment, Draft}}
use Rattle.texts.specs.{Numbers.six_digits, Numbers.octal, Names.printable_name}
use Rattle.listings.proofs.OctalLemmas.{octal_again, short_again, IsNumber, octal_digits, short_digits}
use Rattle.listings.proofs.ColumnLemmas.{number_column, row_two, row_three, row_four, third_numbered, fourth_numbered}
use Rattle.listings.proofs.NameLemmas.{name_column, name_again}

-- without a mistake so far
abbrev pub at_line : ℕ → Draft → State
at_line n d = record { number = n; draft = d; noted = record { first = None; others = [] } }

-- these lines, whatever follows them, turn one draft into another
abbrev pub Reads : Draft → List (List ℕ) → Draft → Type 0
Reads d ls e = (n : ℕ) (rest : List (List ℕ)) → (m : ℕ) × (lines_read (at_line n d) (ls ++ rest) ≡ lines_read (at_line m e) rest)

pub reads_nil : (d : Draft) → Reads d [] d
reads_nil d = λ n rest. (n, refl)

pub reads_one : (d e : Draft) (l : List ℕ) → row_read d (row_of l) ≡ Ok e → Reads d (l ∷ []) e
reads_one d e l h = λ n rest. (n + 1, ap (λ (x : Result Draft Mistake). lines_read (line_by (at_line n d) l x) rest) h)

pub reads_both : (d e f : Draft) (xs ys : List (List ℕ)) → Reads d xs e → Reads e ys f → Reads d (xs ++ ys) f
reads_both d e f xs ys a b = λ n rest.
    let p = a n (ys ++ rest) in
    let q = b p.0 rest in
    (q.0, ap (lines_read (at_line n d)) (append_assoc xs ys rest) ∙ p.1 ∙ q.1)

pub reads_more : (d e f : Draft) (l : List ℕ) (ls : List (List ℕ)) → row_read d (row_of l) ≡ Ok e → Reads e ls f → Reads d (l ∷ ls) f
reads_more d e f l ls h b = reads_both d e f (l ∷ []) ls (reads_one d e l h) b

-- a row that begins with a number belongs to the section
pub entry_row : (d : Draft) (f g k m : List ℕ) → IsNumber f →
    row_read d (record { first = f; second = g; third = k; fourth = m })
    ≡ entry_in d.section d (record { first = f; second = g; third = k; fourth = m })
entry_row d f g k m h = search rules

right_here : (a : Addresses) (n : ℕ) → is_right a n n ≡ true
right_here Compared n = search rules
right_here Computed n = refl

word_found : (a : Addresses) (flag at w : ℕ) (s : Segment) (rs : List Reloc) (f g k m : List ℕ) →
    number f ≡ Ok at → number g ≡ Ok w → relocs_of flag k m ≡ Ok rs → length s.words < 32767 →
    word_entry a at flag s (record { first = f; second = g; third = k; fourth = m }) ≡ Ok (with_word s w rs)
word_found a flag at w s rs f g k m hf hg hk room = search (rules, right_here)

relocs_there : (flag : ℕ) (r : Reloc) (m : List ℕ) → eqb flag 0 ≡ true → IsWord r.0 → is_digits m ≡ false →
    relocs_of flag (octal r.0) m ≡ Ok (r ∷ [])
relocs_there flag r m on h said = rw (on, short_again r.0 h, said) refl

relocs_none : (flag : ℕ) (k m : List ℕ) → eqb flag 0 ≡ false → is_digits k ≡ false → relocs_of flag k m ≡ Ok []
relocs_none flag k m off said = rw (off, said) refl

abbrev pub joined : Segment → List ℕ → List Reloc → Segment
joined s ws rs = record { words = s.words ++ ws; relocs = s.relocs ++ rs }

joined_nil : (s : Segment) → s ≡ joined s [] []
joined_nil s = λ i. record { words = sym (append-nil s.words) i; relocs = sym (append-nil s.relocs) i }

joined_more : (s : Segment) (w : ℕ) (r ws_r : List Reloc) (ws : List ℕ) → joined (with_word s w r) ws ws_r ≡ joined s (w ∷ ws) (r ++ ws_r)
joined_more s w r ws_r ws = λ i. record { words = append_assoc s.words (w ∷ []) ws i; relocs = append_assoc s.relocs r ws_r i }

-- the rows of a section belong to this segment of a draft
abbrev pub Enters : (Segment → ℕ → Draft) → Addresses → ℕ → Type 0
Enters put a flag = (s : Segment) (n : ℕ) (f g k m : List ℕ) → IsNumber f →
    row_read (put s n) (record { first = f; second = g; third = k; fourth = m })
    ≡ (word_entry a n flag s (record { first = f; second = g; third = k; fourth = m }) >>= (λ t. Ok (put t ((n + 2) % 65536))))

abbrev pub AreRelocs : List Reloc → Type 0
AreRelocs rs = AllByRecursion (λ (r : Reloc). IsWord r.0) rs

-- the columns of a line, and a remark
pub gap_append : (n : ℕ) (a b t : List ℕ) → gap n a b ++ t ≡ gap n a (b ++ t)
gap_append n a b t = append_assoc a (32 ∷ (replicate n 32 ++ b)) t ∙ ap (λ (y : List ℕ). a ++ 32 ∷ y) (append_assoc (replicate n 32) b t)

pub line_with : (said : List ℕ) (at w : ℕ) (r : Reloc) →
    word_line said at w (Some r) ≡ gap 1 (six_digits at) (gap (wide 4 (octal r.0)) (six_digits w) (octal r.0 ++ remarked said))
line_with said at w r = search (rules, gap_append)

pub line_alone : (said : List ℕ) (at w : ℕ) → word_line said at w None ≡ gap 1 (six_digits at) (six_digits w ++ remarked said)
line_alone said at w = gap_append 1 (six_digits at) (six_digits w) (remarked said)

pub skipped_read : (d : Draft) (ls : List (List ℕ)) → AllByRecursion IsSkipped ls → Reads d ls d
skipped_read d [] h = reads_nil d
skipped_read d (l ∷ ls) h = reads_more d d d l ls (h.0.1 d) (skipped_read d ls h.1)

-- the same segment and the same address
same_put : (put : Segment → ℕ → Draft) (s t : Segment) (n m : ℕ) → s ≡ t → n ≡ m → put s n ≡ put t m
same_put put s t n m same next = λ i. put (same i) (next i)

-- the line of a word with relocation
line_with_reads : (put : Segment → ℕ → Draft) (a : Addresses) (flag here w : ℕ) (r : Reloc) (s : Segment) (said : List ℕ) →
    Enters put a flag → eqb flag 0 ≡ true → here < 65536 → IsWord w → IsWord r.0 → length s.words < 32767 →
    is_numbered said ≡ false →
    row_read (put s here) (row_of (word_line said here w (Some r))) ≡ Ok (put (with_word s w (r ∷ [])) ((here + 2) % 65536))
line_with_reads put a flag here w r s said enters on small word reloc room unnumbered =
    let f = six_digits here in
    let b = six_digits w in
    let k = octal r.0 in
    let last = column (from_fourth (gap 1 f (gap (wide 4 k) b (k ++ remarked said)))) in
    let unnumbered_last : is_digits last ≡ false =
    fourth_numbered 1 (wide 4 k) f b k said (number_column f (octal_digits here)) (number_column b (octal_digits w))
    (number_column k (short_digits r.0))
    ∙ unnumbered in
    ap (λ (l : List ℕ). row_read (put s here) (row_of l)) (line_with said here w r)
    ∙ ap (row_read (put s here)) (row_three 1 (wide 4 k) f b k said (number_column f (octal_digits here))
    (number_column b (octal_digits w)) (number_column k (short_digits r.0)))
    ∙ enters s here f b k last (octal_digits here)
    ∙ ap (λ (y : Result Segment Mistake). y >>= (λ u. Ok (put u ((here + 2) % 65536))))
    (word_found a flag here w s (r ∷ []) f b k last (octal_again here small) (octal_again w word)
    (relocs_there flag r last on reloc unnumbered_last) room)

-- and of one without
line_alone_reads : (put : Segment → ℕ → Draft) (a : Addresses) (flag here w : ℕ) (s : Segment) (said : List ℕ) →
    Enters put a flag → eqb flag 0 ≡ false → here < 65536 → IsWord w → length s.words < 32767 → is_numbered said ≡ false →
    row_read (put s here) (row_of (word_line said here w None)) ≡ Ok (put (with_word s w []) ((here + 2) % 65536))
line_alone_reads put a flag here w s said enters off small word room unnumbered =
    let f = six_digits here in
    let b = six_digits w in
    let form = gap 1 f (b ++ remarked said) in
    let third = column (from_third form) in
    let last = column (from_fourth form) in
    let unnumbered_third : is_digits third ≡ false =
    third_numbered 1 f b said (number_column f (octal_digits here)) (number_column b (octal_digits w)) ∙ unnumbered in
    ap (λ (l : List ℕ). row_read (put s here) (row_of l)) (line_alone said here w)
    ∙ ap (row_read (put s here)) (row_two 1 f b said (number_column f (octal_digits here)) (number_column b (octal_digits w)))
    ∙ enters s here f b third last (octal_digits here)
    ∙ ap (λ (y : Result Segment Mistake). y >>= (λ u. Ok (put u ((here + 2) % 65536))))
    (word_found a flag here w s [] f b third last (octal_again here small) (octal_again w word)
    (relocs_none flag third last off unnumbered_third) room)

-- the lines of a word, and those of the words after it
word_then : (put : Segment → ℕ → Draft) (at w : ℕ) (r : Option Reloc) (rs rest : List Reloc) (s : Segment) (ws : List ℕ)
    (ls first others : List (List ℕ)) → (line : IsWordIn (at % 65536) w r first) → ls ≡ first ++ others →
    row_read (put s (at % 65536)) (row_of (word_line line.said (at % 65536) w r)) ≡ Ok (put (with_word s w rs) ((at % 65536 + 2) % 65536)) →
    Reads (put (with_word s w rs) ((at + 2) % 65536)) others (put (joined (with_word s w rs) ws rest) ((at + 2 + 2 * length ws) % 65536)) →
    Reads (put s (at % 65536)) ls (put (joined s (w ∷ ws) (rs ++ rest)) ((at + 2 * length (w ∷ ws)) % 65536))
word_then put at w r rs rest s ws ls first others line is found more =
    let here = at % 65536 in
    let t : Segment = with_word s w rs in
    let next = put t ((here + 2) % 65536) in
    let last = put (joined s (w ∷ ws) (rs ++ rest)) ((at + 2 * length (w ∷ ws)) % 65536) in
    let start = same_put put t t ((at + 2) % 65536) ((here + 2) % 65536) refl (omega arith) in
    let end =
    same_put put (joined t ws rest) (joined s (w ∷ ws) (rs ++ rest)) ((at + 2 + 2 * length ws) % 65536) ((at + 2 * length (w ∷ ws)) % 65536)
    (joined_more s w rs rest ws) (omega arith) in
    let here_reads : Reads (put s here) first next =
    subst (λ (y : List (List ℕ)). Reads (put s here) y next) (sym line.lines)
    (reads_both (put s here) (put s here) next line.labels (word_line line.said here w r ∷ [])
    (skipped_read (put s here) line.labels line.are_skipped)
    (reads_one (put s here) next (word_line line.said here w r) found)) in
    subst (λ (y : List (List ℕ)). Reads (put s here) y last) (sym is)
    (reads_both (put s here) next last first others here_reads
    (subst (λ (d : Draft). Reads d others last) start (subst (λ (d : Draft). Reads (put t ((at + 2) % 65536)) others d) end more)))

words_end : (put : Segment → ℕ → Draft) (at : ℕ) (s : Segment) (ls : List (List ℕ)) → AllByRecursion IsSkipped ls →
    Reads (put s (at % 65536)) ls (put (joined s [] []) ((at + 2 * 0) % 65536))
words_end put at s ls are =
    subst (λ (d : Draft). Reads (put s (at % 65536)) ls d)
    (same_put put s (joined s [] []) (at % 65536) ((at + 2 * 0) % 65536) (joined_nil s) (omega arith))
    (skipped_read (put s (at % 65536)) ls are)

-- the words of a segment with relocation
pub words_with : (put : Segment → ℕ → Draft) (a : Addresses) (flag at : ℕ) (s : Segment)
    (ws : List ℕ) (rs : List Reloc) (ls : List (List ℕ)) → AreWords at ws rs ls →
    Enters put a flag → eqb flag 0 ≡ true → length rs ≡ length ws →
    AllByRecursion IsWord ws → AreRelocs rs → length s.words + length ws < 32768 →
    Reads (put s (at % 65536)) ls (put (joined s ws rs) ((at + 2 * length ws) % 65536))
words_with put a flag at s [] [] ls are enters on same words relocs room = words_end put at s ls are
words_with put a flag at s [] (r ∷ rs) ls are enters on same words relocs room = absurd (omega arith)
words_with put a flag at s (w ∷ ws) [] ls are enters on same words relocs room = absurd (omega arith)
words_with put a flag at s (w ∷ ws) (r ∷ rs) ls are enters on same words relocs room =
    let line = are.2 in
    let long : length (s.words ++ w ∷ []) ≡ length s.words + 1 = length-append s.words (w ∷ []) in
    word_then put at w (Some r) (r ∷ []) rs s ws ls are.0 are.1 line are.4
    (line_with_reads put a flag (at % 65536) w r s line.said enters on (omega arith) words.0 relocs.0 (omega arith) line.is_remark.1)
    (words_with put a flag (at + 2) (with_word s w (r ∷ [])) ws rs are.1 are.3 enters on (omega arith) words.1 relocs.1 (omega arith))

-- the words of a segment without relocation
pub words_alone : (put : Segment → ℕ → Draft) (a : Addresses) (flag at : ℕ) (s : Segment)
    (ws : List ℕ) (ls : List (List ℕ)) → AreWords at ws [] ls → Enters put a flag → eqb flag 0 ≡ false → AllByRecursion IsWord ws →
    length s.words + length ws < 32768 → Reads (put s (at % 65536)) ls (put (joined s ws []) ((at + 2 * length ws) % 65536))
words_alone put a flag at s [] ls are enters off words room = words_end put at s ls are
words_alone put a flag at s (w ∷ ws) ls are enters off words room =
    let line = are.2 in
    let long : length (s.words ++ w ∷ []) ≡ length s.words + 1 = length-append s.words (w ∷ []) in
    word_then put at w None [] [] s ws ls are.0 are.1 line are.4
    (line_alone_reads put a flag (at % 65536) w s line.said enters off (omega arith) words.0 (omega arith) line.is_remark.1)
    (words_alone put a flag (at + 2) (with_word s w []) ws are.1 are.3 enters off words.1 (omega arith))

-- symbols
symbol_found : (n : ℕ) (done : List Symbol) (s : Symbol) (f g k m : List ℕ) →
    number f ≡ Ok n → name_of g ≡ Ok s.name → number k ≡ Ok s.type_bits → number m ≡ Ok s.value → length done < 5461 →
    symbol_entry n done (record { first = f; second = g; third = k; fourth = m }) ≡ Ok (done ++ s ∷ [])
symbol_found n done s f g k m hf hg hk hm room = search rules

abbrev pub in_symbols : Draft → List Symbol → ℕ → Draft
in_symbols d ss n = record d { section = InSymbols; next = n; symbols = ss }

same_table : (d : Draft) (xs ys : List Symbol) (n m : ℕ) → xs ≡ ys → n ≡ m → in_symbols d xs n ≡ in_symbols d ys m
same_table d xs ys n m same next = λ i. in_symbols d (same i) (next i)

pub symbols_read : (d : Draft) (n : ℕ) (done ss : List Symbol) (ls : List (List ℕ)) → AreSymbols n ss ls → n ≡ length done →
    AllByRecursion IsSymbol ss → length done + length ss < 5462 →
    Reads (in_symbols d done n) ls (in_symbols d (done ++ ss) (n + length ss))
symbols_read d n done [] ls lines place are room =
    subst (λ (y : List (List ℕ)). Reads (in_symbols d done n) y (in_symbols d (done ++ []) (n + 0))) (sym lines)
    (subst (λ (e : Draft). Reads (in_symbols d done n) [] e)
    (same_table d done (done ++ []) n (n + 0) (sym (append-nil done)) (omega arith)) (reads_nil (in_symbols d done n)))
symbols_read d n done (s ∷ ss) ls lines place are room =
    let l = lines.0 in
    let others = lines.1 in
    let said = lines.2.0 in
    let said_so = lines.2.2 in
    let from : Draft = in_symbols d done n in
    let next : Draft = in_symbols d (done ++ s ∷ []) ((n + 1) % 65536) in
    let last : Draft = in_symbols d (done ++ s ∷ ss) (n + length (s ∷ ss)) in
    let a = octal n in
    let b = printable_name s.name in
    let c = octal s.type_bits in
    let e = six_digits s.value in
    let found : row_read from (row_of l) ≡ Ok next =
    ap (λ (y : List ℕ). row_read from (row_of y)) said_so
    ∙ ap (row_read from) (row_four (wide 4 a) (wide 8 b + (3 - length c)) 1 a b c e said
    (number_column a (short_digits n)) (name_column s.name) (number_column c (short_digits s.type_bits))
    (number_column e (octal_digits s.value)))
    ∙ entry_row from a b c e (short_digits n)
    ∙ ap (λ (y : Result (List Symbol) Mistake). y >>= (λ ys. Ok (record from { symbols = ys; next = (n + 1) % 65536 })))
    (symbol_found n done s a b c e (short_again n (omega arith)) (name_again s.name are.0.name)
    (short_again s.type_bits are.0.type_bits) (octal_again s.value are.0.value) (omega arith)) in
    let long : length (done ++ s ∷ []) ≡ length done + 1 = length-append done (s ∷ []) in
    let rest = symbols_read d (n + 1) (done ++ s ∷ []) ss others lines.3 (omega arith) are.1 (omega arith) in
    let start = same_table d (done ++ s ∷ []) (done ++ s ∷ []) (n + 1) ((n + 1) % 65536) refl (omega arith) in
    let end =
    same_table d ((done ++ s ∷ []) ++ ss) (done ++ s ∷ ss) (n + 1 + length ss) (n + length (s ∷ ss)) (append_assoc done (s ∷ []) ss)
    (omega arith) in
    subst (λ (y : List (List ℕ)). Reads from y last) (sym lines.4)
    (reads_more from next last l others found
    (subst (λ (e : Draft). Reads e others last) start
    (subst (λ (e : Draft). Reads (in_symbols d (done ++ s ∷ []) (n + 1)) others e) end rest)))
