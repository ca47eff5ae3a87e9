-- No clause of the relation of linking can be left out: for each, a wrong file or report that all the others let through.
use Rattle.std.proofs.Common.{◌≡◌, ◌≢◌, ℕ, zero, suc, ◌+◌, ◌≤◌, Bool, true, false, cond, ◌||◌, List, [], ◌∷◌, length, Some, None, refl, sym}
use Rattle.std.proofs.{Common.{◌∙◌, ap, subst, arith, inl, inr, eqb-true}, lemmas.Bool.and_parts}
use Rattle.std.specs.{List.AllByRecursion, List.list_all, Prelude.eqb, Prelude.Ok, Prelude.Err, Prelude.slice_get, Prelude.replicate, Prelude.sum_by}
use Rattle.aout_core.specs.{declared.symbol.Symbol.Symbol, declared.reloc.Reloc.Reloc, Contents.Contents, Addresses.data_start_in}
use Rattle.aout_core.specs.{declared.symbol.Segment.TheVariants.{TextSeg, DataSeg, BssSeg}, declared.header.Header.Header}
use Rattle.link_session.specs.{declared.state.State.TheVariants.Wanted, Sessions.IsObject}
use Rattle.link_out.specs.declared.linked.LinkFault.TheVariants.{DoesNotFit, TooManySymbols}
use Rattle.link_out.specs.{Results.ReportNames, Results.Outcome, function.Link.link}
use Rattle.tool_options.specs.Choices.{Choices}
use Rattle.laws.specs.relation.Relocated.{base_in, IsRelocated}
use Rattle.laws.proofs.examples.Samples.{sym as entry_of, header, object, relocs, _f, _x, _z, L1, plain, relocatable}
use Rattle.laws.proofs.examples.Clauses.{Clause, text_size, data_size, bss, text_words, data_words, magic, symbol_size, unused, flag, short}
use Rattle.laws.proofs.examples.Clauses.{few, names, are_rows, table, text, «data», text_relocs, data_relocs, text_kept, data_kept, entry}
use Rattle.laws.proofs.examples.Clauses.{multiples, reserved, undefined, none, Says, IsNeeded}
use Rattle.laws.proofs.examples.ClauseLemmas.{is_empty, empty_so, passes, passed, no_words, none_kept, only_object, as_object, wordless}
use Rattle.laws.proofs.examples.ClauseLemmas.{unkept, only_word, nothing_reserved, wants_alone, only_wanted, none_reserved, other_outcome}

abbrev silent : ReportNames
silent = record { multiples = []; reserved = []; entry_bad = None; undefined = [] }

abbrev file_of : Header → List ℕ → List ℕ → List Symbol → Contents
file_of h ws ds symbols = record { header = h; text_words = ws; data_words = ds; text_reloc = []; data_reloc = []; symbols = symbols }

-- the link of no objects, with something changed in it

abbrev empty : Contents
empty = file_of (header 263 0 0 0 0 0 1) [] [] []

abbrev with_file : Contents → Outcome
with_file file = record { file = file; report = silent }

abbrev with_header : Header → Outcome
with_header h = with_file (record empty { header = h })

abbrev with_report : ReportNames → Outcome
with_report r = record { file = empty; report = r }

-- the clauses on the link of no objects, as tests
abbrev passes_empty : Outcome → Clause → Bool
passes_empty x names = true
passes_empty x are_rows = eqb (data_start_in x.file.header + x.file.header.data_size) (base_in x.file.header 0 BssSeg)
passes_empty x table = is_empty x.file.symbols
passes_empty x text = true
passes_empty x «data» = true
passes_empty x multiples = is_empty x.report.multiples
passes_empty x reserved = is_empty x.report.reserved
passes_empty x undefined = is_empty x.report.undefined
passes_empty x none = true
passes_empty x c = passes [] [] plain x [] c

passed_empty : (x : Outcome) (c : Clause) → passes_empty x c ≡ true → Says c [] [] plain x []
passed_empty x names h = refl
passed_empty x are_rows h = eqb-true (data_start_in x.file.header + x.file.header.data_size) (base_in x.file.header 0 BssSeg) h
passed_empty x table h = empty_so x.file.symbols h
passed_empty x text h = no_words x.file [] TextSeg
passed_empty x «data» h = no_words x.file [] DataSeg
passed_empty x multiples h = ([], refl, empty_so x.report.multiples h)
passed_empty x reserved h =
    subst (λ (ns : List (List ℕ)). Says reserved [] [] plain (with_report (record silent { reserved = ns })) [])
    (sym (empty_so x.report.reserved h)) nothing_reserved
passed_empty x undefined h = λ r. empty_so x.report.undefined h
passed_empty x none h = λ r. absurd (cc)
passed_empty x c h = passed [] [] plain x [] c h

-- the clauses, and the place of each among them

abbrev clauses : List Clause
clauses =
    text_size ∷ data_size ∷ bss ∷ text_words ∷ data_words ∷ magic ∷ symbol_size ∷ unused ∷ flag ∷ short ∷ few ∷ names ∷ are_rows ∷
    table ∷ text ∷ «data» ∷ text_relocs ∷ data_relocs ∷ text_kept ∷ data_kept ∷ entry ∷ multiples ∷ reserved ∷ undefined ∷ none ∷ []

abbrev place : Clause → ℕ
place text_size = 0
place data_size = 1
place bss = 2
place text_words = 3
place data_words = 4
place magic = 5
place symbol_size = 6
place unused = 7
place flag = 8
place short = 9
place few = 10
place names = 11
place are_rows = 12
place table = 13
place text = 14
place «data» = 15
place text_relocs = 16
place data_relocs = 17
place text_kept = 18
place data_kept = 19
place entry = 20
place multiples = 21
place reserved = 22
place undefined = 23
place none = 24

is_at_place : (c : Clause) → slice_get clauses (place c) ≡ Some c
is_at_place text_size = refl
is_at_place c = refl

same_place : (c d : Clause) → place c ≡ place d → c ≡ d
same_place c d e = let both : Some c ≡ Some d = sym (is_at_place c) ∙ ap (slice_get clauses) e ∙ is_at_place d in cc

all_at : {A : Type 0} (test : A → Bool) (xs : List A) (i : ℕ) (x : A) → list_all test xs ≡ true → slice_get xs i ≡ Some x → test x ≡ true
all_at test [] i x h e = absurd (cc)
all_at test (y ∷ ys) zero x h e = let same : y ≡ x = cc in ap test (sym same) ∙ (and_parts (test y) (list_all test ys) h).0
all_at test (y ∷ ys) (suc i) x h e = all_at test ys i x (and_parts (test y) (list_all test ys) h).1 e

-- a test that all clauses but one pass
all_but : (c : Clause) (test : Clause → Bool) → list_all (λ d. eqb (place d) (place c) || test d) clauses ≡ true →
    (d : Clause) → d ≢ c → test d ≡ true
all_but c test h d ne =
    by_place (eqb (place d) (place c)) refl (all_at (λ d. eqb (place d) (place c) || test d) clauses (place d) d h (is_at_place d))
  where
    by_place : (t : Bool) → eqb (place d) (place c) ≡ t → (t || test d) ≡ true → test d ≡ true
    by_place true e g = absurd (ne (same_place d c (eqb-true (place d) (place c) e)))
    by_place false e g = g

-- a clause is needed if all others let this outcome through, and the link does not give it
needed : (c : Clause) (forced : List (List ℕ)) (os : List Contents) (o : Choices) (x : Outcome) (rows : List Symbol) →
    AllByRecursion IsObject os → ((d : Clause) → d ≢ c → Says d forced os o x rows) → link forced os o ≢ Ok x → IsNeeded c
needed c forced os o x rows good others wrong =
    record { forced = forced; os = os; o = o; x = x; rows = rows; good = good; others = others; wrong = wrong }

-- a clause is needed if all others let an outcome through that it tells from the link of no objects
needed_empty : (c : Clause) (x : Outcome) → list_all (λ d. eqb (place d) (place c) || passes_empty x d) clauses ≡ true →
    (let test : Outcome → ℕ = λ y. cond (passes_empty y c) 1 0 in eqb (test (with_file empty)) (test x)) ≡ false → IsNeeded c
needed_empty c x all apart =
    needed c [] [] plain x [] tt (λ d ne. passed_empty x d (all_but c (passes_empty x) all d ne))
    (other_outcome [] [] plain (with_file empty) x refl (λ y. cond (passes_empty y c) 1 0) apart)

-- a common of 65,535 bytes: the program would end at 65,536

abbrev wide_o : Contents
wide_o = object [] [] [] [] 0 (entry_of _x 32 65535 ∷ [])

abbrev short_wrong : Outcome
short_wrong = with_file (file_of (header 263 0 0 65536 12 0 1) [] [] (entry_of _x 36 0 ∷ []))

short_others : (d : Clause) → d ≢ short → Says d [] (wide_o ∷ []) plain short_wrong (entry_of _x 36 0 ∷ [])
short_others short ne = absurd (ne refl)
short_others names ne = refl
short_others are_rows ne = (Wanted 65535, only_wanted _x 65535, refl, refl)
short_others table ne = refl
short_others text ne = wordless short_wrong.file (entry_of _x 36 0 ∷ []) wide_o TextSeg refl
short_others «data» ne = wordless short_wrong.file (entry_of _x 36 0 ∷ []) wide_o DataSeg refl
short_others multiples ne = ([], inr ((λ h. wants_alone _x 65535 h), refl), refl)
short_others reserved ne = none_reserved _x 65535 refl refl refl
short_others undefined ne = λ r. inr ((λ h. let bad : 65535 ≤ 0 = h.0.most.0 refl 65535 refl in absurd (omega arith)), refl)
short_others d ne = passed [] (wide_o ∷ []) plain short_wrong (entry_of _x 36 0 ∷ []) d refl

short_needed : IsNeeded short
short_needed =
    needed short [] (wide_o ∷ []) plain short_wrong (entry_of _x 36 0 ∷ []) (as_object wide_o refl refl refl refl refl refl refl refl, tt)
    short_others (λ e. let bad : Err DoesNotFit ≡ Ok short_wrong = e in absurd (cc))

-- 5,462 locals

abbrev many_o : Contents
many_o = object [] [] [] [] 0 (replicate 5462 (entry_of L1 2 0))

abbrev few_wrong : Outcome
few_wrong = with_file (file_of (header 263 0 0 0 65544 0 1) [] [] (replicate 5462 (entry_of L1 2 0)))

few_others : (d : Clause) → d ≢ few → Says d [] (many_o ∷ []) plain few_wrong []
few_others few ne = absurd (ne refl)
few_others names ne = refl
few_others are_rows ne = refl
few_others table ne = refl
few_others text ne = wordless few_wrong.file [] many_o TextSeg refl
few_others «data» ne = wordless few_wrong.file [] many_o DataSeg refl
few_others multiples ne = ([], refl, refl)
few_others reserved ne = nothing_reserved
few_others undefined ne = λ r. refl
few_others d ne = passed [] (many_o ∷ []) plain few_wrong [] d refl

few_needed : IsNeeded few
few_needed =
    needed few [] (many_o ∷ []) plain few_wrong [] (as_object many_o refl refl refl refl refl refl refl refl, tt)
    few_others (λ e. let bad : Err TooManySymbols ≡ Ok few_wrong = e in absurd (cc))

-- a forced name, and no row or a wrong one

abbrev names_wrong : Outcome
names_wrong = with_report (record silent { undefined = _z ∷ [] })

names_others : (d : Clause) → d ≢ names → Says d (_z ∷ []) [] plain names_wrong []
names_others names ne = absurd (ne refl)
names_others are_rows ne = refl
names_others table ne = refl
names_others text ne = no_words names_wrong.file [] TextSeg
names_others «data» ne = no_words names_wrong.file [] DataSeg
names_others multiples ne = ([], inr ((λ h. wants_alone _z 0 h), refl), refl)
names_others reserved ne = none_reserved _z 0 refl refl refl
names_others undefined ne = λ r. inl ((only_wanted _z 0, refl), ([], refl, refl))
names_others none ne = λ r. absurd (cc)
names_others d ne = passed (_z ∷ []) [] plain names_wrong [] d refl

names_needed : IsNeeded names
names_needed =
    needed names (_z ∷ []) [] plain names_wrong [] tt
    names_others (other_outcome (_z ∷ []) [] plain (record names_wrong {
      file = file_of (header 263 0 0 0 12 0 1) [] [] (entry_of _z 32 0 ∷ []);
    }) names_wrong refl (λ x. length x.file.symbols) refl)

abbrev are_rows_wrong : Outcome
are_rows_wrong = record names_wrong { file = file_of (header 263 0 0 0 12 0 1) [] [] (entry_of _z 33 5 ∷ []) }

are_rows_others : (d : Clause) → d ≢ are_rows → Says d (_z ∷ []) [] plain are_rows_wrong (entry_of _z 33 5 ∷ [])
are_rows_others are_rows ne = absurd (ne refl)
are_rows_others names ne = refl
are_rows_others table ne = refl
are_rows_others text ne = no_words are_rows_wrong.file (entry_of _z 33 5 ∷ []) TextSeg
are_rows_others «data» ne = no_words are_rows_wrong.file (entry_of _z 33 5 ∷ []) DataSeg
are_rows_others multiples ne = ([], inr ((λ h. wants_alone _z 0 h), refl), refl)
are_rows_others reserved ne = none_reserved _z 0 refl refl refl
are_rows_others undefined ne = λ r. inl ((only_wanted _z 0, refl), ([], refl, refl))
are_rows_others none ne = λ r. absurd (cc)
are_rows_others d ne = passed (_z ∷ []) [] plain are_rows_wrong (entry_of _z 33 5 ∷ []) d refl

are_rows_needed : IsNeeded are_rows
are_rows_needed =
    needed are_rows (_z ∷ []) [] plain are_rows_wrong (entry_of _z 33 5 ∷ []) tt
    are_rows_others (other_outcome (_z ∷ []) [] plain (record names_wrong {
      file = file_of (header 263 0 0 0 12 0 1) [] [] (entry_of _z 32 0 ∷ []);
    }) are_rows_wrong refl (λ x. sum_by (λ (s : Symbol). s.type_bits) x.file.symbols) refl)

-- bss of 2 bytes

abbrev bss_o : Contents
bss_o = object [] [] [] [] 2 []

abbrev bss_wrong : Outcome
bss_wrong = with_header (header 263 0 0 1 0 0 1)

bss_others : (d : Clause) → d ≢ bss → Says d [] (bss_o ∷ []) plain bss_wrong []
bss_others bss ne = absurd (ne refl)
bss_others names ne = refl
bss_others are_rows ne = refl
bss_others table ne = refl
bss_others text ne = wordless bss_wrong.file [] bss_o TextSeg refl
bss_others «data» ne = wordless bss_wrong.file [] bss_o DataSeg refl
bss_others multiples ne = ([], refl, refl)
bss_others reserved ne = nothing_reserved
bss_others undefined ne = λ r. refl
bss_others d ne = passed [] (bss_o ∷ []) plain bss_wrong [] d refl

bss_needed : IsNeeded bss
bss_needed =
    needed bss [] (bss_o ∷ []) plain bss_wrong [] (as_object bss_o refl refl refl refl refl refl refl refl, tt)
    bss_others (other_outcome [] (bss_o ∷ []) plain (with_header (header 263 0 0 2 0 0 1)) bss_wrong refl (λ x. x.file.header.bss_size) refl)

-- one word of text, and one of data

abbrev text_o : Contents
text_o = object (1 ∷ []) (0 ∷ []) [] [] 0 []

abbrev text_wrong : Outcome
text_wrong = with_file (file_of (header 263 2 0 0 0 0 1) (2 ∷ []) [] [])

text_others : (d : Clause) → d ≢ text → Says d [] (text_o ∷ []) plain text_wrong []
text_others text ne = absurd (ne refl)
text_others names ne = refl
text_others are_rows ne = refl
text_others table ne = refl
text_others «data» ne = wordless text_wrong.file [] text_o DataSeg refl
text_others multiples ne = ([], refl, refl)
text_others reserved ne = nothing_reserved
text_others undefined ne = λ r. refl
text_others d ne = passed [] (text_o ∷ []) plain text_wrong [] d refl

text_needed : IsNeeded text
text_needed =
    needed text [] (text_o ∷ []) plain text_wrong [] (as_object text_o refl refl refl refl refl refl refl refl, tt)
    text_others (other_outcome [] (text_o ∷ []) plain (with_file (file_of (header 263 2 0 0 0 0 1) (1 ∷ []) [] [])) text_wrong refl
    (λ x. sum_by (λ (w : ℕ). w) x.file.text_words) refl)

abbrev data_o : Contents
data_o = object [] [] (1 ∷ []) (0 ∷ []) 0 []

abbrev data_wrong : Outcome
data_wrong = with_file (file_of (header 263 0 2 0 0 0 1) [] (2 ∷ []) [])

data_others : (d : Clause) → d ≢ «data» → Says d [] (data_o ∷ []) plain data_wrong []
data_others «data» ne = absurd (ne refl)
data_others names ne = refl
data_others are_rows ne = refl
data_others table ne = refl
data_others text ne = wordless data_wrong.file [] data_o TextSeg refl
data_others multiples ne = ([], refl, refl)
data_others reserved ne = nothing_reserved
data_others undefined ne = λ r. refl
data_others d ne = passed [] (data_o ∷ []) plain data_wrong [] d refl

data_needed : IsNeeded «data»
data_needed =
    needed «data» [] (data_o ∷ []) plain data_wrong [] (as_object data_o refl refl refl refl refl refl refl refl, tt)
    data_others (other_outcome [] (data_o ∷ []) plain (with_file (file_of (header 263 0 2 0 0 0 1) [] (1 ∷ []) [])) data_wrong refl
    (λ x. sum_by (λ (w : ℕ). w) x.file.data_words) refl)

-- the same with relocation: the relocation word of an absolute word says text

abbrev text_kept_wrong : Outcome
text_kept_wrong = with_file (record (file_of (header 263 2 0 0 0 0 0) (1 ∷ []) [] []) { text_reloc = relocs (2 ∷ []) })

text_kept_others : (d : Clause) → d ≢ text_kept → Says d [] (text_o ∷ []) relocatable text_kept_wrong []
text_kept_others text_kept ne = absurd (ne refl)
text_kept_others names ne = refl
text_kept_others are_rows ne = refl
text_kept_others table ne = refl
text_kept_others text ne =
    only_object (λ before k. (i w : ℕ) (r : Reloc) → slice_get k.text_words i ≡ Some w →
    slice_get k.text_reloc i ≡ Some r → IsRelocated text_kept_wrong.file [] (text_o ∷ []) before k TextSeg i w r) text_o
    (only_word (λ i w r. IsRelocated text_kept_wrong.file [] (text_o ∷ []) [] text_o TextSeg i w r) 1 (record { 0 = 0 })
    (record { added = 0; is = refl; word = refl }))
text_kept_others «data» ne = wordless text_kept_wrong.file [] text_o DataSeg refl
text_kept_others data_kept ne = λ r. unkept text_kept_wrong.file [] 0 text_o DataSeg refl
text_kept_others multiples ne = ([], refl, refl)
text_kept_others reserved ne = nothing_reserved
text_kept_others undefined ne = λ r. absurd (cc)
text_kept_others d ne = passed [] (text_o ∷ []) relocatable text_kept_wrong [] d refl

text_kept_needed : IsNeeded text_kept
text_kept_needed =
    needed text_kept [] (text_o ∷ []) relocatable text_kept_wrong [] (as_object text_o refl refl refl refl refl refl refl refl, tt)
    text_kept_others (other_outcome [] (text_o ∷ []) relocatable (record text_kept_wrong {
      file = record text_kept_wrong.file { text_reloc = relocs (0 ∷ []) };
    }) text_kept_wrong refl (λ x. sum_by (λ (r : Reloc). r.0) x.file.text_reloc) refl)

abbrev data_kept_wrong : Outcome
data_kept_wrong = with_file (record (file_of (header 263 0 2 0 0 0 0) [] (1 ∷ []) []) { data_reloc = relocs (2 ∷ []) })

data_kept_others : (d : Clause) → d ≢ data_kept → Says d [] (data_o ∷ []) relocatable data_kept_wrong []
data_kept_others data_kept ne = absurd (ne refl)
data_kept_others names ne = refl
data_kept_others are_rows ne = refl
data_kept_others table ne = refl
data_kept_others text ne = wordless data_kept_wrong.file [] data_o TextSeg refl
data_kept_others «data» ne =
    only_object (λ before k. (i w : ℕ) (r : Reloc) → slice_get k.data_words i ≡ Some w →
    slice_get k.data_reloc i ≡ Some r → IsRelocated data_kept_wrong.file [] (data_o ∷ []) before k DataSeg i w r) data_o
    (only_word (λ i w r. IsRelocated data_kept_wrong.file [] (data_o ∷ []) [] data_o DataSeg i w r) 1 (record { 0 = 0 })
    (record { added = 0; is = refl; word = refl }))
data_kept_others text_kept ne = λ r. unkept data_kept_wrong.file [] 0 data_o TextSeg refl
data_kept_others multiples ne = ([], refl, refl)
data_kept_others reserved ne = nothing_reserved
data_kept_others undefined ne = λ r. absurd (cc)
data_kept_others d ne = passed [] (data_o ∷ []) relocatable data_kept_wrong [] d refl

data_kept_needed : IsNeeded data_kept
data_kept_needed =
    needed data_kept [] (data_o ∷ []) relocatable data_kept_wrong [] (as_object data_o refl refl refl refl refl refl refl refl, tt)
    data_kept_others (other_outcome [] (data_o ∷ []) relocatable (record data_kept_wrong {
      file = record data_kept_wrong.file { data_reloc = relocs (0 ∷ []) };
    }) data_kept_wrong refl (λ x. sum_by (λ (r : Reloc). r.0) x.file.data_reloc) refl)

-- with relocation nothing is reported undefined

abbrev none_wrong : Outcome
none_wrong = record { file = record empty { header = header 263 0 0 0 0 0 0 }; report = record silent { undefined = _f ∷ [] } }

none_others : (d : Clause) → d ≢ none → Says d [] [] relocatable none_wrong []
none_others none ne = absurd (ne refl)
none_others names ne = refl
none_others are_rows ne = refl
none_others table ne = refl
none_others text ne = no_words none_wrong.file [] TextSeg
none_others «data» ne = no_words none_wrong.file [] DataSeg
none_others text_kept ne = λ r. none_kept none_wrong.file [] 0 TextSeg
none_others data_kept ne = λ r. none_kept none_wrong.file [] 0 DataSeg
none_others multiples ne = ([], refl, refl)
none_others reserved ne = nothing_reserved
none_others undefined ne = λ r. absurd (cc)
none_others d ne = passed [] [] relocatable none_wrong [] d refl

none_needed : IsNeeded none
none_needed =
    needed none [] [] relocatable none_wrong [] tt
    none_others (other_outcome [] [] relocatable (record none_wrong { report = silent }) none_wrong refl (λ x. length x.report.undefined) refl)

-- each clause is needed

pub each_is_needed : (c : Clause) → IsNeeded c
each_is_needed text_size = needed_empty text_size (with_header (header 263 2 0 0 0 0 1)) refl refl
each_is_needed data_size = needed_empty data_size (with_header (header 263 0 2 0 0 0 1)) refl refl
each_is_needed bss = bss_needed
each_is_needed text_words = needed_empty text_words (with_file (record empty { text_words = 0 ∷ [] })) refl refl
each_is_needed data_words = needed_empty data_words (with_file (record empty { data_words = 0 ∷ [] })) refl refl
each_is_needed magic = needed_empty magic (with_header (header 264 0 0 0 0 0 1)) refl refl
each_is_needed symbol_size = needed_empty symbol_size (with_header (header 263 0 0 0 12 0 1)) refl refl
each_is_needed unused = needed_empty unused (with_header (record (header 263 0 0 0 0 0 1) { unused = 1 })) refl refl
each_is_needed flag = needed_empty flag (with_header (header 263 0 0 0 0 0 0)) refl refl
each_is_needed short = short_needed
each_is_needed few = few_needed
each_is_needed names = names_needed
each_is_needed are_rows = are_rows_needed
each_is_needed table = needed_empty table (with_file (file_of (header 263 0 0 0 12 0 1) [] [] (entry_of _f 33 0 ∷ []))) refl refl
each_is_needed text = text_needed
each_is_needed «data» = data_needed
each_is_needed text_relocs = needed_empty text_relocs (with_file (record empty { text_reloc = relocs (0 ∷ []) })) refl refl
each_is_needed data_relocs = needed_empty data_relocs (with_file (record empty { data_reloc = relocs (0 ∷ []) })) refl refl
each_is_needed text_kept = text_kept_needed
each_is_needed data_kept = data_kept_needed
each_is_needed entry = needed_empty entry (with_header (header 263 0 0 0 0 2 1)) refl refl
each_is_needed multiples = needed_empty multiples (with_report (record silent { multiples = _f ∷ [] })) refl refl
each_is_needed reserved = needed_empty reserved (with_report (record silent { reserved = _f ∷ [] })) refl refl
each_is_needed undefined = needed_empty undefined (with_report (record silent { undefined = _f ∷ [] })) refl refl
each_is_needed none = none_needed
