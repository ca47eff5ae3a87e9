-- The clauses of the relation of linking as tests, where what they speak of is written out.
use Rattle.std.proofs.Common.{◌≡◌, ◌≢◌, ℕ, zero, suc, ◌+◌, ◌*◌, ◌<◌, ◌≤◌, Bool, true, false, cond, not, ◌&&◌, List, [], ◌∷◌, ◌++◌, length}
use Rattle.std.proofs.Common.{Option, Some, None, refl, sym, ◌∙◌, ap, subst, arith, inr, eqb-true, eq-eqb}
use Rattle.std.proofs.{lemmas.Bool.and_parts, lemmas.Bool.ltb-false, lemmas.Bool.ltb-true, lemmas.Slice.Eq.bytes_eq-Decides}
use Rattle.std.specs.Prelude.{eqb, nat_lt, is_none, slice_get, Ok, bytes_eq}
use Rattle.aout_core.specs.declared.symbol.Segment.TheVariants.{TextSeg, DataSeg, BssSeg}
use Rattle.aout_core.specs.{declared.symbol.Segment.Segment, declared.reloc.Reloc.Reloc, WellFormed.IsWellFormed, Addresses.data_start_in}
use Rattle.aout_core.specs.{Contents.{Contents, is_magic, has_whole_sizes, with_relocation}, declared.symbol.Symbol.Symbol}
use Rattle.link_session.specs.{declared.state.State.TheVariants.Defined, declared.state.State.TheVariants.Wanted, Sessions.IsObject}
use Rattle.link_session.specs.{Cells.segment_words, Cells.segment_relocs, Starts.total, Mentions.Mention}
use Rattle.tool_options.specs.Choices.{Choices}
use Rattle.link_out.specs.{ReservedNames.{etext, edata, end_name, reserved_names}, Layouts.magic_of, Results.Outcome, function.Link.link}
use Rattle.laws.specs.{relation.NameStates.IsWanted, relation.Relocated.IsRelocated, relation.Relocated.IsEntry}
use Rattle.laws.specs.{relation.LinkedWords.AreRelocated, relation.LinkedWords.IsKept, relation.LinkedWords.AreKept}
use Rattle.laws.specs.{relation.Reported.ArePicked, relation.Reported.IsOther, relation.LinkedFrom.IsLinkedFrom}
use Rattle.laws.proofs.examples.Clauses.{Clause, text_size, data_size, bss, text_words, data_words, magic, symbol_size, unused, flag, short}
use Rattle.laws.proofs.examples.Clauses.{few, names, are_rows, table, text, «data», text_relocs, data_relocs, text_kept, data_kept, entry}
use Rattle.laws.proofs.examples.Clauses.{multiples, reserved, undefined, none, Says, ClausesAreAll}

abbrev pub at_most : ℕ → ℕ → Bool
at_most a b = not (nat_lt b a)

abbrev pub is_empty : {A : Type 0} → List A → Bool
is_empty [] = true
is_empty (x ∷ xs) = false

pub at_most_so : (a b : ℕ) → at_most a b ≡ true → a ≤ b
at_most_so a b e = ltb-false b a (un_not (nat_lt b a) e)
  where
    un_not : (t : Bool) → not t ≡ true → t ≡ false
    un_not true h = absurd (cc)
    un_not false h = refl

pub less_so : (a b : ℕ) → nat_lt a b ≡ true → a < b
less_so a b e = ltb-true a b e

pub empty_so : {A : Type 0} (xs : List A) → is_empty xs ≡ true → xs ≡ []
empty_so [] e = refl
empty_so (x ∷ xs) e = absurd (cc)

none_so : {A : Type 0} (e : Option A) → is_none e ≡ true → e ≡ None
none_so None h = refl
none_so (Some x) h = absurd (cc)

entry_so : (rows : List Symbol) (wish : Option (List ℕ)) (word : ℕ) (bad : Option (List ℕ)) →
    (is_none wish && (eqb word 0 && is_none bad)) ≡ true → IsEntry rows wish word bad
entry_so rows (Some name) word bad h = absurd (cc)
entry_so rows None word bad h = let both = and_parts (eqb word 0) (is_none bad) h in (eqb-true word 0 both.0, none_so bad both.1)

-- the clauses on numbers and on lengths, as tests; the others are shown where they are used
module _ (forced : List (List ℕ)) (os : List Contents) (o : Choices) (x : Outcome) (rows : List Symbol) where
  abbrev pub passes : Clause → Bool
  passes text_size = eqb x.file.header.text_size (total TextSeg os)
  passes data_size = eqb x.file.header.data_size (total DataSeg os)
  passes bss = at_most (total BssSeg os) x.file.header.bss_size
  passes text_words = eqb (2 * length x.file.text_words) (total TextSeg os)
  passes data_words = eqb (2 * length x.file.data_words) (total DataSeg os)
  passes magic = eqb x.file.header.magic (magic_of o.layout)
  passes symbol_size = eqb x.file.header.symbol_size (12 * length x.file.symbols)
  passes unused = eqb x.file.header.unused 0
  passes flag = eqb x.file.header.flag (cond o.relocatable 0 1)
  passes short = at_most (data_start_in x.file.header + x.file.header.data_size + x.file.header.bss_size) 65535
  passes few = at_most (length x.file.symbols) 5461
  passes text_relocs = eqb (2 * length x.file.text_reloc) (cond o.relocatable (total TextSeg os) 0)
  passes data_relocs = eqb (2 * length x.file.data_reloc) (cond o.relocatable (total DataSeg os) 0)
  passes text_kept = not o.relocatable
  passes data_kept = not o.relocatable
  passes entry = is_none o.entry && (eqb x.file.header.entry_point 0 && is_none x.report.entry_bad)
  passes none = is_empty x.report.undefined
  passes _ = false

  plain_so : {P : Type 0} (t : Bool) → not t ≡ true → t ≡ true → P
  plain_so true h e = absurd (cc)
  plain_so false h e = absurd (cc)

  pub passed : (c : Clause) → passes c ≡ true → Says c forced os o x rows
  passed text_size h = eqb-true x.file.header.text_size (total TextSeg os) h
  passed data_size h = eqb-true x.file.header.data_size (total DataSeg os) h
  passed bss h = at_most_so (total BssSeg os) x.file.header.bss_size h
  passed text_words h = eqb-true (2 * length x.file.text_words) (total TextSeg os) h
  passed data_words h = eqb-true (2 * length x.file.data_words) (total DataSeg os) h
  passed magic h = eqb-true x.file.header.magic (magic_of o.layout) h
  passed symbol_size h = eqb-true x.file.header.symbol_size (12 * length x.file.symbols) h
  passed unused h = eqb-true x.file.header.unused 0 h
  passed flag h = eqb-true x.file.header.flag (cond o.relocatable 0 1) h
  passed short h = at_most_so (data_start_in x.file.header + x.file.header.data_size + x.file.header.bss_size) 65535 h
  passed few h = at_most_so (length x.file.symbols) 5461 h
  passed text_relocs h = eqb-true (2 * length x.file.text_reloc) (cond o.relocatable (total TextSeg os) 0) h
  passed data_relocs h = eqb-true (2 * length x.file.data_reloc) (cond o.relocatable (total DataSeg os) 0) h
  passed text_kept h = λ e. plain_so o.relocatable h e
  passed data_kept h = λ e. plain_so o.relocatable h e
  passed entry h = entry_so rows o.entry x.file.header.entry_point x.report.entry_bad h
  passed none h = λ r. empty_so x.report.undefined h
  passed names h = absurd (cc)
  passed are_rows h = absurd (cc)
  passed table h = absurd (cc)
  passed text h = absurd (cc)
  passed «data» h = absurd (cc)
  passed multiples h = absurd (cc)
  passed reserved h = absurd (cc)
  passed undefined h = absurd (cc)

-- lists of no object, of one, and of two

pub no_object : (before : List Contents) (k : Contents) (after : List Contents) → [] ≡ before ++ k ∷ after → ⊥
no_object [] k after e = cc
no_object (b ∷ before) k after e = cc

pub no_words : (file : Contents) (rows : List Symbol) (segment : Segment) → AreRelocated file rows [] segment
no_words file rows segment before k after e i w r ew er = absurd (no_object before k after e)

pub none_kept : (file : Contents) (rows : List Symbol) (locals : ℕ) (segment : Segment) → AreKept file rows locals [] segment
none_kept file rows locals segment before k after e i w r ew er = absurd (no_object before k after e)

pub only_object : (P : List Contents → Contents → Type 0) (j : Contents) → P [] j →
    (before : List Contents) (k : Contents) (after : List Contents) → j ∷ [] ≡ before ++ k ∷ after → P before k
only_object P j h [] k after e = let same : j ≡ k = cc in subst (λ (c : Contents). P [] c) same h
only_object P j h (b ∷ before) k after e = let rest : [] ≡ before ++ k ∷ after = cc in absurd (no_object before k after rest)

pub one_of_two : (P : List Contents → Contents → Type 0) (i j : Contents) → P [] i → P (i ∷ []) j →
    (before : List Contents) (k : Contents) (after : List Contents) → i ∷ j ∷ [] ≡ before ++ k ∷ after → P before k
one_of_two P i j h g [] k after e = let same : i ≡ k = cc in subst (λ (c : Contents). P [] c) same h
one_of_two P i j h g (b ∷ before) k after e =
    let same : i ≡ b = cc in
    let rest : j ∷ [] ≡ before ++ k ∷ after = cc in
    subst (λ (c : Contents). P (c ∷ before) k) same (only_object (λ front k. P (i ∷ front) k) j g before k after rest)

-- objects, and an object without words

pub as_object : (c : Contents) → is_magic c.header.magic ≡ true → has_whole_sizes c.header ≡ true →
    2 * length c.text_words ≡ c.header.text_size → 2 * length c.data_words ≡ c.header.data_size →
    2 * length c.text_reloc ≡ with_relocation c.header c.header.text_size →
    2 * length c.data_reloc ≡ with_relocation c.header c.header.data_size →
    12 * length c.symbols ≡ c.header.symbol_size → IsWellFormed c → IsObject c
as_object c a b d e f g h well = record {
  fits = record { magic = a; sizes = b; text = d; «data» = e; text_relocation = f; data_relocation = g; table = h };
  well = well;
}

pub no_word : {A : Type 0} (xs : List A) → xs ≡ [] → (i : ℕ) (x : A) → slice_get xs i ≡ Some x → ⊥
no_word xs n i x e = let bad : slice_get [] i ≡ Some x = ap (λ ys. slice_get ys i) (sym n) ∙ e in cc

pub wordless : (file : Contents) (rows : List Symbol) (j : Contents) (segment : Segment) → segment_words segment j ≡ [] →
    AreRelocated file rows (j ∷ []) segment
wordless file rows j segment n =
    only_object (λ before k. (i w : ℕ) (r : Reloc) → slice_get (segment_words segment k) i ≡ Some w →
    slice_get (segment_relocs segment k) i ≡ Some r → IsRelocated file rows (j ∷ []) before k segment i w r) j
    (λ i w r ew er. absurd (no_word (segment_words segment j) n i w ew))

pub unkept : (file : Contents) (rows : List Symbol) (locals : ℕ) (j : Contents) (segment : Segment) → segment_words segment j ≡ [] →
    AreKept file rows locals (j ∷ []) segment
unkept file rows locals j segment n =
    only_object (λ before k. (i w : ℕ) (r : Reloc) → slice_get (segment_words segment k) i ≡ Some w →
    slice_get (segment_relocs segment k) i ≡ Some r → IsKept file rows locals before k segment i r) j
    (λ i w r ew er. absurd (no_word (segment_words segment j) n i w ew))

pub only_word : (P : ℕ → ℕ → Reloc → Type 0) (w : ℕ) (r : Reloc) → P 0 w r → (i v : ℕ) (s : Reloc) →
    slice_get (w ∷ []) i ≡ Some v → slice_get (r ∷ []) i ≡ Some s → P i v s
only_word P w r h zero v s e f =
    let word : w ≡ v = cc in
    let reloc : r ≡ s = cc in
    subst (λ (n : ℕ). P 0 n s) word (subst (λ (t : Reloc). P 0 w t) reloc h)
only_word P w r h (suc i) v s e f = absurd (cc)

-- no mention picks nothing to report

none_wanted : (name : List ℕ) → IsWanted [] name 0
none_wanted name = record { undefined = tt; most = tt; least = λ n h. omega arith }

pub nothing_reserved : ArePicked (λ name. IsWanted [] name 0 → ⊥) reserved_names []
nothing_reserved = inr ((λ h. h (none_wanted _)), inr ((λ h. h (none_wanted _)), inr ((λ h. h (none_wanted _)), refl)))

-- one mention, that wants its name at a size

abbrev wants : List ℕ → ℕ → List Mention
wants name size = record { name = name; says = Wanted size } ∷ []

pub wants_alone : (name : List ℕ) (size : ℕ) → IsOther (wants name size) (record { name = name; says = Wanted size }) → ⊥
wants_alone name size h = let bad : Wanted size ≡ Defined h.segment h.offset = h.says in absurd (cc)

pub only_wanted : (name : List ℕ) (size : ℕ) → IsWanted (wants name size) name size
only_wanted name size = record {
  undefined = ((λ same segment offset e. let bad : Wanted size ≡ Defined segment offset = e in absurd (cc)), tt);
  most = ((λ same n e. let is : size ≡ n = cc in omega arith), tt);
  least = λ n h. h.0 refl size refl;
}

other_wanted : (name other : List ℕ) (size : ℕ) → bytes_eq other name ≡ false → IsWanted (wants name size) other 0
other_wanted name other size apart = record {
  undefined = ((λ same segment offset e. let bad : Wanted size ≡ Defined segment offset = e in absurd (cc)), tt);
  most = ((λ same n e. absurd (let bad : false ≡ true = sym apart ∙ (bytes_eq-Decides other name).1 same in cc)), tt);
  least = λ n h. omega arith;
}

pub none_reserved : (name : List ℕ) (size : ℕ) → bytes_eq etext name ≡ false → bytes_eq edata name ≡ false →
    bytes_eq end_name name ≡ false → ArePicked (λ n. IsWanted (wants name size) n 0 → ⊥) reserved_names []
none_reserved name size e f g =
    inr (
      (λ h. h (other_wanted name etext size e)),
      inr ((λ h. h (other_wanted name edata size f)), inr ((λ h. h (other_wanted name end_name size g)), refl)),
    )

-- the clauses are the relation

pub clauses_are_all : ClausesAreAll
clauses_are_all forced os o x = (
  (λ h. let says = h.1 in
      let told = says multiples in
      record {
        rows = h.0;
        holds = record {
          text = says text_size;
          «data» = says data_size;
          bss = says bss;
          text_words = says text_words;
          data_words = says data_words;
        };
        header = record {
          magic = says magic;
          symbol_size = says symbol_size;
          unused = says unused;
          flag = says flag;
          short = says short;
          few = says few;
        };
        names = says names;
        are_rows = says are_rows;
        table = says table;
        text = says text;
        «data» = says «data»;
        text_relocs = says text_relocs;
        data_relocs = says data_relocs;
        text_kept = says text_kept;
        data_kept = says data_kept;
        entry = says entry;
        report = record {
          others = told.0;
          picked = told.1;
          multiples = told.2;
          reserved = says reserved;
          undefined = says undefined;
          none = says none;
        };
      }),
  (λ h. (h.rows, said h)),
)
  where
    said : (h : IsLinkedFrom forced os o x) → (c : Clause) → Says c forced os o x h.rows
    said h text_size = h.holds.text
    said h data_size = h.holds.data
    said h bss = h.holds.bss
    said h text_words = h.holds.text_words
    said h data_words = h.holds.data_words
    said h magic = h.header.magic
    said h symbol_size = h.header.symbol_size
    said h unused = h.header.unused
    said h flag = h.header.flag
    said h short = h.header.short
    said h few = h.header.few
    said h names = h.names
    said h are_rows = h.are_rows
    said h table = h.table
    said h text = h.text
    said h «data» = h.data
    said h text_relocs = h.text_relocs
    said h data_relocs = h.data_relocs
    said h text_kept = h.text_kept
    said h data_kept = h.data_kept
    said h entry = h.entry
    said h multiples = (h.report.others, h.report.picked, h.report.multiples)
    said h reserved = h.report.reserved
    said h undefined = h.report.undefined
    said h none = h.report.none

-- an outcome that differs in a number is another
pub other_outcome : (forced : List (List ℕ)) (os : List Contents) (o : Choices) (x y : Outcome) →
    link forced os o ≡ Ok x → (f : Outcome → ℕ) → eqb (f x) (f y) ≡ false → link forced os o ≢ Ok y
other_outcome forced os o x y linked f apart e =
    let both : Ok x ≡ Ok y = sym linked ∙ e in
    let same : x ≡ y = cc in
    let bad : true ≡ false = sym (eq-eqb (f x) (f y) (ap f same)) ∙ apart in
    absurd (cc)
