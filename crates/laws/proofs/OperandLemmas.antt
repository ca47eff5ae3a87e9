-- What words of a linked program find, beside what they find in their objects.
use Rattle.std.proofs.Common.{rules, ◌≡◌, ◌≢◌, ℕ, ◌+◌, ◌-◌, ◌*◌, ◌%◌, ◌<◌, ◌≤◌, Bool, true, false, cond, List, [], ◌∷◌, ◌++◌, Some, None}
use Rattle.std.proofs.{Common.{refl, sym, ◌∙◌, ap, subst, arith}, lemmas.List.Sums.sum_by-append}
use Rattle.std.specs.{Prelude.slice_get, Prelude.Ok, List.AllByRecursion}
use Rattle.aout_core.specs.declared.symbol.Segment.TheVariants.{Undefined, Absolute, TextSeg, DataSeg, BssSeg, Other}
use Rattle.aout_core.specs.{declared.header.Header.Header, declared.symbol.Symbol.Symbol, declared.symbol.Segment.Segment}
use Rattle.aout_core.specs.{declared.reloc.Reloc.Reloc, declared.reloc.Kind.Kind, Contents.Contents, Words.plus, WellFormed.kind_of}
use Rattle.aout_core.specs.WellFormed.{is_pc_relative, symbol_number}
use Rattle.aout_core.specs.declared.reloc.Kind.TheVariants as kinds
use Rattle.link_session.specs.{declared.state.State.State, declared.state.State.TheVariants.Defined}
use Rattle.link_session.specs.{declared.state.State.TheVariants.Wanted, Starts.size_of, Starts.total, Starts.own, Sessions.IsObject, Mentions.mentions}
use Rattle.link_session.specs.{Mentions.names_by_first_mention, States.state, Cells.segment_words, Cells.segment_relocs}
use Rattle.tool_options.specs.{NameLists.is_among, declared.options.Keep.TheVariants.Nothing, Choices.Choices}
use Rattle.link_out.specs.function.Link.{link}
use Rattle.link_out.specs.{function.Plans.{Plan, plan}, function.Finals.final_by, Results.Outcome, function.Tables.external_row}
use Rattle.laws.specs.{relation.Relocated.{move_in, entry_of, address_in, HoldsObjects}, Operands.{operand, segment_meant, is_usable_in}}
use Rattle.laws.specs.{Core.{Space, is_in, IsWordAt}, CoreLaws.{space_of, IsPlace, IsLoaded}}
use Rattle.laws.proofs.{RelocatedLemmas.objects_fill, ExternalLemmas.entry_in_table, ExternalLemmas.row_address}
use Rattle.laws.proofs.{SegmentLemmas.HasWords, LinkedTheorem.linked_exactly}
use Rattle.laws.proofs.{CoreLemmas.within_back, LoadedLemmas.{address_of, place_at, words_loaded, words_of_rows}}
use Rattle.link_out.proofs.OutcomeLemmas.{made_file}

-- word i of a segment of k, which is w with relocation word r, finds in the program so much more than it does in k
pub record FindsMore (file : Contents) (os before : List Contents) (k : Contents) (segment : Segment) (i w : ℕ)
    (r : Reloc) (more : ℕ) : Type 0 where
  pub address : ℕ
  pub place : IsPlace file.header os before k segment (2 * i) address
  pub word : ℕ
  pub is_there : IsWordAt file (space_of segment) address word
  pub finds : operand (is_pc_relative r) address word ≡ plus more (operand (is_pc_relative r) (own k segment + 2 * i) w)

-- a word that refers to a name finds more, by the value of the name's external symbol
pub record FindsName (file : Contents) (os before : List Contents) (k : Contents) (segment : Segment) (i w : ℕ) (r : Reloc) : Type 0 where
  pub symbol : Symbol
  pub row : Symbol
  pub named : slice_get k.symbols (symbol_number r) ≡ Some symbol
  pub found : entry_of file.symbols symbol.name ≡ Some row
  pub more : FindsMore file os before k segment i w r row.value

-- a word that is loaded finds more by what was added to it
module _ (file : Contents) (rows : List Symbol) (os before : List Contents) (k : Contents) where
  -- a loaded word finds so much more as was added to it
  pub loaded_finds : (segment : Segment) → HasWords segment → (i w : ℕ) (r : Reloc)
      (l : IsLoaded file rows os before k segment i w r) → FindsMore file os before k segment i w r l.added
  loaded_finds TextSeg has i w r l = search rules
  loaded_finds DataSeg has i w r l = search rules
  loaded_finds _ has i w r l = absurd has

-- names

-- without relocation a name's value is its address
module _ (forced : List (List ℕ)) (os : List Contents) (o : Choices) (unkept : o.relocatable ≡ false) where
  abbrev p : Plan
  p = plan forced os o

  written_by : (name : List ℕ) (st : State) → (final_by p name st).address ≡ (final_by p name st).written
  written_by name (Defined segment offset) = refl
  written_by name (Wanted size) = search rules

  value_in : (name : List ℕ) → address_in (external_row p name) ≡ (external_row p name).value
  value_in name = row_address forced os o name ∙ written_by name (state (mentions forced os) name)

  value_given : (x : Outcome) → o.keep ≢ Nothing → link forced os o ≡ Ok x → (name : List ℕ) (row : Symbol) →
      entry_of x.file.symbols name ≡ Some row → address_in row ≡ row.value
  value_given x others linked name row found =
      by_test (is_among (names_by_first_mention (mentions forced os)) name) (sym (entry_in_table p os name others)
      ∙ ap (λ (f : Contents). entry_of f.symbols name) (made_file p os x linked) ∙ found)
    where
      by_test : (t : Bool) → cond t (Some (external_row p name)) None ≡ Some row → address_in row ≡ row.value
      by_test true e = let same : external_row p name ≡ row = cc in subst (λ (s : Symbol). address_in s ≡ s.value) same (value_in name)
      by_test false e = absurd (cc)

-- a word that refers to a name finds the address of the name's external symbol more
pub record FindsAddress (file : Contents) (os before : List Contents) (k : Contents) (segment : Segment) (i w : ℕ)
    (r : Reloc) : Type 0 where
  pub symbol : Symbol
  pub row : Symbol
  pub named : slice_get k.symbols (symbol_number r) ≡ Some symbol
  pub found : entry_of file.symbols symbol.name ≡ Some row
  pub more : FindsMore file os before k segment i w r (address_in row)

-- a word that refers to a name finds the address of its definition
pub address_found : (forced : List (List ℕ)) (before : List Contents) (k : Contents) (after : List Contents) (o : Choices) (x : Outcome) →
    AllByRecursion IsObject (before ++ k ∷ after) → o.keep ≢ Nothing → link forced (before ++ k ∷ after) o ≡ Ok x →
    (segment : Segment) (i w : ℕ) (r : Reloc) → slice_get (segment_words segment k) i ≡ Some w →
    slice_get (segment_relocs segment k) i ≡ Some r →
    kind_of r ≡ Some kinds.External → FindsAddress x.file (before ++ k ∷ after) before k segment i w r
address_found forced before k after o x good others linked segment i w r ew er kind =
    let os = before ++ k ∷ after in
    let l = words_loaded forced before k after o x good others linked segment i w r ew er in
    search rules

-- the same by the value of the name in the file's table
pub names_found : (forced : List (List ℕ)) (before : List Contents) (k : Contents) (after : List Contents) (o : Choices) (x : Outcome) →
    AllByRecursion IsObject (before ++ k ∷ after) → o.keep ≢ Nothing → o.relocatable ≡ false → link forced (before ++ k ∷ after) o ≡ Ok x →
    (segment : Segment) (i w : ℕ) (r : Reloc) → slice_get (segment_words segment k) i ≡ Some w →
    slice_get (segment_relocs segment k) i ≡ Some r →
    kind_of r ≡ Some kinds.External → FindsName x.file (before ++ k ∷ after) before k segment i w r
names_found forced before k after o x good others unkept linked segment i w r ew er kind =
    let os = before ++ k ∷ after in
    let a = address_found forced before k after o x good others linked segment i w r ew er kind in
    search (rules, value_given)

-- segments

-- a word that refers to a segment finds it where it was moved
pub segments_found : (forced : List (List ℕ)) (before : List Contents) (k : Contents) (after : List Contents) (o : Choices) (x : Outcome) →
    AllByRecursion IsObject (before ++ k ∷ after) → link forced (before ++ k ∷ after) o ≡ Ok x →
    (segment : Segment) (i w : ℕ) (r : Reloc) → slice_get (segment_words segment k) i ≡ Some w →
    slice_get (segment_relocs segment k) i ≡ Some r →
    (kind : Kind) (meant : Segment) → kind_of r ≡ Some kind → segment_meant kind ≡ Some meant →
    FindsMore x.file (before ++ k ∷ after) before k segment i w r (move_in x.file.header (before ++ k ∷ after) before k meant)
segments_found forced before k after o x good linked segment i w r ew er kind meant e m =
    let os = before ++ k ∷ after in
    let from = (linked_exactly forced os o x good).0 linked in
    let l = words_of_rows forced before k after o x good from segment i w r ew er in
    search rules

-- calls

-- segments without bytes take no room
no_space : (segment : Segment) → ((k : Contents) → size_of segment k ≡ 0) → (os : List Contents) → total segment os ≡ 0
no_space segment none [] = refl
no_space segment none (k ∷ ks) = sum_by-append (size_of segment) (k ∷ []) ks ∙ (λ i. 0 + none k i + no_space segment none ks i)

-- each definition has a place; an absolute one is its own
module _ (h : Header) (os before : List Contents) (k : Contents) where
  unmoved : (total n : ℕ) → total ≡ 0 → plus (0 + n) 0 ≡ (0 + total + n) % 65536
  unmoved total n e = omega arith

  -- the address of a place, in any segment
  pub any_place : (segment : Segment) (n : ℕ) → IsPlace h os before k segment n (address_of h os before k segment n)
  any_place TextSeg n = place_at h os before k TextSeg tt n
  any_place DataSeg n = place_at h os before k DataSeg tt n
  any_place BssSeg n = place_at h os before k BssSeg tt n
  any_place Undefined n = record { sum = refl; symbol = unmoved (total Undefined before) n (no_space Undefined (λ c. refl) before) }
  any_place Absolute n = record { sum = refl; symbol = unmoved (total Absolute before) n (no_space Absolute (λ c. refl) before) }
  any_place Other n = record { sum = refl; symbol = unmoved (total Other before) n (no_space Other (λ c. refl) before) }

-- a byte of an object is in its segment of the program
pub byte_in : (forced : List (List ℕ)) (os : List Contents) (o : Choices) (x : Outcome) → AllByRecursion IsObject os →
    link forced os o ≡ Ok x →
    (front : List Contents) (c : Contents) (back : List Contents) → os ≡ front ++ c ∷ back →
    (space : Space) (segment : Segment) → is_usable_in x.file.header.magic segment space ≡ true → (n : ℕ) →
    n < size_of segment c → is_in x.file.header space segment (address_of x.file.header os front c segment n) ≡ true
byte_in forced os o x good linked front c back all space segment there n inside = by_segment segment there inside
  where
    full : HoldsObjects x.file os
    full = objects_fill forced os o x good linked

    sum : (segment : Segment) → total segment os ≡ total segment front + (0 + size_of segment c + total segment back)
    sum segment =
        ap (λ (ys : List Contents). total segment ys) all ∙ sum_by-append (size_of segment) front (c ∷ back)
        ∙ ap (λ (m : ℕ). total segment front + m) (sum_by-append (size_of segment) (c ∷ []) back)

    over : (b t n : ℕ) → b ≤ b + t + n
    over b t n = omega arith

    under : (b s all t m more n : ℕ) → s ≡ all → all ≡ t + (0 + m + more) → n < m → b + t + n < b + s
    under b s all t m more n e f h = omega arith

    over_commons : (e c t n : ℕ) → e ≤ e + c + t + n
    over_commons e c t n = omega arith

    under_commons : (e b all t m more n : ℕ) → all ≡ t + (0 + m + more) → all ≤ b → n < m → e + (b - all) + t + n < e + b
    under_commons e b all t m more n f g h = omega arith

    by_segment : (segment : Segment) → is_usable_in x.file.header.magic segment space ≡ true → n < size_of segment c →
        is_in x.file.header space segment (address_of x.file.header os front c segment n) ≡ true
    by_segment TextSeg has h = search (rules, within_back, address_of, over, under, sum)
    by_segment DataSeg has h = search (rules, within_back, address_of, over, under, sum)
    by_segment BssSeg has h = search (rules, within_back, address_of, over_commons, under_commons, sum)
    by_segment _ has h = absurd (omega arith)
