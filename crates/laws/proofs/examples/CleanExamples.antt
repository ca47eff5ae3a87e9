-- The law of clean programs at three objects. Without one of these premises it does not hold: a place for the parent after `sys fork`,
-- jumps and calls that refer to text, an entry point at 0 or at a symbol within its text, and no name that is multiply defined.
use Rattle.std.proofs.Common.{◌≡◌, ◌≢◌, ℕ, ◌+◌, ◌*◌, ◌/◌, ◌≤◌, ◌⊎◌, inl, inr, Bool, true, false, eqb, nat_lt, List, [], ◌∷◌, ◌++◌, length}
use Rattle.std.proofs.Common.{Option, Some, None, refl, sym, ap, ◌∙◌, subst, arith}
use Rattle.std.proofs.{lemmas.Bool.or_cases, lemmas.Bool.eqb-true, lemmas.Bool.ltb-true, lemmas.Bool.ltb-false, lemmas.Option.same_Some}
use Rattle.std.specs.{Prelude.slice_get, Prelude.Ok, List.AllByRecursion, List.list_all, List.list_any}
use Rattle.aout_core.specs.{declared.symbol.Symbol.Symbol, declared.symbol.Segment.TheVariants.TextSeg, declared.reloc.Reloc.Reloc}
use Rattle.aout_core.specs.{Contents.Contents, Contents.IsWord, WellFormed.is_external}
use Rattle.link_session.specs.{Starts.total, Sessions.IsObject}
use Rattle.tool_options.specs.{declared.options.Layout.TheVariants.Plain, declared.options.Keep.TheVariants.{All, Nothing}, Choices.Choices}
use Rattle.link_out.specs.{Results.Outcome, function.Link.link}
use Rattle.laws.specs.{relation.LinkedFrom.IsLinkedFrom, OperandPlaces.addressing_of}
use Rattle.laws.specs.CleanPrograms.{IsRun, TextSymbol, RefersToOwnText, RefersToText, JumpsTo, JumpsToText, KeepsParent, IsClean, Begins}
use Rattle.laws.specs.CleanPrograms.{IsOfObject, CleanObjectsMakeCleanPrograms}
use Rattle.laws.proofs.{LinkedTheorem.linked_exactly, CleanProgramLemmas.clean_objects}
use Rattle.laws.proofs.{examples.Samples.{sym as entry, object, _f, _g, _main, plain, choices}, examples.LawExamples.{all_so, outcome_of}}
use Rattle.laws.proofs.{examples.ClauseLemmas.{as_object, less_so, at_most_so, no_object}, examples.NeededPremises.all_kept}
use Rattle.instructions.specs.{declared.mode.Addressing.Addressing, declared.operand.Operand.Operand}
use Rattle.instructions.specs.{declared.unix.Decoder.TheVariants.Unix, declared.unix.UnixLine.UnixLine, Instructions.{jumps, word_count_of}}
use Rattle.instructions.specs.{declared.line.Line.TheVariants.Decoded, declared.mode.Addressing.TheVariants.{Absolute, Relative}}
use Rattle.instructions.specs.{declared.unix.UnixLine.TheVariants.{Machine, Call}, declared.call.SystemCall.SystemCall}
use Rattle.instructions.specs.{declared.call.SystemCall.TheVariants.Fork, Rows.{begins as in_row, row_of}, UnixLines.call_of}
use Rattle.disassemblies.specs.Lines.{unix_line_in}
use Rattle.checks.specs.{declared.evidence.Evidence.TheVariants.Promise, Reached.{reached, is_reached, is_text}}
use Rattle.checks.specs.{ReachedLaw.{IsReached, Evident, Led}, SureLaw.NoneIsSure, Suspicions.suspicions}
use Rattle.checks.proofs.ReachLemmas.{reached_law}

-- what holds of each reached place of an object, by the list of them

each_of : (Q : ℕ → Type 0) (xs : List ℕ) (place : ℕ) → list_any (eqb place) xs ≡ true → AllByRecursion Q xs → Q place
each_of Q [] place e all = absurd cc
each_of Q (x ∷ xs) place e all =
    elim (or_cases (eqb place x) (list_any (eqb place) xs) e) [
      | inl same ↦ subst Q (sym (eqb-true place x same)) all.0
      | inr rest ↦ each_of Q xs place rest all.1
    ]

abbrev Each : Contents → (ℕ → Type 0) → Type 0
Each k Q = (place : ℕ) → IsReached Promise k place → Q place

each : (k : Contents) (Q : ℕ → Type 0) → AllByRecursion Q (reached Promise k) → Each k Q
each k Q all place r = each_of Q (reached Promise k) place ((reached_law Promise k place).1 r) all

unreached : (k : Contents) (place : ℕ) → is_reached Promise k place ≡ false → IsReached Promise k place → ⊥
unreached k place none r = let bad : true ≡ false = sym ((reached_law Promise k place).1 r) ∙ none in absurd cc

words_so : (k : Contents) → list_all (λ (w : ℕ). nat_lt w 65536) k.text_words ≡ true → AllByRecursion IsWord k.text_words
words_so k h = all_so (λ (w : ℕ). nat_lt w 65536) IsWord (λ w e. ltb-true w 65536 e) k.text_words h

-- that a line is not `sys fork` and no jump, by tests

abbrev forks : SystemCall → Bool
forks Fork = true
forks _ = false

abbrev is_fork : UnixLine → Bool
is_fork (Call c) = forks c.call
is_fork _ = false

abbrev is_jump : UnixLine → Bool
is_jump (Machine (Decoded i a b)) = jumps i.row.operation
is_jump _ = false

no_parent : (k : Contents) (place : ℕ) → is_fork (unix_line_in Unix k place) ≡ false → KeepsParent k place
no_parent k place h c line e =
    let bad : true ≡ false = sym (ap is_fork line ∙ ap forks e) ∙ h in absurd cc

no_jump : (Refers : Addressing → ℕ → Reloc → Type 0) (k : Contents) (place : ℕ) → is_jump (unix_line_in Unix k place) ≡ false →
    JumpsTo Refers k place
no_jump Refers k place h instruction a b line j operand p is way mode direct r found =
    let bad : true ≡ false = sym (ap is_jump line ∙ j) ∙ h in absurd cc

-- a jump at the beginning whose operand, of this mode, has word 1

abbrev HasWordOne : Addressing → Option Operand → ℕ → Type 0
HasWordOne a operand p = (addressing_of operand ≡ None) ⊎ ((addressing_of operand ≡ Some a) × (p ≡ 1))

abbrev UsesWordOne : Addressing → UnixLine → Type 0
UsesWordOne a (Machine (Decoded i x y)) = HasWordOne a i.first 1 × HasWordOne a i.second (1 + word_count_of i.first)
UsesWordOne a _ = Unit {0}

module _ (Refers : Addressing → ℕ → Reloc → Type 0) (k : Contents) (a : Addressing) (n : ℕ) where
  word_one : Refers a 1 (record { 0 = n }) → slice_get k.text_reloc 1 ≡ Some (record { 0 = n }) →
      (operand o : Option Operand) (p q : ℕ) → operand ≡ o → p ≡ q → HasWordOne a o q →
      (way : Addressing) → addressing_of operand ≡ Some way → (r : Reloc) → slice_get k.text_reloc p ≡ Some r → Refers way p r
  word_one known there operand o p q e at (inl none) way mode r found =
      let bad : None ≡ Some way = sym none ∙ ap addressing_of (sym e) ∙ mode in absurd cc
  word_one known there operand o p q e at (inr (is, one)) way mode r found =
      let same : a ≡ way = same_Some a way (sym is ∙ ap addressing_of (sym e) ∙ mode) in
      let here : p ≡ 1 = at ∙ one in
      let reloc : record { 0 = n } ≡ r =
      same_Some (record { 0 = n }) r (sym there ∙ ap (λ (m : ℕ). slice_get k.text_reloc m) (sym here) ∙ found) in
      subst (λ (b : Addressing). Refers b p r) same
      (subst (λ (m : ℕ). Refers a m r) (sym here) (subst (λ (s : Reloc). Refers a 1 s) reloc known))

  jumps_by : Refers a 1 (record { 0 = n }) → slice_get k.text_reloc 1 ≡ Some (record { 0 = n }) →
      UsesWordOne a (unix_line_in Unix k 0) → JumpsTo Refers k 0
  jumps_by known there uses instruction x y line j operand p is way mode direct r found =
      let both : UsesWordOne a (Machine (Decoded instruction x y)) = subst (UsesWordOne a) line uses in
      elim is [
        | inl (e, at) ↦ word_one known there operand instruction.first p 1 e at both.0 way mode r found
        | inr (e, at) ↦
            word_one known there operand instruction.second p (1 + word_count_of instruction.first) e at both.1 way mode r found
      ]

-- what a jump of a clean object refers to
abbrev OwnOrText : List Contents → Contents → Addressing → ℕ → Reloc → Type 0
OwnOrText os k way p r = RefersToOwnText k way p r ⊎ RefersToText os k way p r

-- three objects: one calls `_f` and returns, `_f` jumps to `_g` by mode 37, and `_g` returns

abbrev calls_o : Contents
calls_o = object (0o4767 ∷ 0o177774 ∷ 0o207 ∷ []) (0 ∷ 0o31 ∷ 0 ∷ []) [] [] 0 (entry _main 0o42 0 ∷ entry _f 0o40 0 ∷ [])

abbrev jumps_o : Contents
jumps_o = object (0o137 ∷ 0 ∷ []) (0 ∷ 0o30 ∷ []) [] [] 0 (entry _f 0o42 0 ∷ entry _g 0o40 0 ∷ [])

abbrev returns_o : Contents
returns_o = object (0o240 ∷ 0o207 ∷ []) (0 ∷ 0 ∷ []) [] [] 0 (entry _g 0o42 2 ∷ [])

abbrev three : List Contents
three = calls_o ∷ jumps_o ∷ returns_o ∷ []

-- a symbol of text
abbrev symbol_of : (before : List Contents) (k : Contents) (after : List Contents) (number : ℕ) (s : Symbol) →
    slice_get k.symbols number ≡ Some s → is_text s ≡ true → nat_lt s.value (2 * length k.text_words) ≡ true →
    TextSymbol (before ++ k ∷ after)
symbol_of before k after number s there text inside = record {
  before = before;
  k = k;
  after = after;
  all = refl;
  number = number;
  symbol = s;
  is_there = there;
  is_in_text = text;
  inside = less_so s.value (2 * length k.text_words) inside;
}

calls_clean : IsClean three calls_o
unfolding row_of in_row call_of
calls_clean = record {
  words = words_so calls_o refl;
  quiet = tt;
  parents = each calls_o _ (no_parent calls_o 0 refl, (no_parent calls_o 2 refl, tt));
  jumps = each calls_o _ (
    jumps_by (OwnOrText three calls_o) calls_o Relative 0o31 (inr refers) refl (inl refl, inr (refl, refl)),
    (no_jump _ calls_o 2 refl, tt),
  );
}
  where
    refers : RefersToText three calls_o Relative 1 (record { 0 = 0o31 })
    refers = record {
      kind = refl;
      word = 0o177774;
      is_there = refl;
      just = refl;
      mention = entry _f 0o40 0;
      named = refl;
      target = symbol_of (calls_o ∷ []) jumps_o (returns_o ∷ []) 0 (entry _f 0o42 0) refl refl refl;
      outer = refl;
      names = refl;
    }

-- the jump refers to any external symbol of text with that name
jumps_clean : (os : List Contents) (g : TextSymbol os) → is_external g.symbol ≡ true → g.symbol.name ≡ _g → IsClean os jumps_o
unfolding row_of in_row call_of
jumps_clean os g outer named = record {
  words = words_so jumps_o refl;
  quiet = tt;
  parents = each jumps_o _ (no_parent jumps_o 0 refl, tt);
  jumps = each jumps_o _ (jumps_by (OwnOrText os jumps_o) jumps_o Absolute 0o30 (inr refers) refl (inr (refl, refl), inl refl), tt);
}
  where
    refers : RefersToText os jumps_o Absolute 1 (record { 0 = 0o30 })
    refers = record {
      kind = refl;
      word = 0;
      is_there = refl;
      just = refl;
      mention = entry _g 0o40 0;
      named = refl;
      target = g;
      outer = outer;
      names = named;
    }

returns_clean : (os : List Contents) → IsClean os returns_o
unfolding row_of in_row call_of
returns_clean os = record {
  words = words_so returns_o refl;
  quiet = tt;
  parents = each returns_o _ (no_parent returns_o 1 refl, (no_parent returns_o 0 refl, tt));
  jumps = each returns_o _ (no_jump _ returns_o 1 refl, (no_jump _ returns_o 0 refl, tt));
}

abbrev program : List Contents → Outcome
program os = outcome_of (link [] os plain)

three_good : AllByRecursion IsObject three
three_good = (
  as_object calls_o refl refl refl refl refl refl refl refl,
  (as_object jumps_o refl refl refl refl refl refl refl refl, (as_object returns_o refl refl refl refl refl refl refl refl, tt)),
)

three_linked : IsLinkedFrom [] three plain (program three)
three_linked = (linked_exactly [] three plain (program three) three_good).0 refl

-- control comes to `_g`, at word 6 of the program, through the call and the jump
g_runs : IsRun (program three).file 6
unfolding row_of in_row call_of
g_runs = Led 3 6 (Led 0 3 (Evident 0 (less_so 0 7 refl) refl) (less_so 3 7 refl) refl) (less_so 6 7 refl) refl

-- so it is a reached place of one of the objects
clean_says : IsOfObject plain (program three) three_linked.rows three 6
clean_says =
    clean_objects [] three plain (program three) three_good (
      calls_clean,
      (
        jumps_clean three (symbol_of (calls_o ∷ jumps_o ∷ []) returns_o [] 0 (entry _g 0o42 2) refl refl refl) refl refl,
        (returns_clean three, tt),
      ),
    ) all_kept three_linked refl (at_most_so 14 65535 refl) (inl refl) 6 g_runs

-- the law, with other premises on the objects, on the entry point and on the report

abbrev CleanBy : (List Contents → Contents → Type 0) → (List Contents → Outcome → Type 0) → (Outcome → Type 0) → Type 0
CleanBy IsSuch Enters Reports =
    (forced : List (List ℕ)) (os : List Contents) (o : Choices) (x : Outcome) → AllByRecursion IsObject os →
    AllByRecursion (IsSuch os) os → o.keep ≢ Nothing → (l : IsLinkedFrom forced os o x) → Reports x →
    x.file.header.text_size ≤ 65535 → Enters os x → (place : ℕ) → IsRun x.file place → IsOfObject o x l.rows os place

abbrev Once : Outcome → Type 0
Once y = y.report.multiples ≡ []

the_law : CleanObjectsMakeCleanPrograms → CleanBy IsClean Begins Once
the_law law = law

-- a place of a program of two objects is one of theirs

abbrev InTwo : Contents → Contents → ℕ → Type 0
InTwo k d place = IsReached Promise k place ⊎ ((i : ℕ) × (place ≡ total TextSeg (k ∷ []) / 2 + i) × IsReached Promise d i)

in_two : (o : Choices) (x : Outcome) (rows : List Symbol) (place : ℕ) (k d : Contents) → IsOfObject o x rows (k ∷ d ∷ []) place →
    InTwo k d place
in_two o x rows place k d r =
    by r.before r.k r.i r.all r.at r.reached
  where
    by : (before : List Contents) (c : Contents) (i : ℕ) → k ∷ d ∷ [] ≡ before ++ c ∷ r.after →
        place ≡ total TextSeg before / 2 + i → IsReached Promise c i → InTwo k d place
    by [] c i all at is =
        let same : k ≡ c = cc in
        let here : i ≡ place = omega arith in
        inl (subst (λ (e : Contents). IsReached Promise e place) (sym same) (subst (λ (n : ℕ). IsReached Promise c n) here is))
    by (b ∷ []) c i all at is =
        let first : k ≡ b = cc in
        let second : d ≡ c = cc in
        inr (i, at ∙ ap (λ (f : Contents). total TextSeg (f ∷ []) / 2 + i) (sym first), subst (λ (e : Contents). IsReached Promise e i) (sym second) is)
    by (b ∷ (e ∷ bs)) c i all at is = let none : [] ≡ bs ++ c ∷ r.after = cc in absurd (no_object bs c r.after none)

-- an object whose second word no evidence reaches, the second one of the programs below

abbrev moves_o : Contents
moves_o = object (0o12700 ∷ 7 ∷ []) (0 ∷ 0 ∷ []) [] [] 0 []

abbrev with_moves : Contents → List Contents
with_moves k = k ∷ moves_o ∷ []

moves_good : IsObject moves_o
moves_good = as_object moves_o refl refl refl refl refl refl refl refl

-- the second word of `moves_o` and a place of the first object are not reached
unreached_in_two : (k : Contents) (place : ℕ) → is_reached Promise k place ≡ false → place ≡ total TextSeg (k ∷ []) / 2 + 1 →
    InTwo k moves_o place → ⊥
unfolding row_of in_row call_of
unreached_in_two k place none second (inl e) = unreached k place none e
unreached_in_two k place none second (inr (i, at, e)) =
    let one : i ≡ 1 = omega (arith, at, second) in
    unreached moves_o 1 refl (subst (λ (n : ℕ). IsReached Promise moves_o n) one e)

moves_clean : (os : List Contents) → IsClean os moves_o
unfolding row_of in_row call_of
moves_clean os = record {
  words = words_so moves_o refl;
  quiet = (refl, tt);
  parents = each moves_o _ (no_parent moves_o 0 refl, tt);
  jumps = each moves_o _ (no_jump _ moves_o 0 refl, tt);
}

-- with premises that clean objects meet, a place of such a program is one of the two objects
in_program : {IsSuch : List Contents → Contents → Type 0} {Enters : List Contents → Outcome → Type 0} → CleanBy IsSuch Enters Once →
    ((os : List Contents) (k : Contents) → IsClean os k → IsSuch os k) → (o : Choices) → o.keep ≢ Nothing →
    (k : Contents) (good : IsObject k) (x : Outcome) → link [] (with_moves k) o ≡ Ok x → IsSuch (with_moves k) k → Once x →
    nat_lt 65535 x.file.header.text_size ≡ false → Enters (with_moves k) x → (place : ℕ) → IsRun x.file place → InTwo k moves_o place
in_program {IsSuch} {Enters} law weaker o keeps k good x linked such once small enters place run =
    let goods : AllByRecursion IsObject (with_moves k) = (good, (moves_good, tt)) in
    let l : IsLinkedFrom [] (with_moves k) o x = (linked_exactly [] (with_moves k) o x goods).0 linked in
    in_two o x l.rows place k moves_o
    (law [] (with_moves k) o x goods (such, (weaker (with_moves k) moves_o (moves_clean (with_moves k)), tt)) keeps l once
    (ltb-false 65535 x.file.header.text_size small) enters place run)

-- an object with symbol `_main` at its beginning
abbrev main_of : List ℕ → List ℕ → Contents
main_of words relocs = object words relocs [] [] 0 (entry _main 0o42 0 ∷ [])

-- control that begins at a symbol beyond its text, in the second word of the next object
abbrev beyond_o : Contents
beyond_o = object (0o207 ∷ []) (0 ∷ []) [] [] 0 (entry _main 0o42 4 ∷ [])

abbrev enters_main : Choices
enters_main = choices Plain false All (Some _main) false

clean_needs_an_entry_in_text : CleanBy IsClean (λ os y. Unit {0}) Once → ⊥
unfolding row_of in_row call_of
clean_needs_an_entry_in_text law =
    unreached_in_two beyond_o 2 refl refl
    (in_program law (λ os k c. c) enters_main all_kept beyond_o (as_object beyond_o refl refl refl refl refl refl refl refl)
    (outcome_of (link [] (with_moves beyond_o) enters_main)) refl (record {
      words = words_so beyond_o refl;
      quiet = tt;
      parents = each beyond_o _ (no_parent beyond_o 0 refl, tt);
      jumps = each beyond_o _ (no_jump _ beyond_o 0 refl, tt);
    }) refl refl tt 2 (Evident 2 (less_so 2 3 refl) refl))

-- the parent's way after `sys fork`, past the end
abbrev forks_o : Contents
forks_o = main_of (0o104402 ∷ []) (0 ∷ [])

abbrev LacksParent : List Contents → Contents → Type 0
LacksParent os k = AllByRecursion IsWord k.text_words × NoneIsSure (suspicions Promise k) × Each k (JumpsToText os k)

clean_needs_a_place_for_the_parent : CleanBy LacksParent Begins Once → ⊥
unfolding row_of in_row call_of
clean_needs_a_place_for_the_parent law =
    unreached_in_two forks_o 2 refl refl
    (in_program law (λ os k c. (c.words, c.quiet, c.jumps)) plain all_kept forks_o
    (as_object forks_o refl refl refl refl refl refl refl refl) (program (with_moves forks_o)) refl
    (words_so forks_o refl, tt, each forks_o _ (no_jump _ forks_o 0 refl, tt))
    refl refl (inl refl) 2 (Led 0 2 (Evident 0 (less_so 0 3 refl) refl) (less_so 2 3 refl) refl))

-- a jump to a number, which is the place of an operand word
abbrev numbers_o : Contents
numbers_o = main_of (0o137 ∷ 2 ∷ []) (0 ∷ 0 ∷ [])

abbrev LacksJumps : List Contents → Contents → Type 0
LacksJumps os k = AllByRecursion IsWord k.text_words × NoneIsSure (suspicions Promise k) × Each k (KeepsParent k)

clean_needs_jumps_to_text : CleanBy LacksJumps Begins Once → ⊥
unfolding row_of in_row call_of
clean_needs_jumps_to_text law = nowhere (in_program law (λ os k c. (c.words, c.quiet, c.parents)) plain all_kept numbers_o
    (as_object numbers_o refl refl refl refl refl refl refl refl) (program (with_moves numbers_o)) refl
    (words_so numbers_o refl, tt, each numbers_o _ (no_parent numbers_o 0 refl, tt))
    refl refl (inl refl) 1 (Led 0 1 (Evident 0 (less_so 0 4 refl) refl) (less_so 1 4 refl) refl))
  where
    nowhere : InTwo numbers_o moves_o 1 → ⊥
    nowhere (inl e) = unreached numbers_o 1 refl e
    nowhere (inr (i, at, e)) = let far : 1 ≡ 2 + i = at in omega arith

-- a name that is defined twice, first as the number of an operand word
abbrev twice_named_o : Contents
twice_named_o = object (0o207 ∷ []) (0 ∷ []) [] [] 0 (entry _g 0o41 2 ∷ entry _g 0o42 0 ∷ [])

abbrev twice : List Contents
twice = jumps_o ∷ twice_named_o ∷ []

clean_needs_one_definition : CleanBy IsClean Begins (λ y. Unit {0}) → ⊥
unfolding row_of in_row call_of
clean_needs_one_definition law =
    let good : AllByRecursion IsObject twice = (
      three_good.1.0,
      (as_object twice_named_o refl refl refl refl refl refl refl refl, tt),
    ) in
    let linked : IsLinkedFrom [] twice plain (program twice) = (linked_exactly [] twice plain (program twice) good).0 refl in
    let r = law [] twice plain (program twice) good (
      jumps_clean twice (symbol_of (jumps_o ∷ []) twice_named_o [] 1 (entry _g 0o42 0) refl refl refl) refl refl,
      (
        record {
          words = words_so twice_named_o refl;
          quiet = tt;
          parents = each twice_named_o _ (no_parent twice_named_o 0 refl, tt);
          jumps = each twice_named_o _ (no_jump _ twice_named_o 0 refl, tt);
        },
        tt,
      ),
    ) all_kept linked tt (at_most_so 6 65535 refl) (inl refl) 1
    (Led 0 1 (Evident 0 (less_so 0 3 refl) refl) (less_so 1 3 refl) refl) in
    elim (in_two plain (program twice) linked.rows 1 jumps_o twice_named_o r) [
      | inl e ↦ unreached jumps_o 1 refl e
      | inr (i, at, e) ↦ (let far : 1 ≡ 2 + i = at in omega arith)
    ]
