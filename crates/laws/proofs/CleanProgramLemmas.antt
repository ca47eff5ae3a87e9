-- Each place of a program of clean objects that control reaches is a reached place of one of them.
use Rattle.std.proofs.Common.{rules, ◌≡◌, ◌≢◌, ℕ, zero, suc, ◌+◌, ◌*◌, ◌/◌, ◌%◌, ◌<◌, ◌≤◌, inl, inr, Bool, true, false, eqb, if◌then◌else◌}
use Rattle.std.proofs.Common.{List, [], ◌∷◌, ◌++◌, length, map, drop, Option, Some, None, refl, sym, ◌∙◌, ap, subst, arith, append_assoc}
use Rattle.std.proofs.lemmas.Option.{same_Some, slice_get_within}
use Rattle.std.proofs.{lemmas.Bool.{and_from, ltb-false, cases_lt, or_right}, lemmas.List.length-drop, lemmas.List.Sums.sum_by-append}
use Rattle.instructions.proofs.{LineLemmas.from_place, AlikeLemmas.get_inside}
use Rattle.std.specs.{Prelude.slice_get, Prelude.slice_index, Prelude.IfSome, Prelude.Ok, List.list_any, List.AllByRecursion}
use Rattle.aout_core.specs.{declared.symbol.Segment.TheVariants.TextSeg, declared.reloc.Reloc.Reloc, Contents.Contents, Strip.stripped}
use Rattle.aout_core.specs.{Words.plus, declared.reloc.Kind.Kind}
use Rattle.aout_core.specs.{WellFormed.{is_pc_relative, is_external}, declared.symbol.Symbol.Symbol}
use Rattle.aout_core.specs.declared.reloc.Kind.TheVariants as kinds
use Rattle.link_session.specs.{Starts.size_of, Starts.total, Sessions.IsObject}
use Rattle.link_session.proofs.ListLemmas.{all_split}
use Rattle.tool_options.specs.{declared.options.Keep.TheVariants.Nothing, Choices.Choices}
use Rattle.link_out.specs.{Results.Outcome, function.Link.link}
use Rattle.laws.specs.OperandPlaces.{addressing_of, IsDirect, kind_meant, IsOwnByte, IsNamedByte}
use Rattle.laws.specs.ReachedInstructions.{kind_said, HasOperandSaid}
use Rattle.laws.specs.CleanPrograms.{TextSymbol, RefersToOwnText, RefersToText, IsClean, Begins, IsKept, IsOfObject}
use Rattle.laws.specs.CleanPrograms.{CleanObjectsMakeCleanPrograms}
use Rattle.laws.specs.{relation.LinkedFrom.IsLinkedFrom, Core.{of_instructions, IsWordAt}, Operands.Defines, OperandWords.machine_value}
use Rattle.laws.proofs.LinkedTheorem.{linked_exactly}
use Rattle.laws.proofs.{InstructionLemmas.text_within, InstructionLemmas.word_small, InstructionPlaceLemmas.instructions_there, LoadedLemmas.whole_words}
use Rattle.laws.proofs.{LoadedLemmas.word_there, LoadedLemmas.found_in, OperandPlaceLemmas.one_word}
use Rattle.laws.proofs.ReachedInstructionLemmas.{decoded, value_small, reached_instructions_kept, sure_places_begin}
use Rattle.laws.proofs.FlowLemmas.{Lines, Calls, Instructs, Ends, whole_at, lines_at}
use Rattle.laws.proofs.LeadLemmas.{or_none, none_shown, placed, place_is, Within, call_leads, JumpBy, instruction_leads}
use Rattle.instructions.specs.{declared.mode.Addressing.Addressing, Targets.number, declared.operand.Operand.Operand}
use Rattle.instructions.specs.{declared.instruction.Instruction.Instruction, declared.unix.Decoder.TheVariants.Unix}
use Rattle.instructions.specs.{Alike.is_cut, Lines.word_for}
use Rattle.instructions.specs.declared.mode.Addressing.TheVariants.{Immediate, Absolute, Relative, RelativeDeferred, Indexed}
use Rattle.instructions.specs.{Instructions.{instruction_of, following_words, jumps, word_count_of}, Modes.counts_from_pc}
use Rattle.instructions.specs.{declared.unix.UnixLine.UnixLine, declared.unix.UnixLine.TheVariants.{Machine, Call}, Relocated.is_relocated}
use Rattle.instructions.specs.declared.operand.Operand.TheVariants as operands
use Rattle.disassemblies.specs.Lines.{unix_line_in}
use Rattle.checks.specs.Trust.{is_sure}
use Rattle.checks.specs.Reached.{is_reached, is_text, named, nameless, branch_of, leads_by, leads_to, jump, jump_of, shown_from}
use Rattle.checks.specs.{declared.evidence.Evidence.TheVariants.{Names, Promise}, ReachedLaw.{is_place, IsReached, Evident, Led}}
use Rattle.checks.specs.{SureLaw.{IsInside, AreInside, targets}, Suspicions.is_immediate}
use Rattle.checks.proofs.{ReachLemmas.reached_law, SureLemmas.sure_below, SureLemmas.sure_places, SureLemmas.sure_words}

-- a symbol of text shows its place

shows : (f : Symbol → Option ℕ) (more : List (Option ℕ)) (ss : List Symbol) (n j : ℕ) (s : Symbol) → slice_get ss n ≡ Some s →
    is_place j (f s) ≡ true → list_any (is_place j) (map f ss ++ more) ≡ true
shows f more [] n j s e h = absurd cc
shows f more (t ∷ ss) zero j s e h = search rules
shows f more (t ∷ ss) (suc n) j s e h =
    or_right (is_place j (f t)) (list_any (is_place j) (map f ss ++ more)) (shows f more ss n j s e h)

named_at : (k : Contents) (s : Symbol) (j : ℕ) → is_text s ≡ true → s.value ≡ 2 * j → is_place j (named Promise k s) ≡ true
named_at k s j text even = search rules

symbol_reached : (k : Contents) (n j : ℕ) (s : Symbol) → slice_get k.symbols n ≡ Some s → is_text s ≡ true → s.value ≡ 2 * j →
    j < length k.text_words → IsReached Promise k j
symbol_reached k n j s at text even below =
    Evident j below
    (or_right (is_place j (if eqb k.header.flag 0 then None else Some k.header.entry_point))
    (list_any (is_place j) (map (named Promise k) k.symbols ++ nameless Promise k))
    (shows (named Promise k) (nameless Promise k) k.symbols n j s at (named_at k s j text even)))

-- and so is the beginning of the text

ends_with_0 : (os : List (Option ℕ)) → list_any (is_place 0) (os ++ Some 0 ∷ []) ≡ true
ends_with_0 [] = refl
ends_with_0 (o ∷ os) = or_right (is_place 0 o) (list_any (is_place 0) (os ++ Some 0 ∷ [])) (ends_with_0 os)

beginning_reached : (k : Contents) → 0 < length k.text_words → IsReached Promise k 0
beginning_reached k below =
    Evident 0 below
    (or_right (is_place 0 (if eqb k.header.flag 0 then None else Some k.header.entry_point))
    (list_any (is_place 0) (map (named Promise k) k.symbols ++ nameless Promise k)) (ends_with_0 (map (named Promise k) k.symbols)))

jump_when : (t : Bool) (o : Option ℕ) (n : ℕ) → t ≡ true → o ≡ Some n → (if t then o else None) ≡ Some n
jump_when true o n e is = is
jump_when false o n e is = absurd cc

-- a jump by a word that refers to the object's own text leads there
own_jump_of : (k : Contents) (place : ℕ) (x : Option Operand) (word : Option ℕ) (way : Addressing) (r : Reloc) → number word < 65536 →
    addressing_of x ≡ Some way → IsDirect way → slice_get k.text_reloc place ≡ Some r → kind_said way r ≡ Some kinds.TextSeg →
    (is_relocated (Some r) ≡ true → is_pc_relative r ≡ counts_from_pc way) →
    jump_of k place x word ≡ Some (machine_value way (2 * place + 2) (number word))
own_jump_of k place (Some (operands.General m register)) word way r small mode direct at said bit = search rules
own_jump_of k place _ word way r small mode direct at said bit = absurd cc

not_immediate : (way : Addressing) → IsDirect way → is_immediate way ≡ true → ⊥
not_immediate Immediate (inl e) h = absurd cc
not_immediate Immediate (inr e) h = absurd cc
not_immediate Relative d h = absurd cc
not_immediate Absolute d h = absurd cc
not_immediate RelativeDeferred d h = absurd cc
not_immediate Indexed d h = absurd cc

-- a branch leads to the end of the text at most, and a whole line ends there at most

only_end : (k : Contents) (o : Option ℕ) → IsInside Promise k o → IfSome o (λ a. a ≤ 2 * length k.text_words)
only_end k None h = tt
only_end k (Some a) h = h.0

line_whole : (ws : List ℕ) (i w : ℕ) (f : List ℕ) (instruction : Instruction) → i < length ws → drop i ws ≡ w ∷ f →
    instruction_of w ≡ Some instruction → is_cut (instruction_of w) f ≡ false → i + (1 + following_words instruction) ≤ length ws
line_whole ws i w f instruction below here is uncut =
    let enough : following_words instruction ≤ length f =
    ltb-false (length f) (following_words instruction) (ap (λ (o : Option Instruction). is_cut o f) (sym is) ∙ uncut) in
    let long : length (drop i ws) ≡ length (w ∷ f) = ap (λ (xs : List ℕ). length xs) here in
    omega (arith, length-drop i ws, enough, long, below)

-- a place of the program is a reached place of an object
pub record IsAt (os : List Contents) (place : ℕ) : Type 0 where
  pub before : List Contents
  pub k : Contents
  pub after : List Contents
  pub all : os ≡ before ++ k ∷ after
  pub i : ℕ
  pub at : place ≡ total TextSeg before / 2 + i
  pub reached : IsReached Promise k i

module _ (forced : List (List ℕ)) (os : List Contents) (o : Choices) (x : Outcome) (good : AllByRecursion IsObject os)
    (l : IsLinkedFrom forced os o x) (small : x.file.header.text_size ≤ 65535) where
  file_fits : 2 * length x.file.text_words ≤ 65535
  file_fits = omega (arith, l.holds.text_words, l.holds.text, small)

  -- an object of the program, and where its text begins
  module _ (before : List Contents) (k : Contents) (after : List Contents) (all : os ≡ before ++ k ∷ after) where
    objects : AllByRecursion IsObject before × AllByRecursion IsObject (k ∷ after)
    objects = all_split IsObject before (k ∷ after) (subst (λ (ys : List Contents). AllByRecursion IsObject ys) all good)

    even : 2 * (total TextSeg before / 2) ≡ total TextSeg before
    even = whole_words TextSeg tt before objects.0

    ends_within : total TextSeg before / 2 + length k.text_words ≤ length x.file.text_words
    ends_within = text_within forced os o x good l before k after all objects.1.0

  -- the end of a text is the beginning of the next one, or it is the end of the program
  starts_next : (before after : List Contents) (q : ℕ) → os ≡ before ++ after → 2 * q ≡ total TextSeg before →
      q < length x.file.text_words → IsAt os q
  starts_next before [] q all at below = search rules
  starts_next before (k ∷ after) q all at below =
      by (length k.text_words) refl
      (λ e. starts_next (before ++ k ∷ []) after q (all ∙ sym (append_assoc before (k ∷ []) after)) e below)
    where
      by : (n : ℕ) → length k.text_words ≡ n → (2 * q ≡ total TextSeg (before ++ k ∷ []) → IsAt os q) → IsAt os q
      by zero e next = search (rules, objects, sum_by-append)
      by (suc n) e next = search (rules, beginning_reached)

  -- a symbol of text is at a reached place, if it is at a place of the program
  symbol_at : (s : TextSymbol os) (place address : ℕ) → address ≡ total TextSeg s.before + s.symbol.value →
      2 * place ≡ address % 65536 → IsAt os place
  symbol_at s place address sum is =
      let start : ℕ = total TextSeg s.before / 2 in
      let whole : 2 * (total TextSeg s.before / 2) ≡ total TextSeg s.before = even s.before s.k s.after s.all in
      let inside = ends_within s.before s.k s.after s.all in
      let value : 2 * (total TextSeg s.before / 2) + s.symbol.value ≡ 2 * place = omega (arith, file_fits, s.inside, inside, whole) in
      let half : s.symbol.value ≡ 2 * (s.symbol.value / 2) = omega (arith, value) in
      record {
        before = s.before;
        k = s.k;
        after = s.after;
        all = s.all;
        i = s.symbol.value / 2;
        at = omega (arith, value);
        reached =
            symbol_reached s.k s.number (s.symbol.value / 2) s.symbol s.is_there s.is_in_text half (omega (arith, s.inside));
      }

  -- and defines its name
  symbol_defines : (s : TextSymbol os) (name : List ℕ) → is_external s.symbol ≡ true → s.symbol.name ≡ name →
      Defines s.k name TextSeg s.symbol.value
  symbol_defines s name outer names = search rules

module _ (forced : List (List ℕ)) (before : List Contents) (k : Contents) (after : List Contents) (o : Choices) (x : Outcome)
    (good : AllByRecursion IsObject (before ++ k ∷ after)) (clean : IsClean (before ++ k ∷ after) k)
    (kept : o.keep ≢ Nothing) (l : IsLinkedFrom forced (before ++ k ∷ after) o x) (once : x.report.multiples ≡ [])
    (small : x.file.header.text_size ≤ 65535) (i : ℕ) (r : IsReached Promise k i) where
  sure : is_sure Promise k i ≡ true
  sure = and_from (is_reached Promise k i) true ((reached_law Promise k i).1 r) refl

  still : is_relocated (slice_get k.text_reloc i) ≡ false
  still = (sure_words Promise k clean.quiet i sure).0

  linked : link forced (before ++ k ∷ after) o ≡ Ok x
  linked = (linked_exactly forced (before ++ k ∷ after) o x good).1 l

  -- an instruction begins there, and is in the program
  pub kept_there : IsKept o x l.rows (before ++ k ∷ after) before k i
  kept_there =
      let b = sure_places_begin Promise k clean.quiet i sure in
      record {
        begins = b;
        kept = search (rules, reached_instructions_kept, sure);
      }

  -- to another place of the object, or to the beginning of the next text
  within_object : (q : ℕ) → q < length x.file.text_words → (line : UnixLine) → unix_line_in Unix k i ≡ line →
      Within (total TextSeg before / 2) (length k.text_words) q (leads_by Promise k i line) → IsAt (before ++ k ∷ after) q
  within_object q below line is w =
      elim (cases_lt w.j (length k.text_words)) [
        | inl less ↦ record {
          before = before;
          k = k;
          after = after;
          all = refl;
          i = w.j;
          at = w.at;
          reached =
              Led i w.j r less
              (subst (λ (m : UnixLine). list_any (is_place w.j) (leads_by Promise k i m) ≡ true) (sym is) (w.led less));
        }
        | inr end ↦
            let size = (objects forced (before ++ k ∷ after) o x good l small before k after refl).1.0.fits.text in
            let whole = even forced (before ++ k ∷ after) o x good l small before k after refl in
            let sum : total TextSeg (before ++ k ∷ []) ≡ total TextSeg before + (0 + k.header.text_size) =
            sum_by-append (size_of TextSeg) before (k ∷ []) in
            starts_next forced (before ++ k ∷ after) o x good l small (before ++ k ∷ []) after q (sym (append_assoc before (k ∷ []) after))
            (omega (arith, w.at, w.within, end, size, whole, sum)) below
      ]

  module _ (q : ℕ) (below : q < length x.file.text_words) (instruction : Instruction) (w : ℕ) (f : List ℕ) (here : drop i k.text_words ≡ w ∷ f)
      (is : instruction_of w ≡ Some instruction) (uncut : is_cut (instruction_of w) f ≡ false)
      (line : unix_line_in Unix k i ≡ Machine (decoded instruction f))
      (by : JumpBy x.file k (total TextSeg before / 2) i q instruction (leads_by Promise k i (Machine (decoded instruction f)))) where
    said : HasOperandSaid (before ++ k ∷ after) o x before k instruction.row.operation by.goes.way by.place
    said =
        (reached_instructions_kept forced before k after o x good clean.words Promise clean.quiet l i sure w f here instruction is uncut).operands
        by.operand by.place by.is by.goes.way by.goes.mode (λ v at near. absurd (not_immediate by.goes.way by.goes.direct near))

    -- the machine finds the target by the word of the program
    value : machine_value by.goes.way (said.operand.address + 2) said.operand.word ≡ 2 * q
    value =
        let whole = even forced (before ++ k ∷ after) o x good l small before k after refl in
        let below = slice_get_within k.text_words by.place said.operand.w said.operand.word_in in
        let inside = ends_within forced (before ++ k ∷ after) o x good l small before k after refl in
        let v = get_inside x.file.text_words (total TextSeg before / 2 + by.place) (omega (arith, below, inside)) in
        let at : said.operand.address ≡ 0 + 2 * (total TextSeg before / 2 + by.place) = omega (arith, said.operand.place.sum, whole) in
        let there : IsWordAt x.file of_instructions (0 + 2 * (total TextSeg before / 2 + by.place)) v.0 =
        word_there x.file of_instructions TextSeg tt (found_in forced (before ++ k ∷ after) o x linked TextSeg tt)
        (omega (arith, l.holds.text_words, l.holds.text)) (total TextSeg before / 2 + by.place) v.0 v.1 in
        let same : said.operand.word ≡ v.0 =
        one_word x.file of_instructions (0 + 2 * (total TextSeg before / 2 + by.place)) said.operand.word v.0
        (subst (λ (n : ℕ). IsWordAt x.file of_instructions n said.operand.word) at said.operand.is_there) there in
        search rules

    meant : (kind : Kind) → kind_said by.goes.way said.operand.r ≡ Some kind → kind_meant by.goes.way said.operand.r ≡ Some kind
    meant kind e = said.meant ∙ sym said.said ∙ e

    -- what the word gives in the object
    abbrev in_object : ℕ
    in_object = machine_value by.goes.way (2 * by.place + 2) said.operand.w

    -- the object's own text
    to_own_text : RefersToOwnText k by.goes.way by.place said.operand.r → IsAt (before ++ k ∷ after) q
    to_own_text own_text =
        let e = own_text.kind in
        let own : IsOwnByte k (kind_meant by.goes.way said.operand.r) in_object TextSeg in_object = search (rules, meant, value_small) in
        let there = said.operand.segments TextSeg in_object own in
        let same : number by.own_word ≡ said.operand.w = ap number (by.here ∙ said.operand.word_in) in
        let narrow : number by.own_word < 65536 =
        subst (λ (n : ℕ). n < 65536) (sym same) (word_small k.text_words by.place said.operand.w clean.words said.operand.word_in) in
        let leads : jump k instruction.row.operation by.place by.operand by.own_word ≡ Some in_object =
        jump_when (jumps instruction.row.operation) (jump_of k by.place by.operand by.own_word) in_object by.goes.jumps
        (own_jump_of k by.place by.operand by.own_word by.goes.way said.operand.r narrow by.goes.mode by.goes.direct said.operand.reloc_in
        e said.bit ∙ ap (λ (n : ℕ). Some (machine_value by.goes.way (2 * by.place + 2) n)) same) in
        let low : in_object ≤ 2 * length k.text_words = own_text.inside said.operand.w said.operand.word_in in
        let whole = even forced (before ++ k ∷ after) o x good l small before k after refl in
        let inside = ends_within forced (before ++ k ∷ after) o x good l small before k after refl in
        let sum : 2 * (total TextSeg before / 2) + in_object ≡ 2 * q = search (rules, own_sum, file_fits, value) in
        let half : in_object ≡ 2 * (in_object / 2) = omega (arith, sum) in
        within_object q below (Machine (decoded instruction f)) line (record {
          j = in_object / 2;
          at = omega (arith, sum);
          within = omega (arith, low);
          led = λ less.
              by.led (in_object / 2) (ap (λ (u : Option ℕ). is_place (in_object / 2) u) leads ∙ place_is (in_object / 2) in_object half);
        })
      where
        own_sum : (total n address length long q : ℕ) → n ≤ 2 * length → 2 * (total / 2) ≡ total → total / 2 + length ≤ long →
            2 * long ≤ 65535 → address ≡ 0 + total + n → 2 * q ≡ address % 65536 → 2 * (total / 2) + n ≡ 2 * q
        own_sum total n address length long q a b c d e f = omega arith

    -- a name of text
    to_name : RefersToText (before ++ k ∷ after) k by.goes.way by.place said.operand.r → IsAt (before ++ k ∷ after) q
    to_name n =
        let same : n.word ≡ said.operand.w = same_Some n.word said.operand.w (sym n.is_there ∙ said.operand.word_in) in
        let just : in_object ≡ 0 = ap (λ (v : ℕ). machine_value by.goes.way (2 * by.place + 2) v) (sym same) ∙ n.just in
        let named : IsNamedByte k n.target.k (kind_meant by.goes.way said.operand.r) said.operand.r in_object TextSeg
        n.target.symbol.value = record {
          is = meant kinds.External n.kind;
          symbol = n.mention;
          named = n.named;
          start = n.target.symbol.value;
          defined =
              symbol_defines forced (before ++ k ∷ after) o x good l small n.target n.mention.name n.outer n.names;
          byte = no_further in_object n.target.symbol.value just;
        } in
        let there = said.operand.names kept once n.target.before n.target.k n.target.after n.target.all TextSeg n.target.symbol.value named in
        symbol_at forced (before ++ k ∷ after) o x good l small n.target q there.address (omega (arith, there.place.sum))
        (sym value ∙ there.is)
      where
        no_further : (n v : ℕ) → n ≡ 0 → plus (0 + v) n ≡ (0 + v) % 65536
        no_further n v e = let sum : (0 + v + n) % 65536 ≡ (0 + v) % 65536 = omega arith in sum

    -- so the jump arrives at a reached place
    pub jump_arrives : IsAt (before ++ k ∷ after) q
    jump_arrives = elim (clean.jumps i r instruction (word_for instruction.first 0 f)
        (word_for instruction.second (word_count_of instruction.first) f) line by.goes.jumps by.operand
        by.place by.is by.goes.way by.goes.mode by.goes.direct said.operand.r said.operand.reloc_in) [
          | inl e ↦ to_own_text e
          | inr n ↦ to_name n
        ]

  -- where the line leads in the program
  module _ (q : ℕ) (below : q < length x.file.text_words)
      (led : list_any (is_place q) (leads_to Names (stripped x.file) (total TextSeg before / 2 + i)) ≡ true) where
    abbrev p : ℕ
    p = total TextSeg before / 2 + i

    by_lines : Lines x.file k (total TextSeg before / 2 + i) i → IsAt (before ++ k ∷ after) q
    by_lines (Calls c long here there) =
        within_object q below (Call c) here
        (call_leads x.file k (total TextSeg before / 2) p i q c refl
        (let place = sure_below Promise k i sure in omega (arith, place, long, length-drop (i + 1) k.text_words))
        (clean.parents i r c here)
        (subst (λ (line : UnixLine). list_any (is_place q) (leads_by Names (stripped x.file) p line) ≡ true) there led))
    by_lines (Instructs instruction w f g is uncut at_object at_program here there) =
        let fits = file_fits forced (before ++ k ∷ after) o x good l small in
        let inside = ends_within forced (before ++ k ∷ after) o x good l small before k after refl in
        let inner : AreInside Promise k (targets i (Machine (decoded instruction f))) =
        subst (λ (line : UnixLine). AreInside Promise k (targets i line)) here (sure_places Promise k clean.quiet i sure).1 in
        elim (instruction_leads x.file k (total TextSeg before / 2) p i q w f g instruction refl (omega (arith, fits, below))
        (omega (arith, fits, inside)) at_object at_program is
        (line_whole k.text_words i w f instruction (sure_below Promise k i sure) at_object is uncut) (only_end k (branch_of (2 * i) instruction.first) inner.0)
        (only_end k (branch_of (2 * i) instruction.second) inner.1.0)
        (subst (λ (line : UnixLine). list_any (is_place q) (leads_by Names (stripped x.file) p line) ≡ true) there led)) [
          | inl own ↦ within_object q below (Machine (decoded instruction f)) here own
          | inr by ↦ jump_arrives q below instruction w f at_object is uncut here by
        ]
    by_lines (Ends w there) = search rules

    pub leads_there : IsAt (before ++ k ∷ after) q
    leads_there =
        let place = sure_below Promise k i sure in
        let w : ℕ = slice_index k.text_words i in
        let f : List ℕ = drop (i + 1) k.text_words in
        let here : drop i k.text_words ≡ slice_index k.text_words i ∷ drop (i + 1) k.text_words = from_place k.text_words i place in
        let whole = (sure_places Promise k clean.quiet i sure).0 in
        let uncut = whole_at k i w f here still whole in
        let t = instructions_there forced before k after o x good clean.words l i w f here still uncut in
        let inside = ends_within forced (before ++ k ∷ after) o x good l small before k after refl in
        let longer = more_left k.text_words x.file.text_words i (total TextSeg before / 2) w t.more place inside t.there in
        by_lines (lines_at x.file k (total TextSeg before / 2 + i) i w f t.more here t.there longer still whole)
      where
        more_left : (ws vs : List ℕ) (i start w : ℕ) (more : List ℕ) → i < length ws → start + length ws ≤ length vs →
            drop (start + i) vs ≡ w ∷ more → length (drop (i + 1) ws) ≤ length more
        more_left ws vs i start w more a b e =
            let long : length (drop (start + i) vs) ≡ length (w ∷ more) = ap (λ (xs : List ℕ). length xs) e in
            omega (arith, length-drop (i + 1) ws, length-drop (start + i) vs)

-- the same of an object among others

step_from : (forced : List (List ℕ)) (os : List Contents) (o : Choices) (x : Outcome) (before : List Contents) (k : Contents)
    (after : List Contents) → os ≡ before ++ k ∷ after → AllByRecursion IsObject os → IsClean os k → o.keep ≢ Nothing →
    IsLinkedFrom forced os o x → x.report.multiples ≡ [] → x.file.header.text_size ≤ 65535 → (i : ℕ) → IsReached Promise k i →
    (q : ℕ) → q < length x.file.text_words →
    list_any (is_place q) (leads_to Names (stripped x.file) (total TextSeg before / 2 + i)) ≡ true → IsAt os q
step_from forced os o x before k after all good clean kept l once small i r q below led =
    subst (λ (ys : List Contents). AllByRecursion IsObject ys → IsClean ys k → IsLinkedFrom forced ys o x → IsAt ys q) (sym all)
    (λ g c m. leads_there forced before k after o x g c kept m once small i r q below led) good clean l

kept_from : (forced : List (List ℕ)) (os : List Contents) (o : Choices) (x : Outcome) (before : List Contents) (k : Contents)
    (after : List Contents) → os ≡ before ++ k ∷ after → AllByRecursion IsObject os → IsClean os k → o.keep ≢ Nothing →
    (l : IsLinkedFrom forced os o x) → x.report.multiples ≡ [] → x.file.header.text_size ≤ 65535 → (i : ℕ) → IsReached Promise k i →
    IsKept o x l.rows os before k i
kept_from forced os o x before k after all good clean kept l once small i r =
    subst (λ (ys : List Contents). AllByRecursion IsObject ys → IsClean ys k → (m : IsLinkedFrom forced ys o x) →
    IsKept o x m.rows ys before k i) (sym all) (λ g c m. kept_there forced before k after o x g c kept m once small i r) good clean l

module _ (forced : List (List ℕ)) (os : List Contents) (o : Choices) (x : Outcome) (good : AllByRecursion IsObject os)
    (clean : AllByRecursion (IsClean os) os) (kept : o.keep ≢ Nothing) (l : IsLinkedFrom forced os o x)
    (once : x.report.multiples ≡ []) (small : x.file.header.text_size ≤ 65535) (begins : Begins os x) where
  clean_in : (before : List Contents) (k : Contents) (after : List Contents) → os ≡ before ++ k ∷ after → IsClean os k
  clean_in before k after all =
      (all_split (IsClean os) before (k ∷ after) (subst (λ (ys : List Contents). AllByRecursion (IsClean os) ys) all clean)).1.0

  run_at : (place : ℕ) → IsReached Names (stripped x.file) place → IsAt os place
  run_at place (Evident p below led) =
      let is : x.file.header.entry_point ≡ 2 * p =
      placed p x.file.header.entry_point (or_none (is_place p (Some x.file.header.entry_point))
      (list_any (is_place p) (shown_from (stripped x.file) 0 x.file.text_words)) (none_shown x.file p 0 x.file.text_words) led) in
      let fits = file_fits forced os o x good l small in
      elim begins [
        | inl first ↦ starts_next forced os o x good l small [] os p refl (omega (arith, is, first)) below
        | inr b ↦ symbol_at forced os o x good l small b.first p x.file.header.entry_point b.is (omega (arith, is, below, fits))
      ]
  run_at place (Led from p r below led) = go (run_at from r)
    where
      go : IsAt os from → IsAt os p
      go a =
          step_from forced os o x a.before a.k a.after a.all good (clean_in a.before a.k a.after a.all) kept l once small a.i a.reached p below
          (subst (λ (n : ℕ). list_any (is_place p) (leads_to Names (stripped x.file) n) ≡ true) a.at led)

  of_object : (place : ℕ) → IsAt os place → IsOfObject o x l.rows os place
  of_object place a = search (rules, kept_from, clean_in)

-- for `clean_law`: control reaches only reached places of the objects, with their instructions
pub clean_objects : CleanObjectsMakeCleanPrograms
clean_objects forced os o x good clean kept l once small begins place run =
    of_object forced os o x good clean kept l once small begins place (run_at forced os o x good clean kept l once small begins place run)
