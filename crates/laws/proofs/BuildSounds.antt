-- The file of a partial link is sound: each of its numbers is a word, and each of its names is one.
use Rattle.std.proofs.Common.{◌≡◌, ℕ, ◌+◌, ◌-◌, ◌%◌, ◌<◌, ◌≤◌, Bool, true, false, not, cond, ◌||◌, max, eqb, List, [], ◌∷◌, ◌++◌, map}
use Rattle.std.proofs.Common.{length, zero, suc, take, Option, Some, None, Ok, Err, refl, sym, ap, ◌∙◌, subst, arith}
use Rattle.std.proofs.{lemmas.Bool.ltb-false, lemmas.List.length-take}
use Rattle.std.specs.List.{AllByRecursion, flat_map, list_any}
use Rattle.std.specs.{Prelude.{String, Vec, codes, filter, if◌then◌else◌, nat_lt, bytes_eq}, declared.alloc.Global.Global}
use Rattle.command_words.specs.{declared.fault.WordsFault.TheVariants.Usage, declared.words.Call.TheVariants.Ld}
use Rattle.command_words.specs.{LinkWords.name_in, LinkWords.values_of, LinkWords.with_names}
use Rattle.v7tools.specs.CommandRuns.{AsksFor}
use Rattle.tool_options.specs.NameLists.{is_among, new_names}
use Rattle.tool_options.specs.{ForcedNames.{takes, with_name}, declared.options.Keep.Keep}
use Rattle.tool_options.specs.{declared.options.Keep.TheVariants.{All, NotL, Externals, Nothing}, declared.options.Layout.Layout}
use Rattle.tool_options.specs.{declared.options.Layout.TheVariants.{Plain, Pure, Split}, Choices.{Choices, lays_commons}}
use Rattle.laws.proofs.{BuildObjects.not_both, LeftLemmas.same_value}
use Rattle.aout_core.specs.declared.symbol.Segment.TheVariants.{TextSeg, DataSeg, BssSeg, Undefined, Absolute, Other}
use Rattle.aout_core.specs.{declared.symbol.Segment.Segment, declared.symbol.Symbol.Symbol, declared.reloc.Reloc.Reloc}
use Rattle.aout_core.specs.Contents.{Contents, AreWords, IsSound, IsSymbol, IsWord}
use Rattle.aout_core.specs.{Names.{IsName, before_nul}, Words.{AreBytes, plus, minus}, WellFormed.{IsWellFormed, is_external, segment_of}}
use Rattle.link_session.specs.{Limits.limit_passed, Sessions.IsObject, Starts.total}
use Rattle.link_session.specs.Cells.{Referent, to_segment, to_name, referent, words_of}
use Rattle.link_session.specs.Mentions.{Mention, externals_in, forced_mention, mention, mentions, mentions_in, names_of}
use Rattle.link_session.specs.Mentions.{names_by_first_mention, statement, externals}
use Rattle.link_session.specs.States.{Definition, first_definition, size_wanted_by, state, state_by, wanted_size}
use Rattle.link_session.specs.{declared.state.State.State, declared.state.State.TheVariants.{Defined, Wanted}, Earlier.with_earlier}
use Rattle.link_session.proofs.{ListLemmas.all_append, TotalLemmas.within_limit}
use Rattle.link_out.specs.function.Finals.{Final, bound_at, final, final_at, reserved_or_waiting, type_of, waiting}
use Rattle.link_out.specs.function.Link.{Outcome, link, linked_header}
use Rattle.link_out.specs.function.Plans.{Plan, common_offset, commons_laid, commons_total, plan}
use Rattle.link_out.specs.function.Reports.{entry_word, is_in_text}
use Rattle.link_out.specs.function.Tables.{external_row, external_rows, final_reloc, final_relocs, has_number_too_large, has_too_large_in}
use Rattle.link_out.specs.function.Tables.{local_rows, moved_local, moved_value, name_bits, needs_too_large, number_too_large}
use Rattle.link_out.specs.{Layouts.{Bases, magic_of}, KeptSymbols.{is_kept_local, rows_kept}}
use Rattle.link_out.specs.{function.Tables.{referent_bits, row_of, segment_bits, table}, function.Words.final_word}
use Rattle.link_out.proofs.{FitLemmas.linked_fits, OutcomeLemmas.made, OutcomeLemmas.made_file}

-- ---- lists

all_made : {A B : Type 0} (P : B → Type 0) (f : A → B) → ((x : A) → P (f x)) → (xs : List A) → AllByRecursion P (map f xs)
all_made P f h [] = tt
all_made P f h (x ∷ xs) = (h x, all_made P f h xs)

all_made_of : {A B : Type 0} (Q : A → Type 0) (P : B → Type 0) (f : A → B) → ((x : A) → Q x → P (f x)) → (xs : List A) →
    AllByRecursion Q xs → AllByRecursion P (map f xs)
all_made_of Q P f h [] k = tt
all_made_of Q P f h (x ∷ xs) k = (h x k.0, all_made_of Q P f h xs k.1)

all_kept : {A : Type 0} (P : A → Type 0) (t : A → Bool) (xs : List A) → AllByRecursion P xs → AllByRecursion P (filter t xs)
all_kept P t [] h = tt
all_kept P t (x ∷ xs) h = by_test (t x) (all_kept P t xs h.1)
  where
    by_test : (b : Bool) → AllByRecursion P (filter t xs) → AllByRecursion P (cond b (x ∷ filter t xs) (filter t xs))
    by_test true rest = (h.0, rest)
    by_test false rest = rest

or_parts : (a b : Bool) → (a || b) ≡ false → (a ≡ false) × (b ≡ false)
or_parts true b e = absurd (cc)
or_parts false b e = (refl, e)

-- ---- forced names, which arguments give

abbrev IsShort : List ℕ → Type 0
IsShort name = (length name ≤ 8) × (before_nul name ≡ name)

nul_take : (n : ℕ) (bs : List ℕ) → before_nul (take n (before_nul bs)) ≡ take n (before_nul bs)
nul_take zero bs = refl
nul_take (suc n) [] = refl
nul_take (suc n) (b ∷ bs) = by_test (eqb b 0) refl (nul_take n bs)
  where
    by_test : (t : Bool) → eqb b 0 ≡ t → before_nul (take n (before_nul bs)) ≡ take n (before_nul bs) →
        before_nul (take (suc n) (cond t [] (b ∷ before_nul bs))) ≡ take (suc n) (cond t [] (b ∷ before_nul bs))
    by_test true e rest = refl
    by_test false e rest =
        ap (λ (t : Bool). cond t [] (b ∷ before_nul (take n (before_nul bs)))) e ∙ ap (λ (xs : List ℕ). b ∷ xs) rest

cut_short : (text : List ℕ) → IsShort (name_in text)
cut_short text = (omega (arith, length-take 8 (before_nul text)), nul_take 8 text)

with_one_short : (names : List (List ℕ)) (name : List ℕ) → AllByRecursion IsShort names → IsShort name →
    AllByRecursion IsShort (with_name names name)
with_one_short names name h k = by_tests (is_among names name) (nat_lt (length names) 64)
  where
    by_tests : (s t : Bool) → AllByRecursion IsShort (cond s names (cond t (names ++ name ∷ []) names))
    by_tests true t = h
    by_tests false true = all_append IsShort names (name ∷ []) h (k, tt)
    by_tests false false = h

all_short : (texts names forced : List (List ℕ)) → AllByRecursion IsShort names → with_names names texts ≡ Ok forced →
    AllByRecursion IsShort forced
all_short [] names forced h e = subst (λ (ns : List (List ℕ)). AllByRecursion IsShort ns) (same_value names forced e) h
all_short (text ∷ texts) names forced h e =
    by_test (takes names (name_in text))
    (all_short texts (with_name names (name_in text)) forced (with_one_short names (name_in text) h (cut_short text))) e
  where
    by_test : (t : Bool) →
        (with_names (with_name names (name_in text)) texts ≡ Ok forced → AllByRecursion IsShort forced) →
        cond t (with_names (with_name names (name_in text)) texts) (Err Usage) ≡ Ok forced → AllByRecursion IsShort forced
    by_test true next e = next e
    by_test false next e = absurd (not_both forced Usage (sym e))

all_names : (forced : List (List ℕ)) → AllByRecursion IsShort forced → AllByRecursion AreBytes forced → AllByRecursion IsName forced
all_names [] h k = tt
all_names (n ∷ ns) h k = (record { short = h.0.0; no_nul = h.0.1; bytes = k.0 }, all_names ns h.1 k.1)

-- the id by which the option is known
abbrev forced_id : List ℕ
forced_id = codes "forced"

-- forced names that arguments ask for are names, if they are of bytes
pub forced_are_names : (words forced : List (List ℕ)) (o : Choices) (output : String Global) (files : Vec (String Global) Global) →
    AsksFor words (Ld o forced output files) → AllByRecursion AreBytes forced → AllByRecursion IsName forced
forced_are_names words forced o output files asks bytes =
    all_names forced (all_short (values_of asks.asked.1 forced_id) [] forced tt asks.asked.3.1) bytes

-- ---- words and relocation words

minus_small : (a b : ℕ) → IsWord (minus a b)
minus_small a b = let e : (a + (65536 - b % 65536)) % 65536 < 65536 = omega arith in e

plus_small : (a b : ℕ) → IsWord (plus a b)
plus_small a b = let e : (a + b) % 65536 < 65536 = omega arith in e

words_small : (p : Plan) (segment : Segment) (earlier os : List Contents) →
    AllByRecursion IsWord
    (flat_map (λ (q : List Contents × Contents). map (λ (wr : ℕ × Reloc). final_word p q.0 q.1 segment wr.0 wr.1) (words_of segment q.1))
    (with_earlier earlier os))
words_small p segment earlier [] = tt
words_small p segment earlier (o ∷ os) =
    all_append IsWord (map (λ (wr : ℕ × Reloc). final_word p earlier o segment wr.0 wr.1) (words_of segment o))
    (flat_map (λ (q : List Contents × Contents). map (λ (wr : ℕ × Reloc). final_word p q.0 q.1 segment wr.0 wr.1) (words_of segment q.1))
    (with_earlier (earlier ++ o ∷ []) os))
    (all_made IsWord (λ (wr : ℕ × Reloc). final_word p earlier o segment wr.0 wr.1) (λ wr. minus_small _ _) (words_of segment o))
    (words_small p segment (earlier ++ o ∷ []) os)

abbrev IsWordReloc : Reloc → Type 0
IsWordReloc r = IsWord r.0

segment_small : (segment : Segment) → segment_bits segment ≤ 6
segment_small TextSeg = omega arith
segment_small DataSeg = omega arith
segment_small BssSeg = omega arith
segment_small Undefined = omega arith
segment_small Absolute = omega arith
segment_small Other = omega arith

reloc_small : (p : Plan) (os : List Contents) (o : Contents) (r : Reloc) → needs_too_large p os (referent o r) ≡ false →
    IsWordReloc (final_reloc p os o r)
reloc_small p os o r h = by_referent (referent o r) h
  where
    by_bound : (name : List ℕ) (bound : Option Segment) → number_too_large bound (row_of p os name) ≡ false →
        r.0 % 2 + name_bits bound (row_of p os name) < 65536
    by_bound name (Some segment) h = let small = segment_small segment in omega arith
    by_bound name None h = let few : row_of p os name ≤ 4095 = ltb-false 4095 (row_of p os name) h in omega arith

    by_referent : (q : Referent) → needs_too_large p os q ≡ false → r.0 % 2 + referent_bits p os q < 65536
    by_referent (to_segment segment) h = let small = segment_small segment in omega arith
    by_referent (to_name name) h = by_bound name (final p name).bound h

object_relocs_small : (p : Plan) (os : List Contents) (o : Contents) (wrs : List (ℕ × Reloc)) →
    list_any (λ (wr : ℕ × Reloc). needs_too_large p os (referent o wr.1)) wrs ≡ false →
    AllByRecursion IsWordReloc (map (λ (wr : ℕ × Reloc). final_reloc p os o wr.1) wrs)
object_relocs_small p os o [] h = tt
object_relocs_small p os o (wr ∷ wrs) h =
    let both = or_parts (needs_too_large p os (referent o wr.1))
    (list_any (λ (wr : ℕ × Reloc). needs_too_large p os (referent o wr.1)) wrs) h in
    (reloc_small p os o wr.1 both.0, object_relocs_small p os o wrs both.1)

relocs_small : (p : Plan) (segment : Segment) (all earlier os : List Contents) →
    list_any (λ (o : Contents). list_any (λ (wr : ℕ × Reloc). needs_too_large p all (referent o wr.1)) (words_of segment o)) os ≡ false →
    AllByRecursion IsWordReloc
    (flat_map (λ (q : List Contents × Contents). map (λ (wr : ℕ × Reloc). final_reloc p all q.1 wr.1) (words_of segment q.1))
    (with_earlier earlier os))
relocs_small p segment all earlier [] h = tt
relocs_small p segment all earlier (o ∷ os) h =
    let both = or_parts (list_any (λ (wr : ℕ × Reloc). needs_too_large p all (referent o wr.1)) (words_of segment o))
    (list_any (λ (o : Contents). list_any (λ (wr : ℕ × Reloc). needs_too_large p all (referent o wr.1)) (words_of segment o)) os) h in
    all_append IsWordReloc (map (λ (wr : ℕ × Reloc). final_reloc p all o wr.1) (words_of segment o))
    (flat_map (λ (q : List Contents × Contents). map (λ (wr : ℕ × Reloc). final_reloc p all q.1 wr.1) (words_of segment q.1))
    (with_earlier (earlier ++ o ∷ []) os))
    (object_relocs_small p all o (words_of segment o) both.0) (relocs_small p segment all (earlier ++ o ∷ []) os both.1)

-- ---- names and their sizes

-- a mention of a name, which wants a word
abbrev IsSaid : Mention → Type 0
IsSaid m = IsName m.name × IsWord (size_wanted_by m.says)

said_by_symbol : (earlier : List Contents) (o : Contents) (s : Symbol) → IsSymbol s → IsSaid (mention earlier o s)
said_by_symbol earlier o s h = (h.name, by_segment (segment_of s))
  where
    by_segment : (segment : Segment) → IsWord (size_wanted_by (statement earlier o segment s.value))
    by_segment Undefined = h.value
    by_segment Other = omega arith
    by_segment TextSeg = omega arith
    by_segment DataSeg = omega arith
    by_segment BssSeg = omega arith
    by_segment Absolute = omega arith

mentions_said : (forced : List (List ℕ)) (os : List Contents) → AllByRecursion IsName forced → AllByRecursion IsSound os →
    AllByRecursion IsSaid (mentions forced os)
mentions_said forced os names sound =
    all_append IsSaid (map forced_mention forced) (flat_map (λ q. mentions_in q.0 q.1) (with_earlier [] os))
    (all_made_of IsName IsSaid forced_mention (λ n h. (h, omega arith)) forced names) (from [] os sound)
  where
    from : (earlier rest : List Contents) → AllByRecursion IsSound rest →
        AllByRecursion IsSaid (flat_map (λ q. mentions_in q.0 q.1) (with_earlier earlier rest))
    from earlier [] h = tt
    from earlier (o ∷ rest) h =
        all_append IsSaid (mentions_in earlier o) (flat_map (λ q. mentions_in q.0 q.1) (with_earlier (earlier ++ o ∷ []) rest))
        (all_made_of IsSymbol IsSaid (mention earlier o) (said_by_symbol earlier o) (externals_in o)
        (all_kept IsSymbol is_external o.symbols h.0.symbols)) (from (earlier ++ o ∷ []) rest h.1)

wanted_small : (ms : List Mention) (name : List ℕ) → AllByRecursion IsSaid ms → IsWord (wanted_size ms name)
wanted_small [] name h = omega arith
wanted_small (m ∷ ms) name h = by_test (bytes_eq name m.name) (wanted_small ms name h.1)
  where
    by_test : (b : Bool) → IsWord (wanted_size ms name) →
        IsWord (cond b (max (size_wanted_by m.says) (wanted_size ms name)) (wanted_size ms name))
    by_test true rest = let own = h.0.1 in omega arith
    by_test false rest = rest

state_small : (d : Option Definition) (size : ℕ) → IsWord size → IsWord (size_wanted_by (state_by d size))
state_small (Some d) size h = omega arith
state_small None size h = h

new_are_names : (seen ns : List (List ℕ)) → AllByRecursion IsName ns → AllByRecursion IsName (new_names seen ns)
new_are_names seen [] h = tt
new_are_names seen (n ∷ ns) h = by_test (is_among seen n) (new_are_names (seen ++ n ∷ []) ns h.1)
  where
    by_test : (b : Bool) → AllByRecursion IsName (new_names (seen ++ n ∷ []) ns) →
        AllByRecursion IsName (cond b (new_names (seen ++ n ∷ []) ns) (n ∷ new_names (seen ++ n ∷ []) ns))
    by_test true rest = rest
    by_test false rest = (h.0, rest)

-- ---- what becomes of a name

record IsSmall (f : Final) : Type 0 where
  address : IsWord f.address
  written : IsWord f.written

final_small : (o : Choices) (b : Bases) (offset : ℕ) (name : List ℕ) (s : State) → o.relocatable ≡ true → lays_commons o ≡ false →
    IsWord (size_wanted_by s) → IsSmall (final_at o b offset name s)
final_small o b offset name (Defined segment place) r l h = record { address = plus_small _ _; written = plus_small _ _ }
final_small o b offset name (Wanted size) r l h = by_tests (eqb size 0) o.relocatable (lays_commons o) r l
  where
    by_tests : (z t c : Bool) → t ≡ true → c ≡ false →
        IsSmall (if z then (if t then waiting 0 else reserved_or_waiting b name)
        else (if c then bound_at BssSeg (plus b.data_end offset) else waiting size))
    by_tests true true c r l = record { address = omega arith; written = omega arith }
    by_tests true false c r l = absurd (cc)
    by_tests false t false r l = record { address = omega arith; written = h }
    by_tests false t true r l = absurd (cc)

type_small : (bound : Option Segment) → IsWord (type_of bound)
type_small None = omega arith
type_small (Some TextSeg) = omega arith
type_small (Some DataSeg) = omega arith
type_small (Some BssSeg) = omega arith
type_small (Some Undefined) = omega arith
type_small (Some Absolute) = omega arith
type_small (Some Other) = omega arith

-- ---- the file

magic_small : (layout : Layout) → IsWord (magic_of layout)
magic_small Plain = omega arith
magic_small Pure = omega arith
magic_small Split = omega arith

rows_sound : (keep : Keep) (rows : List Symbol) → AllByRecursion IsSymbol rows → AllByRecursion IsSymbol (rows_kept keep rows)
rows_sound All rows h = h
rows_sound NotL rows h = h
rows_sound Externals rows h = h
rows_sound Nothing rows h = tt

module _ (forced : List (List ℕ)) (os : List Contents) (o : Choices) (names : AllByRecursion IsName forced)
    (sound : AllByRecursion IsSound os) (r : o.relocatable ≡ true) (c : o.force_commons ≡ false) where
  abbrev p : Plan
  p = plan forced os o

  none_laid : lays_commons o ≡ false
  none_laid = ap (λ (t : Bool). not t || o.force_commons) r ∙ c

  name_small : (name : List ℕ) → IsSmall (final p name)
  name_small name =
      final_small o p.at (common_offset p.mentions name) name (state p.mentions name) r none_laid
      (state_small (first_definition p.mentions name) (wanted_size p.mentions name)
      (wanted_small p.mentions name (mentions_said forced os names sound)))

  entry_small : (entry : Option (List ℕ)) → IsWord (entry_word p entry)
  entry_small None = omega arith
  entry_small (Some name) = by_test (is_in_text p name)
    where
      by_test : (b : Bool) → IsWord (if b then (final p name).address else 0)
      by_test true = (name_small name).address
      by_test false = omega arith

  moved_sound : (earlier : List Contents) (k : Contents) (s : Symbol) → IsSymbol s → IsSymbol (moved_local p.at earlier k s)
  moved_sound earlier k s h = record { name = h.name; type_bits = h.type_bits; value = by_segment (segment_of s) }
    where
      by_segment : (segment : Segment) → IsWord (moved_value p.at earlier k segment s.value)
      by_segment TextSeg = plus_small _ _
      by_segment DataSeg = plus_small _ _
      by_segment BssSeg = plus_small _ _
      by_segment Undefined = h.value
      by_segment Absolute = h.value
      by_segment Other = h.value

  locals_sound : (earlier rest : List Contents) → AllByRecursion IsSound rest →
      AllByRecursion IsSymbol
      (flat_map (λ (q : List Contents × Contents). map (moved_local p.at q.0 q.1) (filter (is_kept_local o.keep) q.1.symbols))
      (with_earlier earlier rest))
  locals_sound earlier [] h = tt
  locals_sound earlier (k ∷ rest) h =
      all_append IsSymbol (map (moved_local p.at earlier k) (filter (is_kept_local o.keep) k.symbols))
      (flat_map (λ (q : List Contents × Contents). map (moved_local p.at q.0 q.1) (filter (is_kept_local o.keep) q.1.symbols))
      (with_earlier (earlier ++ k ∷ []) rest))
      (all_made_of IsSymbol IsSymbol (moved_local p.at earlier k) (moved_sound earlier k) (filter (is_kept_local o.keep) k.symbols)
      (all_kept IsSymbol (is_kept_local o.keep) k.symbols h.0.symbols)) (locals_sound (earlier ++ k ∷ []) rest h.1)

  externals_sound : AllByRecursion IsSymbol (external_rows p)
  externals_sound =
      all_made_of IsName IsSymbol (external_row p)
      (λ name h. record { name = h; type_bits = type_small (final p name).bound; value = (name_small name).written })
      (names_by_first_mention p.mentions)
      (new_are_names [] (names_of p.mentions)
      (all_made_of IsSaid IsName (λ (m : Mention). m.name) (λ m h. h.0) p.mentions (mentions_said forced os names sound)))

  table_sound : AllByRecursion IsSymbol (table p os)
  table_sound =
      rows_sound o.keep (local_rows p os ++ external_rows p)
      (all_append IsSymbol (local_rows p os) (external_rows p) (locals_sound [] os sound) externals_sound)

  module _ (good : AllByRecursion IsWellFormed os) (none : limit_passed forced os ≡ None) (x : Outcome) (h : link forced os o ≡ Ok x) where
    objects_are : (ks : List Contents) → AllByRecursion IsSound ks → AllByRecursion IsWellFormed ks → AllByRecursion IsObject ks
    objects_are [] s w = tt
    objects_are (k ∷ ks) s w = (record { fits = s.0.fits; well = w.0 }, objects_are ks s.1 w.1)

    numbered : has_number_too_large p os ≡ false
    numbered = both_false o.relocatable (has_number_too_large p os) r (made p os x h).numbered
      where
        both_false : (a b : Bool) → a ≡ true → (Rattle.std.specs.Prelude.◌&&◌ a b) ≡ false → b ≡ false
        both_false true b e k = k
        both_false false b e k = absurd (cc)

    each_numbered : (has_too_large_in p os TextSeg ≡ false) × (has_too_large_in p os DataSeg ≡ false)
    each_numbered = or_parts (has_too_large_in p os TextSeg) (has_too_large_in p os DataSeg) numbered

    if_kept : (t : Bool) (rs : List Reloc) → AllByRecursion IsWordReloc rs → AllByRecursion IsWordReloc (cond t rs [])
    if_kept true rs k = k
    if_kept false rs k = tt

    flag_small : (t : Bool) → IsWord (cond t 0 1)
    flag_small true = omega arith
    flag_small false = omega arith

    header_words : AreWords (linked_header p os)
    header_words =
        let w = within_limit (total TextSeg os) (total DataSeg os) (total BssSeg os) (length (externals forced os)) none in
        let few : length (table p os) ≤ 5461 = ltb-false 5461 (length (table p os)) (made p os x h).few in
        let no_commons : commons_laid o p.mentions ≡ 0 = ap (λ (t : Bool). cond t (commons_total p.mentions) 0) none_laid in
        record {
          magic = magic_small o.layout;
          text_size = let small = w.text in omega arith;
          data_size = let small = w.data in omega arith;
          bss_size = let small = w.bss in omega arith;
          symbol_size = omega arith;
          entry_point = entry_small o.entry;
          unused = omega arith;
          flag = flag_small o.relocatable;
        }

    -- the file of a partial link of sound objects is sound
    pub partial_is_sound : IsSound x.file
    partial_is_sound = subst (λ (f : Contents). IsSound f) (made_file p os x h) (record {
      fits = linked_fits p os (objects_are os sound good);
      header = header_words;
      text_words = words_small p TextSeg [] os;
      data_words = words_small p DataSeg [] os;
      text_reloc = if_kept o.relocatable (final_relocs p os TextSeg) (relocs_small p TextSeg os [] os each_numbered.0);
      data_reloc = if_kept o.relocatable (final_relocs p os DataSeg) (relocs_small p DataSeg os [] os each_numbered.1);
      symbols = table_sound;
    })
