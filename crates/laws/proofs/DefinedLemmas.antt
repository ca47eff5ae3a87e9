-- Where no name is multiply defined, each definition of the objects holds in the linked file.
use Rattle.std.proofs.Common.{◌≡◌, ◌≢◌, ℕ, Bool, true, false, eqb, List, [], ◌∷◌, ◌++◌, Option, Some, refl, sym, ◌∙◌, ap, subst, arith}
use Rattle.std.specs.Prelude.{slice_get, Ok}
use Rattle.aout_core.specs.declared.symbol.Segment.TheVariants.{Undefined, Absolute, Other}
use Rattle.aout_core.specs.WellFormed.{is_external, masked_type, segment_of, segment_numbered}
use Rattle.aout_core.specs.{declared.symbol.Symbol.Symbol, declared.symbol.Segment.Segment, Contents.Contents, Words.plus}
use Rattle.aout_core.proofs.SegmentLemmas.{by_number}
use Rattle.link_session.specs.Mentions.{mention, statement, mentions, names_of, names_by_first_mention}
use Rattle.link_session.specs.States.{Definition, first_definition, wanted_size, state_by, differs, multiple_names}
use Rattle.link_session.specs.{declared.state.State.TheVariants.Wanted, Starts.shift}
use Rattle.tool_options.specs.{NameLists.is_among, declared.options.Keep.TheVariants.Nothing, Choices.Choices}
use Rattle.link_session.proofs.AgreementLemmas.{AgreesIn, none_differ, agrees_with}
use Rattle.link_session.proofs.{MentionLemmas.is_among-externals, UpdateLemmas.unmentioned}
use Rattle.link_out.specs.{function.Finals.{Final, final, final_by, type_of, bound_at}, Layouts.base, function.Plans.{Plan, plan}}
use Rattle.link_out.specs.{function.Tables.external_row, function.Reports.ReportNames, function.Link.{Outcome, linked_file, link}}
use Rattle.laws.specs.{WordsAndNames.IsDefined, relation.Relocated.move_in, relation.Relocated.external_type}
use Rattle.laws.proofs.{SaidLemmas.of_entry, MoveLemmas.move_by_header, ExternalLemmas.entry_there}
use Rattle.link_out.proofs.OutcomeLemmas.{made_file, made_report}

-- the mention that an entry makes agrees, where all do
entry_agrees : (forced : List (List ℕ)) (before : List Contents) (k : Contents) (after : List Contents) →
    multiple_names (mentions forced (before ++ k ∷ after)) ≡ [] →
    (j : ℕ) (s : Symbol) → slice_get k.symbols j ≡ Some s → is_external s ≡ true →
    AgreesIn (mentions forced (before ++ k ∷ after)) (mention before k s)
entry_agrees forced before k after single j s e outer =
    let all = mentions forced (before ++ k ∷ after) in
    of_entry (AgreesIn all) forced before k after (none_differ all all single) j s e outer

module _ (forced : List (List ℕ)) (os : List Contents) (o : Choices) (others : o.keep ≢ Nothing)
    (before : List Contents) (k : Contents) (s : Symbol) where
  abbrev q : Plan
  q = plan forced os o

  -- a name with this first definition is among the names
  defined_known : (segment : Segment) (offset : ℕ) → first_definition (mentions forced os) s.name ≡ Some (segment, offset) →
      is_among (names_by_first_mention (mentions forced os)) s.name ≡ true
  defined_known segment offset e = by_test (is_among (names_of (mentions forced os)) s.name) refl
    where
      by_test : (t : Bool) → is_among (names_of (mentions forced os)) s.name ≡ t →
          is_among (names_by_first_mention (mentions forced os)) s.name ≡ true
      by_test true h = is_among-externals (mentions forced os) s.name ∙ h
      by_test false h =
          absurd (let bad : state_by (Some (segment, offset)) (wanted_size (mentions forced os) s.name)
          ≡ Wanted 0 = ap (λ (d : Option Definition). state_by d (wanted_size (mentions forced os) s.name)) (sym e)
          ∙ unmentioned (mentions forced os) s.name h in cc)

  -- the row of a name with this first definition
  defined_row : (segment : Segment) (offset : ℕ) → first_definition (mentions forced os) s.name ≡ Some (segment, offset) →
      final q s.name ≡ bound_at segment (plus (base q.at segment) offset)
  defined_row segment offset e = ap (λ (d : Option Definition). final_by q s.name (state_by d (wanted_size (mentions forced os) s.name))) e

  -- the entry of a name with this first definition
  defined_at : (segment : Segment) (offset : ℕ) → external_type (segment_of s) ≡ type_of (Some segment) →
      plus (base q.at segment) offset ≡ plus s.value (move_in (linked_file q os).header os before k (segment_of s)) →
      first_definition (mentions forced os) s.name ≡ Some (segment, offset) → IsDefined (linked_file q os) os before k s
  defined_at segment offset t v e = record {
    row = external_row q s.name;
    found = entry_there q os s.name others (defined_known segment offset e);
    type_bits = ap (λ (f : Final). type_of f.bound) (defined_row segment offset e) ∙ sym t;
    value = ap (λ (f : Final). f.written) (defined_row segment offset e) ∙ v;
  }

  move_at : (segment : Segment) {n : ℕ} → segment_of s ≡ segment →
      n ≡ plus s.value (move_in (linked_file q os).header os before k segment) →
      n ≡ plus s.value (move_in (linked_file q os).header os before k (segment_of s))
  move_at segment same e = e ∙ ap (λ (g : Segment). plus s.value (move_in (linked_file q os).header os before k g)) (sym same)

  sum_placed : (v b h c : ℕ) → plus b h ≡ c → plus b (plus v h) ≡ plus v c
  sum_placed v b h c e = omega arith

  placed : (segment : Segment) → plus (base q.at segment) (plus s.value (shift before k segment)) ≡ plus s.value
      (move_in (linked_file q os).header os before k segment)
  placed segment =
      sum_placed s.value (base q.at segment) (shift before k segment)
      (move_in (linked_file q os).header os before k segment) (move_by_header forced os o before k segment)

  defined_by : (segment : Segment) → eqb (masked_type s) 0 ≡ false → segment_of s ≡ segment →
      differs (first_definition (mentions forced os) s.name) (statement before k segment s.value) ≡ false →
      IsDefined (linked_file q os) os before k s
  defined_by Undefined inner same h = absurd (undefined_type (masked_type s) inner same)
    where
      undefined_type : (n : ℕ) → eqb n 0 ≡ false → segment_numbered n ≡ Undefined → ⊥
      undefined_type =
          by_number (λ t segment. t ≡ false → segment ≡ Undefined → ⊥) (λ z e. absurd (cc)) (λ z e. absurd (cc))
          (λ z e. absurd (cc)) (λ z e. absurd (cc)) (λ z e. absurd (cc)) (λ z e. absurd (cc))
  defined_by Absolute inner same h =
      defined_at Absolute (plus s.value (shift before k Absolute))
      (ap external_type same) (move_at Absolute same (sum_placed s.value 0 0 0 refl))
      (agrees_with (first_definition (mentions forced os) s.name) Absolute (plus s.value (shift before k Absolute)) h)
  defined_by Other inner same h =
      defined_at Absolute (plus s.value (shift before k Absolute))
      (ap external_type same) (move_at Other same (sum_placed s.value 0 0 0 refl))
      (agrees_with (first_definition (mentions forced os) s.name) Absolute (plus s.value (shift before k Absolute)) h)
  defined_by segment inner same h =
      defined_at segment (plus s.value (shift before k segment)) (ap external_type same) (move_at segment same (placed segment))
      (agrees_with (first_definition (mentions forced os) s.name) segment (plus s.value (shift before k segment)) h)

-- where no name is multiply defined, each definition holds
pub definitions_hold : (forced : List (List ℕ)) (before : List Contents) (k : Contents) (after : List Contents)
    (o : Choices) (x : Outcome) → o.keep ≢ Nothing → link forced (before ++ k ∷ after) o ≡ Ok x → x.report.multiples ≡ [] →
    (j : ℕ) (s : Symbol) → slice_get k.symbols j ≡ Some s → is_external s ≡ true → eqb (masked_type s) 0 ≡ false →
    IsDefined x.file (before ++ k ∷ after) before k s
definitions_hold forced before k after o x others linked none j s e outer inner =
    let os = before ++ k ∷ after in
    let single : multiple_names (mentions forced os) ≡ [] =
    ap (λ (f : ReportNames). f.multiples) (made_report (plan forced os o) os x linked) ∙ none in
    subst (λ (f : Contents). IsDefined f os before k s) (made_file (plan forced os o) os x linked)
    (defined_by forced os o others before k s (segment_of s) inner refl (entry_agrees forced before k after single j s e outer))
