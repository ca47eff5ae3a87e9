-- Statements near the laws of linking that do not hold: each has a link that shows it.
use Rattle.std.proofs.Common.{◌≡◌, ◌↔◌, ℕ, ◌+◌, ◌%◌, ◌<◌, ◌≤◌, true, false, List, [], ◌∷◌, Some, refl, sym, ◌∙◌, ap, arith, inl, inr}
use Rattle.std.proofs.Common.{eq-eqb}
use Rattle.std.specs.{Prelude.eqb, Prelude.Ok, Prelude.Err, Prelude.replicate, Prelude.slice_get, List.AllByRecursion}
use Rattle.aout_core.specs.{declared.symbol.Symbol.Symbol, declared.symbol.Segment.Segment, declared.symbol.Segment.TheVariants.TextSeg}
use Rattle.aout_core.specs.{declared.reloc.Reloc.Reloc, Contents.Contents, WellFormed.symbol_number}
use Rattle.link_session.specs.{Cells.{segment_words, segment_relocs}}
use Rattle.link_session.specs.{declared.state.State.TheVariants.{Defined, Wanted}, Sessions.IsObject, Mentions.place_of}
use Rattle.tool_options.specs.{Choices.Choices}
use Rattle.link_out.specs.declared.linked.LinkFault.TheVariants.{DoesNotFit, TooManySymbols, SymbolNumber, Memory}
use Rattle.link_out.specs.{declared.linked.LinkFault.LinkFault, function.Link.link}
use Rattle.laws.specs.{relation.Refusals.{CommonsTake, EndsAt, entry_count, HasNumberTooLarge, RefusedExactly}, relation.NameStates.IsFirst}
use Rattle.laws.proofs.examples.Samples.{sym as entry_of, object, _f, _x, L1, plain, relocatable}
use Rattle.laws.proofs.examples.LawExamples.{outcome_of}
use Rattle.laws.proofs.examples.ClauseLemmas.{only_object, only_word, no_word, as_object, at_most_so, less_so, only_wanted}

pub different : (a b : ℕ) → eqb a b ≡ false → a ≡ b → ⊥
different a b t e = let bad : true ≡ false = sym (eq-eqb a b e) ∙ t in cc

-- a link is refused where it ends after this address, has more than so many entries, or needs a number over this one
abbrev IsRefusedAbove : ℕ → ℕ → ℕ → List (List ℕ) → List Contents → Choices → LinkFault → Type 0
IsRefusedAbove last most number forced os o DoesNotFit = (end : ℕ) × EndsAt forced os o end × (last < end)
IsRefusedAbove last most number forced os o TooManySymbols =
    (end : ℕ) × EndsAt forced os o end × (end ≤ last) × (most < entry_count forced os o)
IsRefusedAbove last most number forced os o SymbolNumber =
    (end : ℕ) × EndsAt forced os o end × (end ≤ last) × (entry_count forced os o ≤ most) × (o.relocatable ≡ true)
    × HasNumberTooLarge number forced os o
IsRefusedAbove last most number forced os o (Memory _) = ⊥

abbrev RefusedAbove : ℕ → ℕ → ℕ → Type 0
RefusedAbove last most number =
    (forced : List (List ℕ)) (os : List Contents) (o : Choices) (fault : LinkFault) → AllByRecursion IsObject os →
    (link forced os o ≡ Err fault) ↔ IsRefusedAbove last most number forced os o fault

law_of_refusals : RefusedExactly → RefusedAbove 65535 5461 4095
law_of_refusals law forced os o DoesNotFit good = law forced os o DoesNotFit good
law_of_refusals law forced os o TooManySymbols good = law forced os o TooManySymbols good
law_of_refusals law forced os o SymbolNumber good = law forced os o SymbolNumber good
law_of_refusals law forced os o (Memory refused) good = law forced os o (Memory refused) good

-- a common of so many bytes
abbrev wide : ℕ → Contents
wide size = object [] [] [] [] 0 (entry_of _x 32 size ∷ [])

-- 65,534 bytes fit
fit_at_65534 : RefusedAbove 65533 5461 4095 → ⊥
fit_at_65534 law =
    let bad : Ok (outcome_of (link [] (wide 65534 ∷ []) plain)) ≡ Err DoesNotFit =
    (law [] (wide 65534 ∷ []) plain DoesNotFit (as_object (wide 65534) refl refl refl refl refl refl refl refl, tt)).1 (
      65534,
      record { commons = 65534; take = (Wanted 65534, only_wanted _x 65534, (0, refl, refl)); is = refl },
      less_so 65533 65534 refl,
    ) in
    absurd (cc)

-- 65,536 bytes do not; that is the end there is
refused_at_65536 : RefusedAbove 65536 5461 4095 → ⊥
refused_at_65536 law =
    let h = (law [] (wide 65535 ∷ []) plain DoesNotFit (as_object (wide 65535) refl refl refl refl refl refl refl refl, tt)).0 refl in
    by_state h.0 h.1.commons h.1.take h.1.is h.2
  where
    by_size : (end commons size rest : ℕ) → size ≤ 65535 → commons ≡ size + size % 2 + rest → rest ≡ 0 →
        end ≡ 0 + 0 + commons + 0 → 65536 < end → ⊥
    by_size end commons size rest most e f g h = omega arith

    none_first : (segment : Segment) (offset : ℕ) → IsFirst (record { name = _x; says = Wanted 65535 } ∷ []) _x segment offset → ⊥
    none_first segment offset (inl h) = let bad : Wanted 65535 ≡ Defined segment offset = h.1 in cc
    none_first segment offset (inr h) = h.1

    by_state : (end commons : ℕ) → CommonsTake plain (record { name = _x; says = Wanted 65535 } ∷ []) (_x ∷ []) commons →
        end ≡ 0 + 0 + commons + 0 → 65536 < end → ⊥
    by_state end commons (Defined segment offset, is, rest) g h = none_first segment offset is
    by_state end commons (Wanted size, is, rest) g h =
        by_size end commons size rest.0 (is.least 65535 ((λ same n e. let at : 65535 ≡ n = cc in omega arith), tt)) rest.1 rest.2 g h

-- 5,461 entries may be written, and 5,462 may not
entries_at_5461 : RefusedAbove 65535 5460 4095 → ⊥
entries_at_5461 law =
    let many : Contents = object [] [] [] [] 0 (replicate 5461 (entry_of L1 2 0)) in
    let bad : Ok (outcome_of (link [] (many ∷ []) plain)) ≡ Err TooManySymbols =
    (law [] (many ∷ []) plain TooManySymbols (as_object many refl refl refl refl refl refl refl refl, tt)).1
    (0, record { commons = 0; take = refl; is = refl }, at_most_so 0 65535 refl, less_so 5460 5461 refl) in
    absurd (cc)

refused_at_5462 : RefusedAbove 65535 5462 4095 → ⊥
refused_at_5462 law =
    let many : Contents = object [] [] [] [] 0 (replicate 5462 (entry_of L1 2 0)) in
    let h = (law [] (many ∷ []) plain TooManySymbols (as_object many refl refl refl refl refl refl refl refl, tt)).0 refl in
    let bad : 5462 < 5462 = h.3 in
    absurd (omega arith)

-- a word that refers to an undefined name after so many locals; the number 4,095 may be needed, and 4,096 may not

abbrev far_o : ℕ → Contents
far_o locals = object (0 ∷ []) (0o10 ∷ []) [] [] 0 (entry_of _f 0o40 0 ∷ replicate locals (entry_of L1 2 0))

-- what each word of an object refers to
abbrev RefersToIt : List Contents → Contents → Type 0
RefersToIt before k =
    (segment : Segment) (i w : ℕ) (r : Reloc) → slice_get (segment_words segment k) i ≡ Some w →
    slice_get (segment_relocs segment k) i ≡ Some r →
    (symbol : Symbol) → slice_get k.symbols (symbol_number r) ≡ Some symbol → symbol ≡ entry_of _f 0o40 0

number_at_4095 : RefusedAbove 65535 5461 4094 → ⊥
number_at_4095 law =
    let bad : Ok (outcome_of (link [] (far_o 4095 ∷ []) relocatable)) ≡ Err SymbolNumber =
    (law [] (far_o 4095 ∷ []) relocatable SymbolNumber (as_object (far_o 4095) refl refl refl refl refl refl refl refl, tt)).1 (
      2,
      record { commons = 0; take = (Wanted 0, only_wanted _f 0, (0, refl, refl)); is = refl },
      at_most_so 2 65535 refl,
      at_most_so 4096 5461 refl,
      refl,
      record {
        before = [];
        k = far_o 4095;
        after = [];
        all = refl;
        segment = TextSeg;
        i = 0;
        w = 0;
        r = record { 0 = 0o10 };
        word = refl;
        reloc = refl;
        kind = refl;
        symbol = entry_of _f 0o40 0;
        named = refl;
        size = 0;
        wanted = only_wanted _f 0;
        waits = inl refl;
        large = less_so 4094 4095 refl;
      },
    ) in
    absurd (cc)

refused_at_4096 : RefusedAbove 65535 5461 4096 → ⊥
refused_at_4096 law =
    let h =
    (law [] (far_o 4096 ∷ []) relocatable SymbolNumber (as_object (far_o 4096) refl refl refl refl refl refl refl refl, tt)).0 refl in
    let f = h.5 in
    let symbol : f.symbol ≡ entry_of _f 0o40 0 =
    only_object RefersToIt (far_o 4096) by_segment f.before f.k f.after f.all f.segment f.i f.w f.r f.word f.reloc f.symbol f.named in
    let place : place_of f.symbol.name (_f ∷ []) ≡ 0 = ap (λ (s : Symbol). place_of s.name (_f ∷ [])) symbol in
    not_large (place_of f.symbol.name (_f ∷ [])) place f.large
  where
    in_text : (symbol : Symbol) → slice_get (far_o 4096).symbols 0 ≡ Some symbol → symbol ≡ entry_of _f 0o40 0
    in_text symbol e = let it : Some (entry_of _f 0o40 0) ≡ Some symbol = e in let same : entry_of _f 0o40 0 ≡ symbol = cc in sym same

    by_segment : RefersToIt [] (far_o 4096)
    by_segment TextSeg i w r e f =
        only_word (λ i w r. (symbol : Symbol) → slice_get (far_o 4096).symbols (symbol_number r) ≡ Some symbol →
        symbol ≡ entry_of _f 0o40 0) 0 (record { 0 = 0o10 }) in_text i w r e f
    by_segment segment i w r e f = absurd (no_word [] refl i w e)

    not_large : (place : ℕ) → place ≡ 0 → 4096 < 4096 + place → ⊥
    not_large place e f = omega arith
