-- The places of an object's symbols among the names.
use Rattle.std.proofs.Common.{◌≡◌, ℕ, zero, suc, ◌≤◌, Bool, true, false, cond, List, [], ◌∷◌, ◌++◌, length, map, refl, sym, ◌∙◌, ap, arith}
use Rattle.std.proofs.{Common.rules, lemmas.Bool.{or_left, or_right}}
use Rattle.std.specs.{Prelude.filter, Prelude.slice_get, Prelude.slice_index_or, Map.keys_of}
use Rattle.aout_core.specs.{declared.symbol.Symbol.Symbol, WellFormed.is_external, WellFormed.is_wanted}
use Rattle.link_session.specs.internal.Additions.{place_in, with_mention, with_mentions, mention_by, mentions_by, no_place, all_places}
use Rattle.link_session.specs.{declared.cell.Cell.Cell, declared.relocate.Shifts.Shifts, declared.state.State.TheVariants.Wanted}
use Rattle.link_session.specs.{Mentions.{Mention, place_of}, Cells.name_in, Image.{Named, state_at}, internal.Chains.Link}
use Rattle.link_session.specs.{internal.Settled.{settled_at, settled_over, places_of}, internal.Threads.cut_heads}
use Rattle.tool_options.specs.NameLists.{is_among}
use Rattle.tool_options.proofs.NameListLemmas.{is_among-append}
use Rattle.link_session.proofs.{MentionLemmas.place_of-append, MentionedLemmas.keys-with_mention, NamesLemmas.unsettled}
use Rattle.link_session.proofs.{NamesLemmas.all_one, UpdateLemmas.own_name}

-- the places as they are noted, one symbol after the other
abbrev pub noted_places : Shifts → Named → List Symbol → List ℕ
noted_places shifts es [] = []
noted_places shifts es (s ∷ ss) =
    cond (is_external s) (place_in es s.name ∷ noted_places shifts (with_mention es (mention_by shifts s)) ss)
    (no_place ∷ noted_places shifts es ss)

-- a name that is there keeps its place
kept_once : (es : Named) (m : Mention) (name : List ℕ) → is_among (keys_of es) name ≡ true →
    place_in (with_mention es m) name ≡ place_in es name
kept_once es m name h = search (rules, keys-with_mention, place_of-append)

still_among : (es : Named) (m : Mention) (name : List ℕ) → is_among (keys_of es) name ≡ true →
    is_among (keys_of (with_mention es m)) name ≡ true
still_among es m name h = search (rules, keys-with_mention, is_among-append, or_left)

kept : (es : Named) (ms : List Mention) (name : List ℕ) → is_among (keys_of es) name ≡ true →
    place_in (with_mentions es ms) name ≡ place_in es name
kept es [] name h = refl
kept es (m ∷ ms) name h = kept (with_mention es m) ms name (still_among es m name h) ∙ kept_once es m name h

-- a name that is not there gets the place after the last
place_last : (ns : List (List ℕ)) (name : List ℕ) → is_among ns name ≡ false → place_of name (ns ++ name ∷ []) ≡ place_of name ns
place_last [] name h = ap (λ (t : Bool). cond t 0 1) (own_name name)
place_last (n ∷ ns) name h = search (rules, place_last ns name)

mentioned_place : (es : Named) (m : Mention) → place_in (with_mention es m) m.name ≡ place_in es m.name
mentioned_place es m = search (rules, keys-with_mention, place_of-append, place_last)

mentioned_among : (es : Named) (m : Mention) → is_among (keys_of (with_mention es m)) m.name ≡ true
mentioned_among es m = search (rules, keys-with_mention, is_among-append, or_left, or_right, own_name)

-- what is noted is where the names stand in the end
pub noted-all : (shifts : Shifts) (es : Named) (ss : List Symbol) →
    noted_places shifts es ss ≡ all_places (with_mentions es (mentions_by shifts ss)) ss
noted-all shifts es [] = refl
noted-all shifts es (s ∷ ss) =
    by_test (is_external s) (noted-all shifts (with_mention es (mention_by shifts s)) ss) (noted-all shifts es ss)
  where
    with_test : Bool → Named
    with_test t = with_mentions es (map (mention_by shifts) (cond t (s ∷ filter is_external ss) (filter is_external ss)))

    by_test : (t : Bool) → noted_places shifts (with_mention es (mention_by shifts s)) ss ≡ all_places (with_test true) ss →
        noted_places shifts es ss ≡ all_places (with_test false) ss →
        cond t (place_in es s.name ∷ noted_places shifts (with_mention es (mention_by shifts s)) ss) (no_place ∷ noted_places shifts es ss)
        ≡ cond t (place_in (with_test t) s.name) no_place ∷ all_places (with_test t) ss
    by_test true next same =
        let m = mention_by shifts s in
        let here : place_in es s.name ≡ place_in (with_test true) s.name =
        sym (kept (with_mention es m) (mentions_by shifts ss) s.name (mentioned_among es m) ∙ mentioned_place es m) in
        λ i. here i ∷ next i
    by_test false next same = ap (λ (l : List ℕ). no_place ∷ l) same

-- after the last name no state is known
pub after_last : (es : Named) (k : ℕ) → length es ≤ k → state_at es k ≡ Wanted 0
after_last [] k h = refl
after_last (e ∷ es) zero h = absurd (omega arith)
after_last (e ∷ es) (suc k) h = after_last es k (omega arith)

-- to bind at the places of all symbols is to bind at those of the external ones
module _ (es : Named) (few : length es ≤ 65535) where
  nowhere : state_at es no_place ≡ Wanted 0
  nowhere = after_last es no_place few

  -- the cells are the same
  pub settled_places : (ss : List Symbol) (cs : List Cell) →
      map (settled_over es (all_places es ss)) cs ≡ map (settled_over es (places_of es ss)) cs
  settled_places [] cs = refl
  settled_places (s ∷ ss) cs = by_test (is_external s) (settled_places ss)
    where
      by_test : (t : Bool) →
          ((l : List Cell) → map (settled_over es (all_places es ss)) l ≡ map (settled_over es (places_of es ss)) l) →
          map (settled_over es (cond t (place_in es s.name) no_place ∷ all_places es ss)) cs
          ≡ map (settled_over es
          (map (place_in es) (map (λ (x : Symbol). x.name) (cond t (s ∷ filter is_external ss) (filter is_external ss))))) cs
      by_test true rest =
          all_one es (place_in es s.name) (all_places es ss) cs ∙ rest (map (settled_at es (place_in es s.name)) cs)
          ∙ sym (all_one es (place_in es s.name) (places_of es ss) cs)
      by_test false rest =
          all_one es no_place (all_places es ss) cs ∙ ap (λ (l : List Cell). map (settled_over es (all_places es ss)) l)
          (sym (unsettled es no_place 0 nowhere cs)) ∙ rest cs

  -- and so are the heads
  pub cut_places : (ss : List Symbol) (heads : List Link) → cut_heads es (all_places es ss) heads ≡ cut_heads es (places_of es ss) heads
  cut_places [] heads = refl
  cut_places (s ∷ ss) heads = search (rules, nowhere, cut_places ss)

-- the place of a symbol that a relocation word may refer to
pub wanted_place : (es : Named) (ss : List Symbol) (i : ℕ) → is_wanted (slice_get ss i) ≡ true →
    slice_index_or (all_places es ss) i no_place ≡ place_in es (name_in (slice_get ss i))
wanted_place es [] i h = absurd (cc)
wanted_place es (s ∷ ss) zero h = search rules
wanted_place es (s ∷ ss) (suc i) h = wanted_place es ss i h
