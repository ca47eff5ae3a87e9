-- What the mentions make of a name, told by the mentions alone, is its state.
use Rattle.std.proofs.Common.{◌≡◌, ℕ, ◌≤◌, max, Bool, true, false, cond, List, [], ◌∷◌, Option, Some, None, refl, sym, ◌∙◌, ap, inl, inr}
use Rattle.std.proofs.{Common.{arith, rules}, lemmas.Slice.Eq.bytes_eq-Decides}
use Rattle.std.specs.{Prelude.bytes_eq, List.AllByRecursion}
use Rattle.aout_core.specs.{declared.symbol.Segment.Segment, WellFormed.first_of}
use Rattle.link_session.specs.States.{Definition, definition_by, size_wanted_by, first_definition, wanted_size, state_by, state}
use Rattle.link_session.specs.{declared.state.State.State, declared.state.State.TheVariants.{Defined, Wanted}, Mentions.Mention}
use Rattle.laws.specs.relation.NameStates.{LeavesOpen, IsFirst, WantsAtMost, HasState}

-- the first definition that is computed is the first among the mentions
pub has_first : (ms : List Mention) (name : List ℕ) (d : Definition) → first_definition ms name ≡ Some d → IsFirst ms name d.0 d.1
has_first [] name d f = absurd (cc)
has_first (m ∷ ms) name d f = by_test (bytes_eq name m.name) refl m.says refl f (has_first ms name d)
  where
    by_test : (t : Bool) → bytes_eq name m.name ≡ t → (s : State) → m.says ≡ s →
        cond t (first_of (definition_by s) (first_definition ms name)) (first_definition ms name) ≡ Some d →
        (first_definition ms name ≡ Some d → IsFirst ms name d.0 d.1) → IsFirst (m ∷ ms) name d.0 d.1
    by_test false te s se f rest =
        inr ((λ same segment offset e. absurd (let bad : false ≡ true = sym te ∙ (bytes_eq-Decides name m.name).1 same in cc)), rest f)
    by_test true te (Wanted size) se f rest =
        inr ((λ same segment offset e. absurd (let bad : Wanted size ≡ Defined segment offset = sym se ∙ e in cc)), rest f)
    by_test true te (Defined segment offset) se f rest =
        let same : (segment, offset) ≡ d = cc in
        inl ((bytes_eq-Decides name m.name).0 te, se ∙ ap (λ (x : Definition). Defined x.0 x.1) same)

has_none : (ms : List Mention) (name : List ℕ) → first_definition ms name ≡ None → AllByRecursion (LeavesOpen name) ms
has_none [] name f = tt
has_none (m ∷ ms) name f = by_test (bytes_eq name m.name) refl m.says refl f (has_none ms name)
  where
    by_test : (t : Bool) → bytes_eq name m.name ≡ t → (s : State) → m.says ≡ s →
        cond t (first_of (definition_by s) (first_definition ms name)) (first_definition ms name) ≡ None →
        (first_definition ms name ≡ None → AllByRecursion (LeavesOpen name) ms) → AllByRecursion (LeavesOpen name) (m ∷ ms)
    by_test false te s se f rest =
        ((λ same segment offset e. absurd (let bad : false ≡ true = sym te ∙ (bytes_eq-Decides name m.name).1 same in cc)), rest f)
    by_test true te (Wanted size) se f rest =
        ((λ same segment offset e. absurd (let bad : Wanted size ≡ Defined segment offset = sym se ∙ e in cc)), rest f)
    by_test true te (Defined segment offset) se f rest = absurd (cc)

-- a mention that leaves the name open does not change its first definition
passed_over : (m : Mention) (name : List ℕ) (rest : Option Definition) → LeavesOpen name m →
    cond (bytes_eq name m.name) (first_of (definition_by m.says) rest) rest ≡ rest
passed_over m name rest leaves = by_test (bytes_eq name m.name) refl m.says refl
  where
    by_test : (t : Bool) → bytes_eq name m.name ≡ t → (s : State) → m.says ≡ s → cond t (first_of (definition_by s) rest) rest ≡ rest
    by_test false te s se = refl
    by_test true te (Wanted size) se = refl
    by_test true te (Defined segment offset) se = absurd (leaves ((bytes_eq-Decides name m.name).0 te) segment offset se)

-- the other way round
pub first_is : (ms : List Mention) (name : List ℕ) (segment : Segment) (offset : ℕ) → IsFirst ms name segment offset →
    first_definition ms name ≡ Some (segment, offset)
first_is [] name segment offset h = absurd h
first_is (m ∷ ms) name segment offset (inl h) = search (rules, bytes_eq-Decides)
first_is (m ∷ ms) name segment offset (inr h) = passed_over m name (first_definition ms name) h.0 ∙ first_is ms name segment offset h.1

none_is : (ms : List Mention) (name : List ℕ) → AllByRecursion (LeavesOpen name) ms → first_definition ms name ≡ None
none_is [] name h = refl
none_is (m ∷ ms) name h = passed_over m name (first_definition ms name) h.0 ∙ none_is ms name h.1

-- the wanted size is the largest
most_wanted : (ms : List Mention) (name : List ℕ) (n : ℕ) → wanted_size ms name ≤ n → AllByRecursion (WantsAtMost name n) ms
most_wanted [] name n h = tt
most_wanted (m ∷ ms) name n h = by_test (bytes_eq name m.name) refl m.says refl h (most_wanted ms name n)
  where
    first : (a w n k : ℕ) → max a w ≤ n → a ≡ k → k ≤ n
    first a w n k h e = omega arith

    next : (a w n : ℕ) → max a w ≤ n → w ≤ n
    next a w n h = omega arith

    by_test : (t : Bool) → bytes_eq name m.name ≡ t → (s : State) → m.says ≡ s →
        cond t (max (size_wanted_by s) (wanted_size ms name)) (wanted_size ms name) ≤ n →
        (wanted_size ms name ≤ n → AllByRecursion (WantsAtMost name n) ms) → AllByRecursion (WantsAtMost name n) (m ∷ ms)
    by_test false te s se h rest =
        ((λ same size e. absurd (let bad : false ≡ true = sym te ∙ (bytes_eq-Decides name m.name).1 same in cc)), rest h)
    by_test true te s se h rest = search (rules, first, next)

least_wanted : (ms : List Mention) (name : List ℕ) (n : ℕ) → AllByRecursion (WantsAtMost name n) ms → wanted_size ms name ≤ n
least_wanted [] name n h = omega arith
least_wanted (m ∷ ms) name n h = by_test (bytes_eq name m.name) refl m.says refl (least_wanted ms name n h.1)
  where
    both : (a w n : ℕ) → a ≤ n → w ≤ n → max a w ≤ n
    both a w n e f = omega arith

    by_test : (t : Bool) → bytes_eq name m.name ≡ t → (s : State) → m.says ≡ s → wanted_size ms name ≤ n →
        cond t (max (size_wanted_by s) (wanted_size ms name)) (wanted_size ms name) ≤ n
    by_test false te s se rest = rest
    by_test true te (Wanted size) se rest = both size (wanted_size ms name) n (h.0 ((bytes_eq-Decides name m.name).0 te) size se) rest
    by_test true te (Defined segment offset) se rest = both 0 (wanted_size ms name) n (omega arith) rest

-- the state that is computed holds of a name
pub has_state : (ms : List Mention) (name : List ℕ) → HasState ms name (state ms name)
has_state ms name = by_first (first_definition ms name) refl
  where
    by_first : (d : Option Definition) → first_definition ms name ≡ d → HasState ms name (state_by d (wanted_size ms name))
    by_first None e = search (rules, has_none, most_wanted, least_wanted)
    by_first (Some d) e = has_first ms name d e

-- at most one state holds of a name
pub state_is : (ms : List Mention) (name : List ℕ) (st : State) → HasState ms name st → state ms name ≡ st
state_is ms name (Defined segment offset) h =
    ap (λ (d : Option Definition). state_by d (wanted_size ms name)) (first_is ms name segment offset h)
state_is ms name (Wanted size) h =
    ap (λ (d : Option Definition). state_by d (wanted_size ms name)) (none_is ms name h.undefined)
    ∙ ap Wanted (same (wanted_size ms name) size (least_wanted ms name size h.most)
    (h.least (wanted_size ms name) (most_wanted ms name (wanted_size ms name) (omega arith))))
  where
    same : (a b : ℕ) → a ≤ b → b ≤ a → a ≡ b
    same a b e f = omega arith
