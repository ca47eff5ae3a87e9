-- The report of a link is the one that the relation of linking tells, and no other.
use Rattle.std.proofs.Common.{◌≡◌, ℕ, Bool, true, false, cond, not, ◌&&◌, List, [], ◌∷◌, Option, Some, None, refl, sym, ◌∙◌, ap, subst, inl}
use Rattle.std.proofs.{Common.{inr, eqb-true, rules}, lemmas.Bool.{and_parts, not-true}}
use Rattle.std.specs.{Prelude.bytes_eq, Prelude.filter, List.AllByRecursion}
use Rattle.link_session.specs.{States.{Definition, definition_by, first_definition, differs, state}, declared.state.State.State}
use Rattle.link_session.specs.{declared.state.State.TheVariants.{Defined, Wanted}, Mentions.Mention}
use Rattle.tool_options.specs.NameLists.{is_among}
use Rattle.link_session.proofs.AgreementLemmas.{none_defines, of_each_name, agrees_with, own_again}
use Rattle.link_session.proofs.{ListLemmas.all_map, UpdateLemmas.own_name}
use Rattle.link_out.specs.function.Reports.{is_undefined, reserved_names, reserved_taken}
use Rattle.laws.specs.{relation.Reported.{ArePicked, IsOther}, relation.NameStates.{HasState, IsWanted}}
use Rattle.laws.proofs.HasStateLemmas.{first_is, has_first, has_state, state_is}

-- what a test picks
module _ {A : Type 0} (P : A → Type 0) (t : A → Bool) where
  pub picked_by : (xs : List A) → AllByRecursion (λ x. t x ≡ true → P x) xs → ((x : A) → P x → t x ≡ true) → ArePicked P xs (filter t xs)
  picked_by [] told only = refl
  picked_by (x ∷ xs) told only = by_test (t x) refl (picked_by xs told.1 only)
    where
      by_test : (u : Bool) → t x ≡ u → ArePicked P xs (filter t xs) → ArePicked P (x ∷ xs) (cond u (x ∷ filter t xs) (filter t xs))
      by_test true e rest = inl (told.0 e, (filter t xs, refl, rest))
      by_test false e rest = inr ((λ h. absurd (let bad : false ≡ true = sym e ∙ only x h in cc)), rest)

  -- and nothing else is picked
  pub picked_is : (xs picked : List A) → AllByRecursion (λ x. t x ≡ true → P x) xs → ((x : A) → P x → t x ≡ true) →
      ArePicked P xs picked → picked ≡ filter t xs
  picked_is [] picked told only h = h
  picked_is (x ∷ xs) picked told only (inl h) =
      h.1.1 ∙ ap (λ (rest : List A). x ∷ rest) (picked_is xs h.1.0 told.1 only h.1.2)
      ∙ sym (ap (λ (u : Bool). cond u (x ∷ filter t xs) (filter t xs)) (only x h.0))
  picked_is (x ∷ xs) picked told only (inr h) = by_test (t x) refl (picked_is xs picked told.1 only h.1)
    where
      by_test : (u : Bool) → t x ≡ u → picked ≡ filter t xs → picked ≡ cond u (x ∷ filter t xs) (filter t xs)
      by_test true e rest = absurd (h.0 (told.0 e))
      by_test false e rest = rest

every : {A : Type 0} (P : A → Type 0) → ((x : A) → P x) → (xs : List A) → AllByRecursion P xs
every P h [] = tt
every P h (x ∷ xs) = (h x, every P h xs)

-- multiples

-- a mention defines nothing of a name without definition
all_known : (ms : List Mention) → AllByRecursion (λ m. first_definition ms m.name ≡ None → definition_by m.says ≡ None) ms
all_known ms =
    all_map (λ m. bytes_eq m.name m.name ≡ true → first_definition ms m.name ≡ None → definition_by m.says ≡ None)
    (λ m. first_definition ms m.name ≡ None → definition_by m.says ≡ None)
    (λ m h. h (own_name m.name)) ms
    (of_each_name (λ name m. bytes_eq name m.name ≡ true → first_definition ms name ≡ None → definition_by m.says ≡ None)
    ms (λ name. by_first name (first_definition ms name) refl))
  where
    by_first : (name : List ℕ) (d : Option Definition) → first_definition ms name ≡ d →
        AllByRecursion (λ m. bytes_eq name m.name ≡ true → first_definition ms name ≡ None → definition_by m.says ≡ None) ms
    by_first name None e =
        all_map (λ m. bytes_eq name m.name ≡ true → definition_by m.says ≡ None) (λ m. bytes_eq name m.name ≡ true →
        first_definition ms name ≡ None → definition_by m.says ≡ None) (λ m h k f. h k) ms (none_defines ms name e)
    by_first name (Some d) e =
        every (λ m. bytes_eq name m.name ≡ true → first_definition ms name ≡ None → definition_by m.says ≡ None)
        (λ m k f. absurd (let bad : Some d ≡ None = sym e ∙ f in cc)) ms

other_of : (ms : List Mention) (m : Mention) → (first_definition ms m.name ≡ None → definition_by m.says ≡ None) →
    differs (first_definition ms m.name) m.says ≡ true → IsOther ms m
other_of ms m known e = by_says m.says refl (first_definition ms m.name) refl
  where
    by_says : (s : State) → m.says ≡ s → (d : Option Definition) → first_definition ms m.name ≡ d → IsOther ms m
    by_says (Wanted size) se d de =
        absurd (let bad : false ≡ true = ap (λ (s : State). differs (first_definition ms m.name) s) (sym se) ∙ e in cc)
    by_says (Defined segment offset) se None de =
        absurd (let bad : Some (segment, offset) ≡ None = ap definition_by (sym se) ∙ known de in cc)
    by_says (Defined segment offset) se (Some d) de = record {
      segment = segment;
      offset = offset;
      first = d.0;
      at = d.1;
      says = se;
      is = has_first ms m.name d de;
      differ = search (rules, own_again);
    }

other_differs : (ms : List Mention) (m : Mention) → IsOther ms m → differs (first_definition ms m.name) m.says ≡ true
other_differs ms m h = by_test (differs (first_definition ms m.name) m.says) refl
  where
    by_test : (u : Bool) → differs (first_definition ms m.name) m.says ≡ u → u ≡ true
    by_test true e = refl
    by_test false e =
        absurd (h.differ (let first : first_definition ms m.name ≡ Some (h.segment, h.offset) = agrees_with (first_definition ms
        m.name) h.segment h.offset (ap (λ (s : State). differs (first_definition ms m.name) s) (sym h.says) ∙ e) in
        let same : Some (h.first, h.at) ≡ Some (h.segment, h.offset) = sym (first_is ms m.name h.first h.at h.is) ∙ first in
        let pair : (h.first, h.at) ≡ (h.segment, h.offset) = cc in
        ap (λ (x : Definition). Defined x.0 x.1) pair))

-- the mentions that are reported
abbrev pub others_of : List Mention → List Mention
others_of ms = filter (λ m. differs (first_definition ms m.name) m.says) ms

others_reported : (ms : List Mention) → AllByRecursion (λ m. differs (first_definition ms m.name) m.says ≡ true → IsOther ms m) ms
others_reported ms =
    all_map (λ m. first_definition ms m.name ≡ None → definition_by m.says ≡ None)
    (λ m. differs (first_definition ms m.name) m.says ≡ true → IsOther ms m) (λ m known. other_of ms m known) ms (all_known ms)

-- the multiples of the link are those that the relation picks
pub others_picked : (ms : List Mention) → ArePicked (IsOther ms) ms (others_of ms)
others_picked ms =
    picked_by (IsOther ms) (λ m. differs (first_definition ms m.name) m.says) ms (others_reported ms) (λ m h. other_differs ms m h)

-- the relation picks no others
pub others_are : (ms others : List Mention) → ArePicked (IsOther ms) ms others → others ≡ others_of ms
others_are ms others h =
    picked_is (IsOther ms) (λ m. differs (first_definition ms m.name) m.says) ms others (others_reported ms)
    (λ m k. other_differs ms m k) h

-- undefined names

is_wanted_none : (ms : List Mention) (name : List ℕ) → is_undefined (state ms name) ≡ true → IsWanted ms name 0
is_wanted_none ms name e = by_state (state ms name) (has_state ms name) e
  where
    by_state : (st : State) → HasState ms name st → is_undefined st ≡ true → IsWanted ms name 0
    by_state (Defined segment offset) h e = absurd (cc)
    by_state (Wanted size) h e = subst (λ (n : ℕ). IsWanted ms name n) (eqb-true size 0 e) h

wanted_none_is : (ms : List Mention) (name : List ℕ) → IsWanted ms name 0 → is_undefined (state ms name) ≡ true
wanted_none_is ms name h = ap is_undefined (state_is ms name (Wanted 0) h)

module _ (ms : List Mention) where
  reserved_reported : (name : List ℕ) → not (is_undefined (state ms name)) ≡ true → IsWanted ms name 0 → ⊥
  reserved_reported name e h = absurd (let bad : false ≡ true = ap not (sym (wanted_none_is ms name h)) ∙ e in cc)

  reserved_only : (name : List ℕ) → (IsWanted ms name 0 → ⊥) → not (is_undefined (state ms name)) ≡ true
  reserved_only name h = by_test (is_undefined (state ms name)) refl
    where
      by_test : (u : Bool) → is_undefined (state ms name) ≡ u → not u ≡ true
      by_test false e = refl
      by_test true e = absurd (h (is_wanted_none ms name e))

  -- the reserved names that are taken are those that the relation picks
  pub reserved_picked : ArePicked (λ name. IsWanted ms name 0 → ⊥) reserved_names (reserved_taken ms)
  reserved_picked =
      picked_by (λ name. IsWanted ms name 0 → ⊥) (λ n. not (is_undefined (state ms n))) reserved_names
      (every (λ n. not (is_undefined (state ms n)) ≡ true → IsWanted ms n 0 → ⊥) reserved_reported reserved_names) reserved_only

  -- the relation picks no others
  pub reserved_are : (names : List (List ℕ)) → ArePicked (λ name. IsWanted ms name 0 → ⊥) reserved_names names → names ≡ reserved_taken ms
  reserved_are names h =
      picked_is (λ name. IsWanted ms name 0 → ⊥) (λ n. not (is_undefined (state ms n))) reserved_names names
      (every (λ n. not (is_undefined (state ms n)) ≡ true → IsWanted ms n 0 → ⊥) reserved_reported reserved_names) reserved_only h

  undefined_reported : (name : List ℕ) → (is_undefined (state ms name) && not (is_among reserved_names name)) ≡ true →
      IsWanted ms name 0 × (is_among reserved_names name ≡ false)
  undefined_reported name e =
      let parts = and_parts (is_undefined (state ms name)) (not (is_among reserved_names name)) e in
      (is_wanted_none ms name parts.0, not-true (is_among reserved_names name) parts.1)

  undefined_only : (name : List ℕ) → IsWanted ms name 0 × (is_among reserved_names name ≡ false) →
      (is_undefined (state ms name) && not (is_among reserved_names name)) ≡ true
  undefined_only name h = λ i. wanted_none_is ms name h.0 i && not (h.1 i)

  -- the undefined names are those that the relation picks
  pub undefined_picked : (names : List (List ℕ)) →
      ArePicked (λ name. IsWanted ms name 0 × (is_among reserved_names name ≡ false)) names
      (filter (λ n. is_undefined (state ms n) && not (is_among reserved_names n)) names)
  undefined_picked names =
      picked_by (λ name. IsWanted ms name 0 × (is_among reserved_names name ≡ false))
      (λ n. is_undefined (state ms n) && not (is_among reserved_names n)) names
      (every (λ n. (is_undefined (state ms n) && not (is_among reserved_names n)) ≡ true →
      IsWanted ms n 0 × (is_among reserved_names n ≡ false)) undefined_reported names) undefined_only

  -- the relation picks no others
  pub undefined_are : (names picked : List (List ℕ)) →
      ArePicked (λ name. IsWanted ms name 0 × (is_among reserved_names name ≡ false)) names picked →
      picked ≡ filter (λ n. is_undefined (state ms n) && not (is_among reserved_names n)) names
  undefined_are names picked h =
      picked_is (λ name. IsWanted ms name 0 × (is_among reserved_names name ≡ false))
      (λ n. is_undefined (state ms n) && not (is_among reserved_names n)) names picked
      (every (λ n. (is_undefined (state ms n) && not (is_among reserved_names n)) ≡ true →
      IsWanted ms n 0 × (is_among reserved_names n ≡ false)) undefined_reported names) undefined_only h
