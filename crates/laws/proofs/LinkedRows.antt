-- The rows of the externals are those that the relation of linking tells, and no others.
use Rattle.std.proofs.Common.{◌≡◌, ℕ, ◌+◌, ◌-◌, ◌%◌, ◌≤◌, Bool, true, false, cond, eqb, List, [], ◌∷◌, map, refl, ap, arith, rules}
use Rattle.std.specs.Prelude.{bytes_eq}
use Rattle.aout_core.specs.declared.symbol.Segment.TheVariants.{Absolute, TextSeg, DataSeg, BssSeg}
use Rattle.aout_core.specs.{declared.header.Header.Header, declared.symbol.Symbol.Symbol, Words.plus, Addresses.data_start_in}
use Rattle.link_session.specs.{declared.state.State.State, declared.state.State.TheVariants.Defined}
use Rattle.link_session.specs.{declared.state.State.TheVariants.Wanted, Mentions.Mention, States.state}
use Rattle.tool_options.specs.Choices.{Choices, lays_commons}
use Rattle.link_out.specs.function.Finals.{Final, final, bound_at, waiting, reserved_or_waiting, etext, edata, end_name, final_at}
use Rattle.link_out.specs.internal.InOrder.{finals_from, commons_size_in}
use Rattle.link_out.specs.{Layouts.Bases, function.Plans.Plan, function.Plans.common_size, function.Tables.external_row}
use Rattle.laws.specs.relation.LinkedTable.{undefined_row, row_for, space_for, AreRows}
use Rattle.link_out.proofs.{partial_links.PartialLemmas.IsProper, InOrderLemmas.named_by}
use Rattle.laws.proofs.{ExternalLemmas.row_at, HasStateLemmas.has_state, HasStateLemmas.state_is}

-- the rows of names, by what becomes of each
abbrev pub rows_at : List (List ℕ) → List Final → List Symbol
rows_at (n ∷ ns) (f ∷ fs) = row_at n f ∷ rows_at ns fs
rows_at _ _ = []

-- a header says where the segments lie
pub record GivesBases (h : Header) (bss : ℕ) (b : Bases) : Type 0 where
  pub text_end : h.text_size ≡ b.text_end
  pub data_start : data_start_in h ≡ b.data_start
  pub data_end : data_start_in h + h.data_size ≡ b.data_end
  pub bss_start : data_start_in h + h.data_size + (h.bss_size - bss) ≡ b.bss_start
  pub bss_end : data_start_in h + h.data_size + h.bss_size ≡ b.bss_end

module _ (h : Header) (bss : ℕ) (o : Choices) (b : Bases) (gives_bases : GivesBases h bss b) where
  undefined_same : (name : List ℕ) → undefined_row h o name ≡ row_at name (cond o.relocatable (waiting 0) (reserved_or_waiting b name))
  undefined_same name = by_tests o.relocatable (bytes_eq name etext) (bytes_eq name edata) (bytes_eq name end_name)
    where
      by_tests : (r t d e : Bool) →
          (let s : Symbol = cond r (record { name = name; type_bits = 32; value = 0 }) (cond t (record {
            name = name;
            type_bits = 34;
            value = h.text_size;
          }) (cond d (record { name = name; type_bits = 35; value = data_start_in h + h.data_size })
          (cond e (record { name = name; type_bits = 36; value = data_start_in h + h.data_size + h.bss_size })
          (record { name = name; type_bits = 32; value = 0 })))) in s)
          ≡ row_at name (cond r (waiting 0) (cond t (bound_at TextSeg b.text_end)
          (cond d (bound_at DataSeg b.data_end) (cond e (bound_at BssSeg b.bss_end) (waiting 0)))))
      by_tests true t d e = refl
      by_tests false true d e = ap (λ (n : ℕ). let s : Symbol = record { name = name; type_bits = 34; value = n } in s) gives_bases.text_end
      by_tests false false true e =
          ap (λ (n : ℕ). let s : Symbol = record { name = name; type_bits = 35; value = n } in s) gives_bases.data_end
      by_tests false false false true =
          ap (λ (n : ℕ). let s : Symbol = record { name = name; type_bits = 36; value = n } in s) gives_bases.bss_end
      by_tests false false false false = refl

  -- the row of a name in a state is that of its final name
  row_same : (at offset : ℕ) → (lays_commons o ≡ true → at ≡ plus b.data_end offset) → (name : List ℕ) (st : State) →
      IsProper st → row_for h bss o at name st ≡ row_at name (final_at o b offset name st)
  row_same at offset lies name (Defined Absolute n) p = refl
  row_same at offset lies name (Defined TextSeg n) p = refl
  row_same at offset lies name (Defined DataSeg n) p =
      ap (λ (s : ℕ). let r : Symbol = record { name = name; type_bits = 35; value = plus s n } in r) gives_bases.data_start
  row_same at offset lies name (Defined BssSeg n) p =
      ap (λ (s : ℕ). let r : Symbol = record { name = name; type_bits = 36; value = plus s n } in r) gives_bases.bss_start
  row_same at offset lies name (Wanted size) p = by_tests (eqb size 0) (lays_commons o) lies
    where
      by_tests : (z c : Bool) → (c ≡ true → at ≡ plus b.data_end offset) →
          (let s : Symbol = cond z (undefined_row h o name) (cond c (record { name = name; type_bits = 36; value = at })
          (record { name = name; type_bits = 32; value = size })) in s)
          ≡ row_at name (cond z (cond o.relocatable (waiting 0) (reserved_or_waiting b name))
          (cond c (bound_at BssSeg (plus b.data_end offset)) (waiting size)))
      by_tests true c lies = undefined_same name
      by_tests false true lies = ap (λ (n : ℕ). let s : Symbol = record { name = name; type_bits = 36; value = n } in s) (lies refl)
      by_tests false false lies = refl
  row_same at offset lies name (Defined segment n) p = absurd p

-- the room that commons take
pub space_laid : (o : Choices) (st : State) → space_for o st ≡ cond (lays_commons o) (common_size st) 0
space_laid o (Wanted size) = refl
space_laid o (Defined segment offset) = by_test (lays_commons o)
  where
    by_test : (c : Bool) → (let none : ℕ = 0 in none) ≡ cond c 0 0
    by_test true = refl
    by_test false = refl

-- where commons lie, as long as they fit
pub record IsLaid (o : Choices) (b : Bases) (at offset end rest : ℕ) : Type 0 where
  pub here : lays_commons o ≡ true → at ≡ b.data_end + offset
  pub ends : at + cond (lays_commons o) rest 0 ≡ end

laid_at : (o : Choices) (b : Bases) (at offset end rest : ℕ) → IsLaid o b at offset end rest → end ≤ 65535 →
    lays_commons o ≡ true → at ≡ plus b.data_end offset
laid_at o b at offset end rest l short lays = small at b.data_end offset end (cond (lays_commons o) rest 0) (l.here lays) l.ends short
  where
    small : (a d n e r : ℕ) → a ≡ d + n → a + r ≡ e → e ≤ 65535 → a ≡ (d + n) % 65536
    small a d n e r f g s = omega arith

laid_next : (o : Choices) (b : Bases) (at offset end rest : ℕ) (st : State) →
    IsLaid o b at offset end (common_size st + rest) → IsLaid o b (at + space_for o st) (offset + common_size st) end rest
laid_next o b at offset end rest st l = by_test (lays_commons o) refl (space_laid o st) l.here l.ends
  where
    sum : (a r c d n : ℕ) → r ≡ c → a ≡ d + n → a + r ≡ d + (n + c)
    sum a r c d n e f = omega arith

    all : (a r c x e : ℕ) → r ≡ c → a + (c + x) ≡ e → (a + r) + x ≡ e
    all a r c x e f g = omega arith

    by_test : (c : Bool) → lays_commons o ≡ c → space_for o st ≡ cond c (common_size st) 0 →
        (lays_commons o ≡ true → at ≡ b.data_end + offset) → at + cond (lays_commons o) (common_size st + rest) 0 ≡ end →
        IsLaid o b (at + space_for o st) (offset + common_size st) end rest
    by_test true c r here ends = search (rules, sum, all)
    by_test false c r here ends = search (rules, all)

module _ (h : Header) (bss : ℕ) (o : Choices) (b : Bases) (gives_bases : GivesBases h bss b) (ms : List Mention)
    (proper : (name : List ℕ) → IsProper (state ms name)) (end : ℕ) (short : end ≤ 65535) where
  -- the rows of names with these commons before them
  pub are_rows : (names : List (List ℕ)) (at offset : ℕ) → IsLaid o b at offset end (commons_size_in (named_by ms names)) →
      AreRows h bss o ms at (rows_at names (finals_from o b offset (named_by ms names))) end
  are_rows [] at offset l = nothing at end (lays_commons o) l.ends
    where
      nothing : (a e : ℕ) (c : Bool) → a + cond c 0 0 ≡ e → a ≡ e
      nothing a e true f = omega arith
      nothing a e false f = omega arith
  are_rows (n ∷ ns) at offset l = search (rules, has_state, row_same, laid_at, named_by, laid_next, (are_rows ns))

  -- and no others
  pub rows_are : (rs : List Symbol) (at offset : ℕ) →
      IsLaid o b at offset end (commons_size_in (named_by ms (map (λ s. s.name) rs))) → AreRows h bss o ms at rs end →
      rs ≡ rows_at (map (λ s. s.name) rs) (finals_from o b offset (named_by ms (map (λ s. s.name) rs)))
  rows_are [] at offset l are = refl
  rows_are (r ∷ rs) at offset l are = search (rules, state_is, row_at, row_same, laid_at, named_by, laid_next, (rows_are rs))

-- rows end after the room of their commons
pub rows_end : (h : Header) (bss : ℕ) (o : Choices) (ms : List Mention) (rs : List Symbol) (at end : ℕ) →
    AreRows h bss o ms at rs end → at + cond (lays_commons o) (commons_size_in (named_by ms (map (λ s. s.name) rs))) 0 ≡ end
rows_end h bss o ms [] at end are = nothing at end (lays_commons o) are
  where
    nothing : (a e : ℕ) (c : Bool) → a ≡ e → a + cond c 0 0 ≡ e
    nothing a e true f = omega arith
    nothing a e false f = omega arith
rows_end h bss o ms (r ∷ rs) at end are = search (rules, state_is, both, named_by, space_laid, (rows_end h bss o ms rs))
  where
    both : (a r c x e : ℕ) (t : Bool) → r ≡ cond t c 0 → (a + r) + cond t x 0 ≡ e → a + cond t (c + x) 0 ≡ e
    both a r c x e true f g = omega arith
    both a r c x e false f g = omega arith

-- the rows of the externals, by their final names
pub rows_for_finals : (p : Plan) (names : List (List ℕ)) → rows_at names (map (final p) names) ≡ map (external_row p) names
rows_for_finals p [] = refl
rows_for_finals p (n ∷ ns) = ap (λ (rs : List Symbol). external_row p n ∷ rs) (rows_for_finals p ns)
