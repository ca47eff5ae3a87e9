-- The entry point of a linked file, by its own symbol table.
use Rattle.std.proofs.Common.{◌≡◌, ℕ, Bool, true, false, cond, ◌&&◌, eqb, List, Option, Some, None, refl, sym, ◌∙◌, ap, inl}
use Rattle.std.proofs.{Common.{inr, eqb-true}, lemmas.Option.same_Some}
use Rattle.std.specs.Prelude.{bytes_eq}
use Rattle.aout_core.specs.declared.symbol.Segment.TheVariants.{TextSeg, DataSeg, BssSeg}
use Rattle.aout_core.specs.{declared.symbol.Symbol.Symbol, Words.plus}
use Rattle.link_session.specs.{declared.state.State.State, declared.state.State.TheVariants.Defined}
use Rattle.link_session.specs.{declared.state.State.TheVariants.Wanted, Mentions.names_by_first_mention, States.state}
use Rattle.tool_options.specs.{NameLists.is_among, Choices.lays_commons}
use Rattle.link_out.specs.function.Finals.{final, final_by, type_of, bound_at, waiting, reserved_or_waiting, etext, edata, end_name}
use Rattle.link_out.specs.{function.Plans.{Plan, common_offset}, function.Tables.{external_row}}
use Rattle.link_out.specs.{function.Reports.{entry_word, entry_found_bad}}
use Rattle.laws.specs.relation.Relocated.{entry_of, IsEntry}

-- the address of a name in text is written
text_written : (p : Plan) (name : List ℕ) (st : State) → eqb (type_of (final_by p name st).bound) 34 ≡ true →
    (final_by p name st).address ≡ (final_by p name st).written
text_written p name (Defined segment offset) h = refl
text_written p name (Wanted size) h =
    by_tests (plus p.at.data_end (common_offset p.mentions name)) (eqb size 0) p.choices.relocatable (lays_commons p.choices) h
  where
    reserved : (t d e : Bool) → (let f = cond t (bound_at TextSeg p.at.text_end)
        (cond d (bound_at DataSeg p.at.data_end) (cond e (bound_at BssSeg p.at.bss_end) (waiting 0))) in f.address ≡ f.written)
    reserved true d e = refl
    reserved false true e = refl
    reserved false false true = refl
    reserved false false false = refl

    by_tests : (a : ℕ) (z r c : Bool) → (let f = cond z (cond r (waiting 0) (reserved_or_waiting p.at name))
        (cond c (bound_at BssSeg a) (waiting size)) in eqb (type_of f.bound) 34 ≡ true → f.address ≡ f.written)
    by_tests a true true c = λ h. refl
    by_tests a true false c = λ h. reserved (bytes_eq name etext) (bytes_eq name edata) (bytes_eq name end_name)
    by_tests a false r true = λ h. refl
    by_tests a false r false = λ h. absurd (cc)

-- the entry word by the rows of the externals
pub entry_made : (p : Plan) (rows : List Symbol) → ((name : List ℕ) →
    entry_of rows name ≡ cond (is_among (names_by_first_mention p.mentions) name) (Some (external_row p name)) None) →
    (e : Option (List ℕ)) → IsEntry rows e (entry_word p e) (entry_found_bad p e)
entry_made p rows there None = (refl, refl)
entry_made p rows there (Some name) =
    by_tests (is_among (names_by_first_mention p.mentions) name) (there name) (eqb (type_of (final p name).bound) 34) refl
  where
    by_tests : (k : Bool) → entry_of rows name ≡ cond k (Some (external_row p name)) None → (t : Bool) →
        eqb (type_of (final p name).bound) 34 ≡ t →
        IsEntry rows (Some name) (cond (k && t) (final p name).address 0) (let r : Option (List ℕ) = cond (k && t) None (Some name) in r)
    by_tests false ke t te = inr ((λ row e. absurd (let bad : None ≡ Some row = sym ke ∙ e in cc)), refl, refl)
    by_tests true ke false te =
        inr (
          (λ row e. let same : external_row p name ≡ row = same_Some (external_row p name) row (sym ke ∙ e) in
              ap (λ (s : Symbol). eqb s.type_bits 34) (sym same) ∙ te),
          refl,
          refl,
        )
    by_tests true ke true te = inl (external_row p name, ke, eqb-true _ _ te, text_written p name (state p.mentions name) te, refl)

-- there is one entry word at most, and one name that is bad
pub entry_once : (rows : List Symbol) (e : Option (List ℕ)) (w v : ℕ) (b c : Option (List ℕ)) → IsEntry rows e w b →
    IsEntry rows e v c → (w ≡ v) × (b ≡ c)
entry_once rows None w v b c h k = (h.0 ∙ sym k.0, h.1 ∙ sym k.1)
entry_once rows (Some name) w v b c (inl h) (inl k) =
    (h.3 ∙ ap (λ (r : Symbol). r.value) (same_Some h.0 k.0 (sym h.1 ∙ k.1)) ∙ sym k.3, h.4 ∙ sym k.4)
entry_once rows (Some name) w v b c (inl h) (inr k) =
    absurd (let bad : true ≡ false = sym (ap (λ (n : ℕ). eqb n 34) h.2) ∙ k.0 h.0 h.1 in cc)
entry_once rows (Some name) w v b c (inr h) (inl k) =
    absurd (let bad : true ≡ false = sym (ap (λ (n : ℕ). eqb n 34) k.2) ∙ h.0 k.0 k.1 in cc)
entry_once rows (Some name) w v b c (inr h) (inr k) = (h.1 ∙ sym k.1, h.2 ∙ sym k.2)
