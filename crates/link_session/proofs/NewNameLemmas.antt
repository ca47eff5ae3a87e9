-- How many names an object adds, counted one symbol after the other.
use Rattle.std.proofs.Common.{◌≡◌, ℕ, Bool, true, false, cond, not, ◌&&◌, ◌||◌, List, [], ◌∷◌, ◌++◌, map, refl, sym, ◌∙◌, ap, subst, length}
use Rattle.std.proofs.{Common.{append_assoc, append-nil}, lemmas.List.length-map}
use Rattle.std.specs.{Prelude.filter, Map.keys_of}
use Rattle.aout_core.specs.{declared.symbol.Symbol.Symbol, WellFormed.is_external}
use Rattle.link_session.specs.{declared.state.State.State, Image.Named, internal.Additions.external_names, internal.Additions.new_count}
use Rattle.link_session.specs.{internal.NewNames.with_entered, internal.NewNames.with_new, internal.NewNames.with_all_new}
use Rattle.tool_options.specs.NameLists.{is_among, new_names}
use Rattle.tool_options.proofs.NameListLemmas.{is_among-append, seen_again, new_names-seen}

-- the new names so far, with those that are left
new_step : (seen fresh : List (List ℕ)) (s : Symbol) (ss : List Symbol) →
    fresh ++ new_names (seen ++ fresh) (external_names (s ∷ ss))
    ≡ with_new seen fresh s ++ new_names (seen ++ with_new seen fresh s) (external_names ss)
new_step seen fresh s ss = by_external (is_external s)
  where
    -- a name that is seen changes nothing
    seen_name : is_among (seen ++ fresh) s.name ≡ true →
        new_names ((seen ++ fresh) ++ s.name ∷ []) (external_names ss) ≡ new_names (seen ++ fresh) (external_names ss)
    seen_name h = new_names-seen ((seen ++ fresh) ++ s.name ∷ []) (seen ++ fresh) (external_names ss) (seen_again (seen ++ fresh) s.name h)

    by_among : (t : Bool) (all : List (List ℕ)) → is_among (seen ++ fresh) s.name ≡ t →
        fresh ++ cond t (new_names ((seen ++ fresh) ++ s.name ∷ []) (external_names ss))
        (s.name ∷ new_names ((seen ++ fresh) ++ s.name ∷ []) (external_names ss)) ≡ all →
        fresh ++ new_names (seen ++ fresh) (s.name ∷ external_names ss) ≡ all
    by_among t all e h =
        subst (λ (b : Bool). fresh ++ cond b (new_names ((seen ++ fresh) ++ s.name ∷ []) (external_names ss))
        (s.name ∷ new_names ((seen ++ fresh) ++ s.name ∷ []) (external_names ss)) ≡ all) (sym e) h

    known : is_among (seen ++ fresh) s.name ≡ true → fresh ++ new_names (seen ++ fresh) (s.name ∷ external_names ss)
        ≡ fresh ++ new_names (seen ++ fresh) (external_names ss)
    known e =
        by_among true (fresh ++ new_names (seen ++ fresh) (external_names ss)) e
        (ap (λ (ns : List (List ℕ)). fresh ++ ns) (seen_name e))

    unknown : is_among (seen ++ fresh) s.name ≡ false →
        fresh ++ new_names (seen ++ fresh) (s.name ∷ external_names ss)
        ≡ (fresh ++ s.name ∷ []) ++ new_names (seen ++ (fresh ++ s.name ∷ [])) (external_names ss)
    unknown e = by_among false ((fresh ++ s.name ∷ []) ++ new_names (seen ++ (fresh ++ s.name ∷ [])) (external_names ss)) e (
        ap (λ (l : List (List ℕ)). fresh ++ s.name ∷ new_names l (external_names ss)) (append_assoc seen fresh (s.name ∷ []))
        ∙ sym (append_assoc fresh (s.name ∷ []) (new_names (seen ++ (fresh ++ s.name ∷ [])) (external_names ss))))

    among : (a b : Bool) → is_among seen s.name ≡ a → is_among fresh s.name ≡ b → is_among (seen ++ fresh) s.name ≡ (a || b)
    among a b e f = is_among-append seen fresh s.name ∙ (λ i. e i || f i)

    by_fresh : (f : Bool) → is_among fresh s.name ≡ f → is_among seen s.name ≡ false →
        fresh ++ new_names (seen ++ fresh) (s.name ∷ external_names ss)
        ≡ (fresh ++ cond f [] (s.name ∷ [])) ++ new_names (seen ++ (fresh ++ cond f [] (s.name ∷ []))) (external_names ss)
    by_fresh true f e =
        known (among false true e f)
        ∙ (λ i. sym (append-nil fresh) i ++ new_names (seen ++ sym (append-nil fresh) i) (external_names ss))
    by_fresh false f e = unknown (among false false e f)

    by_seen : (t : Bool) → is_among seen s.name ≡ t →
        fresh ++ new_names (seen ++ fresh) (s.name ∷ external_names ss)
        ≡ cond (not t) (with_entered fresh s.name) fresh
        ++ new_names (seen ++ cond (not t) (with_entered fresh s.name) fresh) (external_names ss)
    by_seen true e = known (among true (is_among fresh s.name) e refl)
    by_seen false e = by_fresh (is_among fresh s.name) refl e

    by_external : (x : Bool) →
        fresh ++ new_names (seen ++ fresh) (map (λ (t : Symbol). t.name) (cond x (s ∷ filter is_external ss) (filter is_external ss)))
        ≡ cond (x && not (is_among seen s.name)) (with_entered fresh s.name) fresh
        ++ new_names (seen ++ cond (x && not (is_among seen s.name)) (with_entered fresh s.name) fresh) (external_names ss)
    by_external true = by_seen (is_among seen s.name) refl
    by_external false = refl

pub all_new-is : (seen fresh : List (List ℕ)) (ss : List Symbol) →
    with_all_new seen fresh ss ≡ fresh ++ new_names (seen ++ fresh) (external_names ss)
all_new-is seen fresh [] = sym (append-nil fresh)
all_new-is seen fresh (s ∷ ss) = all_new-is seen (with_new seen fresh s) ss ∙ sym (new_step seen fresh s ss)

-- there are as many as the symbols add
pub length-all_new : (seen : List (List ℕ)) (ss : List Symbol) → length (with_all_new seen [] ss) ≡ new_count seen ss
length-all_new seen ss = cc (all_new-is seen [] ss, append-nil seen)

-- a name for each entry
pub length-keys : (es : Named) → length es ≡ length (keys_of es)
length-keys es = sym (length-map es (λ (e : List ℕ × State). e.0))
