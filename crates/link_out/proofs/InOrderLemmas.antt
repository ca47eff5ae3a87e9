-- Commons, final names and undefined names, name by name.
use Rattle.std.proofs.lemmas.Grind.{common_steps}
use Rattle.std.proofs.Common.{◌≡◌, ℕ, ◌+◌, Bool, true, false, cond, ◌||◌, List, [], ◌∷◌, ◌++◌, map, length, refl, sym, ◌∙◌, ap, arith}
use Rattle.std.proofs.{Common.{append_assoc, rules}, Math.Seq.take-append_seam, lemmas.List.Sums.sum_by-append}
use Rattle.link_session.specs.Mentions.{Mention, names_of, names_by_first_mention, place_of}
use Rattle.link_session.specs.{declared.state.State.State, Image.Named, Image.named_states, States.state}
use Rattle.tool_options.specs.NameLists.{is_among, new_names}
use Rattle.tool_options.proofs.NameListLemmas.{is_among-append}
use Rattle.link_session.proofs.UpdateLemmas.{own_name}
use Rattle.link_out.specs.function.Plans.{Plan, common_size, commons_size, commons_total, common_offset}
use Rattle.link_out.specs.{internal.InOrder.{finals_from, commons_size_in}, function.Finals.{final, final_at}, internal.FromCells.finals}

-- names with their states
abbrev pub named_by : List Mention → List (List ℕ) → Named
named_by ms names = map {B = List ℕ × State} (λ n. (n, state ms n)) names

-- the room of all names
commons_size-named : (ms : List Mention) (names : List (List ℕ)) → commons_size_in (named_by ms names) ≡ commons_size ms names
commons_size-named ms [] = refl
commons_size-named ms (n ∷ ns) = grind (arith, common_steps, sum_by-append, commons_size-named ms ns)

-- the space of all commons, name by name
pub commons_size-all : (ms : List Mention) → commons_size_in (named_states ms) ≡ commons_total ms
commons_size-all ms = commons_size-named ms (names_by_first_mention ms)

-- a name stands after those that it is not among
place_after : (before after : List (List ℕ)) (name : List ℕ) → is_among before name ≡ false →
    place_of name (before ++ name ∷ after) ≡ length before
place_after [] after name h = ap (λ (t : Bool). cond t 0 (place_of name after + 1)) (own_name name)
place_after (x ∷ xs) after name h = search (rules, place_after xs after name)

-- the commons before a name are those of the names before it
offset_after : (ms : List Mention) (before after : List (List ℕ)) (name : List ℕ) → is_among before name ≡ false →
    before ++ name ∷ after ≡ names_by_first_mention ms → common_offset ms name ≡ commons_size ms before
offset_after ms before after name new all = cc (place_after before after name new, take-append_seam before (name ∷ after))

commons_size_more : (ms : List Mention) (before : List (List ℕ)) (name : List ℕ) →
    commons_size ms (before ++ name ∷ []) ≡ commons_size ms before + common_size (state ms name)
commons_size_more ms before name = sum_by-append (λ n. common_size (state ms n)) before (name ∷ []) ∙ omega arith

-- what is not seen is not before
not_before : (seen before : List (List ℕ)) (name : List ℕ) → (is_among before name ≡ true → is_among seen name ≡ true) →
    is_among seen name ≡ false → is_among before name ≡ false
not_before seen before name h e = search rules

or_more : (a s x : Bool) → (a ≡ true → s ≡ true) → (a || x) ≡ true → (s || x) ≡ true
or_more a s x h e = search rules

or_still : (a s x : Bool) → (a ≡ true → s ≡ true) → a ≡ true → (s || x) ≡ true
or_still a s x h e = let yes = h e in rw yes refl

-- what becomes of the new names among these, where those before have so much room
finals_new : (p : Plan) (seen before names : List (List ℕ)) →
    ((n : List ℕ) → is_among before n ≡ true → is_among seen n ≡ true) →
    before ++ new_names seen names ≡ names_by_first_mention p.mentions →
    finals_from p.choices p.at (commons_size p.mentions before) (named_by p.mentions (new_names seen names))
    ≡ map (final p) (new_names seen names)
finals_new p seen before [] within all = refl
finals_new p seen before (x ∷ xs) within all =
    by_test (is_among seen x) refl all
    (finals_new p (seen ++ x ∷ []) before xs (λ n h. is_among-append seen (x ∷ []) n
    ∙ or_still (is_among before n) (is_among seen n) (is_among (x ∷ []) n) (within n) h))
    (finals_new p (seen ++ x ∷ []) (before ++ x ∷ []) xs (λ n h. is_among-append seen (x ∷ []) n ∙ or_more (is_among before n)
    (is_among seen n) (is_among (x ∷ []) n) (within n) (sym (is_among-append before (x ∷ []) n) ∙ h)))
  where
    rest : List (List ℕ)
    rest = new_names (seen ++ x ∷ []) xs

    by_test : (t : Bool) → is_among seen x ≡ t → before ++ cond t rest (x ∷ rest) ≡ names_by_first_mention p.mentions →
        (before ++ rest ≡ names_by_first_mention p.mentions →
        finals_from p.choices p.at (commons_size p.mentions before) (named_by p.mentions rest) ≡ map (final p) rest) →
        ((before ++ x ∷ []) ++ rest ≡ names_by_first_mention p.mentions →
        finals_from p.choices p.at (commons_size p.mentions (before ++ x ∷ [])) (named_by p.mentions rest) ≡ map (final p) rest) →
        finals_from p.choices p.at (commons_size p.mentions before) (named_by p.mentions (cond t rest (x ∷ rest)))
        ≡ map (final p) (cond t rest (x ∷ rest))
    by_test true e all same more = same all
    by_test false e all same more =
        let offset = offset_after p.mentions before rest x (not_before seen before x (within x) e) all in
        let head : final_at p.choices p.at (commons_size p.mentions before) x (state p.mentions x) ≡ final p x =
        ap (λ (k : ℕ). final_at p.choices p.at k x (state p.mentions x)) (sym offset) in
        let tail : finals_from p.choices p.at (commons_size p.mentions before + common_size (state p.mentions x))
        (named_by p.mentions rest) ≡ map (final p) rest =
        ap (λ (k : ℕ). finals_from p.choices p.at k (named_by p.mentions rest)) (sym (commons_size_more p.mentions before x))
        ∙ more (append_assoc before (x ∷ []) rest ∙ all) in
        λ i. head i ∷ tail i

-- what becomes of all names
pub finals-in_order : (p : Plan) → finals_from p.choices p.at 0 (named_states p.mentions) ≡ finals p
finals-in_order p = finals_new p [] [] (names_of p.mentions) (λ n h. h) refl
