-- Lists that go out entry by entry, and the lines of undefined names.
use Rattle.std.proofs.Common.{◌≡◌, ℕ, ◌+◌, ◌≤◌, Bool, true, false, cond, List, [], ◌∷◌, ◌++◌, length, take, slice_index_or, Option, Some}
use Rattle.std.proofs.{Common.{refl, sym, ◌∙◌, ap, subst, append-nil}, lemmas.Option.{slice_get_within, get_or_from_slice_get}}
use Rattle.std.proofs.{KnownBytes.Appends-trans, lemmas.Grind.flat_map-append, lemmas.List.{take_more, take_all}}
use Rattle.std.specs.{Prelude.slice_get, Prelude.filter, List.flat_map, Io.KnownBytes.Appends}
use Rattle.aout_core.specs.Wires.{AppendsPrefix}
use Rattle.aout_core.proofs.PutsLemmas.{front_of_row}
use Rattle.link_session.specs.Mentions.{Mention, mentions, names_by_first_mention}
use Rattle.link_session.specs.{Image.named_states, Labelled.Labelled, Labelled.objects, States.state}
use Rattle.link_out.specs.function.Reports.{is_missing, line}
use Rattle.link_out.proofs.InOrderLemmas.{named_by}
use Rattle.v7tools.specs.{Answers.undefined_text, internal.StepParts.missing_line}

is_at : {A : Type 0} (items : List A) (i : ℕ) (item : A) → slice_get items i ≡ Some item → item ≡ slice_index_or items i item
is_at items i item at = sym (get_or_from_slice_get items i item item at)

-- the next text went out
pub sent_next : {A : Type 0} (encoding : A → List ℕ) (items : List A) (i : ℕ) (item : A) (a b c : Option (List ℕ)) →
    slice_get items i ≡ Some item →
    Appends a b (flat_map encoding (take i items)) → Appends b c (encoding item) → Appends a c (flat_map encoding (take (i + 1) items))
sent_next encoding items i item a b c at sent next =
    let more : take (i + 1) items ≡ take i items ++ item ∷ [] =
    take_more items i item (slice_get_within items i item at) ∙ ap (λ x. take i items ++ x ∷ []) (sym (is_at items i item at)) in
    let encoded : flat_map encoding (take (i + 1) items) ≡ flat_map encoding (take i items) ++ encoding item =
    ap (flat_map encoding) more ∙ flat_map-append encoding (take i items) (item ∷ [])
    ∙ ap (λ l. flat_map encoding (take i items) ++ l) (append-nil (encoding item)) in
    subst (Appends a c) (sym encoded) (Appends-trans a b c (flat_map encoding (take i items)) (encoding item) sent next)

-- of the next text a prefix went out
pub stops_next : {A : Type 0} (encoding : A → List ℕ) (items : List A) (i : ℕ) (item : A) (a b c : Option (List ℕ)) →
    slice_get items i ≡ Some item →
    Appends a b (flat_map encoding (take i items)) → AppendsPrefix b c (encoding item) → AppendsPrefix a c (flat_map encoding items)
stops_next encoding items i item a b c at sent next =
    front_of_row encoding items i item a b c (slice_get_within items i item at) (is_at items i item at) sent next

-- all texts went out
pub sent_all : {A : Type 0} (encoding : A → List ℕ) (items : List A) (n : ℕ) (a b : Option (List ℕ)) → length items ≤ n →
    Appends a b (flat_map encoding (take n items)) → Appends a b (flat_map encoding items)
sent_all encoding items n a b end sent = subst (λ l. Appends a b (flat_map encoding l)) (take_all n items end) sent

missing_lines : (ms : List Mention) (names : List (List ℕ)) →
    flat_map missing_line (named_by ms names) ≡ flat_map line (filter (λ n. is_missing n (state ms n)) names)
missing_lines ms [] = refl
missing_lines ms (n ∷ ns) = by_test (is_missing n (state ms n)) (filter (λ n. is_missing n (state ms n)) ns) (missing_lines ms ns)
  where
    by_test : (t : Bool) (rest : List (List ℕ)) → flat_map missing_line (named_by ms ns) ≡ flat_map line rest →
        cond t (line n) [] ++ flat_map missing_line (named_by ms ns) ≡ flat_map line (cond t (n ∷ rest) rest)
    by_test true rest h = ap (λ l. line n ++ l) h
    by_test false rest h = h

-- the lines of all undefined names
pub missing-text : (forced : List (List ℕ)) (kept : List Labelled) →
    flat_map missing_line (named_states (mentions forced (objects kept))) ≡ undefined_text forced kept
missing-text forced kept = missing_lines (mentions forced (objects kept)) (names_by_first_mention (mentions forced (objects kept)))
