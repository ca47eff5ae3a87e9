-- The mentions and names of objects after others, and of as long objects in their place.
use Rattle.std.proofs.lemmas.Grind.{common_steps}
use Rattle.std.proofs.Common.{◌≡◌, ℕ, ◌+◌, Bool, true, false, cond, ◌||◌, List, [], ◌∷◌, ◌++◌, map, refl, sym, ◌∙◌, ap, append_assoc}
use Rattle.std.proofs.{Common.{append-nil, arith, rules}, lemmas.List.Concat.flat_map-append, lemmas.List.{map-append, map-id}}
use Rattle.std.proofs.{lemmas.List.Sums.sum_by-append, lemmas.Bool.{or_left, or_right}, lemmas.Slice.Eq.bytes_eq-Decides}
use Rattle.std.specs.{List.flat_map}
use Rattle.aout_core.specs.declared.symbol.Segment.TheVariants.{Undefined, Absolute, TextSeg, DataSeg, BssSeg, Other}
use Rattle.aout_core.specs.WellFormed.{segment_of}
use Rattle.aout_core.specs.{declared.symbol.Symbol.Symbol, declared.symbol.Segment.Segment, Contents.Contents, Words.plus, Words.minus}
use Rattle.link_session.specs.Mentions.{Mention, statement, mention, mentions_in, externals_in, forced_mention, names_of}
use Rattle.link_session.specs.{declared.state.State.State, declared.state.State.TheVariants.{Defined, Wanted}, Earlier.with_earlier}
use Rattle.link_session.specs.{Starts.{own, total, shift}, States.state}
use Rattle.tool_options.specs.NameLists.{is_among, new_names}
use Rattle.link_session.proofs.{EarlierLemmas.with_earlier-append, MentionLemmas.names_of-map}
use Rattle.tool_options.proofs.NameListLemmas.{new_names-append, is_among-append, is_among-new_names, new_names-seen, seen_again}

-- where the segment begins that stands after these objects
abbrev pub start : List Contents → Segment → ℕ
start bs TextSeg = total TextSeg bs
start bs DataSeg = total DataSeg bs
start bs BssSeg = total BssSeg bs
start bs _ = 0

start-append : (xs ys : List Contents) (segment : Segment) → start (xs ++ ys) segment ≡ start xs segment + start ys segment
start-append xs ys segment = search (rules, sum_by-append)

shift-start : (earlier : List Contents) (o : Contents) (segment : Segment) →
    shift earlier o segment ≡ minus (start earlier segment) (own o segment)
shift-start earlier o segment = search rules

-- objects with the same sizes in all
abbrev pub AreAsLong : List Contents → List Contents → Type 0
AreAsLong xs ys = (segment : Segment) → start xs segment ≡ start ys segment

-- lists that are as long as others, segment by segment, are so in a row
pub as_long_append : (xs ys us vs : List Contents) → AreAsLong xs ys → AreAsLong us vs → AreAsLong (xs ++ us) (ys ++ vs)
as_long_append xs ys us vs h k segment = start-append xs us segment ∙ (λ i. h segment i + k segment i) ∙ sym (start-append ys vs segment)

-- each list is as long as itself
pub as_long_self : (xs : List Contents) → AreAsLong xs xs
as_long_self xs segment = refl

-- only the sizes of earlier objects count
pub shift_same : (xs ys : List Contents) (o : Contents) (segment : Segment) → AreAsLong xs ys → shift xs o segment ≡ shift ys o segment
shift_same xs ys o segment h = search (rules, shift-start)

-- a list made of blocks, one for each object, after these
abbrev pub blocks : {A : Type 0} → (List Contents → Contents → List A) → List Contents → List Contents → List A
blocks f earlier xs = flat_map (λ q. f q.0 q.1) (with_earlier earlier xs)

-- it is the same after others of the same sizes
pub blocks_same : {A : Type 0} (f : List Contents → Contents → List A) →
    ((xs ys : List Contents) (o : Contents) → AreAsLong xs ys → f xs o ≡ f ys o) →
    (xs ys os : List Contents) → AreAsLong xs ys → blocks f xs os ≡ blocks f ys os
blocks_same f same xs ys [] h = refl
blocks_same {A = A} f same xs ys (o ∷ os) h =
    ap (λ (rest : List A). f xs o ++ rest)
    (blocks_same f same (xs ++ o ∷ []) (ys ++ o ∷ []) os (as_long_append xs ys (o ∷ []) (o ∷ []) h (as_long_self (o ∷ []))))
    ∙ ap (λ (front : List A). front ++ blocks f (ys ++ o ∷ []) os) (same xs ys o h)

-- what is made object by object is split by this into that of the first objects and the rest
pub blocks-append : {A : Type 0} (f : List Contents → Contents → List A) (earlier xs ys : List Contents) →
    blocks f earlier (xs ++ ys) ≡ blocks f earlier xs ++ blocks f (earlier ++ xs) ys
blocks-append f earlier xs ys = search (rules, with_earlier-append, flat_map-append)

-- an object that stands for several of the same sizes, with their blocks
pub one_for_many : {A : Type 0} (f : List Contents → Contents → List A) →
    ((xs ys : List Contents) (o : Contents) → AreAsLong xs ys → f xs o ≡ f ys o) →
    (bs os cs : List Contents) (m : Contents) → AreAsLong (m ∷ []) os → f bs m ≡ blocks f bs os →
    blocks f [] (bs ++ m ∷ cs) ≡ blocks f [] (bs ++ (os ++ cs))
one_for_many {A = A} f same bs os cs m long middle = search (rules, blocks-append, blocks_same, as_long_append, as_long_self)

statement_same : (xs ys : List Contents) (o : Contents) (segment : Segment) (value : ℕ) → AreAsLong xs ys →
    statement xs o segment value ≡ statement ys o segment value
statement_same xs ys o Undefined value h = refl
statement_same xs ys o Absolute value h = refl
statement_same xs ys o Other value h = refl
statement_same xs ys o TextSeg value h = ap (λ (n : ℕ). Defined TextSeg (plus value n)) (shift_same xs ys o TextSeg h)
statement_same xs ys o DataSeg value h = ap (λ (n : ℕ). Defined DataSeg (plus value n)) (shift_same xs ys o DataSeg h)
statement_same xs ys o BssSeg value h = ap (λ (n : ℕ). Defined BssSeg (plus value n)) (shift_same xs ys o BssSeg h)

-- what an object mentions depends only on how long the objects before it are
pub mentions_in_same : (xs ys : List Contents) (o : Contents) → AreAsLong xs ys → mentions_in xs o ≡ mentions_in ys o
mentions_in_same xs ys o h = from (externals_in o)
  where
    from : (ss : List Symbol) → map (mention xs o) ss ≡ map (mention ys o) ss
    from [] = refl
    from (s ∷ ss) =
        let head = statement_same xs ys o (segment_of s) s.value h in
        let rest = from ss in
        rw (head, rest) refl

-- the mentions of these objects after others
abbrev pub mentions_after : List Contents → List Contents → List Mention
mentions_after earlier os = blocks mentions_in earlier os

-- what a state is once more objects come first: an offset counts their bytes too
abbrev pub raised : List Contents → State → State
raised bs (Defined segment offset) = Defined segment (plus (start bs segment) offset)
raised bs (Wanted size) = Wanted size

-- the same of a mention
abbrev pub raise : List Contents → Mention → Mention
raise bs m = record { name = m.name; says = raised bs m.says }

-- a shift after further objects
pub shift_raised : (bs earlier : List Contents) (o : Contents) (segment : Segment) (v : ℕ) →
    plus v (shift (bs ++ earlier) o segment) ≡ plus (start bs segment) (plus v (shift earlier o segment))
shift_raised bs earlier o segment v = search (rules, shift-start, start-append)

statement_raised : (bs earlier : List Contents) (o : Contents) (segment : Segment) (value : ℕ) →
    statement (bs ++ earlier) o segment value ≡ raised bs (statement earlier o segment value)
statement_raised bs earlier o segment value = grind (arith, common_steps, shift_raised)

-- more objects that come first raise what an object mentions, and change nothing else
pub mentions_in_raised : (bs earlier : List Contents) (o : Contents) →
    mentions_in (bs ++ earlier) o ≡ map (raise bs) (mentions_in earlier o)
mentions_in_raised bs earlier o = from (externals_in o)
  where
    from : (ss : List Symbol) → map (mention (bs ++ earlier) o) ss ≡ map (raise bs) (map (mention earlier o) ss)
    from [] = refl
    from (s ∷ ss) =
        let head = statement_raised bs earlier o (segment_of s) s.value in
        let rest = from ss in
        rw (head, rest) refl

mentions_raised : (bs earlier os : List Contents) → mentions_after (bs ++ earlier) os ≡ map (raise bs) (mentions_after earlier os)
mentions_raised bs earlier [] = refl
mentions_raised bs earlier (o ∷ os) = search (rules, append_assoc, mentions_in_raised, map-append, mentions_raised bs (earlier ++ o ∷ []) os)

-- the mentions of objects after others, from those of the objects alone
pub mentions_after-raised : (bs os : List Contents) → mentions_after bs os ≡ map (raise bs) (mentions_after [] os)
mentions_after-raised bs os = ap (λ (es : List Contents). mentions_after es os) (sym (append-nil bs)) ∙ mentions_raised bs [] os

-- and no name
pub names_of_raised : (bs : List Contents) (ms : List Mention) → names_of (map (raise bs) ms) ≡ names_of ms
names_of_raised bs ms = names_of-map (raise bs) (λ (m : Mention). m.name) (λ m. refl) ms

-- forced names say nothing
pub forced_front : (forced : List (List ℕ)) (ms : List Mention) (name : List ℕ) →
    state (map forced_mention forced ++ ms) name ≡ state ms name
forced_front [] ms name = refl
forced_front (n ∷ ns) ms name = search (rules, forced_front ns ms name)

-- forced names are mentioned under their own names
pub names_of_forced : (forced : List (List ℕ)) → names_of (map forced_mention forced) ≡ forced
names_of_forced forced = names_of-map forced_mention (λ n. n) (λ n. refl) forced ∙ map-id forced

-- names that are new to a shorter list, and of these the new ones
pub new_of_new : (s t xs : List (List ℕ)) → ((n : List ℕ) → is_among t n ≡ true → is_among s n ≡ true) →
    new_names s (new_names t xs) ≡ new_names s xs
new_of_new s t [] h = refl
new_of_new s t (x ∷ xs) h = by_test (is_among t x) refl (is_among s x) refl (λ a b f. new_of_new a b xs f)
  where
    by_test : (u : Bool) → is_among t x ≡ u → (v : Bool) → is_among s x ≡ v →
        ((a b : List (List ℕ)) → ((n : List ℕ) → is_among b n ≡ true → is_among a n ≡ true) →
        new_names a (new_names b xs) ≡ new_names a xs) →
        new_names s (cond u (new_names (t ++ x ∷ []) xs) (x ∷ new_names (t ++ x ∷ []) xs))
        ≡ cond v (new_names (s ++ x ∷ []) xs) (x ∷ new_names (s ++ x ∷ []) xs)
    by_test true ue true ve rest =
        rest s (t ++ x ∷ []) (λ n e. h n (sym (seen_again t x ue n) ∙ e)) ∙ sym (new_names-seen (s ++ x ∷ []) s xs (seen_again s x ve))
    by_test true ue false ve rest = absurd (let bad : false ≡ true = sym ve ∙ h x ue in cc)
    by_test false ue v ve rest =
        let inner : new_names (s ++ x ∷ []) (new_names (t ++ x ∷ []) xs) ≡ new_names (s ++ x ∷ []) xs =
        rest (s ++ x ∷ []) (t ++ x ∷ []) (λ n e. is_among-append s (x ∷ []) n
        ∙ either n (is_among t n) refl (is_among (x ∷ []) n) refl (sym (is_among-append t (x ∷ []) n) ∙ e)) in
        rw (ve, inner) refl
      where
        either : (n : List ℕ) (p : Bool) → is_among t n ≡ p → (q : Bool) → is_among (x ∷ []) n ≡ q →
            (is_among t n || is_among (x ∷ []) n) ≡ true → (is_among s n || is_among (x ∷ []) n) ≡ true
        either n true pe q qe e = or_left _ _ (h n pe)
        either n false pe true qe e = or_right _ _ qe
        either n false pe false qe e = absurd (let bad : (false || false) ≡ true = rw (pe, qe) at e in cc)

-- names that are all seen are not new
all_seen : (seen ns : List (List ℕ)) → ((n : List ℕ) → is_among ns n ≡ true → is_among seen n ≡ true) → new_names seen ns ≡ []
all_seen seen [] h = refl
all_seen seen (n ∷ ns) h =
    rw (h n (or_left _ _ ((bytes_eq-Decides n n).1 refl)))
    (all_seen (seen ++ n ∷ []) ns (λ m e. rw is_among-append (or_left _ _ (h m (or_right _ _ e)))))

-- names by first mention, where some are told by their first mention alone
pub names_mentioned_once : (forced front given back : List (List ℕ)) →
    new_names [] ((forced ++ front) ++ (new_names [] (forced ++ given) ++ back)) ≡ new_names [] ((forced ++ front) ++ (given ++ back))
names_mentioned_once forced front given back =
    let A = forced ++ front in
    let N = new_names [] (forced ++ given) in
    let seen : new_names A forced ≡ [] = all_seen A forced (λ n e. rw is_among-append (or_left _ _ e)) in
    let twice : (n : List ℕ) → is_among (A ++ forced) n ≡ is_among A n =
    λ n. is_among-append A forced n ∙ ap (λ (t : Bool). t || is_among forced n) (is_among-append forced front n)
    ∙ absorbed (is_among forced n) (is_among front n) ∙ sym (is_among-append forced front n) in
    let first : new_names A N ≡ new_names A given =
    new_of_new A [] (forced ++ given) (λ n e. absurd (cc)) ∙ new_names-append A forced given
    ∙ ap (λ (ns : List (List ℕ)). ns ++ new_names (A ++ forced) given) seen ∙ new_names-seen (A ++ forced) A given twice in
    let same : (n : List ℕ) → is_among (A ++ N) n ≡ is_among (A ++ given) n =
    λ n. is_among-append A N n
    ∙ ap (λ (t : Bool). t || is_among N n) (is_among-append forced front n)
    ∙ ap (λ (t : Bool). (is_among forced n || is_among front n) || t)
    (is_among-new_names [] (forced ++ given) n ∙ is_among-append forced given n)
    ∙ merged (is_among forced n) (is_among front n) (is_among given n)
    ∙ ap (λ (t : Bool). t || is_among given n) (sym (is_among-append forced front n))
    ∙ sym (is_among-append A given n) in
    new_names-append [] A (N ++ back)
    ∙ ap (λ (ns : List (List ℕ)). new_names [] A ++ ns)
    (new_names-append A N back ∙ ap (λ (ns : List (List ℕ)). ns ++ new_names (A ++ N) back) first
    ∙ ap (λ (ns : List (List ℕ)). new_names A given ++ ns) (new_names-seen (A ++ N) (A ++ given) back same)
    ∙ sym (new_names-append A given back))
    ∙ sym (new_names-append [] A (given ++ back))
  where
    absorbed : (f g : Bool) → ((f || g) || f) ≡ (f || g)
    absorbed true g = refl
    absorbed false true = refl
    absorbed false false = refl

    merged : (f g t : Bool) → ((f || g) || (f || t)) ≡ ((f || g) || t)
    merged true g t = refl
    merged false g t = refl
