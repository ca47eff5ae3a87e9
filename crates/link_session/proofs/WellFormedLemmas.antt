-- In an object every word that refers to a name refers to one that the object mentions.
use Rattle.std.proofs.Common.{◌≡◌, ℕ, zero, suc, ◌+◌, true, eqb, List, [], ◌∷◌, ◌++◌, map, Option, None, rules}
use Rattle.std.proofs.lemmas.Bool.{or_left, or_right}
use Rattle.std.specs.{Prelude.zip, Prelude.slice_get, Prelude.filter, List.flat_map, List.AllByRecursion}
use Rattle.aout_core.specs.WellFormed.{is_external, kind_of, symbol_number, is_wanted, kind_fault, word_fault, first_of, first_bad_word}
use Rattle.aout_core.specs.{WellFormed.IsWellFormed, declared.symbol.Symbol.Symbol, declared.symbol.Segment.Segment}
use Rattle.aout_core.specs.{declared.reloc.Reloc.Reloc, declared.reloc.Kind.Kind, Contents.Contents}
use Rattle.aout_core.specs.declared.symbol.Segment.TheVariants as segments
use Rattle.link_session.specs.{Earlier.with_earlier, Mentions.{mention, mentions_in, mentions, names_of, forced_mention}}
use Rattle.link_session.specs.Cells.{Referent, to_segment, to_name, referent_by, referent, name_in, words_of}
use Rattle.tool_options.specs.NameLists.{is_among}
use Rattle.tool_options.proofs.NameListLemmas.{is_among-append}
use Rattle.link_session.proofs.{CellLemmas.{RefersAmong, AllReferAmong}, MentionLemmas.names_of-append, ListLemmas.{all_split, all_map}}

-- an external entry of the table is mentioned
external_is_among : (earlier : List Contents) (o : Contents) (symbols : List Symbol) (i : ℕ) → is_wanted (slice_get symbols i) ≡ true →
    is_among (names_of (map (mention earlier o) (filter is_external symbols))) (name_in (slice_get symbols i)) ≡ true
external_is_among earlier o [] i h = absurd (cc)
external_is_among earlier o (s ∷ ss) zero h = search rules
external_is_among earlier o (s ∷ ss) (suc i) h = search (rules, or_right, external_is_among earlier o ss i h)

-- a word without a fault refers to its object or to a mentioned name
word_refers : (earlier : List Contents) (o : Contents) (i number : ℕ) (kind : Option Kind) → kind_fault o.symbols i kind number ≡ None →
    RefersAmong (names_of (mentions_in earlier o)) (referent_by o number kind)
word_refers earlier o i number kind h = search (rules, external_is_among)

-- without a first fault there is none in either half
pub first_of_none : {A : Type 0} (a b : Option A) → first_of a b ≡ None → (a ≡ None) × (b ≡ None)
first_of_none a b h = search rules

words_refer : (earlier : List Contents) (o : Contents) (i : ℕ) (rs : List Reloc) → first_bad_word o.symbols i rs ≡ None →
    AllByRecursion (λ r. RefersAmong (names_of (mentions_in earlier o)) (referent o r)) rs
words_refer earlier o i [] h = tt
words_refer earlier o i (r ∷ rs) h =
    let both = first_of_none (word_fault o.symbols i r) (first_bad_word o.symbols (i + 1) rs) h in
    (word_refers earlier o i (symbol_number r) (kind_of r) both.0, words_refer earlier o (i + 1) rs both.1)

all_zip : {A B : Type 0} (P : B → Type 0) (xs : List A) (ys : List B) → AllByRecursion P ys →
    AllByRecursion (λ (xy : A × B). P xy.1) (zip xs ys)
all_zip P [] ys h = tt
all_zip P (x ∷ xs) [] h = tt
all_zip P (x ∷ xs) (y ∷ ys) h = (h.0, all_zip P xs ys h.1)

-- an object has its relocation words, and none of them is bad
pub well_formed_parts : (o : Contents) → IsWellFormed o →
    (eqb o.header.flag 0 ≡ true) × (first_bad_word o.symbols 0 (o.text_reloc ++ o.data_reloc) ≡ None)
well_formed_parts o h = search rules

pub object_refers : (earlier : List Contents) (o : Contents) (segment : Segment) → IsWellFormed o →
    AllReferAmong (names_of (mentions_in earlier o)) o (words_of segment o)
object_refers earlier o segment h = of_segment segment
  where
    P : Reloc → Type 0
    P = λ r. RefersAmong (names_of (mentions_in earlier o)) (referent o r)

    both : AllByRecursion (λ r. RefersAmong (names_of (mentions_in earlier o)) (referent o r)) o.text_reloc
        × AllByRecursion (λ r. RefersAmong (names_of (mentions_in earlier o)) (referent o r)) o.data_reloc
    both =
        all_split (λ r. RefersAmong (names_of (mentions_in earlier o)) (referent o r)) o.text_reloc o.data_reloc
        (words_refer earlier o 0 (o.text_reloc ++ o.data_reloc) (well_formed_parts o h).1)

    of_segment : (segment : Segment) → AllReferAmong (names_of (mentions_in earlier o)) o (words_of segment o)
    of_segment segments.TextSeg =
        all_zip (λ r. RefersAmong (names_of (mentions_in earlier o)) (referent o r)) o.text_words o.text_reloc both.0
    of_segment segments.DataSeg =
        all_zip (λ r. RefersAmong (names_of (mentions_in earlier o)) (referent o r)) o.data_words o.data_reloc both.1
    of_segment segments.Undefined = tt
    of_segment segments.Absolute = tt
    of_segment segments.BssSeg = tt
    of_segment segments.Other = tt

refers_to_more : (names more : List (List ℕ)) → ((n : List ℕ) → is_among names n ≡ true → is_among more n ≡ true) →
    (q : Referent) → RefersAmong names q → RefersAmong more q
refers_to_more names more f (to_segment segment) h = tt
refers_to_more names more f (to_name name) h = f name h

-- in a list of objects every word refers to its object or to a name that the list mentions
pub objects_refer : (forced : List (List ℕ)) (segment : Segment) (os : List Contents) → AllByRecursion IsWellFormed os →
    AllByRecursion (λ o. AllReferAmong (names_of (mentions forced os)) o (words_of segment o)) os
objects_refer forced segment os h =
    from [] os h (λ n e. rw (
      names_of-append (map forced_mention forced) (flat_map (λ p. mentions_in p.0 p.1) (with_earlier [] os)),
      is_among-append,
    ) (or_right _ _ e))
  where
    from : (earlier rest : List Contents) → AllByRecursion IsWellFormed rest →
        ((n : List ℕ) → is_among (names_of (flat_map (λ p. mentions_in p.0 p.1) (with_earlier earlier rest))) n ≡ true →
        is_among (names_of (mentions forced os)) n ≡ true) →
        AllByRecursion (λ o. AllReferAmong (names_of (mentions forced os)) o (words_of segment o)) rest
    from earlier [] h f = tt
    from earlier (o ∷ rest) h f =
        let here : AllReferAmong (names_of (mentions forced os)) o (words_of segment o) =
        all_map (λ wr. RefersAmong (names_of (mentions_in earlier o)) (referent o wr.1))
        (λ wr. RefersAmong (names_of (mentions forced os)) (referent o wr.1))
        (λ wr. refers_to_more (names_of (mentions_in earlier o)) (names_of (mentions forced os))
        (λ n e. f n (rw (
          names_of-append (mentions_in earlier o) (flat_map (λ p. mentions_in p.0 p.1) (with_earlier (earlier ++ o ∷ []) rest)),
          is_among-append,
        ) (or_left _ _ e)))
        (referent o wr.1))
        (words_of segment o) (object_refers earlier o segment h.0) in (
          here,
          from (earlier ++ o ∷ []) rest h.1
              (λ n e. f n (rw (
                names_of-append (mentions_in earlier o) (flat_map (λ p. mentions_in p.0 p.1) (with_earlier (earlier ++ o ∷ []) rest)),
                is_among-append,
              ) (or_right _ _ e))),
        )
