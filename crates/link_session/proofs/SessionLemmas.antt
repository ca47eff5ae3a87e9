-- What a session's fields are worth after an addition and after a withdrawal.
use Rattle.std.proofs.Common.{◌≡◌, ℕ, suc, ◌-◌, ◌≤◌, List, [], ◌∷◌, ◌++◌, map, length, replicate, Some, None, refl, sym, ◌∙◌, ap, subst}
use Rattle.std.proofs.{Common.{arith, length-append, append-nil, rules}, lemmas.List.{map-append, length-map, same_from_push}}
use Rattle.std.specs.{Prelude.slice_get, Prelude.filter, List.AllByRecursion, Map.keys_of}
use Rattle.aout_core.specs.Contents.{Contents}
use Rattle.link_session.specs.Mentions.{Mention, forced_mention, mentions, externals, names_of}
use Rattle.link_session.specs.States.{state, multiple_names, differs, first_definition}
use Rattle.link_session.specs.Undo.{undo, AreMarksOf, AreMarksOfLast, IsJournal, marks_in}
use Rattle.link_session.specs.internal.Fields.{sizes_of, sizes_in, sizes_before, threads_by, with_heads_back, HasAtLeast, IsSmall}
use Rattle.link_session.specs.internal.Fields.{IsSession}
use Rattle.link_session.specs.internal.Additions.{with_mentions, settled_cell, next_limit, next_named, joined_image}
use Rattle.link_session.specs.internal.Threads.{Threads, IsThreaded, KeepsThreads, next_threads, next_texts, next_datas}
use Rattle.link_session.specs.{declared.state.State.State, declared.merged.Sizes.Sizes, declared.session.UndoRecord.UndoRecord}
use Rattle.link_session.specs.{Labelled.Labelled, Labelled.objects, Image.Image, Image.image, Image.named_states}
use Rattle.link_session.specs.{Limits.limit_passed, Limits.refusal, Sessions.newest, Sessions.Adds, Sessions.IsObject}
use Rattle.link_session.specs.{internal.Settled.IsCovered, internal.Chains.Link, internal.Restores.TakesBack}
use Rattle.link_session.proofs.JournalLemmas.{journal_push, journal_pop, journal_empty}
use Rattle.link_session.proofs.MentionedLemmas.{keys-named_states, with_mentions-named_states}
use Rattle.link_session.proofs.TotalLemmas.{refusal-next_limit, image_small, within_before, limit_within}
use Rattle.link_session.proofs.{KeptThreadLemmas.{kept_threaded, forced_kept, kept_push, kept_pop}, EarlierLemmas.with_earlier-append}
use Rattle.link_session.proofs.{LimitLemmas.length-new_names, AdditionLemmas.joined_image-is, HistoryLemmas.image_covered}
use Rattle.link_session.proofs.{FewLemmas.taken_few, DifferenceLemmas.taken_difference, ListLemmas.{all_append, all_split}}

-- what a session keeps is within the limits: so its sizes and indices fit their types
pub small : (forced : List (List ℕ)) (es : List Labelled) (undo_records : List UndoRecord) (m : Image) (t : Threads) →
    IsSession forced es undo_records m t → IsSmall m
small forced es undo_records m t s = subst IsSmall (sym s.image) (image_small forced (objects es) s.good s.within)

-- to bind the names that an object mentions is to settle all cells
pub session_covered : (forced : List (List ℕ)) (es : List Labelled) (undo_records : List UndoRecord) (m : Image)
    (t : Threads) (o : Contents) → IsSession forced es undo_records m t → IsCovered m o
session_covered forced es undo_records m t o s =
    subst (λ (n : Image). IsCovered n o) (sym s.image) (image_covered forced (objects es) o s.good)

-- why an object is refused, read off the fields
pub refusal-fields : (forced : List (List ℕ)) (es : List Labelled) (undo_records : List UndoRecord) (m : Image)
    (t : Threads) (o : Contents) → IsSession forced es undo_records m t → refusal forced (objects es) o ≡ next_limit m o
refusal-fields forced es undo_records m t o s = cc (refusal-next_limit forced (objects es) o s.good)

-- the kept sizes of one more object
sizes_push : (forced : List (List ℕ)) (os : List Contents) (o : Contents) →
    sizes_before forced (os ++ o ∷ []) ≡ sizes_before forced os ++ sizes_of (image forced os) ∷ []
sizes_push forced os o = search (rules, with_earlier-append, map-append)

module _ (forced : List (List ℕ)) (es : List Labelled) (undo_records : List UndoRecord) (m : Image)
    (t : Threads) (e : Labelled) (undo_record : UndoRecord) (s : IsSession forced es undo_records m t)
    (b : TakesBack m e.object t.heads undo_record.marks.items) where
  abbrev one_more : objects (es ++ e ∷ []) ≡ objects es ++ e.object ∷ []
  one_more = map-append (λ (x : Labelled). x.object) es (e ∷ [])

  -- the marks, as those of the objects' image
  of_image : TakesBack (image forced (objects es)) e.object t.heads undo_record.marks.items
  of_image = subst (λ (n : Image). TakesBack n e.object t.heads undo_record.marks.items) s.image b

  are_marks : AreMarksOf forced (objects es) e.object undo_record.marks.items
  are_marks = record {
    undoes =
        subst (λ (n : Image). undo undo_record.marks.items n (image forced (objects es)) ≡ image forced (objects es))
        (joined_image-is forced (objects es) e.object s.good) of_image.undoes;
    inside = of_image.inside;
    few = taken_few forced (objects es) e.object t.heads undo_record.marks.items s.good of_image;
    difference = taken_difference forced (objects es) e.object t.heads undo_record.marks.items s.good of_image;
  }

  of_last : AreMarksOfLast forced undo_record.marks.items (objects es ++ e.object ∷ []) (objects es)
  of_last o split = search (rules, same_from_push, are_marks)

  -- the fields after an addition
  pub added_session : (n : Image) (u : Threads) → IsObject e.object → next_limit m e.object ≡ None →
      undo_record.sizes ≡ sizes_of m → n ≡ joined_image m e.object → u ≡ next_threads m e.object t →
      IsSession forced (es ++ e ∷ []) (undo_records ++ undo_record ∷ []) n u
  added_session n u good fits sizes joined threaded = record {
    image = longer;
    threads = kept;
    chained =
        subst (λ (x : Image). IsThreaded x u) (sym longer)
        (kept_threaded forced (objects (es ++ e ∷ [])) (map marks_in (undo_records ++ undo_record ∷ [])) u all_good kept);
    journal =
        subst (λ (P : Type 0). P) (λ i. IsJournal forced (sym one_more i) (sym (map-append marks_in undo_records (undo_record ∷ [])) i))
        (journal_push (AreMarksOfLast forced) (objects es) e.object (map marks_in undo_records) undo_record.marks.items s.journal of_last);
    sizes =
        map-append sizes_in undo_records (undo_record ∷ [])
        ∙ (λ i. s.sizes i ++ (sizes ∙ ap sizes_of s.image) i ∷ [])
        ∙ sym (sizes_push forced (objects es) e.object)
        ∙ ap (λ (xs : List Contents). sizes_before forced xs) (sym one_more);
    good = all_good;
    within = ap (λ (xs : List Contents). limit_passed forced xs) one_more ∙ refusal-fields forced es undo_records m t e.object s ∙ fits;
  }
    where
      longer : n ≡ image forced (objects (es ++ e ∷ []))
      longer =
          joined ∙ ap (λ (x : Image). joined_image x e.object) s.image ∙ joined_image-is forced (objects es) e.object s.good
          ∙ ap (λ (xs : List Contents). image forced xs) (sym one_more)

      all_good : AllByRecursion IsObject (objects (es ++ e ∷ []))
      all_good =
          subst (λ (xs : List Contents). AllByRecursion IsObject xs) (sym one_more)
          (all_append IsObject (objects es) (e.object ∷ []) s.good (good, tt))

      kept : KeepsThreads forced (objects (es ++ e ∷ [])) (map marks_in (undo_records ++ undo_record ∷ [])) u
      kept =
          subst (λ (P : Type 0). P)
          (λ i. KeepsThreads forced (sym one_more i) (sym (map-append marks_in undo_records (undo_record ∷ [])) i)
          (sym (threaded ∙ ap (λ (x : Image). next_threads x e.object t) s.image) i))
          (kept_push forced (objects es) e.object (map marks_in undo_records) undo_record.marks.items t s.good s.threads of_image.heads_are)

  -- what the addition says of the state
  pub adds : Adds (record { forced = forced; entries = es; journal = map marks_in undo_records })
      (record { forced = forced; entries = es ++ e ∷ []; journal = map marks_in (undo_records ++ undo_record ∷ []) }) e
  adds = search (rules, map-append, are_marks)

module _ (forced : List (List ℕ)) (es : List Labelled) (undo_records : List UndoRecord) (m : Image) (t : Threads) (e : Labelled)
    (undo_record : UndoRecord) (s : IsSession forced (es ++ e ∷ []) (undo_records ++ undo_record ∷ []) m t) where
  abbrev one_less : objects (es ++ e ∷ []) ≡ objects es ++ e.object ∷ []
  one_less = map-append (λ (x : Labelled). x.object) es (e ∷ [])

  earlier_good : AllByRecursion IsObject (objects es)
  earlier_good =
      (all_split IsObject (objects es) (e.object ∷ []) (subst (λ (xs : List Contents). AllByRecursion IsObject xs) one_less s.good)).0

  -- a withdrawal cuts the lists to the sizes before the last object, which its record has
  pub kept_sizes : (map sizes_in undo_records ≡ sizes_before forced (objects es))
      × (undo_record.sizes ≡ sizes_of (image forced (objects es)))
  kept_sizes = search (rules, same_from_push, map-append, sizes_push)

  now : m ≡ image forced (objects es ++ e.object ∷ [])
  now = s.image ∙ ap (λ (xs : List Contents). image forced xs) one_less

  -- the cells of the last object come after the sizes that were kept
  pub at_least : HasAtLeast undo_record.sizes m t
  at_least = record {
    text =
        subst (λ (n : ℕ). n ≤ length m.text_cells) (ap (λ (z : Sizes). z.text_cells) (sym kept_sizes.1))
        (subst (λ (n : Image). length old.text_cells ≤ length n.text_cells) (sym joined)
        (omega (
          arith,
          length-append (map (settled_cell (next_named old e.object)) old.text_cells) (next_texts old e.object),
          length-map old.text_cells (settled_cell (next_named old e.object)),
        )));
    «data» =
        subst (λ (n : ℕ). n ≤ length m.data_cells) (ap (λ (z : Sizes). z.data_cells) (sym kept_sizes.1))
        (subst (λ (n : Image). length old.data_cells ≤ length n.data_cells) (sym joined)
        (omega (
          arith,
          length-append (map (settled_cell (next_named old e.object)) old.data_cells) (next_datas old e.object),
          length-map old.data_cells (settled_cell (next_named old e.object)),
        )));
    text_links = s.chained.chained.text;
    data_links = s.chained.chained.data;
  }
    where
      old : Image
      old = image forced (objects es)

      joined : m ≡ joined_image (image forced (objects es)) e.object
      joined = now ∙ sym (joined_image-is forced (objects es) e.object earlier_good)

  -- the fields after a withdrawal: that its marks take the object back was proved at its addition, and the journal has kept it
  pub withdrawn_session : IsSession forced es undo_records (undo undo_record.marks.items m (image forced (objects es)))
      (with_heads_back undo_record.marks.items (threads_by undo_record.sizes m t))
  withdrawn_session = record {
    image = before;
    threads = kept;
    chained =
        subst (λ (x : Image). IsThreaded x (with_heads_back undo_record.marks.items (threads_by undo_record.sizes m t))) (sym before)
        (kept_threaded forced (objects es) (map marks_in undo_records)
        (with_heads_back undo_record.marks.items (threads_by undo_record.sizes m t)) earlier_good kept);
    journal = pop.0;
    sizes = kept_sizes.0;
    good = earlier_good;
    within = within_before forced (objects es) e.object (ap (λ (xs : List Contents). limit_passed forced xs) (sym one_less) ∙ s.within);
  }
    where
      pop : IsJournal forced (objects es) (map marks_in undo_records)
          × AreMarksOfLast forced undo_record.marks.items (objects es ++ e.object ∷ []) (objects es)
      pop =
          journal_pop (AreMarksOfLast forced) (objects es) e.object (map marks_in undo_records) undo_record.marks.items
          (subst (λ (P : Type 0). P) (λ i. IsJournal forced (one_less i) (map-append marks_in undo_records (undo_record ∷ []) i)) s.journal)

      before : undo undo_record.marks.items m (image forced (objects es)) ≡ image forced (objects es)
      before = ap (λ (n : Image). undo undo_record.marks.items n (image forced (objects es))) now ∙ (pop.1 e.object refl).undoes

      kept : KeepsThreads forced (objects es) (map marks_in undo_records)
          (with_heads_back undo_record.marks.items (threads_by undo_record.sizes m t))
      kept =
          subst (λ (P : Type 0). P) (λ i. KeepsThreads forced (objects es) (map marks_in undo_records)
          (with_heads_back undo_record.marks.items (threads_by (sym kept_sizes.1 i) (sym now i) t)))
          (kept_pop forced (objects es) e.object (map marks_in undo_records) undo_record.marks.items t
          (subst (λ (P : Type 0). P)
          (λ i. KeepsThreads forced (one_less i) (map-append marks_in undo_records (undo_record ∷ []) i) t) s.threads))

-- forced names alone
none_twice : (names : List (List ℕ)) (ms : List Mention) →
    map (λ (k : Mention). k.name) (filter (λ k. differs (first_definition ms k.name) k.says) (map forced_mention names)) ≡ []
none_twice [] ms = refl
none_twice (n ∷ names) ms = none_twice names ms

-- a session that has only forced names keeps its invariant
pub forced_session : (forced : List (List ℕ)) → length forced ≤ 64 → (m : Image) (t : Threads) → m.text_cells ≡ [] →
    m.data_cells ≡ [] → m.bss_total ≡ 0 → m.externals ≡ with_mentions [] (map forced_mention forced) → m.multiples ≡ [] →
    t.text_links ≡ [] → t.data_links ≡ [] → t.heads ≡ replicate (length m.externals) None → IsSession forced [] [] m t
forced_session forced few m t text datas bss names multiples text_links data_links heads = record {
  image = none;
  threads = kept;
  chained = subst (λ (x : Image). IsThreaded x t) (sym none) (kept_threaded forced [] [] t tt kept);
  journal = journal_empty (AreMarksOfLast forced);
  sizes = refl;
  good = tt;
  within = limit_within 0 0 0 (length (externals forced [])) (record {
    text = omega arith;
    «data» = omega arith;
    bss = omega arith;
    names =
        omega (
          arith,
          length-new_names [] (names_of (mentions forced [])),
          length-map (mentions forced []) (λ (k : Mention). k.name),
          length-append (map forced_mention forced) [],
          length-map forced forced_mention,
        );
  });
}
  where
    none : m ≡ image forced []
    none = λ i. record {
      text_cells = text i;
      data_cells = datas i;
      bss_total = bss i;
      externals =
          (names ∙ with_mentions-named_states [] (map forced_mention forced)
          ∙ ap named_states (sym (append-nil (map forced_mention forced)))) i;
      multiples =
          (multiples ∙ sym (none_twice forced (map forced_mention forced))
          ∙ ap multiple_names (sym (append-nil (map forced_mention forced)))) i;
    }

    counted : length m.externals ≡ length (externals forced [])
    counted =
        ap (λ (x : Image). length x.externals) none
        ∙ length-map {B = List ℕ × State} (externals forced []) (λ n. (n, state (mentions forced []) n))

    kept : KeepsThreads forced [] [] t
    kept =
        subst (KeepsThreads forced [] [])
        (λ i. record {
          text_links = sym text_links i;
          data_links = sym data_links i;
          heads = sym (heads ∙ ap (λ (n : ℕ). let hs : List Link = replicate n None in hs) counted) i;
        })
        (forced_kept forced)

-- the name's index is its place among the externals
pub externals-fields : (forced : List (List ℕ)) (es : List Labelled) (undo_records : List UndoRecord) (m : Image)
    (t : Threads) → IsSession forced es undo_records m t → keys_of m.externals ≡ externals forced (objects es)
externals-fields forced es undo_records m t s = cc (keys-named_states (mentions forced (objects es)))

-- the marks of the last undo record
pub newest_record : (undo_records : List UndoRecord) (undo_record : UndoRecord) → Some undo_record
    ≡ slice_get undo_records (length undo_records - 1) → undo_record.marks.items ≡ newest (map marks_in undo_records)
newest_record [] undo_record e = absurd (cc)
newest_record (x ∷ []) undo_record e = let same : undo_record ≡ x = cc in ap marks_in same
newest_record (x ∷ (y ∷ more)) undo_record e =
    newest_record (y ∷ more) undo_record (e ∙ ap (λ (n : ℕ). slice_get (x ∷ (y ∷ more)) n)
    (let n : length (x ∷ (y ∷ more)) - 1 ≡ suc (length (y ∷ more) - 1) = omega arith in n))
