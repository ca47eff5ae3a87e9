-- The objects in files, what is accepted of them, and groups of them.
use Rattle.std.proofs.Common.{◌≡◌, ◌⊎◌, ℕ, ◌≤◌, List, [], ◌∷◌, ◌++◌, map, length, Option, Some, None, Result, Ok, Err, IsErr, refl, sym, ap}
use Rattle.std.proofs.{Common.{◌∙◌, subst, inl, inr, arith, append_assoc, append-nil, length-append}, lemmas.List.{map-append, length-map}}
use Rattle.std.specs.{List.AllByRecursion, Prelude.is_err}
use Rattle.aout_core.specs.{declared.object.ObjectFault.ObjectFault, declared.file.ReadFault.ReadFault, Contents.Contents, Decoding.decode}
use Rattle.aout_core.specs.WellFormed.{IsWellFormed, first_object_fault}
use Rattle.link_session.specs.{Limits.{limit_passed, refusal}, Mentions.{Mention, mentions, externals, names_of, forced_mention}}
use Rattle.link_session.specs.{declared.entry.AddFault.AddFault, Labelled.{Labelled, objects}, States.multiple_names}
use Rattle.link_session.proofs.{LimitLemmas.length-new_names, TotalLemmas.limit_within, TotalLemmas.within_before}
use Rattle.link_out.specs.Inputs.{Cause, Refusal, bad_object, not_added, not_linked, at_path, kept_with, object_in, with_inputs, linked}
use Rattle.link_out.specs.{Steps.{and_then, refused_as, unless}, function.Link.{Outcome, link}}
use Rattle.tool_options.specs.{declared.options.Keep.Keep, Choices.Choices}
use Rattle.laws.specs.PartialLinksAmongOthers.{IsGrouped, ungrouped, grouped}
use Rattle.laws.proofs.{GroupingLemmas.{grouping_changes_nothing, is_accepted}, LeftLemmas.same_value}

-- ---- the objects in files

-- the file of each is this object
abbrev pub AreObjects : List (List ℕ × List ℕ) → List Contents → Type 0
AreObjects [] [] = Unit {0}
AreObjects (f ∷ fs) (o ∷ os) = (object_in (decode f.1) ≡ Ok o) × AreObjects fs os
AreObjects _ _ = ⊥

pub same_fault : {A E : Type 0} (a b : E) → (let x : Result A E = Err a in let y : Result A E = Err b in x ≡ y) → a ≡ b
same_fault a b e = cc

pub not_both : {A E : Type 0} (a : A) (b : E) → (let x : Result A E = Ok a in let y : Result A E = Err b in x ≡ y) → ⊥
not_both a b e = cc

passed : (fault : Option ObjectFault) (c o : Contents) →
    (let x : Result Contents Cause = Ok o in unless bad_object fault c ≡ x) → (fault ≡ None) × (c ≡ o)
passed None c o h = (refl, same_value c o h)
passed (Some fault) c o h = absurd (not_both o (bad_object fault) (sym h))

well_formed : (r : Result Contents ReadFault) (o : Contents) → object_in r ≡ Ok o → IsWellFormed o
well_formed (Ok c) o h = let p = passed (first_object_fault c) c o h in subst IsWellFormed p.1 p.0
well_formed (Err fault) o h = absurd (not_both o _ (sym h))

-- an object was read
pub was_read : (r : Result Contents ReadFault) (o : Contents) → object_in r ≡ Ok o → r ≡ Ok o
was_read (Ok c) o h = ap (λ (c : Contents). Ok c) (passed (first_object_fault c) c o h).1
was_read (Err fault) o h = absurd (not_both o _ (sym h))

-- a file that is read and is well formed
pub object_read : (bytes : List ℕ) (c : Contents) → decode bytes ≡ Ok c → IsWellFormed c → object_in (decode bytes) ≡ Ok c
object_read bytes c e well = ap object_in e ∙ ap (λ (fault : Option ObjectFault). unless bad_object fault c) well

pub all_well_formed : (files : List (List ℕ × List ℕ)) (os : List Contents) → AreObjects files os → AllByRecursion IsWellFormed os
all_well_formed [] [] h = tt
all_well_formed (f ∷ fs) (o ∷ os) h = (well_formed (decode f.1) o h.0, all_well_formed fs os h.1)
all_well_formed _ _ h = absurd h

pub same_objects : (files : List (List ℕ × List ℕ)) (os ps : List Contents) → AreObjects files os → AreObjects files ps → os ≡ ps
same_objects [] [] [] h k = refl
same_objects (f ∷ fs) (o ∷ os) (p ∷ ps) h k =
    let one : o ≡ p = same_value o p (sym h.0 ∙ k.0) in
    let rest : os ≡ ps = same_objects fs os ps h.1 k.1 in
    λ i. one i ∷ rest i
same_objects [] [] (p ∷ ps) h k = absurd k
same_objects [] (o ∷ os) ps h k = absurd h
same_objects (f ∷ fs) [] ps h k = absurd h
same_objects (f ∷ fs) (o ∷ os) [] h k = absurd k

pub objects_append : (files more : List (List ℕ × List ℕ)) (os ps : List Contents) → AreObjects files os → AreObjects more ps →
    AreObjects (files ++ more) (os ++ ps)
objects_append [] more [] ps h k = k
objects_append (f ∷ fs) more (o ∷ os) ps h k = (h.0, objects_append fs more os ps h.1 k)
objects_append _ more _ ps h k = absurd h

pub record AreSplit (files more : List (List ℕ × List ℕ)) (os : List Contents) : Type 0 where
  pub front : List Contents
  pub rest : List Contents
  pub is : os ≡ front ++ rest
  pub first : AreObjects files front
  pub second : AreObjects more rest

pub objects_split : (files more : List (List ℕ × List ℕ)) (os : List Contents) → AreObjects (files ++ more) os → AreSplit files more os
objects_split [] more os h = record { front = []; rest = os; is = refl; first = tt; second = h }
objects_split (f ∷ fs) more (o ∷ os) h =
    let s = objects_split fs more os h.1 in
    record { front = o ∷ s.front; rest = s.rest; is = ap (λ (xs : List Contents). o ∷ xs) s.is; first = (h.0, s.first); second = s.second }
objects_split (f ∷ fs) more [] h = absurd h

-- ---- what is accepted

-- the first objects of a list that passes no limit pass none
front_within : (forced : List (List ℕ)) (os ps : List Contents) → limit_passed forced (os ++ ps) ≡ None → limit_passed forced os ≡ None
front_within forced os [] h = ap (limit_passed forced) (sym (append-nil os)) ∙ h
front_within forced os (p ∷ ps) h =
    within_before forced os p (front_within forced (os ++ p ∷ []) ps (ap (limit_passed forced) (append_assoc os (p ∷ []) ps) ∙ h))

-- at most 64 forced names alone pass none
pub none_within : (forced : List (List ℕ)) → length forced ≤ 64 → limit_passed forced [] ≡ None
none_within forced few = limit_within 0 0 0 (length (externals forced [])) (record {
  text = omega arith;
  «data» = omega arith;
  bss = omega arith;
  names =
      omega (
        arith,
        few,
        length-new_names [] (names_of (mentions forced [])),
        length-map (mentions forced []) (λ (k : Mention). k.name),
        length-append (map forced_mention forced) [],
        length-map forced forced_mention,
      );
})

module _ (forced : List (List ℕ)) where
  one_more : (kept : List Labelled) (e : Labelled) → limit_passed forced (objects (kept ++ e ∷ [])) ≡ refusal forced (objects kept) e.object
  one_more kept e = ap (limit_passed forced) (map-append (λ (l : Labelled). l.object) kept (e ∷ []))

  -- files that were taken after these
  pub record AreTaken (kept more : List Labelled) (files : List (List ℕ × List ℕ)) : Type 0 where
    pub new : List Labelled
    pub whole : more ≡ kept ++ new
    pub are : AreObjects files (objects new)
    pub within : limit_passed forced (objects more) ≡ None

  pub taken : (kept more : List Labelled) (files : List (List ℕ × List ℕ)) → limit_passed forced (objects kept) ≡ None →
      with_inputs forced kept files ≡ Ok more → AreTaken kept more files
  taken kept more [] within h =
      let same : kept ≡ more = same_value kept more h in
      record {
        new = [];
        whole = sym same ∙ sym (append-nil kept);
        are = tt;
        within = subst (λ (es : List Labelled). limit_passed forced (objects es) ≡ None) same within;
      }
  taken kept more (f ∷ fs) within h =
      by_found (λ (e : Labelled). taken (kept ++ e ∷ []) more fs) (object_in (decode f.1)) refl h
    where
      Next : Type 0
      Next = (e : Labelled) → limit_passed forced (objects (kept ++ e ∷ [])) ≡ None → with_inputs forced (kept ++ e ∷ []) fs ≡ Ok more →
          AreTaken (kept ++ e ∷ []) more fs

      by_limit : Next → (o : Contents) (fault : Option AddFault) → refusal forced (objects kept) o ≡ fault → object_in (decode f.1) ≡ Ok o →
          and_then (at_path f.0 (unless not_added fault (kept ++ record { label = f.0; object = o } ∷ [])))
          (λ (es : List Labelled). with_inputs forced es fs) ≡ Ok more → AreTaken kept more (f ∷ fs)
      by_limit next o None fits is h =
          let e : Labelled = record { label = f.0; object = o } in
          let t = next e (one_more kept e ∙ fits) h in
          record { new = e ∷ t.new; whole = t.whole ∙ append_assoc kept (e ∷ []) t.new; are = (is, t.are); within = t.within }
      by_limit next o (Some fault) fits is h = absurd (not_both more _ (sym h))

      by_found : Next → (found : Result Contents Cause) → object_in (decode f.1) ≡ found →
          and_then (at_path f.0 (kept_with forced kept f.0 found)) (λ (es : List Labelled). with_inputs forced es fs) ≡ Ok more →
          AreTaken kept more (f ∷ fs)
      by_found next (Ok o) is h = by_limit next o (refusal forced (objects kept) o) refl is h
      by_found next (Err cause) is h = absurd (not_both more _ (sym h))

  -- files that may be taken after these
  pub record MayBeTaken (kept : List Labelled) (files : List (List ℕ × List ℕ)) (os : List Contents) : Type 0 where
    pub more : List Labelled
    pub is : with_inputs forced kept files ≡ Ok more
    pub same : objects more ≡ objects kept ++ os

  pub may_be_taken : (kept : List Labelled) (files : List (List ℕ × List ℕ)) (os : List Contents) → AreObjects files os →
      limit_passed forced (objects kept ++ os) ≡ None → MayBeTaken kept files os
  may_be_taken kept [] [] are within = record { more = kept; is = refl; same = sym (append-nil (objects kept)) }
  may_be_taken kept (f ∷ fs) (o ∷ os) are within =
      let e : Labelled = record { label = f.0; object = o } in
      let all : (objects kept ++ o ∷ []) ++ os ≡ objects kept ++ o ∷ os = append_assoc (objects kept) (o ∷ []) os in
      let fits : refusal forced (objects kept) o ≡ None =
      front_within forced (objects kept ++ o ∷ []) os (ap (limit_passed forced) all ∙ within) in
      let put : objects (kept ++ e ∷ []) ++ os ≡ objects kept ++ o ∷ os =
      ap (λ (xs : List Contents). xs ++ os) (map-append (λ (l : Labelled). l.object) kept (e ∷ [])) ∙ all in
      let next = may_be_taken (kept ++ e ∷ []) fs os are.1 (ap (limit_passed forced) put ∙ within) in
      record {
        more = next.more;
        is =
            ap (λ (x : Result Contents Cause). and_then (at_path f.0 (kept_with forced kept f.0 x))
            (λ (es : List Labelled). with_inputs forced es fs)) are.0
            ∙ ap (λ (x : Option AddFault). and_then (at_path f.0 (unless not_added x (kept ++ e ∷ [])))
            (λ (es : List Labelled). with_inputs forced es fs)) fits
            ∙ next.is;
        same = next.same ∙ put;
      }
  may_be_taken kept [] (o ∷ os) are within = absurd are
  may_be_taken kept (f ∷ fs) [] are within = absurd are

-- ---- groups

module _ (forced : List (List ℕ)) (less : Keep) where
  -- wherever the first stand, the others may stand for them
  abbrev pub GroupInto : List Contents → List Contents → Type 0
  GroupInto os cs = (whole before after : List Contents) → IsGrouped forced less whole (before ++ (os ++ after)) →
      IsGrouped forced less whole (before ++ (cs ++ after))

  pub group_both : (os cs ps ds : List Contents) → GroupInto os cs → GroupInto ps ds → GroupInto (os ++ ps) (cs ++ ds)
  group_both os cs ps ds g h whole before after k =
      let first : IsGrouped forced less whole (before ++ (cs ++ (ps ++ after))) =
      g whole before (ps ++ after)
      (subst (λ (xs : List Contents). IsGrouped forced less whole (before ++ xs)) (append_assoc os ps after) k) in
      let second : IsGrouped forced less whole ((before ++ cs) ++ (ds ++ after)) =
      h whole (before ++ cs) after
      (subst (λ (xs : List Contents). IsGrouped forced less whole xs) (sym (append_assoc before cs (ps ++ after))) first) in
      subst (λ (xs : List Contents). IsGrouped forced less whole xs)
      (append_assoc before cs (ds ++ after) ∙ ap (λ (xs : List Contents). before ++ xs) (sym (append_assoc cs ds after))) second

  grouped_whole : (os cs : List Contents) → GroupInto os cs → IsGrouped forced less os cs
  grouped_whole os cs g =
      subst (λ (xs : List Contents). IsGrouped forced less os xs) (append-nil cs)
      (g os [] [] (subst (λ (xs : List Contents). IsGrouped forced less os xs) (sym (append-nil os)) ungrouped))

  same_limit : (os ps : List Contents) → IsGrouped forced less os ps → limit_passed forced ps ≡ limit_passed forced os
  same_limit os ps ungrouped = refl
  same_limit os ps (grouped own before run after by x g part p k) =
      is_accepted own forced before run after by x p part ∙ same_limit os (before ++ (run ++ after)) g

  -- objects of files that stand for these
  pub record AreFrom (files : List (List ℕ × List ℕ)) (cs : List Contents) : Type 0 where
    pub os : List Contents
    pub are : AreObjects files os
    pub groups : GroupInto os cs

  -- objects of files for which these stand
  pub record AreInto (ins : List (List ℕ × List ℕ)) (os : List Contents) : Type 0 where
    pub cs : List Contents
    pub are : AreObjects ins cs
    pub groups : GroupInto os cs

-- ---- links

module _ (forced : List (List ℕ)) (o : Choices) (ins files : List (List ℕ × List ℕ)) (few : length forced ≤ 64)
    (forward : (cs : List Contents) → AreObjects ins cs → AreFrom forced o.keep files cs)
    (backward : (os : List Contents) → AreObjects files os → AreInto forced o.keep ins os)
    (single : (kept : List Labelled) → with_inputs forced [] files ≡ Ok kept → multiple_names (mentions forced (objects kept)) ≡ []) where
  abbrev SameOrNone : Type 0
  SameOrNone = (linked forced ins o ≡ linked forced files o) ⊎ (IsErr (linked forced ins o) × IsErr (with_inputs forced [] files))

  abbrev then : Result (List Labelled) Refusal → Result Outcome Refusal
  then x = and_then x (λ (kept : List Labelled). refused_as not_linked (link forced (objects kept) o))

  by_ins : (why : Refusal) → with_inputs forced [] files ≡ Err why → (x : Result (List Labelled) Refusal) → with_inputs forced [] ins ≡ x →
      SameOrNone
  by_ins why none (Err other) e = inr (
    ap (λ (x : Result (List Labelled) Refusal). is_err (then x)) e,
    ap (λ (x : Result (List Labelled) Refusal). is_err x) none,
  )
  by_ins why none (Ok more) e =
      let t = taken forced [] more ins (none_within forced few) e in
      let f = forward (objects t.new) t.are in
      let g = grouped_whole forced o.keep f.os (objects t.new) f.groups in
      let within : limit_passed forced f.os ≡ None =
      sym (same_limit forced o.keep f.os (objects t.new) g) ∙ ap (λ (es : List Labelled). limit_passed forced (objects es)) (sym t.whole)
      ∙ t.within in
      let k = may_be_taken forced [] files f.os f.are within in
      absurd (not_both k.more why (sym k.is ∙ none))

  by_files : (x : Result (List Labelled) Refusal) → with_inputs forced [] files ≡ x → SameOrNone
  by_files (Err why) none = by_ins why none (with_inputs forced [] ins) refl
  by_files (Ok kept) e =
      let t = taken forced [] kept files (none_within forced few) e in
      let b = backward (objects t.new) t.are in
      let g = grouped_whole forced o.keep (objects t.new) b.cs b.groups in
      let new : limit_passed forced (objects t.new) ≡ None =
      ap (λ (es : List Labelled). limit_passed forced (objects es)) (sym t.whole) ∙ t.within in
      let k = may_be_taken forced [] ins b.cs b.are (same_limit forced o.keep (objects t.new) b.cs g ∙ new) in
      let once : multiple_names (mentions forced (objects t.new)) ≡ [] =
      ap (λ (es : List Labelled). multiple_names (mentions forced (objects es))) (sym t.whole) ∙ single kept e in
      let same : link forced b.cs o ≡ link forced (objects t.new) o =
      grouping_changes_nothing forced (objects t.new) b.cs o (all_well_formed files (objects t.new) t.are) once g in
      inl (ap then k.is ∙ ap (λ (cs : List Contents). refused_as not_linked (link forced cs o)) k.same
      ∙ ap (λ (x : Result Outcome _). refused_as not_linked x) same
      ∙ ap (λ (es : List Labelled). refused_as not_linked (link forced (objects es) o)) (sym t.whole) ∙ sym (ap then e))

  -- the link of files is that of those for which they stand, or neither are all taken
  pub linked_alike : SameOrNone
  linked_alike = by_files (with_inputs forced [] files) refl

-- ---- the same bytes at other paths

abbrev bytes_in : List (List ℕ × List ℕ) → List (List ℕ)
bytes_in files = map (λ (f : List ℕ × List ℕ). f.1) files

same_are : (files copies : List (List ℕ × List ℕ)) (os : List Contents) → bytes_in copies ≡ bytes_in files → AreObjects files os →
    AreObjects copies os
same_are [] [] os e h = h
same_are (f ∷ fs) (g ∷ gs) (o ∷ os) e h =
    let at : g.1 ≡ f.1 = cc in
    let rest : bytes_in gs ≡ bytes_in fs = cc in
    (ap (λ (bytes : List ℕ). object_in (decode bytes)) at ∙ h.0, same_are fs gs os rest h.1)
same_are (f ∷ fs) (g ∷ gs) [] e h = absurd h
same_are [] (g ∷ gs) os e h = absurd (cc)
same_are (f ∷ fs) [] os e h = absurd (cc)

module _ (forced : List (List ℕ)) (few : length forced ≤ 64) where
  pub record AreTakenToo (copies : List (List ℕ × List ℕ)) (kept : List Labelled) : Type 0 where
    pub more : List Labelled
    pub is : with_inputs forced [] copies ≡ Ok more
    pub same : objects more ≡ objects kept

  pub taken_too : (files copies : List (List ℕ × List ℕ)) → bytes_in copies ≡ bytes_in files → (kept : List Labelled) →
      with_inputs forced [] files ≡ Ok kept → AreTakenToo copies kept
  taken_too files copies e kept h =
      let t = taken forced [] kept files (none_within forced few) h in
      let new : limit_passed forced (objects t.new) ≡ None =
      ap (λ (es : List Labelled). limit_passed forced (objects es)) (sym t.whole) ∙ t.within in
      let k = may_be_taken forced [] copies (objects t.new) (same_are files copies (objects t.new) e t.are) new in
      record { more = k.more; is = k.is; same = k.same ∙ ap objects (sym t.whole) }

  pub none_too : (files copies : List (List ℕ × List ℕ)) → bytes_in copies ≡ bytes_in files → IsErr (with_inputs forced [] files) →
      IsErr (with_inputs forced [] copies)
  none_too files copies e h = by_copies (with_inputs forced [] copies) refl
    where
      not_false : (let a : Rattle.std.proofs.Common.Bool = Rattle.std.proofs.Common.true in
          let b : Rattle.std.proofs.Common.Bool = Rattle.std.proofs.Common.false in a ≡ b) → ⊥
      not_false e = cc

      by_copies : (x : Result (List Labelled) Refusal) → with_inputs forced [] copies ≡ x → IsErr x
      by_copies (Err why) is = refl
      by_copies (Ok more) is =
          let k = taken_too copies files (sym e) more is in
          absurd (not_false (sym h ∙ ap (λ (x : Result (List Labelled) Refusal). is_err x) k.is))

  pub linked_too : (files copies : List (List ℕ × List ℕ)) (o : Choices) → bytes_in copies ≡ bytes_in files →
      (linked forced copies o ≡ linked forced files o) ⊎ (IsErr (with_inputs forced [] files) × IsErr (with_inputs forced [] copies))
  linked_too files copies o e = by_files (with_inputs forced [] files) refl
    where
      by_files : (x : Result (List Labelled) Refusal) → with_inputs forced [] files ≡ x →
          (linked forced copies o ≡ linked forced files o) ⊎ (IsErr (with_inputs forced [] files) × IsErr (with_inputs forced [] copies))
      by_files (Err why) is =
          let none : IsErr (with_inputs forced [] files) = ap (λ (x : Result (List Labelled) Refusal). is_err x) is in
          inr (none, none_too files copies e none)
      by_files (Ok kept) is =
          let k = taken_too files copies e kept is in
          inl (ap (λ (x : Result (List Labelled) Refusal).
          and_then x (λ (kept : List Labelled). refused_as not_linked (link forced (objects kept) o))) k.is
          ∙ ap (λ (cs : List Contents). refused_as not_linked (link forced cs o)) k.same
          ∙ sym (ap (λ (x : Result (List Labelled) Refusal).
          and_then x (λ (kept : List Labelled). refused_as not_linked (link forced (objects kept) o))) is))
