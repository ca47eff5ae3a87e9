-- Where an object is in a program, by what its words show.
use Rattle.std.proofs.Common.{◌≡◌, ℕ, ◌+◌, ◌*◌, ◌<◌, ◌≤◌, zero, suc, List, [], ◌∷◌, ◌++◌, length, map, take, drop, drop-cons, cond, replicate, get_or, Contains}
use Rattle.std.proofs.Common.{Option, Some, None, Result, Ok, Bool, true, false, slice_get, bytes_eq, refl, ap, sym, subst, ◌∙◌, arith, inl, inr}
use Rattle.std.proofs.{lemmas.Bool.cases_eq, lemmas.List.{length-map, length-replicate, map-append, take_more}, lemmas.List.Elements.{Contains-get_or}, ByRecursion.All-push}
use Rattle.std.specs.{Prelude.{◌⊎◌}, List.AllByRecursion}
use Rattle.aout_core.specs.{Contents.Contents, Decoding.decode, declared.file.ReadFault.ReadFault, declared.symbol.Symbol.Symbol}
use Rattle.link_out.specs.Steps.{and_then, refused_as}
use Rattle.origins.specs.{Fits.FitsSomewhere, Telling.{HasSlots, IsDataAt, IsTextAt, Tells}}
use Rattle.origins.proofs.PlaceLemmas.{agrees_told, has_slots, moves_for, number_in, numbered, told_fits, told_values, values_of, values_told}
use Rattle.libv7.specs.{declared.cause.Cause.Cause, declared.cause.Cause.TheVariants.BadFile}
use Rattle.libv7.specs.{declared.places_call.PlaceRecord.PlaceRecord, Causes.at, FileAnswers.object_in}
use Rattle.libv7.specs.PlaceAnswers.{AreFound, AreRecords, AreTexts, AreTextsFor, FitsWith, IsOnly, IsRecord, IsWordOf, files_in, place_record}
use Rattle.libv7.specs.internal.Shown.{HasText, first_number, names_in}

-- ---- the numbers of names

pub first_found : (symbols : List Symbol) (i : ℕ) (s : Symbol) (name : List ℕ) → i < length symbols → s ≡ get_or symbols i s →
    true ≡ bytes_eq s.name name → first_number (drop i symbols) name ≡ 0
first_found symbols i s name lt is e =
    ap (λ (l : List Symbol). first_number l name) (drop-cons symbols i s lt)
    ∙ ap (λ (x : Symbol). cond (bytes_eq x.name name) 0 (1 + first_number (drop (suc i) symbols) name)) (sym is)
    ∙ ap (λ (b : Bool). cond b 0 (1 + first_number (drop (suc i) symbols) name)) (sym e)

pub first_passed : (symbols : List Symbol) (i : ℕ) (s : Symbol) (name : List ℕ) → i < length symbols → s ≡ get_or symbols i s →
    false ≡ bytes_eq s.name name → first_number (drop i symbols) name ≡ 1 + first_number (drop (i + 1) symbols) name
first_passed symbols i s name lt is e =
    ap (λ (l : List Symbol). first_number l name) (drop-cons symbols i s lt)
    ∙ ap (λ (x : Symbol). cond (bytes_eq x.name name) 0 (1 + first_number (drop (suc i) symbols) name)) (sym is)
    ∙ ap (λ (b : Bool). cond b 0 (1 + first_number (drop (suc i) symbols) name)) (sym e)
    ∙ ap (λ (k : ℕ). 1 + first_number (drop k symbols) name) (let is : suc i ≡ i + 1 = omega arith in is)

-- they are those by which `origins` finds places
names_same : (object : Contents) → names_in object ≡ numbered object.symbols
names_same object = each object.symbols
  where
    same : (ss : List Symbol) (s : Symbol) → first_number ss s.name ≡ number_in ss s
    same [] s = refl
    same (x ∷ xs) s = ap (λ (n : ℕ). cond (bytes_eq x.name s.name) 0 (1 + n)) (same xs s)

    each : (ss : List Symbol) → map (λ (s : Symbol). first_number object.symbols s.name) ss ≡ map (number_in object.symbols) ss
    each [] = refl
    each (s ∷ ss) =
        ap (λ (n : ℕ). n ∷ map (λ (s : Symbol). first_number object.symbols s.name) ss) (same object.symbols s)
        ∙ ap (λ (ns : List ℕ). number_in object.symbols s ∷ ns) (each ss)

-- an empty table has a slot for each
pub empty_slots : (object : Contents) (names : List ℕ) (table : List (Option ℕ)) → names ≡ names_in object →
    table ≡ replicate (3 + length names) None → HasSlots names table
empty_slots object names table is empty =
    subst (λ (ns : List ℕ). HasSlots ns table) (sym (is ∙ names_same object)) (has_slots object.symbols table long)
  where
    nothing : Option ℕ
    nothing = None

    long : length table ≡ 3 + length object.symbols
    long =
        let slots : length table ≡ 3 + length names = ap length empty ∙ length-replicate (3 + length names) nothing in
        let symbols : length names ≡ length object.symbols =
        ap length is ∙ length-map object.symbols (λ (s : Symbol). first_number object.symbols s.name) in
        omega (arith, slots, symbols)

text_there : (program object : Contents) (text : ℕ) (s : ℕ → ℕ) → IsTextAt program object (numbered object.symbols) text s →
    IsTextAt program object (names_in object) text s
text_there program object text s is = subst (λ (ns : List ℕ). IsTextAt program object ns text s) (sym (names_same object)) is

-- ---- what the text shows

none_there : (n i v : ℕ) → slice_get (replicate n None) i ≡ Some (Some v) → ⊥
none_there zero i v g = absurd (cc)
none_there (suc n) zero v g = absurd (cc)
none_there (suc n) (suc i) v g = none_there n i v g

pub text_shown : (program object : Contents) (text n : ℕ) (answer : Bool) (old new : List (Option ℕ)) → text < 65536 → old ≡ replicate n None →
    FitsSomewhere program object text → Tells old (IsTextAt program object (names_in object) text) answer new → HasText program object text new
text_shown program object text n answer old new small empty fits tells = record {
  words = tells.words (λ i v g. absurd (none i v g));
  sound = λ s agrees. (tells.sound told s agrees).1;
  all = λ s is. (tells.kept s (λ i v g. absurd (none i v g)) is).1;
} where
  none : (i v : ℕ) → slice_get old i ≡ Some (Some v) → ⊥
  none i v g = none_there n i v (subst (λ (l : List (Option ℕ)). slice_get l i ≡ Some (Some v)) empty g)

  told : answer ≡ true
  told =
      let at_text = (values_told program object text (2 * fits.0) fits.2.0 small fits.2.1).0 in
      (tells.kept (values_of object fits.2.0) (λ i v g. absurd (none i v g)) (text_there program object text (values_of object fits.2.0) at_text)).0

-- ---- whether the data may be at word k

module _ (program object : Contents) (text k : ℕ) (table copy : List (Option ℕ)) where
  pub word_fits : text < 65536 → k ≤ length program.data_words → HasText program object text table →
      Tells table (IsDataAt program object (names_in object) (2 * k)) true copy → FitsWith program object text k
  word_fits small le shown tells =
      let s = told_values copy in
      let later = tells.sound refl s (agrees_told copy (tells.words shown.words)) in
      let at_text = subst (λ (ns : List ℕ). IsTextAt program object ns text s) (names_same object) (shown.sound s later.0) in
      let at_data = subst (λ (ns : List ℕ). IsDataAt program object ns (2 * k) s) (names_same object) later.1 in
      (le, (moves_for program object text (2 * k) s, told_fits program object text (2 * k) s small at_text at_data))

  pub word_refused : text < 65536 → HasText program object text table →
      Tells table (IsDataAt program object (names_in object) (2 * k)) false copy → FitsWith program object text k → ⊥
  word_refused small shown tells fits =
      let s = values_of object fits.1.0 in
      let both = values_told program object text (2 * k) fits.1.0 small fits.1.1 in
      let at_data = subst (λ (ns : List ℕ). IsDataAt program object ns (2 * k) s) (sym (names_same object)) both.1 in
      let kept = (tells.kept s (shown.all s (text_there program object text s both.0)) at_data).0 in absurd (cc)

-- ---- the words before number k

abbrev pub IsSoFar : (ℕ → Type 0) → ℕ → Option ℕ → Type 0
IsSoFar Is k None = (j : ℕ) → j < k → Is j → ⊥
IsSoFar Is k (Some w) = Is w × ((j : ℕ) → j < k → Is j → j ≡ w) × (w < k)

module _ (Is : ℕ → Type 0) (k : ℕ) where
  pub so_far_other : (found : Option ℕ) → IsSoFar Is k found → (Is k → ⊥) → IsSoFar Is (k + 1) found
  so_far_other found before never = by_found found before
    where
      earlier : (j : ℕ) → j < k + 1 → Is j → (j ≡ k) ⊎ (j ≡ k → ⊥) → j < k
      earlier j lt is (inl e) = absurd (never (subst Is e is))
      earlier j lt is (inr ne) = omega (arith, lt, ne)

      by_found : (found : Option ℕ) → IsSoFar Is k found → IsSoFar Is (k + 1) found
      by_found None h = λ j lt is. h j (earlier j lt is (cases_eq j k)) is
      by_found (Some w) h = (h.0, (λ j lt is. h.1 j (earlier j lt is (cases_eq j k)) is), (let lt = h.2 in omega (arith, lt)))

  pub so_far_first : IsSoFar Is k None → Is k → IsSoFar Is (k + 1) (Some k)
  so_far_first before is = (is, (λ j lt h. by_place j lt h (cases_eq j k)), omega arith)
    where
      by_place : (j : ℕ) → j < k + 1 → Is j → (j ≡ k) ⊎ (j ≡ k → ⊥) → j ≡ k
      by_place j lt h (inl e) = e
      by_place j lt h (inr ne) = absurd (before j (omega (arith, lt, ne)) h)

  pub several : (w : ℕ) → IsSoFar Is k (Some w) → Is k → IsOnly Is None
  several w before is = (w, k, before.2, before.0, is)

  pub only_found : (found : Option ℕ) (j : ℕ) → IsSoFar Is k found → ((j : ℕ) → Is j → j < k) → Is j → IsOnly Is found
  only_found None j before below is = absurd (before j (below j is) is)
  only_found (Some w) j before below is = (before.0, λ i h. before.1 i (below i h) h)

-- ---- records

module _ (program object : Contents) (texts : List ℕ) (i : ℕ) where
  text_in : (all : List ℕ) (n : ℕ) → n < length (take 1 all) → Contains all (get_or (take 1 all) n 0)
  text_in [] n lt = absurd (omega (arith, lt))
  text_in (x ∷ xs) zero lt = (0, omega arith, refl)
  text_in (x ∷ xs) (suc n) lt = absurd (omega (arith, lt))

  pub text_fits : AreTexts program object texts → i < length texts → FitsSomewhere program object (get_or texts i 0)
  text_fits are lt = by_text object.text_words are
    where
      by_text : (ws : List ℕ) → AreTextsFor ws program object texts → FitsSomewhere program object (get_or texts i 0)
      by_text [] h =
          let there = text_in h.0 i (subst (λ (l : List ℕ). i < length l) h.2 lt) in
          (h.1.fit (get_or texts i 0) (subst (λ (l : List ℕ). Contains h.0 (get_or l i 0)) (sym h.2) there)).3
      by_text (w ∷ ws) h = (h.fit (get_or texts i 0) (Contains-get_or texts i 0 lt)).3

  record_is : (text : ℕ) (word : Option ℕ) → IsWordOf program object text word →
      IsRecord program object (place_record program text word) × ((place_record program text word).text ≡ text)
  record_is text None is = (record { word = None; data_at = is; same = refl }, refl)
  record_is text (Some w) is = (record { word = Some w; data_at = is; same = refl }, refl)

  -- one record more
  pub records_more : (records : List PlaceRecord) (word : Option ℕ) → i < length texts →
      map (λ (r : PlaceRecord). r.text) records ≡ take i texts → AllByRecursion (IsRecord program object) records →
      IsWordOf program object (get_or texts i 0) word →
      (map (λ (r : PlaceRecord). r.text) (records ++ place_record program (get_or texts i 0) word ∷ []) ≡ take (i + 1) texts)
      × AllByRecursion (IsRecord program object) (records ++ place_record program (get_or texts i 0) word ∷ [])
  records_more records word lt same all is =
      let new = record_is (get_or texts i 0) word is in (
        map-append (λ (r : PlaceRecord). r.text) records (place_record program (get_or texts i 0) word ∷ [])
            ∙ ap (λ (l : List ℕ). l ++ (place_record program (get_or texts i 0) word).text ∷ []) same
            ∙ ap (λ (t : ℕ). take i texts ++ t ∷ []) new.1
            ∙ sym (take_more texts i 0 lt),
        All-push (IsRecord program object) records (place_record program (get_or texts i 0) word) all new.0,
      )

-- ---- of the files that bytes begin with

module _ (program object : List ℕ) where
  pub found : (p o : Contents) (records : List PlaceRecord) → decode program ≡ Ok p → object_in object ≡ Ok o → AreRecords p o records →
      AreFound program object records
  found p o records read input are = record { file = p; input = o; read = both_read p (Ok o) read input; found = are }
    where
      both_read : (p : Contents) (r : Result Contents Cause) → decode program ≡ Ok p → object_in object ≡ r →
          files_in program object ≡ and_then (at 1 r) (λ o. Ok (p, o))
      both_read p r read input =
          ap (λ (q : Result Contents ReadFault). and_then (at 0 (refused_as BadFile q)) (λ p. and_then (at 1 (object_in object)) (λ o. Ok (p, o)))) read
          ∙ ap (λ (q : Result Contents Cause). and_then (at 1 q) (λ o. Ok (p, o))) input
