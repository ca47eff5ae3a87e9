-- The words that lead to a symbol are among those with its key.
use Rattle.std.proofs.Common.{◌≡◌, ℕ, ◌+◌, ◌-◌, ◌*◌, Bool, true, false, not, ◌&&◌, ◌||◌, cond, eqb, nat_lt, nat_cmp, is_lt, List, [], ◌∷◌, ◌++◌, Option, Some, None}
use Rattle.std.proofs.Common.{refl, sym, ◌∙◌, ap, arith, eq-eqb, if◌then◌else◌}
use Rattle.std.proofs.lemmas.{Bool.true≢false, Bool.Decides.nat_tests, List.Elements.{filter_agree, filter-append}, List.Concat.flat_map-append}
use Rattle.std.specs.{Prelude.{IfSome, slice_get}, List.{filter, flat_map}, List.Sorted.ties}
use Rattle.std.specs.declared.cmp.Ordering.TheVariants.{Less, Equal, Greater}
use Rattle.aout_core.specs.{declared.symbol.Symbol.Symbol, declared.symbol.Segment.Segment, WellFormed.masked_type}
use Rattle.aout_core.specs.declared.part.Part.{Part, TheVariants.Text}
use Rattle.aout_core.specs.declared.symbol.Segment.TheVariants as segments
use Rattle.link_maps.specs.declared.leads.{Aim.Aim, Aim.TheVariants.{Numbered, Addressed}, Lead.Lead}
use Rattle.aout_core.specs.{WellFormed.kind_of, Addresses.target, Contents.Contents, declared.part.Part.TheVariants.Data, Placed.placed_words}
use Rattle.aout_core.specs.{declared.reloc.{Kind.Kind, Reloc.Reloc}, declared.placed.PlacedWord.PlacedWord}
use Rattle.aout_core.specs.declared.reloc.Kind.TheVariants as kinds
use Rattle.instructions.specs.Relocated.{is_relocated}
use Rattle.link_maps.specs.{References.{address_in, label_before, line_of, reference_at}, internal.Keys.{AreByKey, aim_key, has_key, key_of, numbered_key, symbol_key}}
use Rattle.link_maps.specs.Leads.{aim_at, aim_by, aim_of, lead_at, lead_by, leads, leads_of, leads_to, reference_if, references_to}
use Rattle.link_maps.specs.Leads.{if_any, is_own, near_by, near_leads, near_of, near_to, text_aim, text_target, unmoved_aim}
use Rattle.link_maps.specs.declared.references.ReferringWord.{ReferringWord}
use Rattle.instructions.specs.declared.reference.Reference.{Reference}

-- ---- those with the key of a symbol, in the order of keys and in their own

less_by : (less equal : Bool) → is_lt (cond less Less (cond equal Equal Greater)) ≡ less
less_by true equal = refl
less_by false true = refl
less_by false false = refl

equal_by : (a t : ℕ) → eqb a t ≡ (not (nat_lt t a) && not (nat_lt a t))
equal_by a t = grind (arith, nat_tests)

ties_by : (a t : ℕ) → eqb a t ≡ (not (is_lt (nat_cmp t a)) && not (is_lt (nat_cmp a t)))
ties_by a t =
    equal_by a t ∙ sym (ap (λ (b : Bool). not b && not (is_lt (nat_cmp a t))) (less_by (nat_lt t a) (eqb t a))
    ∙ ap (λ (b : Bool). not (nat_lt t a) && not b) (less_by (nat_lt a t) (eqb a t)))

pub in_own_order : (symbols : List Symbol) (leads ordered : List Lead) (number : ℕ) (s : Symbol) → AreByKey symbols leads ordered →
    slice_get symbols number ≡ Some s → filter (has_key symbols number s) ordered ≡ filter (has_key symbols number s) leads
in_own_order symbols leads ordered number s by there =
    let x : Lead = record { part = Text; offset = 0; aim = Numbered number; inside = 0 } in
    let key : key_of symbols x ≡ symbol_key number s = ap (numbered_key number) there in
    let below : Lead → Lead → Bool = λ x y. is_lt (nat_cmp (key_of symbols x) (key_of symbols y)) in
    let alike : (l : Lead) → has_key symbols number s l ≡ ties below x l =
    λ l. ap (eqb (key_of symbols l)) (sym key) ∙ ties_by (key_of symbols l) (key_of symbols x) in
    filter_agree (has_key symbols number s) (ties below x) alike ordered
    ∙ by.stable x
    ∙ sym (filter_agree (has_key symbols number s) (ties below x) alike leads)

-- ---- no other leads to it

-- a word leads to no place without a segment
abbrev pub is_placed : Aim → Bool
is_placed (Addressed segments.Undefined address) = false
is_placed (Addressed segments.Absolute address) = false
is_placed aim = true

by_number : (symbols : List Symbol) (n number : ℕ) (s : Symbol) (b : Bool) → eqb n number ≡ b → slice_get symbols number ≡ Some s →
    eqb (numbered_key n (slice_get symbols n)) (symbol_key number s) ≡ false → b ≡ false
by_number symbols n number s false is there other = refl
by_number symbols n number s true is there other =
    let same : n ≡ number = grind (arith, nat_tests) in
    let key : numbered_key n (slice_get symbols n) ≡ symbol_key number s =
    ap (λ (k : ℕ). numbered_key k (slice_get symbols k)) same ∙ ap (numbered_key number) there in
    absurd (true≢false (sym (eq-eqb (numbered_key n (slice_get symbols n)) (symbol_key number s) key) ∙ other))

by_place : (m n a v number : ℕ) → nat_lt n 2 ≡ false → eqb (65536 * n + a) (if nat_lt m 2 then number else 65536 * m + v) ≡ false →
    (eqb m n && eqb v a) ≡ false
by_place m n a v number placed other = grind (arith, nat_tests)

pub no_lead : (symbols : List Symbol) (aim : Aim) (number : ℕ) (s : Symbol) → is_placed aim ≡ true → slice_get symbols number ≡ Some s →
    eqb (aim_key symbols aim) (symbol_key number s) ≡ false → leads_to aim number s ≡ false
no_lead symbols (Numbered n) number s placed there other = by_number symbols n number s (eqb n number) refl there other
no_lead symbols (Addressed segments.Undefined a) number s placed there other = absurd cc
no_lead symbols (Addressed segments.Absolute a) number s placed there other = absurd cc
no_lead symbols (Addressed segments.TextSeg a) number s placed there other = by_place (masked_type s) 2 a s.value number refl other
no_lead symbols (Addressed segments.DataSeg a) number s placed there other = by_place (masked_type s) 3 a s.value number refl other
no_lead symbols (Addressed segments.BssSeg a) number s placed there other = by_place (masked_type s) 4 a s.value number refl other
no_lead symbols (Addressed segments.Other a) number s placed there other = by_place (masked_type s) 31 a s.value number refl other

-- ---- so all that they give is given by those with the key

module _ {A : Type 0} (f : Lead → List A) (p : Lead → Bool) (others : (l : Lead) → is_placed l.aim ≡ true → p l ≡ false → f l ≡ []) where
  by_one : (l : Lead) (b : Bool) → p l ≡ b → is_placed l.aim ≡ true → flat_map f (cond b (l ∷ []) []) ≡ f l ++ []
  by_one l true is placed = refl
  by_one l false is placed = sym (ap (λ (rs : List A). rs ++ []) (others l placed is))

  pub kept_by : (part : Part) (offset : ℕ) (aim : Option Aim) → IfSome aim (λ a. is_placed a ≡ true) →
      flat_map f (filter p (lead_by part offset aim)) ≡ flat_map f (lead_by part offset aim)
  kept_by part offset None placed = refl
  kept_by part offset (Some aim) placed =
      let l : Lead = record { part = part; offset = offset; aim = aim; inside = 0 } in by_one l (p l) refl placed

  pub kept_both : (xs ys : List Lead) → flat_map f (filter p xs) ≡ flat_map f xs → flat_map f (filter p ys) ≡ flat_map f ys →
      flat_map f (filter p (xs ++ ys)) ≡ flat_map f (xs ++ ys)
  kept_both xs ys first second =
      ap (flat_map f) (filter-append p xs ys)
      ∙ flat_map-append f (filter p xs) (filter p ys)
      ∙ ap (λ (rs : List A). rs ++ flat_map f (filter p ys)) first
      ∙ ap (λ (rs : List A). flat_map f xs ++ rs) second
      ∙ sym (flat_map-append f xs ys)

  pub kept_each : {W : Type 0} (g : W → List Lead) (ws : List W) → ((w : W) → flat_map f (filter p (g w)) ≡ flat_map f (g w)) →
      flat_map f (filter p (flat_map g ws)) ≡ flat_map f (flat_map g ws)
  kept_each g [] each = refl
  kept_each g (w ∷ ws) each = kept_both (g w) (flat_map g ws) (each w) (kept_each g ws each)

-- ---- the words of an object

placed_by : (kind : Option Kind) (r : Reloc) (a : ℕ) → IfSome (aim_by kind r a) (λ x. is_placed x ≡ true)
placed_by None r a = tt
placed_by (Some kinds.Absolute) r a = tt
placed_by (Some kinds.TextSeg) r a = refl
placed_by (Some kinds.DataSeg) r a = refl
placed_by (Some kinds.BssSeg) r a = refl
placed_by (Some kinds.External) r a = refl

placed_text : (target : Option ℕ) → IfSome (text_aim target) (λ x. is_placed x ≡ true)
placed_text None = tt
placed_text (Some a) = refl

placed_unmoved : (starts : List Bool) (o : Contents) (part : Part) (offset w : ℕ) → IfSome (unmoved_aim starts o part offset w) (λ x. is_placed x ≡ true)
placed_unmoved starts o Text offset w = placed_text (text_target o (line_of starts Text offset) offset w)
placed_unmoved starts o Data offset w = tt

one_of : (b : Bool) (x y : Option Aim) → IfSome x (λ x. is_placed x ≡ true) → IfSome y (λ x. is_placed x ≡ true) →
    IfSome (if b then x else y) (λ x. is_placed x ≡ true)
one_of true x y first second = first
one_of false x y first second = second

placed : (starts : List Bool) (o : Contents) (part : Part) (offset : ℕ) (r : Option Reloc) (w : ℕ) →
    IfSome (aim_of starts o part offset r w) (λ x. is_placed x ≡ true)
placed starts o part offset None w = tt
placed starts o part offset (Some r) w =
    let to : ℕ = target r w (address_in o part offset) in
    one_of (is_relocated (Some r)) (aim_by (kind_of r) r to) (unmoved_aim starts o part offset w)
    (placed_by (kind_of r) r to) (placed_unmoved starts o part offset w)

module _ (starts : List Bool) (o : Contents) (number : ℕ) (s : Symbol) (there : slice_get o.symbols number ≡ Some s) where
  abbrev given : Lead → List ReferringWord
  given = reference_if starts o number s

  abbrev p : Lead → Bool
  p = has_key o.symbols number s

  others : (l : Lead) → is_placed l.aim ≡ true → p l ≡ false → given l ≡ []
  others l with_place other =
      ap (λ (b : Bool). if b then reference_at starts o l.part l.offset l.inside ∷ [] else [])
      (no_lead o.symbols l.aim number s with_place there other)

  each : (w : PlacedWord) → flat_map given (filter p (lead_at starts o w)) ≡ flat_map given (lead_at starts o w)
  each w = kept_by given p others w.part (2 * w.number) (aim_at starts o w) (placed starts o w.part (2 * w.number) w.reloc w.word)

  pub references_by_key : (ordered : List Lead) → AreByKey o.symbols (leads starts o) ordered →
      flat_map given (filter p ordered) ≡ references_to starts o number s
  references_by_key ordered by =
      ap (flat_map given) (in_own_order o.symbols (leads starts o) ordered number s by there)
      ∙ kept_both given p others (leads_of starts o Text) (leads_of starts o Data)
      (kept_each given p others (lead_at starts o) (placed_words o Text) each)
      (kept_each given p others (lead_at starts o) (placed_words o Data) each)

  near_one : (l : Lead) (segment : Segment) (a : ℕ) (b : Option Reference) → ((n : ℕ) → is_placed (Addressed segment n) ≡ true) →
      flat_map given (filter p (if_any (near_by o.symbols l segment a b))) ≡ flat_map given (if_any (near_by o.symbols l segment a b))
  near_one l segment a None with_place = refl
  near_one l segment a (Some b) with_place = by_test (eqb b.offset 0 || is_own o.symbols l.part l.offset segment (a - b.offset))
    where
      by_test : (t : Bool) →
          (let found : Option Lead =
          if t then None else Some (record { part = l.part; offset = l.offset; aim = Addressed segment (a - b.offset); inside = b.offset }) in
          flat_map given (filter p (if_any found)) ≡ flat_map given (if_any found))
      by_test true = refl
      by_test false =
          let near : Lead = record { part = l.part; offset = l.offset; aim = Addressed segment (a - b.offset); inside = b.offset } in
          by_one given p others near (p near) refl (with_place (a - b.offset))

  near_each : (l : Lead) (aim : Aim) →
      flat_map given (filter p (if_any (near_of o.symbols aim l))) ≡ flat_map given (if_any (near_of o.symbols aim l))
  near_each l (Numbered n) = refl
  near_each l (Addressed segments.Undefined a) = refl
  near_each l (Addressed segments.Absolute a) = refl
  near_each l (Addressed segments.TextSeg a) = near_one l segments.TextSeg a (label_before o.symbols segments.TextSeg a) (λ n. refl)
  near_each l (Addressed segments.DataSeg a) = near_one l segments.DataSeg a (label_before o.symbols segments.DataSeg a) (λ n. refl)
  near_each l (Addressed segments.BssSeg a) = near_one l segments.BssSeg a (label_before o.symbols segments.BssSeg a) (λ n. refl)
  near_each l (Addressed segments.Other a) = refl

  pub near_by_key : (ordered : List Lead) → AreByKey o.symbols (near_leads starts o) ordered →
      flat_map given (filter p ordered) ≡ near_to starts o number s
  near_by_key ordered by =
      ap (flat_map given) (in_own_order o.symbols (near_leads starts o) ordered number s by there)
      ∙ kept_each given p others (λ l. if_any (near_of o.symbols l.aim l)) (leads starts o) (λ l. near_each l l.aim)
