-- What follows from the laws of linking and of places alone: no link is computed here.
use Rattle.std.proofs.Common.{◌≡◌, ℕ, zero, suc, true, false, List, [], ◌∷◌, Some, None, refl, sym, ◌∙◌, subst, arith, inl, inr}
use Rattle.std.proofs.lemmas.Slice.Eq.{bytes_eq-Decides}
use Rattle.std.specs.{Prelude.{Ok, slice_get, bytes_eq}, List.AllByRecursion}
use Rattle.aout_core.specs.{declared.symbol.Symbol.Symbol, declared.symbol.Segment.Segment, declared.symbol.Segment.TheVariants.TextSeg}
use Rattle.aout_core.specs.{declared.symbol.Segment.TheVariants.DataSeg, declared.reloc.Reloc.Reloc, Contents.Contents}
use Rattle.link_session.specs.{declared.state.State.TheVariants.{Defined, Wanted}, Mentions.Mention, Sessions.IsObject}
use Rattle.link_out.specs.{ReservedNames.{etext, edata, end_name}, Results.Outcome, function.Link.link}
use Rattle.origins.specs.Fits.{IsPlace}
use Rattle.laws.specs.Origins.{EachIsFound}
use Rattle.laws.specs.{relation.NameStates.{IsFirst, IsWanted}, relation.Relocated.IsRelocated, relation.LinkedWords.AreRelocated}
use Rattle.laws.specs.{relation.Reported.IsReported, relation.LinkedFrom.{IsLinkedFrom, LinkedExactly}}
use Rattle.laws.proofs.examples.Samples.{sym as entry_of, header, _f, L1, c_o, d_o, plain}
use Rattle.laws.proofs.examples.ClauseLemmas.{one_of_two, only_word, no_word, as_object, at_most_so}

two_words : (P : ℕ → ℕ → Reloc → Type 0) (v w : ℕ) (q r : Reloc) → P 0 v q → P 1 w r → (i u : ℕ) (s : Reloc) →
    slice_get (v ∷ w ∷ []) i ≡ Some u → slice_get (q ∷ r ∷ []) i ≡ Some s → P i u s
two_words P v w q r first second zero u s e f =
    let word : v ≡ u = cc in
    let reloc : q ≡ s = cc in
    subst (λ (n : ℕ). P 0 n s) word (subst (λ (t : Reloc). P 0 v t) reloc first)
two_words P v w q r first second (suc i) u s e f = only_word (λ j. P (suc j)) w r second i u s e f

-- a call of a name that a later object defines

abbrev os : List Contents
os = c_o ∷ d_o ∷ []

abbrev rows : List Symbol
rows = entry_of _f 34 6 ∷ []

abbrev forward : Outcome
forward = record {
  file = record {
    header = header 263 8 0 0 24 0 1;
    text_words = 0o4767 ∷ 2 ∷ 0o240 ∷ 0o207 ∷ [];
    data_words = [];
    text_reloc = [];
    data_reloc = [];
    symbols = entry_of L1 2 0 ∷ rows;
  };
  report = record { multiples = []; reserved = []; entry_bad = None; undefined = [] };
}

-- what the objects say of the name
abbrev said : List Mention
said = record { name = _f; says = Wanted 0 } ∷ (record { name = _f; says = Defined TextSeg 6 } ∷ [])

text_relocated : AreRelocated forward.file rows os TextSeg
text_relocated =
    one_of_two (λ before k. (i w : ℕ) (r : Reloc) → slice_get k.text_words i ≡ Some w →
    slice_get k.text_reloc i ≡ Some r → IsRelocated forward.file rows os before k TextSeg i w r) c_o d_o
    (two_words (λ i w r. IsRelocated forward.file rows os [] c_o TextSeg i w r) 0o4767 0o177774 (record { 0 = 0 }) (record { 0 = 0o11 })
    (record { added = 0; is = refl; word = refl })
    (record {
      added = 6;
      is = record { symbol = entry_of _f 0o40 0; row = entry_of _f 34 6; named = refl; found = refl; gives = refl };
      word = refl;
    }))
    (two_words (λ i w r. IsRelocated forward.file rows os (c_o ∷ []) d_o TextSeg i w r) 0o240 0o207 (record { 0 = 0 }) (record { 0 = 0 })
    (record { added = 0; is = refl; word = refl })
    (record { added = 0; is = refl; word = refl }))

data_relocated : AreRelocated forward.file rows os DataSeg
data_relocated =
    one_of_two (λ before k. (i w : ℕ) (r : Reloc) → slice_get k.data_words i ≡ Some w →
    slice_get k.data_reloc i ≡ Some r → IsRelocated forward.file rows os before k DataSeg i w r) c_o d_o
    (λ i w r ew er. absurd (no_word [] refl i w ew))
    (λ i w r ew er. absurd (no_word [] refl i w ew))

-- the second mention defines the name, and it is the first that does
first_same : (segment first : Segment) (offset at : ℕ) → Defined TextSeg 6 ≡ Defined segment offset →
    IsFirst said _f first at → Defined first at ≡ Defined segment offset
first_same segment first offset at e (inl h) = let bad : Wanted 0 ≡ Defined first at = h.1 in absurd (cc)
first_same segment first offset at e (inr h) = second h.1
  where
    second : IsFirst (record { name = _f; says = Defined TextSeg 6 } ∷ []) _f first at → Defined first at ≡ Defined segment offset
    second (inl g) = let is : Defined TextSeg 6 ≡ Defined first at = g.1 in sym is ∙ e
    second (inr g) = absurd g.1

not_said : (name : List ℕ) → bytes_eq name _f ≡ false → IsWanted said name 0
not_said name apart = record {
  undefined = ((λ same segment offset e. other same), ((λ same segment offset e. other same), tt));
  most = ((λ same n e. absurd (other same)), ((λ same n e. absurd (other same)), tt));
  least = λ n h. omega arith;
}
  where
    other : name ≡ _f → ⊥
    other same = let bad : false ≡ true = sym apart ∙ (bytes_eq-Decides name _f).1 same in cc

reported : IsReported [] os plain forward
reported = record {
  others = [];
  picked =
      inr (
        (λ h. let bad : Wanted 0 ≡ Defined h.segment h.offset = h.says in absurd (cc)),
        inr ((λ h. h.differ (first_same h.segment h.first h.offset h.at h.says h.is)), refl),
      );
  multiples = refl;
  reserved = inr ((λ h. h (not_said etext refl)), inr ((λ h. h (not_said edata refl)), inr ((λ h. h (not_said end_name refl)), refl)));
  undefined = λ r. inr ((λ h. h.0.undefined.1.0 refl TextSeg 6 refl), refl);
  none = λ r. absurd (cc);
}

forward_linked : IsLinkedFrom [] os plain forward
forward_linked = record {
  rows = rows;
  holds = record { text = refl; «data» = refl; bss = at_most_so 0 0 refl; text_words = refl; data_words = refl };
  header = record {
    magic = refl;
    symbol_size = refl;
    unused = refl;
    flag = refl;
    short = at_most_so 8 65535 refl;
    few = at_most_so 2 5461 refl;
  };
  names = refl;
  are_rows = (
    Defined TextSeg 6,
    inr ((λ same segment offset e. let bad : Wanted 0 ≡ Defined segment offset = e in absurd (cc)), inl (refl, refl)),
    refl,
    refl,
  );
  table = refl;
  text = text_relocated;
  «data» = data_relocated;
  text_relocs = refl;
  data_relocs = refl;
  text_kept = λ r. absurd (cc);
  data_kept = λ r. absurd (cc);
  entry = (refl, refl);
  report = reported;
}

are_objects : AllByRecursion IsObject os
are_objects = (
  as_object c_o refl refl refl refl refl refl refl refl,
  (as_object d_o refl refl refl refl refl refl refl refl, tt),
)

linking_says : LinkedExactly → link [] os plain ≡ Ok forward
linking_says exactly = (exactly [] os plain forward are_objects).1 forward_linked

-- the second object is in the file at 4, and is not at 0

origin_says : EachIsFound → IsPlace forward.file d_o 4
origin_says found = found [] os plain forward are_objects forward_linked (c_o ∷ []) d_o [] refl

same_word : (v w : ℕ) → Some v ≡ Some w → v ≡ w
same_word v w e = cc

not_at_0 : IsPlace forward.file d_o 0 → ⊥
not_at_0 is =
    let word = same_word 0o4767 0o240 (is.3.2.1.text_words 0 0o240 (record { 0 = 0 }) refl refl) in
    absurd (omega (arith, word))
