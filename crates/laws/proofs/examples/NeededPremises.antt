-- Premises of the laws that are needed: each law without one of them, and a link for which it is then false.
use Rattle.std.proofs.Common.{◌≡◌, ◌≢◌, ℕ, true, false, List, [], ◌∷◌, length, None, refl, sym, ◌∙◌, ap}
use Rattle.std.proofs.Common.{eq-eqb}
use Rattle.std.specs.{Prelude.eqb, Prelude.Result, Prelude.Ok, Prelude.sum_by, List.AllByRecursion}
use Rattle.aout_core.specs.WellFormed.{IsWellFormed}
use Rattle.aout_core.specs.{declared.symbol.Symbol.Symbol}
use Rattle.aout_core.specs.{Contents.Contents, Strip.stripped}
use Rattle.link_session.specs.{Sessions.IsObject}
use Rattle.tool_options.specs.{declared.options.Keep.TheVariants.{All, NotL, Nothing}, Choices.{Choices, option_fault}}
use Rattle.link_out.specs.{declared.linked.LinkFault.LinkFault, Results.Outcome, function.Link.link}
use Rattle.link_out.specs.{laws.PartialLinks.{KeepsNoMore, IsPartialLink, without_multiples}, laws.Stripping.StripLaw}
use Rattle.laws.specs.{relation.LinkedFrom.IsLinkedFrom}
use Rattle.laws.proofs.examples.Samples.{sized, c_o, d_o, d2_o, x4_o, plain, plain_s, relocatable, relocatable_d}
use Rattle.laws.proofs.examples.Samples.{with_keep}
use Rattle.laws.proofs.examples.{LawExamples.outcome_of, ClauseLemmas.as_object}

-- what is equal counts the same
pub counts : {A : Type 0} (f : A → ℕ) (x y : A) → eqb (f x) (f y) ≡ false → x ≡ y → ⊥
counts f x y apart e = let bad : true ≡ false = sym (eq-eqb (f x) (f y) (ap f e)) ∙ apart in cc

pub all_kept : All ≢ Nothing
all_kept e = cc

abbrev pub link_of : List Contents → Choices → Outcome
link_of os o = outcome_of (link [] os o)

abbrev both : List Contents
both = c_o ∷ d_o ∷ []

pub d_good : IsObject d_o
d_good = as_object d_o refl refl refl refl refl refl refl refl

strip_says : StripLaw → link [] both plain_s ≡ Ok (record (link_of both plain) { file = stripped (link_of both plain).file })
strip_says law = law [] both plain (link_of both plain) refl refl

-- the law of stripping, without its premise that relocation is not kept
strip_needs_no_relocation : ((forced : List (List ℕ)) (os : List Contents) (o : Choices) (x : Outcome) →
    link forced os o ≡ Ok x → link forced os (record o { keep = Nothing }) ≡ Ok (record x { file = stripped x.file })) → ⊥
strip_needs_no_relocation law =
    let kept : Outcome = link_of both relocatable in
    let dropped : Outcome = link_of both (with_keep Nothing relocatable) in
    let e : Ok dropped ≡ Ok (record kept { file = stripped kept.file }) = law [] both relocatable kept refl in
    let same : dropped ≡ record kept { file = stripped kept.file } = cc in
    counts (λ (x : Outcome). x.file.header.flag) dropped (record kept { file = stripped kept.file }) refl same

-- the relation, of lists that are no objects
abbrev pub no_object : Contents
no_object = sized 8 0 0 []

linking_needs_objects : ((forced : List (List ℕ)) (os : List Contents) (o : Choices) (x : Outcome) →
    link forced os o ≡ Ok x → IsLinkedFrom forced os o x) → ⊥
linking_needs_objects law = counts (λ (n : ℕ). n) 0 8 refl (law [] (no_object ∷ []) plain (link_of (no_object ∷ []) plain) refl).holds.text_words

-- the file of a link without relocation is no object
partial_needs_relocation : ((forced : List (List ℕ)) (os : List Contents) (o : Choices) (x : Outcome) → AllByRecursion IsWellFormed os →
    option_fault o.layout o.relocatable o.keep ≡ None → link forced os o ≡ Ok x → IsWellFormed x.file) → ⊥
partial_needs_relocation law = let h = law [] (c_o ∷ []) plain (link_of (c_o ∷ []) plain) (refl, tt) refl refl in cc

-- a partial link alone: its multiples are reported no more, and what it dropped is not kept
c_d2_partial : IsPartialLink [] (d_o ∷ d2_o ∷ []) relocatable (link_of (d_o ∷ d2_o ∷ []) relocatable)
c_d2_partial = record { allowed = refl; relocatable = refl; no_commons = refl; linked = refl }

partial_needs_one_definition : ((forced : List (List ℕ)) (os : List Contents) (by o : Choices) (x : Outcome) → AllByRecursion IsWellFormed os →
    IsPartialLink forced os by x → KeepsNoMore o.keep by.keep → link forced (x.file ∷ []) o ≡ link forced os o) → ⊥
partial_needs_one_definition law =
    let m : Outcome = link_of (d_o ∷ d2_o ∷ []) relocatable in
    counts (λ (r : Result Outcome LinkFault). length (outcome_of r).report.multiples) (link [] (m.file ∷ []) plain)
    (link [] (d_o ∷ d2_o ∷ []) plain) refl
    (law [] (d_o ∷ d2_o ∷ []) relocatable plain m (refl, (refl, tt)) c_d2_partial (λ name h. h))

c_partial : IsPartialLink [] (c_o ∷ []) (with_keep NotL relocatable) (link_of (c_o ∷ []) (with_keep NotL relocatable))
c_partial = record { allowed = refl; relocatable = refl; no_commons = refl; linked = refl }

partial_needs_kept_locals : ((forced : List (List ℕ)) (os : List Contents) (by o : Choices) (x : Outcome) → AllByRecursion IsWellFormed os →
    IsPartialLink forced os by x → without_multiples (link forced (x.file ∷ []) o) ≡ without_multiples (link forced os o)) → ⊥
partial_needs_kept_locals law =
    let m : Outcome = link_of (c_o ∷ []) (with_keep NotL relocatable) in
    counts (λ (r : Result Outcome LinkFault). length (outcome_of r).file.symbols)
    (without_multiples (link [] (m.file ∷ []) plain)) (without_multiples (link [] (c_o ∷ []) plain)) refl
    (law [] (c_o ∷ []) (with_keep NotL relocatable) plain m (refl, tt) c_partial)

-- commons that the partial link laid out: a later link that keeps relocation leaves those of the objects as they are
partial_needs_waiting_commons : ((forced : List (List ℕ)) (os : List Contents) (by o : Choices) (x : Outcome) → AllByRecursion IsWellFormed os →
    option_fault by.layout by.relocatable by.keep ≡ None → by.relocatable ≡ true → link forced os by ≡ Ok x → KeepsNoMore o.keep by.keep →
    without_multiples (link forced (x.file ∷ []) o) ≡ without_multiples (link forced os o)) → ⊥
partial_needs_waiting_commons law =
    let m : Outcome = link_of (x4_o ∷ []) relocatable_d in
    counts (λ (r : Result Outcome LinkFault). sum_by (λ (s : Symbol). s.type_bits) (outcome_of r).file.symbols)
    (without_multiples (link [] (m.file ∷ []) relocatable)) (without_multiples (link [] (x4_o ∷ []) relocatable)) refl
    (law [] (x4_o ∷ []) relocatable_d relocatable m (refl, tt) refl refl refl (λ name h. h))
