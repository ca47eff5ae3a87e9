-- The laws of loaded programs at samples, and without one of their premises.
use Rattle.std.proofs.Common.{◌≡◌, ℕ, ◌+◌, false, List, [], ◌∷◌, ◌++◌, drop, refl, ap, arith}
use Rattle.std.specs.{Prelude.slice_index, List.AllByRecursion}
use Rattle.aout_core.specs.Contents.{Contents, IsWord}
use Rattle.link_session.specs.{Sessions.IsObject}
use Rattle.tool_options.specs.{Choices.Choices}
use Rattle.link_out.specs.{Results.Outcome}
use Rattle.laws.specs.{relation.LinkedFrom.IsLinkedFrom}
use Rattle.laws.specs.{Instructions.InstructionsAreThere, Instructions.KeepsLineAt}
use Rattle.laws.proofs.LinkedTheorem.{linked_exactly}
use Rattle.laws.proofs.examples.Samples.{sym as entry, object, _f, d_o, main_o, twice_o, count_o, plain}
use Rattle.laws.proofs.examples.{ClauseLemmas.{as_object}, NeededPremises.{d_good, link_of}, NearLaws.different}
use Rattle.instructions.specs.{Rows.begins, Rows.row_of, Instructions.instruction_of, Alike.is_cut}

abbrev pub forward : List Contents
forward = main_o ∷ twice_o ∷ count_o ∷ []

pub main_good : IsObject main_o
main_good = as_object main_o refl refl refl refl refl refl refl refl

pub twice_good : IsObject twice_o
twice_good = as_object twice_o refl refl refl refl refl refl refl refl

pub count_good : IsObject count_o
count_good = as_object count_o refl refl refl refl refl refl refl refl

pub all_good : AllByRecursion IsObject forward
all_good = (main_good, (twice_good, (count_good, tt)))

pub main_linked : IsLinkedFrom [] forward plain (link_of forward plain)
main_linked = (linked_exactly [] forward plain (link_of forward plain) all_good).0 refl

-- the call of `main.o` is in the program
instruction_says : InstructionsAreThere →
    KeepsLineAt (link_of forward plain).file main_linked.rows forward [] main_o 2 0o4767 (0o177770 ∷ 0o207 ∷ [])
unfolding row_of begins
instruction_says law =
    law [] [] main_o (twice_o ∷ count_o ∷ []) plain (link_of forward plain) all_good
    (omega arith, (omega arith, (omega arith, (omega arith, (omega arith, tt))))) main_linked 2 0o4767 (0o177770 ∷ 0o207 ∷ [])
    refl refl refl

-- a first word that is relocated becomes another one
abbrev named_o : Contents
named_o = object (0 ∷ []) (0o10 ∷ []) [] [] 0 (entry _f 0o40 0 ∷ [])

instruction_needs_a_fixed_first_word : ((forced : List (List ℕ)) (before : List Contents) (k : Contents) (after : List Contents)
    (o : Choices) (x : Outcome) → AllByRecursion IsObject (before ++ k ∷ after) → AllByRecursion IsWord k.text_words →
    (l : IsLinkedFrom forced (before ++ k ∷ after) o x) → (i w : ℕ) (following : List ℕ) → drop i k.text_words ≡ w ∷ following →
    is_cut (instruction_of w) following ≡ false → KeepsLineAt x.file l.rows (before ++ k ∷ after) before k i w following) → ⊥
unfolding row_of begins
instruction_needs_a_fixed_first_word law =
    let os : List Contents = named_o ∷ d_o ∷ [] in
    let good : AllByRecursion IsObject os = (as_object named_o refl refl refl refl refl refl refl refl, (d_good, tt)) in
    let l : IsLinkedFrom [] os plain (link_of os plain) = (linked_exactly [] os plain (link_of os plain) good).0 refl in
    let h = law [] [] named_o (d_o ∷ []) plain (link_of os plain) good (omega arith, tt) l 0 0 [] refl refl in
    different 4 0 refl (ap (λ (ws : List ℕ). slice_index ws 0) h.there)
