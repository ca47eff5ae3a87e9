-- Mentions that agree with the first definition of their name, and names that are not multiply defined.
use Rattle.std.proofs.Common.{◌≡◌, ℕ, true, false, List, [], ◌∷◌, map, Option, Some, None, refl, rules}
use Rattle.std.proofs.lemmas.Slice.Eq.{bytes_eq-Decides}
use Rattle.std.specs.{Prelude.bytes_eq, Prelude.filter, List.AllByRecursion}
use Rattle.aout_core.specs.{declared.symbol.Segment.Segment}
use Rattle.link_session.specs.{States.{Definition, definition_by, first_definition, differs}, declared.state.State.State}
use Rattle.link_session.specs.{declared.state.State.TheVariants.Defined, Mentions.Mention}
use Rattle.tool_options.specs.NameLists.{is_among}

-- a mention that says what the first definition of its name among all mentions says
abbrev pub AgreesIn : List Mention → Mention → Type 0
AgreesIn all m = differs (first_definition all m.name) m.says ≡ false

-- no multiples: every mention agrees
pub none_differ : (all ms : List Mention) →
    map (λ m. m.name) (filter (λ m. differs (first_definition all m.name) m.says) ms) ≡ [] → AllByRecursion (AgreesIn all) ms
none_differ all [] h = tt
none_differ all (m ∷ ms) h = search (rules, none_differ all ms)

-- what agrees with a first definition is that definition
pub agrees_with : (first : Option Definition) (segment : Segment) (offset : ℕ) →
    differs first (Defined segment offset) ≡ false → first ≡ Some (segment, offset)
agrees_with first segment offset h = search rules

-- each mention of a name that is none of the multiples agrees
pub not_multiple : (all ms : List Mention) (name : List ℕ) →
    is_among (map (λ m. m.name) (filter (λ m. differs (first_definition all m.name) m.says) ms)) name ≡ false →
    AllByRecursion (λ m. bytes_eq name m.name ≡ true → AgreesIn all m) ms
not_multiple all [] name h = tt
not_multiple all (m ∷ ms) name h = search (rules, not_multiple all ms name)

-- of such a name there is one definition
pub one_definition : (all ms : List Mention) (name : List ℕ) (d e : Definition) →
    AllByRecursion (λ m. bytes_eq name m.name ≡ true → AgreesIn all m) ms →
    first_definition ms name ≡ Some d → first_definition all name ≡ Some e → Some e ≡ Some d
one_definition all [] name d e h f g = absurd (cc)
one_definition all (m ∷ ms) name d e h f g = search (rules, bytes_eq-Decides, agrees_with, one_definition all ms name d e h.1)

-- of a name without definition no mention defines it
pub none_defines : (ms : List Mention) (name : List ℕ) → first_definition ms name ≡ None →
    AllByRecursion (λ m. bytes_eq name m.name ≡ true → definition_by m.says ≡ None) ms
none_defines [] name h = tt
none_defines (m ∷ ms) name h = search (rules, none_defines ms name)

-- a mention that only wants a name never makes it multiply defined
pub no_definition : (first : Option Definition) (s : State) → definition_by s ≡ None → differs first s ≡ false
no_definition first s h = search rules

-- what holds of the mentions of each name holds of each mention
pub of_each_name : (P : List ℕ → Mention → Type 0) (ms : List Mention) →
    ((name : List ℕ) → AllByRecursion (P name) ms) → AllByRecursion (λ m. P m.name m) ms
of_each_name P [] h = tt
of_each_name P (m ∷ ms) h = ((h m.name).0, of_each_name P ms (λ n. (h n).1))

-- where each mention agrees there are none
pub none_kept : (all ms : List Mention) → AllByRecursion (AgreesIn all) ms →
    filter (λ m. differs (first_definition all m.name) m.says) ms ≡ []
none_kept all [] h = refl
none_kept all (m ∷ ms) h = rw h.0 (none_kept all ms h.1)

-- what a definition says of itself agrees
pub own_again : (s : State) (first : Option Definition) → first ≡ definition_by s → differs first s ≡ false
own_again s first e = search rules
