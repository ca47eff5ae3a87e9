-- What is reported of a link, and its lines. (ld(1); the order and the exact words: own choice)
use Rattle.std.specs.Prelude.{ℕ, Bool, false, not, ◌&&◌, cond, eqb, if◌then◌else◌, List, [], ◌∷◌, ◌++◌, filter, length, Option, Some, None}
use Rattle.std.specs.{Prelude.codes, List.flat_map}
use Rattle.link_session.specs.{declared.state.State.State, declared.state.State.TheVariants.{Defined, Wanted}}
use Rattle.link_session.specs.{Mentions.{Mention, names_by_first_mention}, States.{state, multiple_names}}
use Rattle.tool_options.specs.NameLists.{is_among}
use Rattle.link_out.specs.{function.Plans.Plan, function.Finals.final, function.Finals.type_of}
pub use Rattle.link_out.specs.ReservedNames.{reserved_names}
pub use Rattle.link_out.specs.Results.{ReportNames}

-- neither defined nor a common
abbrev pub is_undefined : State → Bool
is_undefined (Defined segment offset) = false
is_undefined (Wanted size) = eqb size 0

-- the reserved names that are defined or common
abbrev pub reserved_taken : List Mention → List (List ℕ)
reserved_taken ms = filter (λ n. not (is_undefined (state ms n))) reserved_names

-- a name that is reported as undefined: not one of the three that the linker defines
abbrev pub is_missing : List ℕ → State → Bool
is_missing name s = is_undefined s && not (is_among reserved_names name)

abbrev pub undefined_names : List Mention → List (List ℕ)
undefined_names ms = filter (λ n. is_missing n (state ms n)) (names_by_first_mention ms)

-- the name is an external whose final type is text
abbrev pub is_in_text : Plan → List ℕ → Bool
is_in_text p name = is_among (names_by_first_mention p.mentions) name && eqb (type_of (final p name).bound) 0o42

abbrev pub entry_word : Plan → Option (List ℕ) → ℕ
entry_word p None = 0
entry_word p (Some name) = if is_in_text p name then (final p name).address else 0

abbrev pub entry_found_bad : Plan → Option (List ℕ) → Option (List ℕ)
entry_found_bad p None = None
entry_found_bad p (Some name) = if is_in_text p name then None else Some name

abbrev pub report_of : Plan → ReportNames
report_of p = record {
  multiples = multiple_names p.mentions;
  reserved = reserved_taken p.mentions;
  entry_bad = entry_found_bad p p.choices.entry;
  undefined = cond p.choices.relocatable [] (undefined_names p.mentions);
}

abbrev pub line : List ℕ → List ℕ
line text = text ++ 10 ∷ []

abbrev pub entry_lines : Option (List ℕ) → List ℕ
entry_lines None = []
entry_lines (Some name) = line (name ++ codes ": Entry point not in text")

abbrev pub undefined_lines : List (List ℕ) → List ℕ
undefined_lines [] = []
undefined_lines (n ∷ ns) = line (codes "Undefined:") ++ flat_map line (n ∷ ns)

-- the lines in their order
abbrev pub report_text : ReportNames → List ℕ
report_text f =
    flat_map (λ n. line (n ++ codes ": Multiply defined")) (f.multiples ++ f.reserved)
    ++ (entry_lines f.entry_bad ++ undefined_lines f.undefined)

-- 0 without a line, else 1
abbrev pub status_of : ReportNames → ℕ
status_of f = if eqb (length (report_text f)) 0 then 0 else 1
