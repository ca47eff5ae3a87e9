-- What a call answers for a link of objects whose bytes are apart, and the report as a list. (ld(1); the refusals: own choice)
--
-- The link is that of files, by `linked`: each part is an input, labelled by its number. The bytes after an object in its part are
-- ignored, as by ld.
use Rattle.std.specs.Prelude.{ℕ, ◌+◌, List, [], ◌∷◌, ◌++◌, map, option_to_list, Result, Ok}
use Rattle.aout_core.specs.{Contents.Contents, Names.padded}
use Rattle.link_session.specs.Labelled.{Labelled, objects}
use Rattle.tool_options.specs.Choices.{Choices}
use Rattle.link_out.specs.{function.Link.Outcome, Inputs.linked, Inputs.with_inputs, Steps.and_then, Steps.refused_as, Results.ReportNames}
use Rattle.link_out.specs.Inputs as inputs
use Rattle.libv7.specs.{declared.cause.Cause.TheVariants.NotLinked, declared.cause.Refusal.Refusal}
use Rattle.libv7.specs.{declared.parts.ObjectBytes.ObjectBytes, declared.findings.ReportedName.ReportedName, Causes.cause_of_input}

-- the bytes of each object
abbrev pub each_of : List ObjectBytes → List (List ℕ)
each_of parts = map (λ (part : ObjectBytes). part.bytes.now) parts

-- the inputs with these bytes, of which the first has this number
abbrev pub numbered : ℕ → List (List ℕ) → List (List ℕ × List ℕ)
numbered number [] = []
numbered number (bytes ∷ rest) = (number ∷ [], bytes) ∷ numbered (number + 1) rest

abbrev pub number_in : List ℕ → ℕ
number_in [] = 0
number_in (number ∷ numbers) = number

-- a refusal of these inputs, at the number of the part
abbrev pub refusal_of : inputs.Refusal → Refusal
refusal_of (inputs.of_input label cause) = record { cause = cause_of_input cause; place = number_in label }
refusal_of (inputs.not_linked fault) = record { cause = NotLinked fault; place = 0 }

abbrev pub objects_in : Result (List Labelled) inputs.Refusal → Result (List Contents) Refusal
objects_in r = and_then (refused_as refusal_of r) (λ kept. Ok (objects kept))

-- the objects of these parts, or the first that is not taken
abbrev pub taken_each : List (List ℕ) → List (List ℕ) → Result (List Contents) Refusal
taken_each forced parts = objects_in (with_inputs forced [] (numbered 0 parts))

-- their link, or the first refusal
abbrev pub parts_linked : List (List ℕ) → Choices → List (List ℕ) → Result Outcome Refusal
parts_linked forced o parts = refused_as refusal_of (linked forced (numbered 0 parts) o)

-- ---- the report as a list

abbrev pub of_kind : ℕ → List (List ℕ) → List (ℕ × List ℕ)
of_kind kind names = map (λ name. (kind, name)) names

-- the names in the order of the lines, each with its kind. 1: multiply defined, 2: a reserved name that is defined or a common, 3: an
-- entry point that is not in text, 4: undefined
abbrev pub reported_names : ReportNames → List (ℕ × List ℕ)
reported_names f = ((of_kind 1 f.multiples ++ of_kind 2 f.reserved) ++ of_kind 3 (option_to_list f.entry_bad)) ++ of_kind 4 f.undefined

abbrev pub all_findings : ReportNames → List ReportedName
all_findings f = map (λ r. record { name = padded r.1; kind = r.0 }) (reported_names f)
