-- Conversions of files that were read: all objects, or none.
use Rattle.std.specs.Prelude.{if◌then◌else◌, List, [], ◌∷◌, ◌++◌, Option, Some, None, Result, Ok, Err}
use Rattle.aout_core.specs.Contents.{Contents}
use Rattle.gnu_objects.specs.{Clashes.has_clash, Converted.converted, declared.options.Options.Options, declared.refusal.Refusal.Refusal}
use Rattle.v7_from_gnu.specs.{Checks.bytes_of, Jobs.Source, Jobs.Target}

abbrev pub and_then : {A B : Type 0} → Option A → (A → Option B) → Option B
and_then None next = None
and_then (Some x) next = next x

abbrev pub target_with : Source → Result Contents Refusal → Option Target
target_with source (Ok object) = Some (record { source = source; object = object })
target_with source (Err refusal) = None

-- a file and its object, unless it is refused
abbrev pub target_of : Options → Source → Option Target
target_of options source = target_with source (converted options source.bytes)

-- files are converted after others, if none is refused
abbrev pub converted_from : Options → List Target → List Source → Option (List Target)
converted_from options done [] = Some done
converted_from options done (source ∷ sources) =
    and_then (target_of options source) (λ target. converted_from options (done ++ target ∷ []) sources)

-- if no two externals would become one
abbrev pub with_names : List Target → Option (List Target)
with_names targets = if has_clash (bytes_of targets) then None else Some targets

abbrev pub outcome : Options → List Source → Option (List Target)
outcome options sources = and_then (converted_from options [] sources) with_names
