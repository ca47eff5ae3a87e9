-- The text of a fault, by its parts.
use Rattle.std.specs.{Prelude.{ℕ, List, [], ◌++◌, codes, Option, Some, None}, Borrow.Bor}
use Rattle.aout_core.specs.FaultTexts.{number_text}
use Rattle.v7tools.specs.declared.fault.wording.FaultText.{FaultText}

-- a path and `: `, if there is a path
abbrev pub path_text : Option (Bor (List ℕ)) → List ℕ
path_text (Some path) = path.now ++ codes ": "
path_text None = []

abbrev pub text_of : FaultText → List ℕ
text_of text = path_text text.path ++ text.words.now ++ number_text text.index
