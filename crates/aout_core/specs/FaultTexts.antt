-- What is said of a file that is refused.
use Rattle.std.specs.Prelude.{ℕ, List, [], ◌++◌, codes, decimal, Option, Some, None}
use Rattle.aout_core.specs.declared.object.ObjectFault.TheVariants.{NotAnObject, NoRelocation, BadRelocation, BadSymbolNumber}
use Rattle.aout_core.specs.{declared.file.ReadFault.ReadFault, declared.object.ObjectFault.ObjectFault}
use Rattle.aout_core.specs.declared.file.ReadFault.TheVariants as reads

abbrev pub read_text : ReadFault → List ℕ
read_text reads.ShortHeader = codes "short header"
read_text reads.BadMagic = codes "bad magic number"
read_text reads.OddSize = codes "odd size"
read_text reads.Truncated = codes "truncated"
read_text (reads.Device _) = codes "read error"
read_text (reads.Memory _) = codes "no memory"

-- what is said before the number of a word
abbrev pub object_words : ObjectFault → List ℕ
object_words NotAnObject = codes "not an object"
object_words NoRelocation = codes "no relocation"
object_words (BadRelocation n) = codes "bad relocation at word "
object_words (BadSymbolNumber n) = codes "bad symbol number at word "

-- the word that is bad, counted from 0
abbrev pub bad_word : ObjectFault → Option ℕ
bad_word (BadRelocation n) = Some n
bad_word (BadSymbolNumber n) = Some n
bad_word _ = None

abbrev pub number_text : Option ℕ → List ℕ
number_text (Some n) = decimal n
number_text None = []

abbrev pub object_text : ObjectFault → List ℕ
object_text fault = object_words fault ++ number_text (bad_word fault)
