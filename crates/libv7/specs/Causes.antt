-- Why a call has no answer, by the faults of the libraries below, and its number.
--
-- That memory ran out is one cause, `Memory`, and no other has its number, 50. A device is never read. So the faults below that say
-- one of these never come, and have the number 0.
use Rattle.std.specs.Prelude.{ℕ, nat_lt, if◌then◌else◌, Result}
use Rattle.aout_core.specs.declared.object.ObjectFault.{ObjectFault}
use Rattle.aout_core.specs.declared.file.ReadFault.TheVariants as reads
use Rattle.aout_core.specs.declared.object.ObjectFault.TheVariants as objects
use Rattle.gnu_objects.specs.{declared.refusal.Size.Size, declared.refusal.Size.TheVariants.{TextSize, DataSize, BssSize, SymbolSize}}
use Rattle.gnu_objects.specs.declared.refusal.Refusal as gnu
use Rattle.gnu_objects.specs.declared.refusal.Refusal.TheVariants as refusals
use Rattle.link_session.specs.declared.entry.AddFault.{AddFault}
use Rattle.link_session.specs.declared.entry.AddFault.TheVariants as adds
use Rattle.link_out.specs.{declared.linked.LinkFault.LinkFault, Steps.refused_as}
use Rattle.link_out.specs.declared.linked.LinkFault.TheVariants as links
use Rattle.link_out.specs.Inputs as inputs
use Rattle.listings.specs.{Reading.Mistakes, declared.fault.Reason.Reason}
use Rattle.listings.specs.declared.fault.Reason.TheVariants as reasons
use Rattle.libv7.specs.declared.cause.Cause.TheVariants.{NoOption, Excluded, LongName, CutNames, ManyNames, TooLong}
use Rattle.libv7.specs.declared.cause.Cause.TheVariants.{ShortStruct, NoSession, NoWant, SessionOpen, NothingKept, NotKept}
use Rattle.libv7.specs.declared.cause.Cause.TheVariants.{BadFile, BadObject, NotAdded, NotLinked, BadListing, NotConverted, Memory}
use Rattle.libv7.specs.{declared.cause.Cause.Cause, declared.cause.Refusal.Refusal}
use Rattle.libv7.specs.declared.cause.LongPart.TheVariants as parts

abbrev pub cause_of_addition : AddFault → Cause
cause_of_addition (adds.Memory refused) = Memory refused
cause_of_addition fault = NotAdded fault

abbrev pub cause_of_link : LinkFault → Cause
cause_of_link (links.Memory refused) = Memory refused
cause_of_link fault = NotLinked fault

-- why an input of a link is not taken; a part is never opened, and one that is not there has no bytes
abbrev pub cause_of_input : inputs.Cause → Cause
cause_of_input inputs.cannot_open = BadFile reads.ShortHeader
cause_of_input (inputs.bad_file fault) = BadFile fault
cause_of_input (inputs.bad_object fault) = BadObject fault
cause_of_input (inputs.not_added fault) = NotAdded fault

-- the first mistake of a listing, at its line
abbrev pub first_mistake : Mistakes → Refusal
first_mistake mistakes = record { cause = BadListing mistakes.first; place = mistakes.first.line }

-- ---- the number of a cause, and with it a number that is in it: the index of a bad word, the number of a part that is too long, a
-- column, or what a refusal of an object in GNU's form has, of two the first

abbrev pub object_code : ObjectFault → ℕ × ℕ
object_code objects.NotAnObject = (21, 0)
object_code objects.NoRelocation = (22, 0)
object_code (objects.BadRelocation index) = (23, index)
object_code (objects.BadSymbolNumber index) = (24, index)

abbrev pub reason_number : Reason → ℕ
reason_number reasons.Missing = 61
reason_number reasons.NotOctal = 62
reason_number reasons.TooLarge = 63
reason_number reasons.BadName = 64
reason_number (reasons.WrongAddress next) = 65
reason_number (reasons.WrongNumber next) = 66
reason_number reasons.TooManyWords = 67
reason_number reasons.TooManySymbols = 68
reason_number reasons.NoSection = 69
reason_number reasons.UnknownWord = 70
reason_number reasons.OutOfOrder = 71
reason_number reasons.TooLate = 72
reason_number reasons.AfterTable = 73
reason_number reasons.NoMagic = 74
reason_number reasons.OddSize = 75
reason_number reasons.LongName = 76
reason_number reasons.ExtraNumber = 77
reason_number reasons.StrayByte = 78
reason_number reasons.AfterEnd = 79
reason_number reasons.NoEnd = 80

-- 2^32 - 1 for all columns that are further
abbrev pub column_word : ℕ → ℕ
column_word column = if nat_lt column 4294967296 then column else 4294967295

abbrev pub size_number : Size → ℕ
size_number TextSize = 1
size_number DataSize = 2
size_number BssSize = 3
size_number SymbolSize = 4

-- what an object in GNU's form has in common with a file has the number of that
abbrev pub gnu_code : gnu.Refusal → ℕ × ℕ
gnu_code refusals.ShortHeader = (11, 0)
gnu_code (refusals.BadMagic magic) = (12, magic)
gnu_code (refusals.OddSize size) = (13, size_number size)
gnu_code refusals.Truncated = (14, 0)
gnu_code (refusals.BadWord fault) = object_code fault
gnu_code (refusals.TooManySymbols count) = (42, count)
gnu_code (refusals.Memory refused) = (0, 0)
gnu_code refusals.BadStrings = (81, 0)
gnu_code (refusals.Overlay n) = (82, n)
gnu_code (refusals.BadPlace n) = (83, n)
gnu_code (refusals.Stab n) = (84, n)
gnu_code (refusals.Description n) = (85, n)
gnu_code (refusals.Linked entry) = (86, entry)
gnu_code (refusals.AlikeNames n m) = (87, n)
gnu_code (refusals.StabWord n) = (88, n)
gnu_code (refusals.LocalWord n m) = (89, n)

abbrev pub code_of : Cause → ℕ × ℕ
code_of NoOption = (1, 0)
code_of Excluded = (2, 0)
code_of LongName = (3, 0)
code_of CutNames = (4, 0)
code_of ManyNames = (5, 0)
code_of (TooLong parts.Text) = (6, 1)
code_of (TooLong parts.Data) = (6, 2)
code_of (TooLong parts.Bss) = (6, 3)
code_of (TooLong parts.Symbols) = (6, 4)
code_of ShortStruct = (7, 0)
code_of NoSession = (8, 0)
code_of NoWant = (9, 0)
code_of SessionOpen = (10, 0)
code_of (BadFile reads.ShortHeader) = (11, 0)
code_of (BadFile reads.BadMagic) = (12, 0)
code_of (BadFile reads.OddSize) = (13, 0)
code_of (BadFile reads.Truncated) = (14, 0)
code_of (BadFile _) = (0, 0)
code_of (BadObject fault) = object_code fault
code_of (NotAdded adds.TextFull) = (31, 0)
code_of (NotAdded adds.DataFull) = (32, 0)
code_of (NotAdded adds.BssFull) = (33, 0)
code_of (NotAdded adds.NamesFull) = (34, 0)
code_of (NotAdded _) = (0, 0)
code_of NothingKept = (35, 0)
code_of NotKept = (36, 0)
code_of (NotLinked links.DoesNotFit) = (41, 0)
code_of (NotLinked links.TooManySymbols) = (42, 0)
code_of (NotLinked links.SymbolNumber) = (43, 0)
code_of (NotLinked _) = (0, 0)
code_of (BadListing fault) = (reason_number fault.reason, column_word fault.column)
code_of (NotConverted refusal) = gnu_code refusal
code_of (Memory refused) = (50, 0)

abbrev pub number_of : Cause → ℕ
number_of cause = (code_of cause).0

abbrev pub word_of : Cause → ℕ
word_of cause = (code_of cause).1

-- a cause that is in the object, or the name, of this number
abbrev pub at : {A : Type 0} → ℕ → Result A Cause → Result A Refusal
at place r = refused_as (λ cause. record { cause = cause; place = place }) r
