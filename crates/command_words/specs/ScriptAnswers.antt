-- What a reader of the lines of a script returns, call by call.
--
-- Each call returns the next line that the bytes give, or why there is none, and that is returned for good. What was read and not
-- used waits, less than a block of it, and the device is asked only if that does not determine the next line.
use Rattle.std.specs.Prelude.{◌≡◌, ◌≢◌, ◌↔◌, ◌⊎◌, ◌+◌, ◌≤◌, ℕ, cond, eqb, List, [], ◌∷◌, ◌++◌, drop, length, Option, Some, None, Result, Ok}
use Rattle.std.specs.{Prelude.{Err, IfSome, IsSome, IsTrue, string_bytes}, Io.KnownBytes.prepend_known}
use Rattle.aout_core.specs.Wires.{Latched}
use Rattle.command_words.specs.Scripts.{Asked, to_add, to_withdraw, for_externals, for_undefined, to_link, for_nothing, ScriptFault}
use Rattle.command_words.specs.Scripts.{long_line, many_lines, and_given, given_after}
use Rattle.command_words.specs.{declared.lines.Line.Line, declared.line_reader.Stop.Stop}
use Rattle.command_words.specs.declared.lines.Line.TheVariants as lines
use Rattle.command_words.specs.declared.line_reader.Stop.TheVariants as stops
use Rattle.texts.specs.Lines.{lines_in}

-- what a line that was given asks for
abbrev pub asked_by : Line → Asked
asked_by (lines.Add path) = to_add (string_bytes path)
asked_by lines.Withdraw = to_withdraw
asked_by lines.Externals = for_externals
asked_by lines.Undefined = for_undefined
asked_by (lines.Link path) = to_link (string_bytes path)
asked_by lines.Bad = for_nothing

-- what a call returns: a line, or why there is none
abbrev pub Answer : Type 0
Answer = Result Line Stop

-- a script that is read: its wire, the bytes that were read and not taken, how many lines it gave, and why it gives no
-- further one, once that is settled
pub record Progress (R : Type 0) : Type 0 where
  pub wire : Latched R
  pub held : List ℕ
  pub line_count : ℕ
  pub settled : Option Stop

-- no line was read yet
abbrev pub begun : {R : Type 0} → Latched R → Progress R
begun wire = record { wire = wire; held = []; line_count = 0; settled = None }

-- what a reader has left: the bytes that were read and not taken, and after them those of its device
abbrev pub unread : {R : Type 0} → (R → Option (List ℕ)) → List ℕ → Latched R → Option (List ℕ)
unread remaining held wire = prepend_known held (remaining wire.device)

-- how many lines an answer gives
abbrev pub lines_of : Answer → ℕ
lines_of (Ok line) = 1
lines_of (Err stop) = 0

-- why there is no line is settled; a line settles nothing but the end after it
abbrev pub Settles : Answer → Option Stop → Type 0
Settles (Ok line) settled = IfSome settled (λ stop. stop ≡ stops.End)
Settles (Err stop) settled = settled ≡ Some stop

-- known bytes stay known, and this holds of those before and after
abbrev pub WhereKnown : Option (List ℕ) → Option (List ℕ) → (List ℕ → List ℕ → Type 0) → Type 0
WhereKnown None new holds = Unit {0}
WhereKnown (Some xs) None holds = ⊥
WhereKnown (Some xs) (Some ys) holds = holds xs ys

-- what comes after the first newline
abbrev pub after_line : List ℕ → List ℕ
after_line [] = []
after_line (b ∷ bs) = cond (eqb b 10) bs (after_line bs)

-- none of the bytes is a newline
abbrev pub HasNone : List ℕ → Type 0
HasNone [] = Unit {0}
HasNone (b ∷ bs) = (b ≢ 10) × HasNone bs

-- there is a whole line, with its newline
abbrev pub HasLine : List ℕ → Type 0
HasLine bytes = HasNone bytes → ⊥

-- after so many lines these bytes determine the next answer, whatever comes after them
abbrev pub NeedsNoMore : ℕ → List ℕ → Type 0
NeedsNoMore n bytes = HasLine bytes ⊎ ((n ≡ 1000000) × (bytes ≢ []))

-- after so many lines there is one more, which asks for this, and it was taken with its newline
abbrev pub TakesLine : ℕ → List ℕ → List ℕ → Asked → Type 0
TakesLine n bytes left asks =
    (left ≡ after_line bytes) × (given_after n (lines_in bytes) ≡ and_given asks (given_after (n + 1) (lines_in left)))

-- a line that names a path, for which memory is needed
abbrev pub NamesPath : Asked → Type 0
NamesPath (to_add path) = Unit {0}
NamesPath (to_link path) = Unit {0}
NamesPath _ = ⊥

-- after so many lines there is none, because of this fault or since the script is at its end
abbrev pub GivesNone : ℕ → List ℕ → Option ScriptFault → Type 0
GivesNone n bytes fault = given_after n (lines_in bytes) ≡ record { lines = []; fault = fault }

-- the reader failed within a line, of which these bytes were taken
abbrev pub FailsInLine : List ℕ → List ℕ → Type 0
FailsInLine bytes left = (front : List ℕ) × HasNone front × (length front ≤ 4096) × (bytes ≡ front ++ left)

-- after so many lines, the answer is the next that these bytes give, and leaves those after it. With a last line that
-- lacks its newline, and with no other, the end is settled. A line that is too long was taken up to the byte that is one too
-- many, and of a line too many one byte
abbrev pub IsNextOf : ℕ → List ℕ → List ℕ → Option Stop → Answer → Type 0
IsNextOf n bytes left settled (Ok line) = TakesLine n bytes left (asked_by line) × (IsSome settled ↔ HasNone bytes)
IsNextOf n bytes left settled (Err stops.End) = (left ≡ []) × GivesNone n bytes None
IsNextOf n bytes left settled (Err stops.LongLine) = (left ≡ drop 4097 bytes) × GivesNone n bytes (Some long_line)
IsNextOf n bytes left settled (Err stops.ManyLines) = (left ≡ drop 1 bytes) × GivesNone n bytes (Some many_lines)
IsNextOf n bytes left settled (Err stops.ReadFailed) = FailsInLine bytes left
IsNextOf n bytes left settled (Err (stops.Memory _)) = (asks : Asked) × NamesPath asks × TakesLine n bytes left asks

-- what a call returned, and what it made of the script: once it is settled that there is no further line, nothing
pub record GivesNext {R : Type 0} (remaining : R → Option (List ℕ)) (old new : Progress R) (answer : Answer) : Type 0 where
  pub stays : IfSome old.settled (λ stop. (answer ≡ Err stop) × (new ≡ old))
  pub next : old.settled ≡ None → WhereKnown (unread remaining old.held old.wire) (unread remaining new.held new.wire)
      (λ bytes left. IsNextOf old.line_count bytes left new.settled answer)
  pub settles : Settles answer new.settled
  pub failed : (answer ≡ Err stops.ReadFailed) ↔ IsTrue new.wire.has_failed
  pub latched : IsTrue old.wire.has_failed → new.wire ≡ old.wire
  pub count : new.line_count ≡ old.line_count + lines_of answer
  pub bound : new.line_count ≤ 1000000
  pub untouched : NeedsNoMore old.line_count old.held → new.wire ≡ old.wire
