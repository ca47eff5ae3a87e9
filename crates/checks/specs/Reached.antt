-- Which places of a text are reached, and by what evidence. (the handbook of the PDP-11/70; section 2 of the Unix Programmer's Manual,
-- Seventh Edition; what counts as reached: own choice)
--
-- A place counts the words of the text. Each evidence begins with some places, and leads on from line to line:
--
-- - names show a place if a symbol of text has its address and its word is not relocated, as one of a table of addresses is. They also
--   show it if a line of the sweep begins there that has an operand word from the pc that is relocated so, which no data has;
-- - the flow shows a place if a symbol of text has its address and `jsr r5,csv` is there, with which the Seventh Edition's C compiler
--   begins each function;
-- - the promise that all of the text is instructions shows the beginning of the text, and each place that has the address of a symbol of
--   text.
--
-- Each of them shows the entry point of a linked file. A line leads to the targets of its branch, and to that of its jump or call within
-- the text. `sys fork` leads to the line after it, for the child, and to the word after the next one, for the parent. A line leads to
-- that after it if control comes there: not after a jump, nor if the pc may be written. After `jsr` it does only if the link is the pc, or
-- if it is `jsr r5,csv`: another one may take the words after it. So may `csm`, a trap that is not a system call of the table, and that of
-- `indir`, and `exit` does not come back. An instruction of the commercial set may have operands in the words after it. The flow goes on
-- only where control is sure to come back: not after another call by the pc, as its callee may take words or not return, nor after a
-- branch, which may always be taken, nor after a system call, whose arguments another Unix counts otherwise. By the promise each line
-- leads to that after it, unless a symbol of text is within it or it is of the commercial set.
use Rattle.std.specs.Prelude.{ℕ, zero, suc, ◌+◌, ◌*◌, ◌/◌, ◌%◌, Bool, true, false, not, ◌&&◌, ◌||◌, eqb, nat_lt, if◌then◌else◌, List, []}
use Rattle.std.specs.{Prelude.{◌∷◌, ◌++◌, bytes_eq, codes, length, map, slice_get, slice_index, is_some, Option, Some, None}, List.list_any}
use Rattle.aout_core.specs.{declared.symbol.Symbol.Symbol, declared.symbol.Segment.TheVariants.TextSeg, declared.reloc.Reloc.Reloc}
use Rattle.aout_core.specs.{declared.header.Header.Header, Words.plus, Contents.Contents, WellFormed.masked_type}
use Rattle.aout_core.specs.WellFormed.{segment_number, symbol_number, is_pc_relative}
use Rattle.instructions.specs.{declared.operation.Operation.Operation, declared.mode.Addressing.Addressing}
use Rattle.instructions.specs.declared.operand.Operand.{Operand}
use Rattle.instructions.specs.declared.operand.Operand.TheVariants.{General, Register, Forward, Backward}
use Rattle.instructions.specs.declared.mode.Mode.TheVariants.{Direct, Decrement, DecrementDeferred}
use Rattle.instructions.specs.{declared.call.SystemCall.SystemCall, declared.unix.Decoder.TheVariants.Unix, declared.unix.UnixLine.UnixLine}
use Rattle.instructions.specs.{Modes.{is_pc, addressing, counts_from_pc}, declared.mode.Register.TheVariants.Sp}
use Rattle.instructions.specs.{declared.instruction.Instruction.Instruction, declared.line.Line.TheVariants.{Plain, Decoded}}
use Rattle.instructions.specs.{declared.unix.UnixLine.TheVariants.{Machine, Call}, Instructions.{jumps, word_count_of}}
use Rattle.instructions.specs.{Relocated.is_relocated, Targets.{number, branch_target, branch_back_target}, UnixLines.unix_length}
use Rattle.instructions.specs.declared.operation.Operation.TheVariants as operations
use Rattle.instructions.specs.declared.mode.Addressing.TheVariants as ways
use Rattle.instructions.specs.declared.call.SystemCall.TheVariants as calls
use Rattle.disassemblies.specs.{Lines.unix_line_in, Listed.listed_line, Starts.starts, Starts.is_start}
use Rattle.checks.specs.{declared.evidence.Evidence.Evidence, declared.evidence.Evidence.TheVariants.{Names, Flow, Promise}}

-- the pc itself is an operand
abbrev pub is_pc_itself : Option Operand → Bool
is_pc_itself (Some (General Direct r)) = is_pc r
is_pc_itself (Some (Register r)) = is_pc r
is_pc_itself _ = false

-- the last operand is only read
abbrev pub only_reads : Operation → Bool
only_reads operations.Cmp = true
only_reads operations.Cmpb = true
only_reads operations.Bit = true
only_reads operations.Bitb = true
only_reads operations.Tst = true
only_reads operations.Tstb = true
only_reads _ = false

-- the pc itself is the last operand, or sp is: a quotient goes into two registers
abbrev pub ends_with_pc : Option Operand → Option Operand → Bool
ends_with_pc first None = is_pc_itself first
ends_with_pc first (Some (Register Sp)) = true
ends_with_pc first (Some second) = is_pc_itself (Some second)

-- an operand counts the pc down
abbrev pub counts_down : Option Operand → Bool
counts_down (Some (General Decrement r)) = is_pc r
counts_down (Some (General DecrementDeferred r)) = is_pc r
counts_down _ = false

abbrev pub may_write_pc : Instruction → Bool
may_write_pc i =
    counts_down i.first || (counts_down i.second || (ends_with_pc i.first i.second && not (only_reads i.row.operation)))

-- control comes to the line after an instruction that does not write the pc; to that after `jsr` if it comes back for sure
abbrev pub passes : Operation → Bool → Bool
passes operations.Jsr comes_back = comes_back
passes operations.Br comes_back = false
passes operations.Jmp comes_back = false
passes operations.Rts comes_back = false
passes operations.Rti comes_back = false
passes operations.Rtt comes_back = false
passes operations.Halt comes_back = false
passes operations.Mark comes_back = false
passes operations.Bpt comes_back = false
passes operations.Iot comes_back = false
passes operations.Emt comes_back = false
passes operations.Csm comes_back = false
passes operations.Commercial comes_back = false
passes operations.Sys comes_back = false
passes _ comes_back = true

abbrev pub is_text : Symbol → Bool
is_text s = eqb (masked_type s) (segment_number TextSeg)

-- by its relocation word, if it has one, a word from the pc stays within the text
abbrev pub is_own_distance : Option Reloc → Bool
is_own_distance None = true
is_own_distance (Some r) = eqb (r.0 % 0o20) 0 || eqb (r.0 % 0o20) 3

abbrev pub is_csv : Symbol → Bool
is_csv s = bytes_eq s.name (codes "csv")

abbrev pub is_some_csv : Option Symbol → Bool
is_some_csv None = false
is_some_csv (Some s) = is_csv s

-- a relocation word refers to the external csv, from the pc
abbrev pub is_external_csv : Contents → Option Reloc → Bool
is_external_csv c None = false
is_external_csv c (Some r) = eqb (r.0 % 0o20) 0o11 && is_some_csv (slice_get c.symbols (symbol_number r))

-- csv is a symbol of text, and has this address
abbrev pub is_csv_at : ℕ → Symbol → Bool
is_csv_at address s = is_text s && (eqb s.value address && is_csv s)

-- so does the word before the address next, or it is the distance to csv in this text
abbrev pub refers_to_csv : Contents → Option Reloc → ℕ → ℕ → Bool
refers_to_csv c r next word = is_external_csv c r || (is_own_distance r && list_any (is_csv_at (plus word next)) c.symbols)

-- a word begins `jsr r5` with a call by mode 67
abbrev pub calls_by_r5 : Option ℕ → Bool
calls_by_r5 None = false
calls_by_r5 (Some w) = eqb w 0o4567

-- `jsr r5,csv` is at a place
abbrev pub calls_csv : Contents → ℕ → Bool
calls_csv c place =
    calls_by_r5 (slice_get c.text_words place)
    && refers_to_csv c (slice_get c.text_reloc (place + 1)) (2 * place + 4) (number (slice_get c.text_words (place + 1)))

-- control comes for sure to the line after the instruction at a place
abbrev pub flows : Contents → ℕ → Instruction → Bool
flows c place i = not (may_write_pc i) && passes i.row.operation (is_pc_itself i.first || calls_csv c place)

-- a call returns to the line after it for sure
abbrev pub returns : SystemCall → Bool
returns calls.Exit = false
returns calls.Indir = false
returns _ = true

-- all of the text is instructions
abbrev pub is_promised : Evidence → Bool
is_promised Promise = true
is_promised _ = false

-- the address that a branch at an address goes to
abbrev pub branch_of : ℕ → Option Operand → Option ℕ
branch_of address (Some (Forward v)) = Some (branch_target address v)
branch_of address (Some (Backward v)) = Some (branch_back_target address v)
branch_of address _ = None

abbrev pub is_flow : Evidence → Bool
is_flow Flow = true
is_flow _ = false

-- control may leave by an instruction, and never come to the line after it: by a branch, or by a call whose link is the pc
abbrev pub may_leave : Instruction → Bool
may_leave i = is_some (branch_of 0 i.first) || (is_some (branch_of 0 i.second) || (jumps i.row.operation && is_pc_itself i.first))

-- a symbol of text has an address between these
abbrev pub is_between : ℕ → ℕ → Symbol → Bool
is_between low high s = is_text s && (nat_lt low s.value && nat_lt s.value high)

-- all of the text is instructions, and no symbol of text is within the line at a place
abbrev pub is_followed : Evidence → Contents → ℕ → UnixLine → Bool
is_followed e c place line = is_promised e && not (list_any (is_between (2 * place) (2 * (place + unix_length line))) c.symbols)

-- an instruction may have operands in the words after its line
abbrev pub takes_more : Operation → Bool
takes_more operations.Commercial = true
takes_more _ = false

-- the line at a place leads to the one after it
abbrev pub goes_on : Evidence → Contents → ℕ → UnixLine → Bool
goes_on e c place (Machine (Plain w)) = false
goes_on e c place (Machine (Decoded i a b)) =
    (not (is_flow e && may_leave i) && flows c place i)
    || (is_followed e c place (Machine (Decoded i a b)) && not (takes_more i.row.operation))
goes_on e c place (Call k) = (not (is_flow e) && returns k.call) || is_followed e c place (Call k)

-- the address after the line at a place, if it goes on there
abbrev pub next_of : Evidence → Contents → ℕ → UnixLine → Option ℕ
next_of e c place line = if goes_on e c place line then Some (2 * (place + unix_length line)) else None

-- the address at which the parent goes on, if the call at a place is fork
abbrev pub parent_of : Contents → ℕ → SystemCall → Option ℕ
parent_of c place calls.Fork = if nat_lt (place + 2) (length c.text_words) then Some (2 * (place + 2)) else None
parent_of c place _ = None

-- a word is an address of the text
abbrev pub is_own_address : Option Reloc → Bool
is_own_address None = true
is_own_address (Some r) = eqb (r.0 % 0o20) 2

-- the address that a jump or a call goes to by its operand word; next is the address after the word
abbrev pub jump_by : Option Reloc → ℕ → ℕ → Option Addressing → Option ℕ
jump_by r next n (Some ways.Relative) = if is_own_distance r then Some (plus n next) else None
jump_by r next n (Some ways.Absolute) = if is_own_address r then Some n else None
jump_by r next n _ = None

-- the address that an operand at a place leads to, if the instruction jumps or calls
abbrev pub jump_of : Contents → ℕ → Option Operand → Option ℕ → Option ℕ
jump_of c place (Some (General m r)) word = jump_by (slice_get c.text_reloc place) (2 * place + 2) (number word) (addressing m r)
jump_of c place _ word = None

abbrev pub jump : Contents → Operation → ℕ → Option Operand → Option ℕ → Option ℕ
jump c operation place x word = if jumps operation then jump_of c place x word else None

-- the addresses to which the line at a place leads
abbrev pub leads_by : Evidence → Contents → ℕ → UnixLine → List (Option ℕ)
leads_by e c place (Machine (Plain w)) = []
leads_by e c place (Machine (Decoded i a b)) =
    next_of e c place (Machine (Decoded i a b))
    ∷ branch_of (2 * place) i.first
    ∷ branch_of (2 * place) i.second
    ∷ jump c i.row.operation (place + 1) i.first a
    ∷ jump c i.row.operation (place + 1 + word_count_of i.first) i.second b
    ∷ []
leads_by e c place (Call k) = next_of e c place (Call k) ∷ parent_of c place k.call ∷ []

abbrev pub leads_to : Evidence → Contents → ℕ → List (Option ℕ)
leads_to e c place = leads_by e c place (unix_line_in Unix c place)

-- an address of a text of so many words is new if none of its words has been found at it
abbrev pub is_new : ℕ → List ℕ → ℕ → Bool
is_new count found address = eqb (address % 2) 0 && (nat_lt (address / 2) count && not (list_any (eqb (address / 2)) found))

-- the places that have been found, after an address
abbrev pub visited : ℕ → List ℕ → Option ℕ → List ℕ
visited count found None = found
visited count found (Some a) = if is_new count found a then found ++ a / 2 ∷ [] else found

abbrev pub visited_all : ℕ → List ℕ → List (Option ℕ) → List ℕ
visited_all count found [] = found
visited_all count found (a ∷ rest) = visited_all count (visited count found a) rest

-- a word has a relocation word, and is not relocated
abbrev pub is_still : Option Reloc → Bool
is_still None = false
is_still (Some r) = not (is_relocated (Some r))

-- the evidence begins with a place that has the address of a symbol of text
abbrev pub begins : Evidence → Contents → ℕ → Bool
begins Names c place = is_still (slice_get c.text_reloc place)
begins Flow c place = is_still (slice_get c.text_reloc place) && calls_csv c place
begins Promise c place = true

-- the address of a symbol of text, if the evidence begins there
abbrev pub named : Evidence → Contents → Symbol → Option ℕ
named e c s = if is_text s && begins e c (s.value / 2) then Some s.value else None

-- an operand word counts from the pc, and is relocated so
abbrev pub is_distance : Option Reloc → Option Addressing → Bool
is_distance (Some r) (Some a) = is_relocated (Some r) && (is_pc_relative r && counts_from_pc a)
is_distance _ _ = false

-- an operand has such a word at a place
abbrev pub has_distance : Contents → ℕ → Option Operand → Bool
has_distance c place (Some (General m r)) = is_distance (slice_get c.text_reloc place) (addressing m r)
has_distance c place _ = false

-- the line at a place has such a word
abbrev pub is_shown_by : Contents → ℕ → UnixLine → Bool
is_shown_by c place (Machine (Decoded i a b)) =
    has_distance c (place + 1) i.first || has_distance c (place + 1 + word_count_of i.first) i.second
is_shown_by c place line = false

-- the address of a place at which such a line begins
abbrev pub shown : Contents → ℕ → Option ℕ
shown c place = if is_start (starts Unix c) place && is_shown_by c place (listed_line Unix c place) then Some (2 * place) else None

-- the same of each word from a place on
abbrev pub shown_from : Contents → ℕ → List ℕ → List (Option ℕ)
shown_from c place [] = []
shown_from c place (w ∷ ws) = shown c place ∷ shown_from c (place + 1) ws

-- the entry point of a linked file
abbrev pub entry : Header → Option ℕ
entry h = if eqb h.flag 0 then None else Some h.entry_point

-- the addresses with which the evidence begins and which need no name: of such lines, and the beginning of the text
abbrev pub nameless : Evidence → Contents → List (Option ℕ)
nameless Names c = shown_from c 0 c.text_words
nameless Flow c = []
nameless Promise c = Some 0 ∷ []

-- the addresses with which the evidence begins
abbrev pub evident : Evidence → Contents → List (Option ℕ)
evident e c = entry c.header ∷ (map (named e c) c.symbols ++ nameless e c)

-- one place after another leads to more; at most so many
abbrev pub spread : Evidence → Contents → ℕ → ℕ → List ℕ → List ℕ
spread e c zero next found = found
spread e c (suc more) next found =
    if nat_lt next (length found) then spread e c more (next + 1)
    (visited_all (length c.text_words) found (leads_to e c (slice_index found next))) else found

-- the places that are reached, in the order in which they are found
abbrev pub reached : Evidence → Contents → List ℕ
reached e c = spread e c (length c.text_words) 0 (visited_all (length c.text_words) [] (evident e c))

abbrev pub is_reached : Evidence → Contents → ℕ → Bool
is_reached e c place = list_any (eqb place) (reached e c)
