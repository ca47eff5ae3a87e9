-- What a call of the library leaves in the buffers of its caller, what it answers, and its status.
--
-- Bytes are given at the beginning of a buffer. If a buffer is too short nothing is written, and the answer has the number of bytes
-- that are needed. A refusal is a number, with the place of what is refused.
use Rattle.std.specs.declared.alloc.Global.{Global}
use Rattle.std.specs.Prelude.{◌≡◌, ◌≢◌, ℕ, Bool, ◌||◌, nat_lt, if◌then◌else◌, List, [], ◌++◌, drop, length, Option, Some, None, Vec, Result, Ok, Err}
use Rattle.aout_core.specs.declared.header.Header.{Header}
use Rattle.aout_core.specs.Refusals as memory
use Rattle.libv7.specs.{declared.cause.Cause.Cause, declared.cause.Cause.TheVariants.Memory, declared.cause.Refusal.Refusal}
use Rattle.libv7.specs.{declared.parts.ObjectWord.ObjectWord, declared.parts.SymbolRow.SymbolRow}
use Rattle.libv7.specs.{declared.remarks_call.RemarkRecord.RemarkRecord, RemarkAnswers.{IsRemarked, Output}}
use Rattle.libv7.specs.{declared.places_call.PlaceRecord.PlaceRecord, PlaceAnswers.{AreFound, PlacesMayRunOut, files_in}}
use Rattle.libv7.specs.{Causes.{at, number_of, word_of}, FileAnswers.IsTextOf, ObjectParts.{Pieces, Whole}}
use Rattle.libv7.specs.{declared.answer.Answer.Answer, declared.answer.Counts.Counts, declared.answer.FileHeader.FileHeader}

-- these at the beginning of a buffer
abbrev pub put_in : {A : Type 0} → List A → List A → List A
put_in buffer items = items ++ drop (length items) buffer

-- how many items there are, and a buffer for them
pub record Room (A : Type 0) : Type 0 where
  pub count : ℕ
  pub buffer : List A

abbrev pub room : {A : Type 0} → ℕ → List A → Room A
room count buffer = record { count = count; buffer = buffer }

-- with so many items, which are written if all fits
abbrev pub with_items : {A : Type 0} → Bool → List A → Room A → Room A
with_items fits items r = room (length items) (if fits then put_in r.buffer items else r.buffer)

abbrev pub lacks : {A : Type 0} → List A → Room A → Bool
lacks items r = nat_lt (length r.buffer) (length items)

-- what a refusal is answered by
abbrev pub refused : Refusal → Answer
refused r = record { fault = number_of r.cause; word = word_of r.cause; place = r.place; size = 0; report_size = 0 }

-- a cause that is in no object and no name
abbrev pub of_none : Cause → Refusal
of_none cause = record { cause = cause; place = 0 }

-- so many bytes are given, with this fault: 0, or 60 if they do not fit
abbrev pub given : ℕ → ℕ → ℕ → Answer
given fault size report_size = record { fault = fault; word = 0; place = 0; size = size; report_size = report_size }

-- ---- an answer

-- a refusal is the one that there is, or memory ran out, at a place where it may
pub record IsRefusal {A : Type 0} (asked : Result A Refusal) (MayRunOut : ℕ → Type 0) (r : Refusal) : Type 0 where
  pub same : number_of r.cause ≢ 50 → asked ≡ Err r
  pub memory : number_of r.cause ≡ 50 → (r.cause ≡ Memory memory.refused) × MayRunOut r.place

-- an answer is what is asked for, or a refusal
abbrev pub IsGiven : {A : Type 0} → Result A Refusal → (ℕ → Type 0) → Result A Refusal → Type 0
IsGiven asked MayRunOut (Ok x) = asked ≡ Ok x
IsGiven asked MayRunOut (Err r) = IsRefusal asked MayRunOut r

-- memory may run out, which has no place
abbrev pub Unplaced : Type 0 → ℕ → Type 0
Unplaced MayRunOut place = (place ≡ 0) × MayRunOut

-- what a call leaves, by its answer
pub record Leaves {A L : Type 0} (Given : Result A Refusal → Type 0) (left_by : Result A Refusal → L) (l : L) : Type 0 where
  pub answer : Result A Refusal
  pub given : Given answer
  pub is : l ≡ left_by answer

-- ---- bytes, or their number

-- the status, the answer, and what is in the buffers
pub record Left (B : Type 0) : Type 0 where
  pub status : ℕ
  pub answer : Answer
  pub buffers : B

abbrev pub left : {B : Type 0} → ℕ → Answer → B → Left B
left status answer buffers = record { status = status; answer = answer; buffers = buffers }

-- what is left in a buffer by a call that gives bytes, or records
abbrev pub bytes_left : {A : Type 0} → List A → Result (List A) Refusal → Left (List A)
bytes_left buffer (Err r) = left 2 (refused r) buffer
bytes_left buffer (Ok bytes) =
    if nat_lt (length buffer) (length bytes) then left 2 (given 60 (length bytes) 0) buffer
    else left 0 (given 0 (length bytes) 0) (put_in buffer bytes)

abbrev pub LeavesBytesAt : Result (List ℕ) Refusal → (ℕ → Type 0) → List ℕ → Left (List ℕ) → Type 0
LeavesBytesAt asked MayRunOut buffer l = Leaves (IsGiven asked MayRunOut) (bytes_left buffer) l

-- the same of a call whose refusals have no places
abbrev pub LeavesBytes : Result (List ℕ) Cause → Type 0 → List ℕ → Left (List ℕ) → Type 0
LeavesBytes asked MayRunOut buffer l = LeavesBytesAt (at 0 asked) (Unplaced MayRunOut) buffer l

-- a text of what there is, or why there is none
abbrev pub IsText : {A : Type 0} → (A → List ℕ → Type 0) → Result A Cause → Type 0 → Result (List ℕ) Refusal → Type 0
IsText Is found MayRunOut (Ok text) = IsTextOf Is found text
IsText Is found MayRunOut (Err r) = IsRefusal (at 0 found) (Unplaced MayRunOut) r

-- a text of which only this is known
abbrev pub LeavesText : {A : Type 0} → (A → List ℕ → Type 0) → Result A Cause → Type 0 → List ℕ → Left (List ℕ) → Type 0
LeavesText Is found MayRunOut buffer l = Leaves (IsText Is found MayRunOut) (bytes_left buffer) l

-- what is left by a call that gives a number of bytes
abbrev pub count_left : Result ℕ Refusal → Left (List ℕ)
count_left (Err r) = left 2 (refused r) []
count_left (Ok count) = left 0 (given 0 count 0) []

-- what is left by a call that gives nothing but its status, by the refusal, if there is one
abbrev pub done_by : Option Refusal → Left (List ℕ)
done_by (Some r) = left 2 (refused r) []
done_by None = left 0 (given 0 0 0) []

abbrev pub refusal_in : {A : Type 0} → Result A Refusal → Option Refusal
refusal_in (Ok x) = None
refusal_in (Err r) = Some r

-- ---- remarks

-- what is left by a call that gives bytes and records: both, or neither
abbrev pub remarks_left : List ℕ → List RemarkRecord → Result (Output RemarkRecord) Refusal → Left (List ℕ × List RemarkRecord)
remarks_left buffer records (Err r) = left 2 (refused r) (buffer, records)
remarks_left buffer records (Ok x) =
    if nat_lt (length buffer) (length x.bytes) || nat_lt (length records) (length x.records)
    then left 2 (given 60 (length x.bytes) (length x.records)) (buffer, records)
    else left x.status (given 0 (length x.bytes) (length x.records)) (put_in buffer x.bytes, put_in records x.records)

-- the remarks on these bytes; nothing is refused, but memory may run out
abbrev pub AreRemarks : List ℕ → Result (Output RemarkRecord) Refusal → Type 0
AreRemarks bytes (Ok x) = IsRemarked bytes x
AreRemarks bytes (Err r) = r ≡ of_none (Memory memory.refused)

abbrev pub LeavesRemarks : List ℕ → List ℕ → List RemarkRecord → Left (List ℕ × List RemarkRecord) → Type 0
LeavesRemarks bytes buffer records l = Leaves (AreRemarks bytes) (remarks_left buffer records) l

-- ---- places

-- the places of the object in the program, or why there are none
abbrev pub ArePlacesOf : List ℕ → List ℕ → Result (List PlaceRecord) Refusal → Type 0
ArePlacesOf program object (Ok records) = AreFound program object records
ArePlacesOf program object (Err r) = IsRefusal (files_in program object) (PlacesMayRunOut program object) r

abbrev pub LeavesPlaces : List ℕ → List ℕ → List PlaceRecord → Left (List PlaceRecord) → Type 0
LeavesPlaces program object room l = Leaves (ArePlacesOf program object) (bytes_left room) l

-- ---- parts of a file

-- what taking an object apart leaves: how many words and symbols there are, and these
abbrev pub Parts : Type 0
Parts = Counts × List ObjectWord × List ObjectWord × List SymbolRow

abbrev pub no_counts : Counts
no_counts = record { text = 0; «data» = 0; symbols = 0; bss = 0 }

abbrev pub counts_of : Pieces → Counts
counts_of p = record { text = length p.text; «data» = length p.«data»; symbols = length p.symbols; bss = p.bss }

-- all parts, or none
abbrev pub apart_left : List ObjectWord → List ObjectWord → List SymbolRow → Result Pieces Refusal → Left Parts
apart_left text datas symbols (Err r) = left 2 (refused r) (no_counts, text, datas, symbols)
apart_left text datas symbols (Ok p) =
    if nat_lt (length text) (length p.text) || (nat_lt (length datas) (length p.«data») || nat_lt (length symbols) (length p.symbols))
    then left 2 (given 60 0 0) (counts_of p, text, datas, symbols)
    else left 0 (given 0 0 0) (counts_of p, put_in text p.text, put_in datas p.«data», put_in symbols p.symbols)

-- the words of a header
abbrev pub header_of : Header → FileHeader
header_of h = record {
  magic = h.magic;
  text_size = h.text_size;
  data_size = h.data_size;
  bss_size = h.bss_size;
  symbol_size = h.symbol_size;
  entry_point = h.entry_point;
  unused = h.unused;
  flag = h.flag;
}

abbrev pub no_header : FileHeader
no_header = record { magic = 0; text_size = 0; data_size = 0; bss_size = 0; symbol_size = 0; entry_point = 0; unused = 0; flag = 0 }

-- what reading a file leaves: its header, and the same
abbrev pub read_left : List ObjectWord → List ObjectWord → List SymbolRow → Result Whole Refusal → FileHeader × Left Parts
read_left text datas symbols (Err r) = (no_header, apart_left text datas symbols (Err r))
read_left text datas symbols (Ok f) = (header_of f.header, apart_left text datas symbols (Ok f.parts))

-- ---- the results of the code as those of the definitions

abbrev pub view_of : {A B E : Type 0} → (B → A) → Result B E → Result A E
view_of view (Ok x) = Ok (view x)
view_of view (Err e) = Err e

abbrev pub items : {A : Type 0} → Vec A Global → List A
items v = v.items

abbrev pub bytes_or : {A : Type 0} → Result (Vec A Global) Refusal → Result (List A) Refusal
bytes_or r = view_of items r

abbrev pub bytes_of : Result (Vec ℕ Global) Cause → Result (List ℕ) Refusal
bytes_of r = at 0 (view_of items r)
