-- What v7_run is asked for, what it leaves in the result of its caller, and its status.
--
-- A request and a result begin with their sizes in bytes. A caller may have a shorter result, without the last fields: a link whose
-- report is wanted as lines alone does not need them. So it is with the objects of what is reported. Fields that a result lacks stay as
-- they are, but for those that every answer fills: the fault, its word and its place, and the sizes of file and report.
use Rattle.std.specs.Prelude.{◌≡◌, ℕ, Bool, true, false, ◌||◌, ◌&&◌, not, nat_lt, nat_le, if◌then◌else◌, List, Result, Option, None, Some, Ok, Err}
use Rattle.link_out.specs.Steps.{and_then}
use Rattle.tool_options.specs.Choices.{Choices}
use Rattle.libv7.specs.MapAnswers.{MapsParts, MayRunOutInMap, objects_each}
use Rattle.libv7.specs.RunAnswers.{RunOutput, no_run, parts_run, results_of}
use Rattle.libv7.specs.{declared.cause.Cause.TheVariants.{NoWant, NotKept, ShortStruct}, declared.output.LinkOutput.LinkOutput}
use Rattle.libv7.specs.{declared.cause.Cause.Cause, declared.cause.Refusal.Refusal, declared.findings.ReportedName.ReportedName}
use Rattle.libv7.specs.FileAnswers.{has_bit}
use Rattle.libv7.specs.{LinkAnswers.each_of, MemoryWanted.MayRunOutInLink, declared.places.FindingPlace.FindingPlace}
use Rattle.libv7.specs.{Causes.at, LinkRequests.{choices_in, forced_in}}
use Rattle.libv7.specs.MapLeft.{MapLeft, with_map, left_in as map_left_in, is_short as map_is_short}
use Rattle.libv7.specs.Left.{IsRefusal, Room, given, lacks, of_none, refused, room, with_items}
use Rattle.libv7.specs.{declared.answer.Answer.Answer, declared.requests.Request.Request, declared.run.RunAnswer.RunAnswer}

-- ---- what is asked for

-- a result of this size has the fields of a list, those of places, and all fields
abbrev pub has_list : ℕ → Bool
has_list size = nat_le 96 size

abbrev pub has_places : ℕ → Bool
has_places size = nat_le 120 size

abbrev pub has_map : ℕ → Bool
has_map size = nat_le 288 size

-- a result has the fields that these wants need. Bit 2 is for the report as a list, bit 4 for the objects of what is reported, and bit 8
-- for the map.
abbrev pub is_enough : ℕ → ℕ → Bool
is_enough wants size =
    nat_le 72 size && ((not (has_bit wants 2) || has_list size)
    && ((not (has_bit wants 4) || has_places size) && (not (has_bit wants 8) || has_map size)))

-- why a request cannot be read, by a call that has what wants up to a number stand for
abbrev pub unread : ℕ → Request → ℕ → Option Cause
unread most q size =
    if nat_lt q.size 64 then Some ShortStruct
    else if nat_lt 15 q.wants then Some NoWant
    else if nat_lt most q.wants then Some NotKept
    else if is_enough q.wants size then None
    else Some ShortStruct

-- what there is for a request, unless it cannot be read
abbrev pub or_unread : {A : Type 0} → Option Cause → Result A Refusal → Result A Refusal
or_unread None r = r
or_unread (Some cause) r = Err (of_none cause)

-- the options, then the forced names, of a caller with a result of this size: the first refusal, or both
abbrev pub asked_in : Request → ℕ → Result (Choices × List (List ℕ)) Refusal
asked_in q size =
    or_unread (unread 15 q size)
    (and_then (at 0 (choices_in q.options q.entry.now)) (λ o. and_then (forced_in q.forced.now) (λ names. Ok (o, names))))

abbrev pub results_or : Result LinkOutput Refusal → Result RunOutput Refusal
results_or (Ok x) = Ok (results_of x)
results_or (Err r) = Err r

-- a link of these parts, with a map if it is wanted, or why there is none
abbrev pub LinksParts : Bool → ℕ → List (List ℕ) → Choices → List (List ℕ) → Result LinkOutput Refusal → Type 0
LinksParts true w forced o parts (Ok x) = MapsParts w forced o parts x
LinksParts true w forced o parts (Err r) = IsRefusal (objects_each parts) (MayRunOutInMap forced parts) r
LinksParts false w forced o parts (Ok x) = parts_run w forced o parts ≡ Ok (results_of x)
LinksParts false w forced o parts (Err r) = IsRefusal (parts_run w forced o parts) (MayRunOutInLink forced o parts) r

-- the link by these options and forced names, or why these are refused
abbrev pub AnswersBy : Result (Choices × List (List ℕ)) Refusal → Request → Result LinkOutput Refusal → Type 0
AnswersBy (Ok asked) q r = LinksParts (has_bit q.wants 8) q.wants asked.1 asked.0 (each_of q.objects.now) r
AnswersBy (Err why) q r = r ≡ Err why

abbrev pub IsAnswer : Request → ℕ → Result LinkOutput Refusal → Type 0
IsAnswer q size r = AnswersBy (asked_in q size) q r

-- ---- what is left

-- the status, and what is in the result
pub record RunLeft : Type 0 where
  pub status : ℕ
  pub size : ℕ
  pub fault : ℕ
  pub word : ℕ
  pub place : ℕ
  pub file : Room ℕ
  pub report : Room ℕ
  pub findings : Room ReportedName
  pub places : Room FindingPlace
  pub map : MapLeft

abbrev pub left_in : ℕ → RunAnswer → RunLeft
left_in status x = record {
  status = status;
  size = x.size;
  fault = x.fault;
  word = x.word;
  place = x.place;
  file = room x.file_size x.file.now;
  report = room x.report_size x.report.now;
  findings = room x.finding_count x.findings.now;
  places = room x.place_count x.places.now;
  map = map_left_in x.map;
}

-- a buffer is too short for this
abbrev pub is_short : RunOutput → RunLeft → Bool
is_short r l =
    lacks r.file l.file || (lacks r.report l.report || ((has_list l.size && lacks r.findings l.findings)
    || ((has_places l.size && lacks r.places l.places) || (has_map l.size && map_is_short r.map l.map))))

-- a status and a fault, with what there is, which is written if it fits
abbrev pub answered : Bool → ℕ → Answer → RunOutput → RunLeft → RunLeft
answered fits status said r l = record {
  status = status;
  size = l.size;
  fault = said.fault;
  word = said.word;
  place = said.place;
  file = with_items fits r.file l.file;
  report = with_items fits r.report l.report;
  findings = if has_list l.size then with_items fits r.findings l.findings else l.findings;
  places = if has_places l.size then with_items fits r.places l.places else l.places;
  map = if has_map l.size then with_map fits r.map l.map else l.map;
}

-- all of it, or nothing
abbrev pub output_left : RunOutput → RunLeft → RunLeft
output_left r l = if is_short r l then answered false 2 (given 60 0 0) r l else answered true r.status (given 0 0 0) r l

-- what is left of an answer, in a result that was so
abbrev pub answer_left : Result LinkOutput Refusal → RunLeft → RunLeft
answer_left (Err r) l = answered false 2 (refused r) no_run l
answer_left (Ok x) l = output_left (results_of x) l

-- a status, and a result before and after the call
pub record LeavesRun (q : Request) (old new : RunAnswer) (status : ℕ) : Type 0 where
  pub answer : Result LinkOutput Refusal
  pub given : IsAnswer q old.size answer
  pub is : left_in status new ≡ answer_left answer (left_in 0 old)
