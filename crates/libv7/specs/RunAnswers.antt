-- What a call answers for a link of objects whose bytes are apart: the file, the report as lines and as a list, and the objects of what is
-- reported. (ld(1))
use Rattle.std.specs.Prelude.{ℕ, Bool, if◌then◌else◌, List, [], Result, Ok}
use Rattle.aout_core.specs.{Contents.Contents, Encoding.encoding}
use Rattle.tool_options.specs.Choices.{Choices}
use Rattle.link_maps.specs.{declared.limit_records.LimitRecord.LimitRecord, declared.name_records.NameRecord.NameRecord}
use Rattle.link_maps.specs.{declared.map_records.MapRecords.MapRecords, declared.records.ObjectRecord.ObjectRecord}
use Rattle.link_maps.specs.{declared.records.UseRecord.UseRecord, Records.no_label}
use Rattle.link_out.specs.{function.Link.Outcome, function.Link.link, function.Reports.report_text, function.Reports.status_of}
use Rattle.link_out.specs.{Results.ReportNames, Steps.and_then, Steps.refused_as}
use Rattle.libv7.specs.{declared.places.FindingPlace.FindingPlace, FindingPlaces.finding_places, declared.cause.Cause.Cause}
use Rattle.libv7.specs.{declared.cause.Cause.TheVariants.NotLinked, declared.cause.Refusal.Refusal}
use Rattle.libv7.specs.{declared.findings.ReportedName.ReportedName, declared.output.LinkOutput.LinkOutput, declared.output.MapHead.MapHead}
use Rattle.libv7.specs.{FileAnswers.has_bit, LinkAnswers.{all_findings, parts_linked, taken_each}}

-- what becomes of a link, and the records of its map
pub record MapGiven : Type 0 where
  pub head : MapHead
  pub objects : List ObjectRecord
  pub names : List NameRecord
  pub uses : List UseRecord
  pub limits : List LimitRecord

abbrev pub map_given : MapHead → MapRecords → MapGiven
map_given head r =
    record { head = head; objects = r.objects.items; names = r.names.items; uses = r.uses.items; limits = r.limits.items }

abbrev pub no_head : MapHead
no_head = record {
  text_end = 0;
  data_start = 0;
  data_end = 0;
  bss_start = 0;
  bss_end = 0;
  place = 0;
  fault = 0;
  state = 0;
  magic = 0;
  entry_point = 0;
  entry_name = no_label;
}

abbrev pub no_map : MapGiven
no_map = record { head = no_head; objects = []; names = []; uses = []; limits = [] }

-- the status, the bytes of the linked file, and what is wanted: the bytes of the lines of its report, a list, the objects of what the
-- list has, and the map
pub record RunOutput : Type 0 where
  pub status : ℕ
  pub file : List ℕ
  pub report : List ℕ
  pub findings : List ReportedName
  pub places : List FindingPlace
  pub map : MapGiven

-- a link that is not made gives nothing, and why is what there is to report
abbrev pub no_run : RunOutput
no_run = record { status = 1; file = []; report = []; findings = []; places = []; map = no_map }

-- the lines of a report, its list, and the objects of what it has in a link of these, if they are wanted
abbrev pub lines_if : Bool → ReportNames → List ℕ
lines_if is_wanted f = if is_wanted then report_text f else []

abbrev pub findings_if : Bool → ReportNames → List ReportedName
findings_if is_wanted f = if is_wanted then all_findings f else []

abbrev pub places_if : Bool → List (List ℕ) → List Contents → ReportNames → List FindingPlace
places_if is_wanted forced os f = if is_wanted then finding_places forced os f else []

-- what is wanted is a number: bit 1 is for the lines of the report, bit 2 for a list, bit 4 for the objects of what that has, and bit 8
-- for the map, which is given elsewhere
abbrev pub output_with : ℕ → List FindingPlace → Outcome → RunOutput
output_with w places x = record {
  status = status_of x.report;
  file = encoding x.file;
  report = lines_if (has_bit w 1) x.report;
  findings = findings_if (has_bit w 2) x.report;
  places = places;
  map = no_map;
}

abbrev pub run_output : ℕ → List (List ℕ) → List Contents → Outcome → RunOutput
run_output w forced os x = output_with w (places_if (has_bit w 4) forced os x.report) x

abbrev pub results_of : LinkOutput → RunOutput
results_of x = record {
  status = x.status;
  file = x.file.items;
  report = x.report.items;
  findings = x.findings.items;
  places = x.places.items;
  map = map_given x.head x.records;
}

-- the link of these objects
abbrev pub objects_run : ℕ → List (List ℕ) → Choices → List Contents → Result RunOutput Cause
objects_run w forced o os = and_then (refused_as NotLinked (link forced os o)) (λ x. Ok (run_output w forced os x))

-- the objects, then the link: the first refusal, or what is given
abbrev pub parts_run : ℕ → List (List ℕ) → Choices → List (List ℕ) → Result RunOutput Refusal
parts_run w forced o parts =
    and_then (taken_each forced parts) (λ os. and_then (parts_linked forced o parts) (λ x. Ok (run_output w forced os x)))
