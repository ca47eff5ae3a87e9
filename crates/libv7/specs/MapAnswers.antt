-- The map of a link of objects whose bytes are apart, as a call answers it, with the file and the report.
use Rattle.std.specs.Prelude.{◌≡◌, ◌⊎◌, ℕ, ◌+◌, is_some, List, length, Option, Some, None, Result, Ok, Err, IsOk}
use Rattle.aout_core.specs.{Contents.Contents, Names.padded}
use Rattle.link_session.specs.{declared.entry.AddFault.AddFault, Labelled.objects}
use Rattle.tool_options.specs.Choices.{Choices}
use Rattle.link_out.specs.{declared.linked.Linked.Linked, declared.linked.LinkFault.LinkFault, Layouts.Bases, Outcomes.outcome_of}
use Rattle.link_out.specs.{function.Reports.status_of, Steps.refused_as}
use Rattle.link_maps.specs.{Links.ShowsLink, Links.read_inputs, Maps.AreRecords, Maps.IsMapOf}
use Rattle.link_maps.specs.{declared.map.LinkMap.LinkMap, declared.members.Objects.Objects, declared.outcome.Outcome.Outcome}
use Rattle.link_maps.specs.{Members.all_of, Members.cause_of, Records.bit, Records.no_label, Taking.split, Taking.split_of}
use Rattle.libv7.specs.{declared.cause.Refusal.Refusal, declared.output.MapHead.MapHead, declared.output.LinkOutput.LinkOutput}
use Rattle.libv7.specs.{declared.cause.Cause.TheVariants.{NotAdded, NotLinked}}
use Rattle.libv7.specs.{Causes.number_of, LinkAnswers.{numbered, refusal_of}, MemoryWanted.MayRunOutInParts}
use Rattle.libv7.specs.RunAnswers.{RunOutput, map_given, no_head, no_run, results_of, run_output}

-- the objects that these parts begin with, or why one of them has none
abbrev pub objects_each : List (List ℕ) → Result (List Contents) Refusal
objects_each parts = refused_as refusal_of (read_inputs (numbered 0 parts))

-- these objects, with what a session takes of them
pub record AreTaken (forced : List (List ℕ)) (os : List Contents) (all : Objects) : Type 0 where
  pub are : objects (all_of all) ≡ os
  pub names : all.session.forced ≡ forced
  pub taken : split_of all ≡ split forced (all_of all)

-- ---- what becomes of the link

-- where the segments lie, and why there is no link
abbrev pub placed_head : Bases → ℕ → MapHead
placed_head b fault = record no_head {
  text_end = b.text_end;
  data_start = b.data_start;
  data_end = b.data_end;
  bss_start = b.bss_start;
  bss_end = b.bss_end;
  fault = fault;
}

abbrev pub name_or_none : Option (List ℕ) → List ℕ
name_or_none None = no_label
name_or_none (Some name) = padded name

-- 1 for a link that has something to report, 2 for an entry point that is not in text
abbrev pub made_head : Bases → Linked → MapHead
made_head b l = record (placed_head b 0) {
  state = status_of (outcome_of l).report + bit (is_some l.report.entry_bad) 2;
  magic = l.file.header.magic;
  entry_point = l.file.header.entry_point;
  entry_name = name_or_none l.report.entry_bad;
}

abbrev pub linked_head : Bases → Result Linked LinkFault → MapHead
linked_head b (Ok l) = made_head b l
linked_head b (Err fault) = placed_head b (number_of (NotLinked fault))

-- the object that is refused, or what becomes of the link of all
abbrev pub head_by : Option AddFault → ℕ → Option Outcome → MapHead
head_by (Some cause) place outcome = record no_head { place = place; fault = number_of (NotAdded cause) }
head_by None place None = no_head
head_by None place (Some x) = linked_head x.bases x.linked

-- ---- the file and the report

abbrev pub linked_run : ℕ → List (List ℕ) → List Contents → Result Linked LinkFault → RunOutput
linked_run w forced os (Ok l) = run_output w forced os (outcome_of l)
linked_run w forced os (Err fault) = no_run

-- what the link that a map shows gives, of these objects
abbrev pub run_shown : ℕ → List (List ℕ) → List Contents → Option Outcome → RunOutput
run_shown w forced os None = no_run
run_shown w forced os (Some x) = linked_run w forced os x.linked

-- a map of these objects of parts, which shows the link of the parts, and what this link gives
pub record IsMapped (w : ℕ) (forced : List (List ℕ)) (o : Choices) (parts : List (List ℕ)) (os : List Contents) (x : LinkOutput) :
    Type 0 where
  pub all : Objects
  pub map : LinkMap
  pub taken : AreTaken forced os all
  pub is_map : IsMapOf all forced o map
  pub shows : ShowsLink forced o (numbered 0 parts) all map.outcome
  pub records : AreRecords all o map x.records
  pub head : x.head ≡ head_by (cause_of all.refused) (length all.session.entries) map.outcome
  pub run : results_of x
      ≡ record (run_shown w all.session.forced (objects all.session.entries) map.outcome) { map = map_given x.head x.records }

abbrev pub MapsEach : ℕ → List (List ℕ) → Choices → List (List ℕ) → Result (List Contents) Refusal → LinkOutput → Type 0
MapsEach w forced o parts (Ok os) x = IsMapped w forced o parts os x
MapsEach w forced o parts (Err r) x = ⊥

abbrev pub MapsParts : ℕ → List (List ℕ) → Choices → List (List ℕ) → LinkOutput → Type 0
MapsParts w forced o parts x = MapsEach w forced o parts (objects_each parts) x

-- ---- memory

-- memory may run out for forced names, for an object, or for the map of all of them
abbrev pub MayRunOutInMap : List (List ℕ) → List (List ℕ) → ℕ → Type 0
MayRunOutInMap forced parts place = ((place ≡ 0) × IsOk (objects_each parts)) ⊎ MayRunOutInParts objects_each forced parts place
