-- What is left in the struct of a caller for the map of a link.
use Rattle.std.specs.Prelude.{Bool, ◌||◌, if◌then◌else◌}
use Rattle.link_maps.specs.{declared.limit_records.LimitRecord.LimitRecord, declared.name_records.NameRecord.NameRecord}
use Rattle.link_maps.specs.{declared.records.ObjectRecord.ObjectRecord, declared.records.UseRecord.UseRecord}
use Rattle.libv7.specs.{RunAnswers.MapGiven, declared.output.MapHead.MapHead}
use Rattle.libv7.specs.{Left.{Room, lacks, room, with_items}, declared.map.MapAnswer.MapAnswer}

-- what is in the struct
pub record MapLeft : Type 0 where
  pub head : MapHead
  pub objects : Room ObjectRecord
  pub names : Room NameRecord
  pub uses : Room UseRecord
  pub limits : Room LimitRecord

abbrev pub left_in : MapAnswer → MapLeft
left_in x = record {
  head = x.head;
  objects = room x.object_count x.objects.now;
  names = room x.name_count x.names.now;
  uses = room x.use_count x.uses.now;
  limits = room x.limit_count x.limits.now;
}

-- a buffer is too short
abbrev pub is_short : MapGiven → MapLeft → Bool
is_short m l = lacks m.objects l.objects || (lacks m.names l.names || (lacks m.uses l.uses || lacks m.limits l.limits))

-- with what becomes of the link and all records, if all fits, or with their numbers alone
abbrev pub with_map : Bool → MapGiven → MapLeft → MapLeft
with_map fits m l = record {
  head = if fits then m.head else l.head;
  objects = with_items fits m.objects l.objects;
  names = with_items fits m.names l.names;
  uses = with_items fits m.uses l.uses;
  limits = with_items fits m.limits l.limits;
}
