-- The draft of the code, by the lists that it holds.
use Rattle.listings.specs.{declared.draft.SegmentDraft.SegmentDraft, declared.draft.FileDraft.FileDraft, Drafts.Segment, Drafts.Draft}

abbrev pub segment_of : SegmentDraft → Segment
segment_of s = record { words = s.words.items; relocs = s.relocs.items }

abbrev pub draft_of : FileDraft → Draft
draft_of d = record {
  addresses = d.addresses;
  section = d.section;
  next = d.next;
  magic = d.magic;
  bss = d.bss;
  entry = d.entry;
  unused = d.unused;
  flag = d.flag;
  text_part = segment_of d.text_part;
  data_part = segment_of d.data_part;
  symbols = d.symbols.items;
}
