-- The words of text and data in the linked file, computed word by word. (ld(1))
use Rattle.std.specs.{Prelude.ℕ, Prelude.List, Prelude.[], Prelude.map, List.flat_map}
use Rattle.aout_core.specs.{declared.symbol.Segment.Segment, declared.reloc.Reloc.Reloc, Contents.Contents, Words.plus, Words.minus}
use Rattle.link_session.specs.{Cells.{Referent, to_segment, to_name, referent, words_of, if_pc}, Earlier.with_earlier, Starts.shift}
use Rattle.link_out.specs.{Layouts.Bases, Layouts.base, function.Plans.Plan, function.Finals.final}

-- how far a segment of an object moves; absolute addresses stay
abbrev pub move : Bases → List Contents → Contents → Segment → ℕ
move b earlier o segment = plus (base b segment) (shift earlier o segment)

-- what is added to a word for what it refers to
abbrev pub referent_move : Plan → List Contents → Contents → Referent → ℕ
referent_move p earlier o (to_segment segment) = move p.at earlier o segment
referent_move p earlier o (to_name name) = (final p name).address

abbrev pub final_word : Plan → List Contents → Contents → Segment → ℕ → Reloc → ℕ
final_word p earlier o segment w r =
    minus (plus w (referent_move p earlier o (referent o r))) (if_pc r (move p.at earlier o segment))

-- the final words of one segment of all objects
abbrev pub final_words : Plan → Segment → List Contents → List ℕ
final_words p segment os =
    flat_map (λ q. map (λ wr. final_word p q.0 q.1 segment wr.0 wr.1) (words_of segment q.1)) (with_earlier [] os)
