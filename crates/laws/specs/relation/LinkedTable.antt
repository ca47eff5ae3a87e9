-- The rows of a linked file's symbol table, by the objects and the file's header. (a.out(5), ld(1))
--
-- Each external has one row. A defined name is moved with its segment. Commons that are laid out come one after another, and
-- the three reserved names may be defined by the linker. Any other row is undefined, with the size that is wanted as its value. The
-- locals that are kept are moved with their segments, too.
use Rattle.std.specs.{Prelude.{◌≡◌, ℕ, ◌+◌, ◌%◌, cond, eqb, if◌then◌else◌, List, [], ◌∷◌, map, filter, bytes_eq}, List.flat_map}
use Rattle.aout_core.specs.declared.symbol.Segment.TheVariants.{TextSeg, DataSeg, BssSeg}
use Rattle.aout_core.specs.{declared.header.Header.Header, declared.symbol.Symbol.Symbol, declared.symbol.Segment.Segment}
use Rattle.aout_core.specs.{Contents.Contents, Words.plus, WellFormed.segment_of, Addresses.data_start_in}
use Rattle.link_session.specs.{declared.state.State.State, declared.state.State.TheVariants.Defined}
use Rattle.link_session.specs.{declared.state.State.TheVariants.Wanted, Earlier.with_earlier, Mentions.Mention}
use Rattle.tool_options.specs.Choices.{Choices, lays_commons}
use Rattle.laws.specs.{relation.NameStates.HasState, relation.Relocated.{base_in, move_in, external_type}}
use Rattle.link_out.specs.{KeptSymbols.is_kept_local, ReservedNames.etext, ReservedNames.edata, ReservedNames.end_name}

abbrev pub shown : List ℕ → ℕ → ℕ → Symbol
shown name type_bits value = record { name = name; type_bits = type_bits; value = value }

-- the row of a name that nothing defines: without relocation the linker defines etext, edata and end, the ends of the segments
abbrev pub undefined_row : Header → Choices → List ℕ → Symbol
undefined_row h o name =
    if o.relocatable then shown name 0o40 0
    else (if bytes_eq name etext then shown name 0o42 h.text_size
    else (if bytes_eq name edata then shown name 0o43 (data_start_in h + h.data_size)
    else (if bytes_eq name end_name then shown name 0o44 (data_start_in h + h.data_size + h.bss_size)
    else shown name 0o40 0)))

-- the row of a name in this state, if the objects' bss has so many bytes and a common gets this address
abbrev pub row_for : Header → ℕ → Choices → ℕ → List ℕ → State → Symbol
row_for h bss o at name (Defined segment offset) = shown name (external_type segment) (plus (base_in h bss segment) offset)
row_for h bss o at name (Wanted size) =
    if eqb size 0 then undefined_row h o name
    else (if lays_commons o then shown name 0o44 at
    else shown name 0o40 size)

-- the bytes that a name in this state takes as a common, rounded up to even
abbrev pub space_for : Choices → State → ℕ
space_for o (Defined segment offset) = 0
space_for o (Wanted size) = cond (lays_commons o) (size + size % 2) 0

-- rows in order, whose commons follow one another, from one address up to the other
abbrev pub AreRows : Header → ℕ → Choices → List Mention → ℕ → List Symbol → ℕ → Type 0
AreRows h bss o ms at [] end = at ≡ end
AreRows h bss o ms at (r ∷ rows) end =
    (st : State) × HasState ms r.name st × (r ≡ row_for h bss o at r.name st) × AreRows h bss o ms (at + space_for o st) rows end

-- a local of text, data or bss is moved with its segment
abbrev pub moved_value_in : Header → List Contents → List Contents → Contents → Segment → ℕ → ℕ
moved_value_in h os before k TextSeg value = plus value (move_in h os before k TextSeg)
moved_value_in h os before k DataSeg value = plus value (move_in h os before k DataSeg)
moved_value_in h os before k BssSeg value = plus value (move_in h os before k BssSeg)
moved_value_in h os before k _ value = value

abbrev pub moved_local_in : Header → List Contents → List Contents → Contents → Symbol → Symbol
moved_local_in h os before k s = record s { value = moved_value_in h os before k (segment_of s) s.value }

-- the locals that are kept, object by object, each object's in their order
abbrev pub moved_locals_in : Header → List Contents → Choices → List Symbol
moved_locals_in h os o = flat_map (λ q. map (moved_local_in h os q.0 q.1) (filter (is_kept_local o.keep) q.1.symbols)) (with_earlier [] os)
