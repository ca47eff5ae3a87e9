-- When a link is refused, and for what, by the objects, the forced names and the options alone.
--
-- An address has 16 bits, and so has the end of bss, which is at most 65,535. A header has 16 bits for the bytes of the
-- table, which are 12 for a symbol, so a table has at most 5,461 symbols. A relocation word has 12 bits for the number of a
-- symbol.
use Rattle.std.specs.Prelude.{◌≡◌, ◌↔◌, ℕ, ◌+◌, ◌<◌, ◌≤◌, ◌⊎◌, true, false, List, [], ◌∷◌, ◌++◌, filter, length, Some, Err, slice_get}
use Rattle.std.specs.List.{flat_map, AllByRecursion}
use Rattle.aout_core.specs.{declared.symbol.Symbol.Symbol, declared.symbol.Segment.Segment, declared.reloc.Reloc.Reloc}
use Rattle.aout_core.specs.{declared.reloc.Kind.TheVariants.External, Contents.Contents}
use Rattle.aout_core.specs.{declared.symbol.Segment.TheVariants.{TextSeg, DataSeg, BssSeg}, WellFormed.{kind_of, symbol_number}}
use Rattle.link_session.specs.{declared.state.State.State, Starts.total, Sessions.IsObject, Mentions.Mention, Mentions.mentions}
use Rattle.link_session.specs.{Mentions.externals, Mentions.place_of, Cells.segment_words, Cells.segment_relocs}
use Rattle.link_out.specs.declared.linked.LinkFault.TheVariants.{DoesNotFit, TooManySymbols, SymbolNumber, Memory}
use Rattle.link_out.specs.{declared.linked.LinkFault.LinkFault, Layouts.data_base, KeptSymbols.is_kept_local, function.Link.link}
use Rattle.tool_options.specs.{declared.options.Keep.Keep, declared.options.Keep.TheVariants.Nothing, Choices.Choices, Choices.lays_commons}
use Rattle.laws.specs.{relation.NameStates.HasState, relation.NameStates.IsWanted, relation.LinkedTable.space_for}

-- the commons among these names take so many bytes
abbrev pub CommonsTake : Choices → List Mention → List (List ℕ) → ℕ → Type 0
CommonsTake o ms [] size = size ≡ 0
CommonsTake o ms (n ∷ ns) size = (st : State) × HasState ms n st × ((rest : ℕ) × (size ≡ space_for o st + rest) × CommonsTake o ms ns rest)

-- bss ends there: after the objects' text and data, the commons, and the objects' bss
pub record EndsAt (forced : List (List ℕ)) (os : List Contents) (o : Choices) (end : ℕ) : Type 0 where
  pub commons : ℕ
  pub take : CommonsTake o (mentions forced os) (externals forced os) commons
  pub is : end ≡ data_base o.layout (total TextSeg os) + total DataSeg os + commons + total BssSeg os

abbrev pub kept_locals : Choices → List Contents → List Symbol
kept_locals o os = flat_map (λ (k : Contents). filter (is_kept_local o.keep) k.symbols) os

-- how many symbols the table has of so many locals and externals
abbrev pub entries : Keep → ℕ → ℕ
entries Nothing count = 0
entries _ count = count

abbrev pub entry_count : List (List ℕ) → List Contents → Choices → ℕ
entry_count forced os o = entries o.keep (length (kept_locals o os) + length (externals forced os))

-- a word refers to a name that a link with relocation does not bind, and whose number in the table would be over this one
pub record HasNumberTooLarge (number : ℕ) (forced : List (List ℕ)) (os : List Contents) (o : Choices) : Type 0 where
  pub before : List Contents
  pub k : Contents
  pub after : List Contents
  pub all : os ≡ before ++ k ∷ after
  pub segment : Segment
  pub i : ℕ
  pub w : ℕ
  pub r : Reloc
  pub word : slice_get (segment_words segment k) i ≡ Some w
  pub reloc : slice_get (segment_relocs segment k) i ≡ Some r
  pub kind : kind_of r ≡ Some External
  pub symbol : Symbol
  pub named : slice_get k.symbols (symbol_number r) ≡ Some symbol
  pub size : ℕ
  pub wanted : IsWanted (mentions forced os) symbol.name size
  pub waits : (size ≡ 0) ⊎ (lays_commons o ≡ false)
  pub large : number < length (kept_locals o os) + place_of symbol.name (externals forced os)

-- the first of these that applies: the end is over 65,535, there are more than 5,461 symbols, or a number is too large
abbrev pub IsRefused : List (List ℕ) → List Contents → Choices → LinkFault → Type 0
IsRefused forced os o DoesNotFit = (end : ℕ) × EndsAt forced os o end × (65535 < end)
IsRefused forced os o TooManySymbols = (end : ℕ) × EndsAt forced os o end × (end ≤ 65535) × (5461 < entry_count forced os o)
IsRefused forced os o SymbolNumber =
    (end : ℕ) × EndsAt forced os o end × (end ≤ 65535) × (entry_count forced os o ≤ 5461) × (o.relocatable ≡ true)
    × HasNumberTooLarge 4095 forced os o
IsRefused forced os o (Memory _) = ⊥

-- the function `link` gives a fault if and only if the link is refused for it
abbrev pub RefusedExactly : Type 0
RefusedExactly =
    (forced : List (List ℕ)) (os : List Contents) (o : Choices) (fault : LinkFault) → AllByRecursion IsObject os →
    (link forced os o ≡ Err fault) ↔ IsRefused forced os o fault
