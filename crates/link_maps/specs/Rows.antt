-- What becomes of a link, and the row that its table has for a name. (ld(1))
use Rattle.std.specs.Prelude.{◌≡◌, ◌≢◌, ◌↔◌, ℕ, ◌<◌, max, Bool, ◌||◌, List, [], ◌∷◌, Option, Some, None, Result, Ok, Err, Vec}
use Rattle.std.specs.{Prelude.{bytes_eq, position, slice_get, IfSome, IsNone}, declared.alloc.Global.Global}
use Rattle.aout_core.specs.{WellFormed.{kind_of, symbol_number}, declared.symbol.Symbol.Symbol, declared.reloc.Reloc.Reloc}
use Rattle.aout_core.specs.{declared.reloc.Kind.Kind, declared.reloc.Kind.TheVariants.External, Contents.Contents, Refusals.refused}
use Rattle.link_session.specs.{Labelled.objects, Mentions.externals, Undo.Kept, Undo.image_of}
use Rattle.tool_options.specs.{NameLists.is_among, Choices.Choices}
use Rattle.link_out.specs.{declared.linked.Linked.Linked, declared.linked.LinkFault.LinkFault}
use Rattle.link_out.specs.{declared.linked.LinkFault.TheVariants.Memory, Layouts.Bases, Outcomes.IsLinkOf, function.Link.link}
use Rattle.link_out.specs.{function.Plans.plan_of, function.Tables.external_rows}
use Rattle.link_maps.specs.declared.outcome.Outcome.{Outcome}

-- the addresses of the segments, the link or why it is refused, and the rows of the externals, if the link fits
pub record IsOutcome (o : Outcome) (k : Kept) (choices : Choices) : Type 0 where
  pub bases : o.bases ≡ (plan_of k choices).at
  pub made : IsLinkOf o.linked (link k.forced (objects k.entries) choices)
  pub no_memory : o.linked ≢ Err (Memory refused)
  pub rows : IfSome o.externals (λ rows. rows.items ≡ external_rows (plan_of k choices))
  pub none : IsNone o.externals ↔ (65535 < (plan_of k choices).at.bss_end)

-- the row with the index of a name, if it has one
abbrev pub row_at : List Symbol → Option ℕ → Option Symbol
row_at rows None = None
row_at rows (Some i) = slice_get rows i

-- the link, if one is made
abbrev pub linked_by : Result Linked LinkFault → Option Linked
linked_by (Ok l) = Some l
linked_by (Err fault) = None

abbrev pub linked_in : Option Outcome → Option Linked
linked_in None = None
linked_in (Some o) = linked_by o.linked

-- the rows of its externals, if it fits; and the row of a name, if it has one
abbrev pub rows_of : Option (Vec Symbol Global) → List Symbol
rows_of None = []
rows_of (Some rows) = rows.items

abbrev pub rows_in : Option Outcome → List Symbol
rows_in None = []
rows_in (Some o) = rows_of o.externals

abbrev pub row_among : List Symbol → Kept → List ℕ → Option Symbol
row_among rows k name = row_at rows (position (bytes_eq name) (externals k.forced (objects k.entries)))

-- a name is multiply defined, or one of the linker that is defined or common
abbrev pub reserved_by : Option Linked → List (List ℕ)
reserved_by None = []
reserved_by (Some l) = l.report.reserved.items

abbrev pub is_multiple_in : Option Outcome → Kept → List ℕ → Bool
is_multiple_in x k name = is_among (image_of k).multiples name || is_among (reserved_by (linked_in x)) name

-- the addresses of the segments, if there is a link
abbrev pub bases_of : Option Outcome → Option Bases
bases_of None = None
bases_of (Some o) = Some o.bases

-- the symbol number of a relocation word; the largest among several
abbrev pub number_by : Option Kind → ℕ → ℕ
number_by (Some External) number = number
number_by _ number = 0

abbrev pub number_in : Reloc → ℕ
number_in r = number_by (kind_of r) (symbol_number r)

abbrev pub largest_in : List Reloc → ℕ
largest_in [] = 0
largest_in (r ∷ rs) = max (number_in r) (largest_in rs)

abbrev pub largest_number : Contents → ℕ
largest_number o = max (largest_in o.text_reloc) (largest_in o.data_reloc)
