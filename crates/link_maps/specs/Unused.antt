-- Which names of a link nothing uses.
--
-- A name is used if a symbol of it does not define it, if a word leads to it, or if a word may reach what it names.
use Rattle.std.specs.Prelude.{ℕ, Bool, false, not, ◌&&◌, ◌||◌, eqb, List, length, Option, Some, slice_get}
use Rattle.std.specs.List.{list_any}
use Rattle.aout_core.specs.{declared.symbol.Symbol.Symbol, WellFormed.masked_type}
use Rattle.link_session.specs.Undo.{Kept}
use Rattle.link_out.specs.declared.linked.Linked.{Linked}
use Rattle.link_maps.specs.{declared.outcome.Outcome.Outcome, declared.references.ReferringWord.ReferringWord}
use Rattle.link_maps.specs.{Records.name_in, Rows.linked_in, Rows.row_among, Rows.rows_in, Uses.Use, Uses.is_definition}

abbrev pub has_words : List ReferringWord → Bool
has_words ws = not (eqb (length ws) 0)

abbrev pub is_mention : Use → Bool
is_mention u = not (is_definition u) || (has_words u.references || has_words u.near)

-- a symbol of text at an address
abbrev pub is_entry : ℕ → Symbol → Bool
is_entry address s = eqb (masked_type s) 2 && eqb s.value address

-- the name of these uses, in a link with this row for it
abbrev pub is_idle : Option Linked → Option Symbol → List Use → Bool
is_idle (Some l) (Some row) us =
    list_any is_definition us && (not (list_any is_mention us) && not (is_entry l.file.header.entry_point row))
is_idle _ _ us = false

-- in a link of what a session keeps
abbrev pub is_unused : Option Outcome → Kept → List Use → Bool
is_unused x k us = is_idle (linked_in x) (row_among (rows_in x) k (name_in (slice_get us 0))) us
