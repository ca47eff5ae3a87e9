-- Commons, final names and undefined names as they follow from the names in order.
use Rattle.std.specs.Prelude.{ℕ, ◌+◌, List, [], ◌∷◌, map, filter}
use Rattle.link_session.specs.{Labelled.objects, Mentions.Mention, Mentions.mentions, Image.Named, Undo.Kept}
use Rattle.tool_options.specs.Choices.{Choices}
use Rattle.link_out.specs.{Layouts.Bases, function.Plans.common_size, function.Finals.{Final, final_at}, function.Reports.is_missing}

-- the mentions of names by the objects of a session and by its forced names
abbrev pub mentions_of : Kept → List Mention
mentions_of s = mentions s.forced (objects s.entries)

-- what becomes of names, with so many bytes of commons before them
abbrev pub finals_from : Choices → Bases → ℕ → Named → List Final
finals_from o b offset [] = []
finals_from o b offset (e ∷ es) = final_at o b offset e.0 e.1 ∷ finals_from o b (offset + common_size e.1) es

-- the space of the commons among names
abbrev pub commons_size_in : Named → ℕ
commons_size_in [] = 0
commons_size_in (e ∷ es) = common_size e.1 + commons_size_in es

-- those of the names that a link without relocation reports as undefined
abbrev pub missing_among : Named → List (List ℕ)
missing_among es = map (λ e. e.0) (filter (λ e. is_missing e.0 e.1) es)
