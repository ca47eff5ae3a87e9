-- How many names the entries of an object add, and the limits of an image.
use Rattle.std.proofs.Common.{◌≡◌, ℕ, ◌≤◌, Bool, true, false, not, ◌&&◌, is_some, List, [], ◌∷◌, ◌++◌, length, refl, ap, arith, rules}
use Rattle.std.proofs.lemmas.List.{length-map}
use Rattle.std.specs.{Prelude.bytes_eq, Prelude.filter, List.list_any, Map.keys_of, Map.lookup}
use Rattle.aout_core.specs.{declared.symbol.Symbol.Symbol, WellFormed.is_external}
use Rattle.tool_options.specs.NameLists.{is_among, new_names}
use Rattle.link_session.specs.{Image.Named, internal.Additions.external_names, internal.Additions.new_count}
use Rattle.tool_options.proofs.NameListLemmas.{is_among-append}

-- a key is found where it is one of the keys
pub found-is_among : (es : Named) (name : List ℕ) → is_some (lookup (bytes_eq name) es) ≡ is_among (keys_of es) name
found-is_among [] name = refl
found-is_among (e ∷ es) name = search (rules, found-is_among es name)

-- an external entry has the name
pub external-is_among : (symbols : List Symbol) (name : List ℕ) →
    list_any (λ s. is_external s && bytes_eq name s.name) symbols ≡ is_among (external_names symbols) name
external-is_among [] name = refl
external-is_among (s ∷ ss) name = search (rules, external-is_among ss name)

-- an object has no more new names than symbols: so much room is enough
pub length-new_names : (seen xs : List (List ℕ)) → length (new_names seen xs) ≤ length xs
length-new_names seen [] = omega arith
length-new_names seen (x ∷ xs) = search (rules, length-new_names (seen ++ x ∷ []) xs)

-- no more names than entries
pub new_count-le : (seen : List (List ℕ)) (symbols : List Symbol) → new_count seen symbols ≤ length (filter is_external symbols)
new_count-le seen symbols = search (rules, length-new_names, length-map)

-- whether an entry is counted
abbrev pub counts : List (List ℕ) → List Symbol → Symbol → Bool
counts keys before s = is_external s && not (is_among (keys ++ external_names before) s.name)

-- an entry whose name is known adds none
pub known_counts : (keys : List (List ℕ)) (before : List Symbol) (s : Symbol) → is_among keys s.name ≡ true → false ≡ counts keys before s
known_counts keys before s h = search (rules, is_among-append)

-- another does where no earlier entry has its name
pub unknown_counts : (keys : List (List ℕ)) (before : List Symbol) (s : Symbol) → is_external s ≡ true → is_among keys s.name ≡ false →
    not (list_any (λ t. is_external t && bytes_eq s.name t.name) before) ≡ counts keys before s
unknown_counts keys before s e h = rw (is_among-append keys (external_names before) s.name, h, e) (ap not (external-is_among before s.name))
