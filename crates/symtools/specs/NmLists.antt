-- The list that nm writes. (nm(1); that `-p` wins over the other orders: own choice)
--
-- The symbols that the options ask for, in the order that they ask for, a line each. With several files, the path of each file
-- is above its lines; by `-o` it comes before each line instead.
use Rattle.std.specs.Prelude.{◌≡◌, ◌≢◌, ℕ, Option, Bool, not, ◌&&◌, ◌||◌, cond, eqb, nat_lt, if◌then◌else◌, List, [], ◌∷◌, ◌++◌, filter}
use Rattle.std.specs.Prelude.{reverse, length, codes}
use Rattle.std.specs.{List.flat_map, Io.KnownBytes.Appends, Cmp.Lexicographic.slice_cmp, Ordering.nat_cmp, Ordering.is_lt}
use Rattle.aout_core.specs.{declared.symbol.Symbol.Symbol, Contents.Contents, WellFormed.is_external}
use Rattle.tool_options.specs.declared.nm_options.NmOptions.{NmOptions}
use Rattle.symtools.specs.SymbolLines.{symbol_line, is_shown_undefined}

-- externals alone if `external` is on, undefined symbols alone if `undefined` is, and with both what is both
abbrev pub is_shown : NmOptions → Symbol → Bool
is_shown o s = (not o.external || is_external s) && (not o.undefined || is_shown_undefined s)

abbrev pub name_before : Symbol → Symbol → Bool
name_before s t = is_lt (slice_cmp nat_cmp s.name t.name)

-- the smaller value, and at one value the smaller name
abbrev pub value_before : Symbol → Symbol → Bool
value_before s t = nat_lt s.value t.value || (eqb s.value t.value && name_before s t)

-- x before the first item that is not before x, so `in_order` leaves those that tie in the order of the table
abbrev pub inserted : {A : Type 0} → (A → A → Bool) → A → List A → List A
inserted before x [] = x ∷ []
inserted before x (y ∷ ys) = cond (before y x) (y ∷ inserted before x ys) (x ∷ (y ∷ ys))

abbrev pub in_order : {A : Type 0} → (A → A → Bool) → List A → List A
in_order before [] = []
in_order before (x ∷ xs) = inserted before x (in_order before xs)

-- the order of the table, whatever else is asked for; or by value or by name, and then reversed if that is asked for
abbrev pub arranged : NmOptions → List Symbol → List Symbol
arranged o ss =
    if o.table_order then ss
    else (let ordered : List Symbol = cond o.by_value (in_order value_before ss) (in_order name_before ss) in
    if o.reverse then reverse ordered else ordered)

abbrev pub shown : NmOptions → Contents → List Symbol
shown o c = arranged o (filter (is_shown o) c.symbols)

-- what comes before each line of a file
abbrev pub line_heading : NmOptions → List ℕ → List ℕ
line_heading o file = if o.each_line then file ++ codes ":" else []

-- what is above the lines of a file, one of so many
abbrev pub heading : NmOptions → ℕ → List ℕ → List ℕ
heading o files file = if not o.each_line && nat_lt 1 files then file ++ codes ":\n" else []

abbrev pub file_lines : NmOptions → ℕ → List ℕ → Contents → List ℕ
file_lines o files file c = heading o files file ++ flat_map (λ s. line_heading o file ++ symbol_line s) (shown o c)

abbrev pub nm_text : NmOptions → List (List ℕ × Contents) → List ℕ
nm_text o files = flat_map (λ f. file_lines o (length files) f.0 f.1) files

-- what went out if memory ran out for one file, of which symbols are shown: all lines of the files before it, and nothing else
pub record ListsUpTo (o : NmOptions) (files : List (List ℕ × Contents)) (old new : Option (List ℕ)) : Type 0 where
  pub front : List (List ℕ × Contents)
  pub last : List ℕ × Contents
  pub rest : List (List ℕ × Contents)
  pub order : files ≡ front ++ last ∷ rest
  pub shows : filter (is_shown o) last.1.symbols ≢ []
  pub sent : Appends old new (flat_map (λ f. file_lines o (length files) f.0 f.1) front)
