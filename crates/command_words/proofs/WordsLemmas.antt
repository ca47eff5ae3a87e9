-- What the options of a link take over from the words, by the rows that were read of them.
use Rattle.std.proofs.Common.{◌≡◌, ℕ, suc, Bool, true, false, cond, List, [], ◌∷◌, length, map, filter, Option, Some, None, option_map}
use Rattle.std.proofs.Common.{Result, Ok, Err, refl, sym, ap, ◌∙◌}
use Rattle.std.specs.{Prelude.{String, string_bytes, bytes_eq, codes, unwrap_or, IfOk}, declared.alloc.Global.Global, Borrow.Bor}
use Rattle.clap.specs.{declared.parser.matches.Found.Found, Matches.{first_value, matched_of, raw_values}, Walk.{Row, first_of, rows_of}}
use Rattle.clap.proofs.WalkLemmas.{first_value-rows, raw_values-rows}
use Rattle.command_words.specs.declared.words.Call.TheVariants.{Ld, Nm, Size, Strip, Session}
use Rattle.command_words.specs.{Calls.{Asks, dashes_in, files_of, or_program}, LinkWords.{forced_asked, name_in, values_of, with_names}}
use Rattle.command_words.specs.{declared.fault.WordsFault.WordsFault, declared.words.Call.Call, declared.link_words.TheConstants.FORCED}
use Rattle.command_words.specs.declared.words.TheConstants.{OUT}

pub name_given : (f : Found) (id text name : List ℕ) → first_value f id ≡ Some text → name ≡ name_in text →
    Some name ≡ option_map name_in (first_of id (rows_of f))
name_given f id text name e h = ap (λ (n : List ℕ). Some n) h ∙ ap (option_map name_in) (sym e ∙ first_value-rows f id)

pub no_name_given : (f : Found) (id : List ℕ) → first_value f id ≡ None → None ≡ option_map name_in (first_of id (rows_of f))
no_name_given f id e = ap (option_map name_in) (sym e ∙ first_value-rows f id)

pub output_given : (f : Found) (o : Option (Bor (List ℕ))) (other path : Bor (List ℕ)) → option_map (λ s. s.now) o
    ≡ first_value f OUT.now → path ≡ unwrap_or o other → path.now ≡ unwrap_or (first_of OUT.now (rows_of f)) other.now
output_given f o other path e h =
    ap (λ (p : Bor (List ℕ)). p.now) h ∙ now_of o
    ∙ ap (λ (t : Option (List ℕ)). unwrap_or t other.now) (e ∙ first_value-rows f OUT.now)
  where
    now_of : (o : Option (Bor (List ℕ))) → (unwrap_or o other).now ≡ unwrap_or (option_map (λ s. s.now) o) other.now
    now_of None = refl
    now_of (Some p) = refl

abbrev or_none : Option (List (List ℕ)) → List (List ℕ)
or_none texts = unwrap_or texts []

-- the values that were read
pub values_given : (f : Found) (id : List ℕ) (texts : List (List ℕ)) →
    option_map raw_values (matched_of f id) ≡ Some texts → values_of (rows_of f) id ≡ texts
values_given f id texts e = ap or_none (sym (raw_values-rows f id) ∙ e)

pub no_values_given : (f : Found) (id : List ℕ) → option_map raw_values (matched_of f id) ≡ None → values_of (rows_of f) id ≡ []
no_values_given f id e = ap or_none (sym (raw_values-rows f id) ∙ e)

-- the forced names, by the values that were read
pub forced_given : (f : Found) (texts names : List (List ℕ)) → option_map raw_values (matched_of f FORCED.now) ≡ Some texts →
    names ≡ [] → forced_asked (rows_of f) ≡ with_names names texts
forced_given f texts names e h =
    ap (with_names []) (values_given f FORCED.now texts e) ∙ ap (λ (ns : List (List ℕ)). with_names ns texts) (sym h)

pub none_forced : (f : Found) (names : List (List ℕ)) → option_map raw_values (matched_of f FORCED.now) ≡ None →
    names ≡ [] → Ok names ≡ forced_asked (rows_of f)
none_forced f names e h = ap (λ (ns : List (List ℕ)). Ok ns) h ∙ ap (with_names []) (sym (no_values_given f FORCED.now e))

-- ---- dashes

abbrev pub is_dash : String Global → Bool
is_dash word = bytes_eq (string_bytes word) (codes "-")

pub dashes-bytes : (words : List (String Global)) → length (filter is_dash words) ≡ dashes_in (map string_bytes words)
dashes-bytes [] = refl
dashes-bytes (word ∷ words) = by_test (is_dash word) (dashes-bytes words)
  where
    by_test : (t : Bool) → length (filter is_dash words) ≡ dashes_in (map string_bytes words) →
        length (cond t (word ∷ filter is_dash words) (filter is_dash words))
        ≡ length (cond t (string_bytes word ∷ filter (λ w. bytes_eq w (codes "-")) (map string_bytes words))
        (filter (λ w. bytes_eq w (codes "-")) (map string_bytes words)))
    by_test true h = ap suc h
    by_test false h = h

or_program-dashes : (paths : List (List ℕ)) → dashes_in paths ≡ dashes_in (or_program paths)
or_program-dashes [] = refl
or_program-dashes (path ∷ paths) = refl

-- the files of a call have the dashes of the paths that it was made of
pub dashes-asked : (rows : List Row) (paths : List (List ℕ)) (call : Call) → Asks rows paths call →
    dashes_in paths ≡ dashes_in (files_of call)
dashes-asked rows paths (Ld options forced out files) h = ap dashes_in (sym h.3)
dashes-asked rows paths (Session options forced) h = ap dashes_in h.2
dashes-asked rows paths (Nm options files) h = or_program-dashes paths ∙ ap dashes_in (sym h.1)
dashes-asked rows paths (Size files) h = or_program-dashes paths ∙ ap dashes_in (sym h)
dashes-asked rows paths (Strip files) h = ap dashes_in (sym h)

pub dashes-kept : (rows : List Row) (words files : List (String Global)) (in_words in_files : ℕ)
    (r : Result Call WordsFault) → in_words ≡ length (filter is_dash words) → in_files ≡ length (filter is_dash files) →
    in_words ≡ in_files → IfOk r (Asks rows (map string_bytes files)) →
    IfOk r (λ call. dashes_in (map string_bytes words) ≡ dashes_in (files_of call))
dashes-kept rows words files in_words in_files (Err fault) w f same asked = tt
dashes-kept rows words files in_words in_files (Ok call) w f same asked =
    sym (dashes-bytes words) ∙ sym w ∙ same ∙ f ∙ dashes-bytes files ∙ dashes-asked rows (map string_bytes files) call asked
