-- The texts of nm and size, file by file.
use Rattle.std.proofs.Common.{rules, ◌≡◌, ◌≢◌, ℕ, ◌+◌, ◌<◌, List, [], ◌∷◌, ◌++◌, length, take, drop, filter, slice_index_or, Option, String}
use Rattle.std.proofs.Common.{string_bytes, ap, sym, ◌∙◌, subst, take-append-drop}
use Rattle.std.proofs.{lemmas.List.length-map, lemmas.List.map-append, lemmas.List.drop_more, lemmas.List.Folds.flat_map-map}
use Rattle.std.specs.{List.flat_map, Io.KnownBytes.Appends}
use Rattle.aout_core.specs.Contents.{Contents}
use Rattle.tool_options.specs.declared.nm_options.NmOptions.{NmOptions}
use Rattle.symtools.specs.{NmLists.{ListsUpTo, file_lines, is_shown, nm_text}, Files.by_bytes, SizeLines.{file_size_line, size_text}}

module _ {A : Type 0} where
  -- what stands for a file, one of so many
  abbrev pub listed : NmOptions → ℕ → String A × Contents → List ℕ
  listed o count f = file_lines o count (string_bytes f.0) f.1

  abbrev pub sized : ℕ → String A × Contents → List ℕ
  sized count f = file_size_line count (string_bytes f.0) f.1

  -- some of the files, each by its bytes
  by-count : (text : ℕ → List ℕ × Contents → List ℕ) (files some : List (String A × Contents))
      → flat_map (λ (f : String A × Contents). text (length files) (string_bytes f.0, f.1)) some
      ≡ flat_map (text (length (by_bytes files))) (by_bytes some)
  by-count text files some =
      sym (flat_map-map (text (length files)) (λ (f : String A × Contents). (string_bytes f.0, f.1)) some)
      ∙ ap (λ n. flat_map (text n) (by_bytes some)) (sym (length-map files (λ (f : String A × Contents). (string_bytes f.0, f.1))))

  pub nm_text-listed : (o : NmOptions) (files : List (String A × Contents)) →
      flat_map (listed o (length files)) files ≡ nm_text o (by_bytes files)
  nm_text-listed o files = by-count (λ n f. file_lines o n f.0 f.1) files files

  pub size_text-sized : (files : List (String A × Contents)) → flat_map (sized (length files)) files ≡ size_text (by_bytes files)
  size_text-sized files = by-count (λ n f. file_size_line n f.0 f.1) files files

  -- the lines of the files before place i went out
  pub lists_up_to : (o : NmOptions) (files : List (String A × Contents)) (i : ℕ) (item : String A × Contents)
      (a b : Option (List ℕ)) → i < length files → item ≡ slice_index_or files i item →
      filter (is_shown o) item.1.symbols ≢ [] → Appends a b (flat_map (listed o (length files)) (take i files)) →
      ListsUpTo o (by_bytes files) a b
  lists_up_to o files i item a b within is shows sent =
      let split : files ≡ take i files ++ item ∷ drop (i + 1) files =
      sym (take-append-drop i files)
      ∙ ap (λ l. take i files ++ l) (drop_more files i item within ∙ ap (λ x. x ∷ drop (i + 1) files) (sym is)) in
      record {
        front = by_bytes (take i files);
        last = (string_bytes item.0, item.1);
        rest = by_bytes (drop (i + 1) files);
        order = search (rules, map-append);
        shows = shows;
        sent = subst (Appends a b) (by-count (λ n f. file_lines o n f.0 f.1) files (take i files)) sent;
      }
