-- A report has a text exactly where it has something to tell.
use Rattle.std.proofs.Common.{◌≡◌, ℕ, ◌<◌, Bool, false, cond, eqb, append-nil, List, [], ◌∷◌, ◌++◌, Option, Some, None, length, refl, sym}
use Rattle.std.proofs.{Common.{◌∙◌, ap, append_assoc, arith, length-append, rules}, lemmas.List.Concat.flat_map-append}
use Rattle.std.specs.{Prelude.codes, Prelude.◌==◌, Prelude.◌&&◌, Prelude.is_none, List.flat_map}
use Rattle.link_out.specs.function.Reports.{ReportNames, entry_lines, undefined_lines, report_text, status_of}
use Rattle.link_out.specs.internal.ReportParts.{is_silent, multiple_lines}

-- the status of a report, by whether it has no text
abbrev pub status : Bool → ℕ
status b = cond b 0 1

counted : (n : ℕ) → 0 < n → eqb n 0 ≡ false
counted n h = search rules

-- a line, and what stands after it
line_counts : (name text lines more : List ℕ) → 0 < length (name ++ text ++ 10 ∷ [] ++ lines ++ more)
line_counts name text lines more = search (rules, length-append)

-- the status by the parts of the report
pub status_by_silence : (f : ReportNames) → status_of f ≡ status (is_silent f)
status_by_silence f = by_parts f.multiples f.reserved f.entry_bad f.undefined
  where
    found : List (List ℕ) → List (List ℕ) → Option (List ℕ) → List (List ℕ) → ReportNames
    found m r e u = record { multiples = m; reserved = r; entry_bad = e; undefined = u }

    rest : Option (List ℕ) → List (List ℕ) → List ℕ
    rest e u = entry_lines e ++ undefined_lines u

    by_parts : (m r : List (List ℕ)) (e : Option (List ℕ)) (u : List (List ℕ)) →
        status_of (found m r e u) ≡ status (is_silent (found m r e u))
    by_parts [] [] None [] = refl
    by_parts [] [] None (n ∷ ns) =
        let said = counted (length (report_text (found [] [] None (n ∷ ns)))) (omega arith) in
        let known = counted (length (n ∷ ns)) (omega arith) in
        ap status said ∙ sym (ap status known)
    by_parts [] [] (Some name) u =
        let h : 0 < length (name ++ codes ": Entry point not in text" ++ 10 ∷ [] ++ [] ++ undefined_lines u) =
        line_counts name (codes ": Entry point not in text") [] (undefined_lines u) in
        ap status (counted (length (report_text (found [] [] (Some name) u))) (rw append-nil at h))
    by_parts [] (n ∷ ns) e u =
        let said = counted (length (report_text (found [] (n ∷ ns) e u)))
        (line_counts n (codes ": Multiply defined") (multiple_lines ns) (rest e u)) in
        let known = counted (length (n ∷ ns)) (omega arith) in
        ap status said ∙ sym (ap (λ (b : Bool). status (b && (is_none e && eqb (length u) 0))) known)
    by_parts (n ∷ ns) r e u =
        let said = counted (length (report_text (found (n ∷ ns) r e u)))
        (line_counts n (codes ": Multiply defined") (multiple_lines (ns ++ r)) (rest e u)) in
        let known = counted (length (n ∷ ns)) (omega arith) in
        ap status said ∙ sym (ap (λ (b : Bool). status (b && (eqb (length r) 0 && (is_none e && eqb (length u) 0)))) known)

-- a line is a name and the text after it
multiple_line : (names : List (List ℕ)) → flat_map (λ n. n ++ codes ": Multiply defined\n") names ≡ multiple_lines names
multiple_line [] = refl
multiple_line (n ∷ ns) = cc (multiple_line ns, append_assoc n (codes ": Multiply defined") (10 ∷ []))

-- the lines of the two lists of names, as they are written one after the other
pub both_multiple : (m r : List (List ℕ)) →
    flat_map (λ n. n ++ codes ": Multiply defined\n") m ++ flat_map (λ n. n ++ codes ": Multiply defined\n") r ≡ multiple_lines (m ++ r)
both_multiple m r = search (rules, multiple_line, flat_map-append)

-- the line of an entry name
pub entry_line : (name : List ℕ) → name ++ codes ": Entry point not in text\n" ≡ entry_lines (Some name)
entry_line name = sym (append_assoc name (codes ": Entry point not in text") (10 ∷ []))

-- the lines of undefined names, if there are any
pub undefined_line : (names : List (List ℕ)) → (length names == 0) ≡ false →
    codes "Undefined:\n" ++ flat_map (λ n. n ++ codes "\n") names ≡ undefined_lines names
undefined_line names h = search rules
