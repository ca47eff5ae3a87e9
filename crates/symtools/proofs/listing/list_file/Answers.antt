use Rattle.std.proofs.{Common.{rules, ℕ, List, ◌++◌, ◌∷◌, [], ◌∙◌, if◌then◌else◌, filter, ap, subst}, KnownBytes.Appends-trans}
use Rattle.std.specs.{List.flat_map, Io.KnownBytes.Appends}
use Rattle.aout_core.specs.{Wires.AppendsPrefix, declared.symbol.Symbol.Symbol}
use Rattle.symtools.specs.{SymbolLines.symbol_line, NmLists.is_shown, NmLists.arranged}
use Rattle.aout_core.proofs.PutsLemmas.{front_before, front_after, put_broke_off}
use Rattle.symtools.proofs.listing.list_file.Goals as goal

pub returns-in_err-symbols-clause-memory : goal.returns-in_err-symbols-clause-memory
returns-in_err-symbols-clause-memory g c = search rules

pub returns-in_err-put_heading-clause-bytes : goal.returns-in_err-put_heading-clause-bytes
returns-in_err-put_heading-clause-bytes g c = search (rules, put_broke_off, front_before)

pub returns-in_err-put_lines-clause-bytes : goal.returns-in_err-put_lines-clause-bytes
returns-in_err-put_lines-clause-bytes g c =
    let o = c.args.options in
    let heading =
    subst (Appends _ _) (ap (λ (path : List ℕ). if c.args.is_headed then path ++ 58 ∷ 10 ∷ [] else []) c.deref.ensures)
    c.in_ok-put_heading.ensures.bytes in
    let path = c.deref-3.ensures in
    let shown = c.deref-2.ensures.value ∙ c.in_ok-symbols.ensures.ok
    ∙ ap (λ (ss : List Symbol). arranged o (filter (is_shown o) ss)) c.symbols.ensures.value in
    let lines = subst (AppendsPrefix _ _)
    (λ i. flat_map (λ (s : Symbol). (if o.each_line then path i ++ 58 ∷ [] else []) ++ symbol_line s) (shown i))
    c.in_err-put_lines.ensures.bytes in
    search (rules, put_broke_off, front_after)

pub returns-clause-bytes : goal.returns-clause-bytes
returns-clause-bytes g c =
    let o = c.args.options in
    let heading =
    subst (Appends _ _) (ap (λ (path : List ℕ). if c.args.is_headed then path ++ 58 ∷ 10 ∷ [] else []) c.deref.ensures)
    c.in_ok-put_heading.ensures.bytes in
    let path = c.deref-3.ensures in
    let shown = c.deref-2.ensures.value ∙ c.in_ok-symbols.ensures.ok
    ∙ ap (λ (ss : List Symbol). arranged o (filter (is_shown o) ss)) c.symbols.ensures.value in
    let lines =
    subst (Appends _ _) (λ i. flat_map (λ (s : Symbol). (if o.each_line then path i ++ 58 ∷ [] else []) ++ symbol_line s)
    (shown i)) c.in_ok-put_lines.ensures.bytes in
    Appends-trans _ _ _ _ _ heading lines
