use Rattle.std.proofs.Common.{◌≡◌, ℕ, ◌≤◌, ◌∙◌, length, ap, sym, subst, rules}
use Rattle.aout_core.specs.Contents.{Fits}
use Rattle.link_out.specs.{function.Tables.table, internal.Planned.plan_in, internal.Planned.objects_in}
use Rattle.link_out.proofs.{FinishLemmas.header_planned, FinishLemmas.linked_parts, FitLemmas.linked_fits}
use Rattle.link_out.proofs.linker.file_of.Goals as goal

pub header-requires-clause-rows : goal.header-requires-clause-rows
header-requires-clause-rows c =
    let len : c.len.result ≡ length c.args.symbols.items = search rules in
    subst (λ (n : ℕ). n ≤ 5461) (sym (len ∙ ap (λ rs. length rs) c.requires.symbols)) c.requires.few

pub from_parts-requires : goal.from_parts-requires
from_parts-requires c =
    let p = c.args.plan.now in
    let len : c.len.result ≡ length c.args.symbols.items = search rules in
    let rows : c.len.result ≡ length (table (plan_in p) (objects_in p)) = len ∙ ap (λ rs. length rs) c.requires.symbols in
    subst Fits (sym (linked_parts (plan_in p) (objects_in p) _
    (c.header.ensures ∙ header_planned p c.len.result c.entry_point.result.address rows c.entry_point.ensures.address)
    c.requires.words.text c.requires.words.data c.requires.relocs.text c.requires.relocs.data c.requires.symbols))
    (linked_fits (plan_in p) (objects_in p) p.good)

pub returns : goal.returns
returns c =
    let p = c.args.plan.now in
    let len : c.len.result ≡ length c.args.symbols.items = search rules in
    let rows : c.len.result ≡ length (table (plan_in p) (objects_in p)) = len ∙ ap (λ rs. length rs) c.requires.symbols in
    c.from_parts.ensures
    ∙ linked_parts (plan_in p) (objects_in p) _
    (c.header.ensures ∙ header_planned p c.len.result c.entry_point.result.address rows c.entry_point.ensures.address)
    c.requires.words.text c.requires.words.data c.requires.relocs.text c.requires.relocs.data c.requires.symbols
