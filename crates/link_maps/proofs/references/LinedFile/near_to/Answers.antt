use Rattle.std.proofs.{Common.{List, ◌∙◌, ap, subst}, lemmas.Result.IfOk-weaker}
use Rattle.std.specs.List.{filter, flat_map}
use Rattle.disassemblies.specs.Starts.{starts}
use Rattle.instructions.specs.declared.unix.Decoder.TheVariants.{Unix}
use Rattle.aout_core.specs.Contents.{Contents}
use Rattle.link_maps.specs.{Leads.{near_leads, reference_if}, internal.Keys.{AreByKey, has_key}, declared.leads.Lead.Lead}
use Rattle.link_maps.proofs.LeadLemmas.{near_by_key}
use Rattle.link_maps.proofs.references.LinedFile.near_to.Goals as goal

pub returns : goal.returns
returns c =
    let o : Contents = c.args.self.now in
    let number = c.args.number in
    let symbol = c.args.symbol.now in
    let ordered : List Lead = c.self.inside.all_near.items in
    let by = subst (λ (x : Contents). AreByKey x.symbols (near_leads (starts Unix x) x) ordered) c.self.view_is c.self.invariant.3 in
    IfOk-weaker c.found_in.result _ _
    (λ words found.
    found
    ∙ ap (λ (ls : List Lead). flat_map (reference_if (starts Unix o) o number symbol) (filter (has_key o.symbols number symbol) ls))
    c.deref.ensures.value
    ∙ near_by_key (starts Unix o) o number symbol c.requires ordered by)
    c.found_in.ensures
