use Rattle.std.proofs.{Common.{◌≡◌, None, List, slice_index_or, slice_set, ap, subst, ◌∙◌, rules}, lemmas.List.with_items_is}
use Rattle.std.specs.Vec.{with_items}
use Rattle.link_session.specs.{declared.bind.Definition.Definition, declared.state.State.TheVariants.Defined}
use Rattle.link_session.specs.{declared.state.State.TheVariants.Wanted, Image.state_at, internal.Chains.Link, internal.Bindings.BindsTo}
use Rattle.link_session.proofs.BindingLemmas.{none_waits, none_defined, chain_cut, chain_back, chain_bound, chain_few}
use Rattle.link_session.proofs.bind.bind_external.Goals.{After-begin_chain}
use Rattle.link_session.proofs.bind.bind_external.Goals as goal

pub returns-then-is_none-clause-bound : goal.returns-then-is_none-clause-bound
returns-then-is_none-clause-bound c =
    let empty : slice_index_or c.args.image.now.heads.items c.args.place None ≡ None = search rules in
    none_waits c.args.image.now c.args.place c.requires.chained empty

pub returns-in_default-clause-bound : goal.returns-in_default-clause-bound
returns-in_default-clause-bound c =
    let wanted : state_at c.args.image.now.externals.entries c.args.place ≡ Wanted c.in_default.field-0 = search rules in
    none_defined c.args.image.now c.args.place c.in_default.field-0 wanted

abbrev to : After-begin_chain → Definition
to c = record { segment = c.in-Defined.segment; offset = c.in-Defined.offset }

-- the cells are bound from the head of the external on
bound : (c : After-begin_chain) → BindsTo (to c) (slice_index_or c.args.image.now.heads.items c.args.place None)
    c.bind_chain-rest.result.0 c.args.image.now c.bind_chain-rest.new.image c.args.marks.now.items c.bind_chain-rest.new.marks.items
bound c =
    subst (λ (l : Link). BindsTo (to c) l c.bind_chain-rest.result.0 c.args.image.now c.bind_chain-rest.new.image
    c.args.marks.now.items c.bind_chain-rest.new.marks.items)
    (c.link_in-head.ensures ∙ ap (λ (l : List Link). slice_index_or l c.args.place None) c.deref.ensures.value)
    c.bind_chain-rest.ensures.binds

-- the heads then: that of the external is where binding stopped
abbrev stopped : After-begin_chain → List Link
stopped c = (with_items c.bind_chain-rest.new.image.heads c.begin_chain.new.heads).items

cut : (c : After-begin_chain) → stopped c
    ≡ slice_set c.args.image.now.heads.items c.args.place c.bind_chain-rest.result.0
cut c =
    with_items_is c.bind_chain-rest.new.image.heads c.begin_chain.new.heads (c.begin_chain.auto.heads ∙ c.deref_mut.ensures.len)
    ∙ c.begin_chain.ensures
    ∙ ap (λ (l : List Link). slice_set l c.args.place c.bind_chain-rest.result.0)
    (c.deref_mut.ensures.value ∙ c.bind_chain-rest.ensures.binds.heads)

pub returns-in_err-bound-clause-chained : goal.returns-in_err-bound-clause-chained
returns-in_err-bound-clause-chained c =
    let s = (goal.at.returns-in_err-bound-clause-chained c).After-begin_chain in
    chain_cut (to s) c.args.place c.bind_chain-rest.result.0 c.args.image.now c.bind_chain-rest.new.image c.args.marks.now.items
    c.bind_chain-rest.new.marks.items c.requires.chained (bound s) (stopped s) (cut s)

pub returns-in_err-bound-clause-back : goal.returns-in_err-bound-clause-back
returns-in_err-bound-clause-back c =
    let s = (goal.at.returns-in_err-bound-clause-back c).After-begin_chain in
    chain_back (to s) c.args.place c.bind_chain-rest.result.0 c.args.image.now c.bind_chain-rest.new.image c.args.marks.now.items
    c.bind_chain-rest.new.marks.items c.requires.chained (bound s) (stopped s) (cut s)

pub returns-clause-chained : goal.returns-clause-chained
returns-clause-chained c =
    let s = (goal.at.returns-clause-chained c).After-begin_chain in
    chain_cut (to s) c.args.place c.bind_chain-rest.result.0 c.args.image.now c.bind_chain-rest.new.image c.args.marks.now.items
    c.bind_chain-rest.new.marks.items c.requires.chained (bound s) (stopped s) (cut s)

pub returns-clause-back : goal.returns-clause-back
returns-clause-back c =
    let s = (goal.at.returns-clause-back c).After-begin_chain in
    chain_back (to s) c.args.place c.bind_chain-rest.result.0 c.args.image.now c.bind_chain-rest.new.image c.args.marks.now.items
    c.bind_chain-rest.new.marks.items c.requires.chained (bound s) (stopped s) (cut s)

pub returns-clause-bound : goal.returns-clause-bound
returns-clause-bound c =
    let s = (goal.at.returns-clause-bound c).After-begin_chain in
    let es = c.args.image.now.externals.entries in
    let all : c.bind_chain-rest.result.0 ≡ None = search rules in
    let defined : state_at es c.args.place ≡ Defined c.in-Defined.segment c.in-Defined.offset = search rules in
    chain_bound (to s) c.args.place c.bind_chain-rest.result.0 c.args.image.now c.bind_chain-rest.new.image c.args.marks.now.items
    c.bind_chain-rest.new.marks.items c.requires.chained (bound s) (stopped s) (cut s) all es defined

pub returns-clause-few : goal.returns-clause-few
returns-clause-few c =
    let s = (goal.at.returns-clause-few c).After-begin_chain in
    let es = c.args.image.now.externals.entries in
    let all : c.bind_chain-rest.result.0 ≡ None = search rules in
    let defined : state_at es c.args.place ≡ Defined c.in-Defined.segment c.in-Defined.offset = search rules in
    chain_few (to s) c.args.place c.bind_chain-rest.result.0 c.args.image.now c.bind_chain-rest.new.image c.args.marks.now.items
    c.bind_chain-rest.new.marks.items c.requires.chained (bound s) (stopped s) (cut s) all es defined
