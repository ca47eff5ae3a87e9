-- The external entries of a linked file, and the address that each gives.
use Rattle.std.proofs.Common.{◌≡◌, ◌≢◌, ℕ, Bool, true, false, cond, ◌&&◌, ◌||◌, eqb, List, [], ◌∷◌, ◌++◌, map, Option, Some, None, refl}
use Rattle.std.proofs.{Common.{sym, ◌∙◌, ap}, lemmas.Slice.Eq.bytes_eq-Decides}
use Rattle.std.specs.Prelude.{bytes_eq, filter}
use Rattle.aout_core.specs.declared.symbol.Segment.TheVariants.{Undefined, TextSeg, DataSeg, BssSeg, Other}
use Rattle.aout_core.specs.{declared.symbol.Symbol.Symbol, Contents.Contents, Words.plus, WellFormed.is_external}
use Rattle.link_session.specs.{Mentions.{mentions, names_by_first_mention}, declared.state.State.State}
use Rattle.link_session.specs.{declared.state.State.TheVariants.{Defined, Wanted}, States.state}
use Rattle.tool_options.specs.{NameLists.is_among, declared.options.Keep.TheVariants.Nothing, Choices.Choices, Choices.lays_commons}
use Rattle.link_out.specs.function.Plans.{Plan, plan, common_offset}
use Rattle.link_out.specs.function.Finals.{Final, final, final_by, type_of, bound_at, waiting, reserved_or_waiting, etext, edata, end_name}
use Rattle.link_out.specs.{function.Tables.{local_rows, external_row, external_rows, table}, Layouts.Bases}
use Rattle.laws.specs.relation.Relocated.{entry_of, address_in}
use Rattle.link_out.proofs.partial_links.PartialLemmas.{IsProper, state_is_proper, local_rows_inner, external_row_outer}
use Rattle.link_out.proofs.{RowLemmas.rows_kept-others}

entry_after : (xs ys : List Symbol) (name : List ℕ) → filter is_external xs ≡ [] → entry_of (xs ++ ys) name ≡ entry_of ys name
entry_after [] ys name h = refl
entry_after (s ∷ ss) ys name h = by_test (is_external s) h (entry_after ss ys name)
  where
    by_test : (t : Bool) → cond t (s ∷ filter is_external ss) (filter is_external ss) ≡ [] →
        (filter is_external ss ≡ [] → entry_of (ss ++ ys) name ≡ entry_of ys name) →
        cond (t && bytes_eq name s.name) (Some s) (entry_of (ss ++ ys) name) ≡ entry_of ys name
    by_test true h rest = absurd (cc)
    by_test false h rest = rest h

-- the row of a name among the rows of these names
pub entry_among : (p : Plan) (names : List (List ℕ)) (name : List ℕ) →
    entry_of (map (external_row p) names) name ≡ cond (is_among names name) (Some (external_row p name)) None
entry_among p [] name = refl
entry_among p (n ∷ ns) name =
    ap (λ (t : Bool). cond (t && bytes_eq name n) (Some (external_row p n)) (entry_of (map (external_row p) ns) name))
    (external_row_outer p n) ∙ by_test (bytes_eq name n) refl (entry_among p ns name)
  where
    by_test : (t : Bool) → bytes_eq name n ≡ t →
        entry_of (map (external_row p) ns) name ≡ cond (is_among ns name) (Some (external_row p name)) None →
        cond t (Some (external_row p n)) (entry_of (map (external_row p) ns) name)
        ≡ cond (t || is_among ns name) (Some (external_row p name)) None
    by_test true e rest =
        let same : name ≡ n = (bytes_eq-Decides name n).0 e in
        ap (λ (m : List ℕ). let r : Option Symbol = Some (external_row p m) in r) (sym same)
    by_test false e rest = rest

-- the row of a name in the table of a link that keeps symbols
pub entry_in_table : (p : Plan) (os : List Contents) (name : List ℕ) → p.choices.keep ≢ Nothing →
    entry_of (table p os) name ≡ cond (is_among (names_by_first_mention p.mentions) name) (Some (external_row p name)) None
entry_in_table p os name others =
    ap (λ (rows : List Symbol). entry_of rows name) (rows_kept-others p.choices.keep (local_rows p os ++ external_rows p) others)
    ∙ entry_after (local_rows p os) (external_rows p) name (local_rows_inner p os)
    ∙ entry_among p (names_by_first_mention p.mentions) name

-- the same of a name that is mentioned
pub entry_there : (p : Plan) (os : List Contents) (name : List ℕ) → p.choices.keep ≢ Nothing →
    is_among (names_by_first_mention p.mentions) name ≡ true → entry_of (table p os) name ≡ Some (external_row p name)
entry_there p os name others known =
    entry_in_table p os name others
    ∙ ap (λ (t : Bool). let r : Option Symbol = cond t (Some (external_row p name)) None in r) known

-- a row for this final name
abbrev pub row_at : List ℕ → Final → Symbol
row_at name f = record { name = name; type_bits = type_of f.bound; value = f.written }

row_undefined : (b : Bases) (name : List ℕ) → address_in (row_at name (reserved_or_waiting b name)) ≡ (reserved_or_waiting b name).address
row_undefined b name = by_tests (bytes_eq name etext) (bytes_eq name edata) (bytes_eq name end_name)
  where
    by_tests : (t d e : Bool) → address_in (row_at name (cond t (bound_at TextSeg b.text_end)
        (cond d (bound_at DataSeg b.data_end) (cond e (bound_at BssSeg b.bss_end) (waiting 0)))))
        ≡ (cond t (bound_at TextSeg b.text_end)
        (cond d (bound_at DataSeg b.data_end) (cond e (bound_at BssSeg b.bss_end) (waiting 0)))).address
    by_tests true d e = refl
    by_tests false true e = refl
    by_tests false false true = refl
    by_tests false false false = refl

row_address_by : (p : Plan) (name : List ℕ) (st : State) → IsProper st →
    address_in (row_at name (final_by p name st)) ≡ (final_by p name st).address
row_address_by p name (Defined Undefined offset) h = absurd h
row_address_by p name (Defined Other offset) h = absurd h
row_address_by p name (Wanted size) h =
    by_tests (plus p.at.data_end (common_offset p.mentions name)) (eqb size 0) p.choices.relocatable (lays_commons p.choices)
  where
    by_tests : (a : ℕ) (z r c : Bool) →
        (let f = cond z (cond r (waiting 0) (reserved_or_waiting p.at name)) (cond c (bound_at BssSeg a) (waiting size)) in
        address_in (row_at name f) ≡ f.address)
    by_tests a true true c = refl
    by_tests a true false c = row_undefined p.at name
    by_tests a false r true = refl
    by_tests a false r false = refl
row_address_by p name (Defined segment offset) h = refl

-- the address of a name is what its row gives
pub row_address : (forced : List (List ℕ)) (os : List Contents) (o : Choices) (name : List ℕ) →
    address_in (external_row (plan forced os o) name) ≡ (final (plan forced os o) name).address
row_address forced os o name = row_address_by (plan forced os o) name (state (mentions forced os) name) (state_is_proper forced os name)

-- each external has one entry

-- the names of the rows of these names
pub names_of_rows : (p : Plan) (names : List (List ℕ)) → map (λ s. s.name) (map (external_row p) names) ≡ names
names_of_rows p [] = refl
names_of_rows p (n ∷ ns) = ap (λ (ms : List (List ℕ)). n ∷ ms) (names_of_rows p ns)
