use Rattle.std.proofs.Common.{◌≡◌, ◌&&◌, ◌++◌, ◌∷◌, [], cond, false, None, Some, sym, ◌∙◌, ap, append-nil, arith, rules}
use Rattle.std.proofs.lemmas.List.{length-map}
use Rattle.std.specs.{Prelude.bytes_eq, Prelude.nat_lt, List.position_or_len, Map.keys_of, Map.lookup}
use Rattle.indexmap.specs.{IndexMap.insert_entry, Entry.IsEntryFor, Entry.map_with_value, Entry.entry_value, Entry.entry_index}
use Rattle.indexmap.specs.declared.map.entry.Entry.TheVariants.{Occupied, Vacant}
use Rattle.link_session.specs.{declared.state.State.State, internal.Additions.place_in, internal.Additions.state_for, internal.Additions.changes}
use Rattle.link_session.specs.{declared.mark.Mark.TheVariants.StateWas, declared.state.State.TheVariants.Wanted}
use Rattle.link_session.specs.{internal.Updates.updated_state, internal.Updates.clashes}
use Rattle.link_session.proofs.{PlaceLemmas.{place_is, place_of-le, known_state, unknown_state}, UpdateLemmas.says_alone}
use Rattle.link_session.proofs.PlainLemmas.{names_stay, no_mark}
use Rattle.link_session.proofs.mention.enter.Goals as goal

pub returns-then-not-changes-clause-place : goal.returns-then-not-changes-clause-place
returns-then-not-changes-clause-place c =
    let es = c.args.externals.now.entries in
    let at : c.index-place.result ≡ position_or_len (bytes_eq c.args.claim.name) (keys_of es) = search rules in
    at ∙ place_is c.args.claim.name (keys_of es)

pub returns-then-not-changes-clause-names : goal.returns-then-not-changes-clause-names
returns-then-not-changes-clause-names c =
    let es = c.args.externals.now.entries in
    let known : lookup (bytes_eq c.args.claim.name) es ≡ Some c.get-was.result.now = search rules in
    let none : changes c.get-was.result.now c.args.claim.says ≡ false = search rules in
    let stays = names_stay es c.args.claim.name c.get-was.result.now c.args.claim.says known none in
    (search rules) ∙ stays

pub returns-then-not-changes-clause-multiples : goal.returns-then-not-changes-clause-multiples
returns-then-not-changes-clause-multiples c =
    let es = c.args.externals.now.entries in
    let known : lookup (bytes_eq c.args.claim.name) es ≡ Some c.get-was.result.now = search rules in
    c.note_clash.ensures.names
    ∙ ap (λ (s : State). c.args.multiples.now.items ++ cond (clashes s c.args.claim.says) (c.args.claim.name ∷ []) [])
    (known_state es c.args.claim.name c.get-was.result.now known)

pub returns-then-not-changes-clause-marks : goal.returns-then-not-changes-clause-marks
returns-then-not-changes-clause-marks c =
    let es = c.args.externals.now.entries in
    let known : lookup (bytes_eq c.args.claim.name) es ≡ Some c.get-was.result.now = search rules in
    let none : changes c.get-was.result.now c.args.claim.says ≡ false = search rules in
    no_mark es c.args.claim.name c.get-was.result.now c.args.claim.says known none c.args.kept c.args.marks.now.items

pub overflow_cast-result-in-Vacant : goal.overflow_cast-result-in-Vacant
overflow_cast-result-in-Vacant c =
    let es = c.args.externals.now.entries in
    let at : c.index-place-in-Vacant.result ≡ position_or_len (bytes_eq c.args.claim.name) (keys_of es) = search rules in
    omega (
      arith,
      at,
      place_is c.args.claim.name (keys_of es),
      place_of-le c.args.claim.name (keys_of es),
      length-map es (λ p. p.0),
      c.requires.names,
    )

pub returns-else-not-changes-clause-place : goal.returns-else-not-changes-clause-place
returns-else-not-changes-clause-place c =
    let es = c.args.externals.now.entries in
    let at : c.index-place.result ≡ position_or_len (bytes_eq c.args.claim.name) (keys_of es) = search rules in
    at ∙ place_is c.args.claim.name (keys_of es)

pub returns-else-not-changes-clause-names : goal.returns-else-not-changes-clause-names
returns-else-not-changes-clause-names c =
    let es = c.args.externals.now.entries in
    let known : lookup (bytes_eq c.args.claim.name) es ≡ Some c.get-was.result.now = search rules in
    let update : IsEntryFor bytes_eq c.args.externals.now c.args.claim.name (Occupied c.in-Occupied.known) = search rules in
    (search rules) ∙ update.1 c.updated_state.result
    ∙ ap (λ (s : State). insert_entry bytes_eq es c.args.claim.name s)
    (c.updated_state.ensures ∙ ap (λ (s : State). updated_state s c.args.claim.says)
    (known_state es c.args.claim.name c.get-was.result.now known))

pub returns-else-not-changes-clause-multiples : goal.returns-else-not-changes-clause-multiples
returns-else-not-changes-clause-multiples c =
    let es = c.args.externals.now.entries in
    let known : lookup (bytes_eq c.args.claim.name) es ≡ Some c.get-was.result.now = search rules in
    c.note_clash-in-Occupied.ensures.names
    ∙ ap (λ (s : State). c.args.multiples.now.items ++ cond (clashes s c.args.claim.says) (c.args.claim.name ∷ []) [])
    (known_state es c.args.claim.name c.get-was.result.now known)

pub returns-else-not-changes-clause-marks : goal.returns-else-not-changes-clause-marks
returns-else-not-changes-clause-marks c =
    let es = c.args.externals.now.entries in
    let known : lookup (bytes_eq c.args.claim.name) es ≡ Some c.get-was.result.now = search rules in
    let at : c.index-place.result ≡ position_or_len (bytes_eq c.args.claim.name) (keys_of es) = search rules in
    let place = at ∙ place_is c.args.claim.name (keys_of es) in
    let state = known_state es c.args.claim.name c.get-was.result.now known in
    c.note_state.ensures.marks
    ∙ (λ i. c.args.marks.now.items ++ cond (nat_lt (place i) c.args.kept && changes (state i) c.args.claim.says)
    (StateWas (place i) (state i) ∷ []) [])

pub returns-in-Vacant-clause-place : goal.returns-in-Vacant-clause-place
returns-in-Vacant-clause-place c =
    let es = c.args.externals.now.entries in
    let at : c.index-place-in-Vacant.result ≡ position_or_len (bytes_eq c.args.claim.name) (keys_of es) = search rules in
    at ∙ place_is c.args.claim.name (keys_of es)

pub returns-in-Vacant-clause-names : goal.returns-in-Vacant-clause-names
returns-in-Vacant-clause-names c =
    let es = c.args.externals.now.entries in
    let unknown : lookup (bytes_eq c.args.claim.name) es ≡ None = search rules in
    let update : IsEntryFor bytes_eq c.args.externals.now c.args.claim.name (Vacant c.in-Vacant.new) = search rules in
    (search rules) ∙ update.1 c.args.claim.says
    ∙ ap (λ (s : State). insert_entry bytes_eq es c.args.claim.name s)
    (sym (says_alone c.args.claim.says)
    ∙ ap (λ (s : State). updated_state s c.args.claim.says) (unknown_state es c.args.claim.name unknown))

pub returns-in-Vacant-clause-multiples : goal.returns-in-Vacant-clause-multiples
returns-in-Vacant-clause-multiples c =
    let es = c.args.externals.now.entries in
    let unknown : lookup (bytes_eq c.args.claim.name) es ≡ None = search rules in
    sym (append-nil c.args.multiples.now.items)
    ∙ ap (λ (s : State). c.args.multiples.now.items ++ cond (clashes s c.args.claim.says) (c.args.claim.name ∷ []) [])
    (unknown_state es c.args.claim.name unknown)

pub returns-in-Vacant-clause-marks : goal.returns-in-Vacant-clause-marks
returns-in-Vacant-clause-marks c =
    let es = c.args.externals.now.entries in
    let unknown : lookup (bytes_eq c.args.claim.name) es ≡ None = search rules in
    let at : c.index-place-in-Vacant.result ≡ position_or_len (bytes_eq c.args.claim.name) (keys_of es) = search rules in
    let place = at ∙ place_is c.args.claim.name (keys_of es) in
    let state = unknown_state es c.args.claim.name unknown in
    c.note_state-in-Vacant.ensures.marks
    ∙ (λ i. c.args.marks.now.items ++ cond (nat_lt (place i) c.args.kept && changes (state i) c.args.claim.says)
    (StateWas (place i) (state i) ∷ []) [])
