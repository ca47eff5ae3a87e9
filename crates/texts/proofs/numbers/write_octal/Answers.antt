use Rattle.std.proofs.Common.{rules, arith, drop, length, ◌+◌, ◌∙◌, ap, sym, slice_set, ◌/◌, ◌∷◌, ◌≡◌, ◌-◌, []}
use Rattle.std.proofs.lemmas.List.{drop-set, drop_all}
use Rattle.texts.specs.Numbers.{digit}
use Rattle.texts.proofs.OctalLemmas.{digits_left, first-digit, next-digit, place-left, fewer-digits}
use Rattle.texts.proofs.numbers.write_octal.Goals as goal

pub loop-rest-init : goal.loop-rest-init
loop-rest-init c =
    let d = digit c.args.number in
    let long : length c.args.places.now ≡ 22 = search rules in
    let set : drop 21 (slice_set c.args.places.now 21 d) ≡ d ∷ drop 22 c.args.places.now = drop-set c.args.places.now 21 d (omega arith) in
    let none : drop 22 c.args.places.now ≡ [] = drop_all 22 c.args.places.now (omega arith) in (
      search rules,
      search rules,
      search rules,
      first-digit c.args.number ∙ ap (digits_left 21 c.args.number) (sym (set ∙ ap (λ l. d ∷ l) none)
          ∙ ap (λ x. drop 21 (slice_set c.args.places.now 21 x)) (sym c.long_digit.ensures)),
    )

pub overflow_sub-start-in-loop-rest : goal.overflow_sub-start-in-loop-rest
overflow_sub-start-in-loop-rest c = place-left c.loop-rest.start c.loop-rest.rest (search rules) c.loop-rest.invariant.2

pub loop-rest-preserved : goal.loop-rest-preserved
loop-rest-preserved c =
    let start = c.loop-rest.start in
    let rest = c.loop-rest.rest in
    let d = digit (rest / 8) in
    let room = place-left start rest (search rules) c.loop-rest.invariant.2 in
    let long : length c.loop-rest.places ≡ 22 = c.loop-rest.invariant.0 in
    let same : start - 1 + 1 ≡ start = omega arith in
    let set : drop (start - 1) (slice_set c.loop-rest.places (start - 1) d) ≡ d ∷ drop start c.loop-rest.places =
    drop-set c.loop-rest.places (start - 1) d (omega arith) ∙ ap (λ n. d ∷ drop n c.loop-rest.places) same in (
      search rules,
      omega arith,
      fewer-digits start rest room c.loop-rest.invariant.2,
      c.loop-rest.invariant.3 ∙ next-digit start rest (drop start c.loop-rest.places) room (search rules)
          ∙ ap (digits_left (start - 1) (rest / 8)) (sym set
          ∙ ap (λ x. drop (start - 1) (slice_set c.loop-rest.places (start - 1) x)) (sym c.long_digit-in-loop-rest.ensures)),
    )
