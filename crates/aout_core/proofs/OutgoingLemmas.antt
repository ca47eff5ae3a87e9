-- What went out, and what waits.
use Rattle.std.proofs.{Common.{◌≡◌, ℕ, List, ◌++◌, Option, sym, ◌∙◌, ap, subst, append_assoc}, KnownBytes.Appends-trans}
use Rattle.std.specs.{Prelude.Result, Prelude.Ok, Prelude.Err, Prelude.IsErr, Io.KnownBytes.Appends}
use Rattle.aout_core.specs.{Wires.AppendsPrefix, Wires.Puts, internal.Blocks.AppendsBut, internal.Blocks.PutsBut}
use Rattle.aout_core.proofs.PutsLemmas.{front_before}

-- the text after a text that broke off
pub broke_before : (a b : Option (List ℕ)) (all first second : List ℕ) → all ≡ first ++ second →
    AppendsPrefix a b first → AppendsPrefix a b all
broke_before a b all first second e broke = subst (AppendsPrefix a b) (sym e) (front_before a b first second broke)

-- a write that broke off leaves a prefix, whatever waits
pub broke_off : {T E : Type 0} (r : Result T E) (a b : Option (List ℕ)) (waiting bytes : List ℕ) → IsErr r →
    AppendsPrefix a b bytes → PutsBut r a b waiting bytes
broke_off (Ok x) a b waiting bytes h p = absurd (cc)
broke_off (Err e) a b waiting bytes h p = p

-- a text went out but for what waits, and then what waits and more
pub appends_but_more : (a b d : Option (List ℕ)) (waiting left text bytes : List ℕ) → AppendsBut a b waiting text →
    AppendsBut b d left (waiting ++ bytes) → AppendsBut a d left (text ++ bytes)
appends_but_more a b d waiting left text bytes (sent, split, first) (later, rest, second) = (
  sent ++ later,
  ap (λ l. l ++ bytes) split ∙ append_assoc sent waiting bytes ∙ ap (λ l. sent ++ l) rest ∙ sym (append_assoc sent later left),
  Appends-trans a b d sent later first second,
)

-- a text went out but for what waits, and then a prefix of that and more
pub broke_more : (a b d : Option (List ℕ)) (waiting text bytes : List ℕ) → AppendsBut a b waiting text →
    AppendsPrefix b d (waiting ++ bytes) → AppendsPrefix a d (text ++ bytes)
broke_more a b d waiting text bytes (sent, split, first) (front, rest, cut, second) = (
  sent ++ front,
  rest,
  ap (λ l. l ++ bytes) split ∙ append_assoc sent waiting bytes ∙ ap (λ l. sent ++ l) cut ∙ sym (append_assoc sent front rest),
  Appends-trans a b d sent front first second,
)

-- a text went out but for what waits, and then the answer says what was made of that and more
pub puts_but_more : {T E : Type 0} (r : Result T E) (a b d : Option (List ℕ)) (waiting left text bytes : List ℕ) →
    AppendsBut a b waiting text → PutsBut r b d left (waiting ++ bytes) → PutsBut r a d left (text ++ bytes)
puts_but_more (Ok x) a b d waiting left text bytes first second = appends_but_more a b d waiting left text bytes first second
puts_but_more (Err e) a b d waiting left text bytes first second = broke_more a b d waiting text bytes first second

-- what is announced went out at last
pub put_at_last : {T E : Type 0} (r : Result T E) (a b d : Option (List ℕ)) (waiting text : List ℕ) →
    AppendsBut a b waiting text → Puts r b d waiting → Puts r a d text
put_at_last (Ok x) a b d waiting text (sent, split, first) second =
    subst (Appends a d) (sym split) (Appends-trans a b d sent waiting first second)
put_at_last (Err e) a b d waiting text (sent, split, first) (front, rest, cut, second) =
    (sent ++ front, rest, split ∙ ap (λ l. sent ++ l) cut ∙ sym (append_assoc sent front rest), Appends-trans a b d sent front first second)

-- what waited and a text went out, and then the answer says what was made of more
pub puts_then : {T E : Type 0} (r : Result T E) (a b d : Option (List ℕ)) (old waiting left first second all : List ℕ) →
    all ≡ first ++ second → AppendsBut a b waiting (old ++ first) → PutsBut r b d left (waiting ++ second) → PutsBut r a d left (old ++ all)
puts_then r a b d old waiting left first second all e before after =
    subst (PutsBut r a d left) (append_assoc old first second ∙ ap (λ l. old ++ l) (sym e))
    (puts_but_more r a b d waiting left (old ++ first) second before after)

-- or that broke off
pub broke_then : {T E : Type 0} (r : Result T E) (a b : Option (List ℕ)) (old waiting first second all : List ℕ) →
    all ≡ first ++ second → IsErr r → AppendsPrefix a b (old ++ first) → PutsBut r a b waiting (old ++ all)
broke_then r a b old waiting first second all e wrong broke =
    broke_off r a b waiting (old ++ all) wrong
    (broke_before a b (old ++ all) (old ++ first) second (ap (λ l. old ++ l) e ∙ sym (append_assoc old first second)) broke)
