-- Different names of symbols that stay are different in eight bytes.
use Rattle.std.proofs.Common.{◌≡◌, ◌≢◌, ℕ, zero, suc, ◌+◌, Bool, true, false, not, ◌&&◌, ◌||◌, if◌then◌else◌, List, [], ◌∷◌, take}
use Rattle.std.proofs.{Common.{Option, Some, None, slice_get, sym, ap, ◌∙◌, ◌⊎◌, inl, inr, rules}}
use Rattle.std.specs.Prelude.{is_some, option_map}
use Rattle.gnu_objects.specs.{Staying.{is_external, are_alike, counts, alike_with, collides, stays}, declared.refusal.Refusal.TheVariants.AlikeNames}
use Rattle.gnu_objects.specs.GnuRefusals.{alike_refusal, first_alike, first_refusal}
use Rattle.gnu_objects.specs.{declared.options.Locals.Locals, declared.symbols.GnuSymbol.GnuSymbol, GnuForm.name_at, GnuForm.is_stab}
use Rattle.gnu_objects.proofs.ReferenceLemmas.{both_none}

alike : (a b : List ℕ) → a ≢ b → take 8 a ≡ take 8 b → are_alike a b ≡ true
alike a b ne e = search rules

-- ---- no name is alike

pub no_number : (b : Bool) (m : ℕ) (later : Option ℕ) → (if b then Some m else later) ≡ None → (b ≡ false) × (later ≡ None)
no_number b m later e = search rules

abbrev is_alike : List ℕ → Bool → List ℕ → GnuSymbol → Bool
is_alike strings externals name s = counts strings externals s && are_alike name (name_at strings s.place)

none_alike : (strings : List ℕ) (externals : Bool) (name : List ℕ) (m : ℕ) (rest : List GnuSymbol) (k : ℕ) (t : GnuSymbol) →
    alike_with strings externals name m rest ≡ None → slice_get rest k ≡ Some t → counts strings externals t ≡ true →
    are_alike name (name_at strings t.place) ≡ true → ⊥
none_alike strings externals name m [] k t none is counted same = cc
none_alike strings externals name m (s ∷ rest) zero t none is counted same = search rules
none_alike strings externals name m (s ∷ rest) (suc k) t none is counted same =
    let head = no_number (is_alike strings externals name s) m (alike_with strings externals name (m + 1) rest) none in
    none_alike strings externals name (m + 1) rest k t head.1 is counted same

no_alike : (n : ℕ) (o : Option ℕ) → option_map (AlikeNames n) o ≡ None → o ≡ None
no_alike n o e = search rules

apart : (strings : List ℕ) (all : List GnuSymbol) (i : ℕ) (symbols : List GnuSymbol) (m n : ℕ) (s t : GnuSymbol) →
    first_refusal (alike_refusal strings all) i symbols ≡ None → slice_get symbols m ≡ Some s → slice_get all n ≡ Some t →
    counts strings true s ≡ true → counts strings true t ≡ true → are_alike (name_at strings s.place) (name_at strings t.place) ≡ true → ⊥
apart strings all i [] m n s t none is_s is_t count_s count_t same = cc
apart strings all i (x ∷ rest) zero n s t none is_s is_t count_s count_t same = search (rules, both_none, none_alike, no_alike)
apart strings all i (x ∷ rest) (suc m) n s t none is_s is_t count_s count_t same =
    let head = both_none (alike_refusal strings all i x) (first_refusal (alike_refusal strings all) (i + 1) rest) none in
    apart strings all (i + 1) rest m n s t head.1 is_s is_t count_s count_t same

-- ---- symbols that stay

how_stays : (locals : Locals) (strings : List ℕ) (symbols : List GnuSymbol) (words : List ℕ) (n : ℕ) (s : GnuSymbol) →
    stays locals strings symbols words n s ≡ true →
    (is_stab strings s ≡ false) × ((is_external s ≡ true) ⊎ (collides strings symbols s ≡ false))
how_stays locals strings symbols words n s e = search rules

pub none_is : (o : Option ℕ) → is_some o ≡ false → o ≡ None
none_is o e = search rules

counts_any : (strings : List ℕ) (s : GnuSymbol) → is_stab strings s ≡ false → counts strings false s ≡ true
counts_any strings s e = ap (λ (b : Bool). not b && (not false || is_external s)) e

counts_external : (strings : List ℕ) (s : GnuSymbol) → is_stab strings s ≡ false → is_external s ≡ true → counts strings true s ≡ true
counts_external strings s e x = ap (λ (b : Bool). not b && (not true || is_external s)) e ∙ x

lone : (strings : List ℕ) (symbols : List GnuSymbol) (n : ℕ) (s t : GnuSymbol) → collides strings symbols s ≡ false →
    slice_get symbols n ≡ Some t → is_stab strings t ≡ false → are_alike (name_at strings s.place) (name_at strings t.place) ≡ true → ⊥
lone strings symbols n s t e is stab same = search (rules, none_alike, none_is, counts_any)

pub distinct : (locals : Locals) (strings : List ℕ) (symbols : List GnuSymbol) (words : List ℕ) → first_alike strings symbols ≡ None →
    (m n : ℕ) (s t : GnuSymbol) → slice_get symbols m ≡ Some s → slice_get symbols n ≡ Some t →
    stays locals strings symbols words m s ≡ true → stays locals strings symbols words n t ≡ true →
    name_at strings s.place ≢ name_at strings t.place → take 8 (name_at strings s.place) ≢ take 8 (name_at strings t.place)
distinct locals strings symbols words none m n s t is_s is_t stays_s stays_t ne e =
    by (how_stays locals strings symbols words m s stays_s) (how_stays locals strings symbols words n t stays_t)
  where
    one : are_alike (name_at strings s.place) (name_at strings t.place) ≡ true
    one = alike (name_at strings s.place) (name_at strings t.place) ne e

    other : are_alike (name_at strings t.place) (name_at strings s.place) ≡ true
    other = alike (name_at strings t.place) (name_at strings s.place) (λ same. ne (sym same)) (sym e)

    by : (is_stab strings s ≡ false) × ((is_external s ≡ true) ⊎ (collides strings symbols s ≡ false)) →
        (is_stab strings t ≡ false) × ((is_external t ≡ true) ⊎ (collides strings symbols t ≡ false)) → ⊥
    by (stab_s, inr lone_s) (stab_t, how) = lone strings symbols n s t lone_s is_t stab_t one
    by (stab_s, inl external_s) (stab_t, inr lone_t) = lone strings symbols m t s lone_t is_s stab_s other
    by (stab_s, inl external_s) (stab_t, inl external_t) =
        apart strings symbols 0 symbols m n s t none is_s is_t (counts_external strings s stab_s external_s)
        (counts_external strings t stab_t external_t) one
