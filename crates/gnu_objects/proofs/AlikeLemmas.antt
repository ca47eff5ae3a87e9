-- What a map finds for a name once a name has been put in.
use Rattle.std.proofs.Common.{◌≡◌, ℕ, ◌+◌, ◌<◌, Bool, true, false, cond, not, ◌&&◌, nat_eq, if◌then◌else◌, List, drop, take, length, Option}
use Rattle.std.proofs.{Common.{Some, get_or, refl, sym, ap, ◌∙◌, rules}, lemmas.List.drop_more}
use Rattle.std.specs.Cmp.Lexicographic.{pointwise, same_text}
use Rattle.indexmap.specs.IndexMap.{IndexMap, get}
use Rattle.gnu_objects.specs.{Staying.{are_alike, counts, alike_with}, declared.alike.Equals.Equals, declared.symbols.GnuSymbol.GnuSymbol, GnuForm.name_at}
use Rattle.gnu_objects.specs.internal.AlikeNames.{other_than, found, PutsName, PutsSymbol, FindsAlike}

pub alike-symm : (a b : List ℕ) → are_alike a b ≡ are_alike b a
alike-symm a b = search rules

module _ {S : Type 0} where
  pub puts_name : (name : List ℕ) (number : ℕ) (e : Equals) (old new : IndexMap (List ℕ) Equals S) →
      e.name.items ≡ name → e.number ≡ number → e.other ≡ found old name →
      ((k : List ℕ) → get (pointwise nat_eq) new k ≡ cond (pointwise nat_eq (take 8 name) k) (Some e) (get (pointwise nat_eq) old k)) →
      PutsName name number old new
  puts_name name number e old new is_name is_number is_other puts q = by (pointwise nat_eq (take 8 name) (take 8 q)) refl
    where
      -- what is found, if the name has the same start
      looks : pointwise nat_eq (take 8 name) (take 8 q) ≡ true →
          found new q ≡ (if pointwise nat_eq name q then found old name else Some number)
      looks t =
          ap (other_than q) (puts (take 8 q))
          ∙ ap (λ (b : Bool). other_than q (cond b (Some e) (get (pointwise nat_eq) old (take 8 q)))) t
          ∙ ap (λ (n : List ℕ). if pointwise nat_eq n q then e.other else Some e.number) is_name
          ∙ ap (λ (o : Option ℕ). if pointwise nat_eq name q then o else Some e.number) is_other
          ∙ ap (λ (n : ℕ). if pointwise nat_eq name q then found old name else Some n) is_number

      -- a name with the same start is alike unless it is the same
      is_alike : pointwise nat_eq (take 8 name) (take 8 q) ≡ true → are_alike q name ≡ not (pointwise nat_eq name q)
      is_alike t = alike-symm q name ∙ ap (λ (b : Bool). b && not (pointwise nat_eq name q)) t

      by_name : (u : Bool) → pointwise nat_eq name q ≡ u → pointwise nat_eq (take 8 name) (take 8 q) ≡ true →
          found new q ≡ (if are_alike q name then Some number else found old q)
      by_name true u t =
          looks t
          ∙ ap (λ (b : Bool). if b then found old name else Some number) u
          ∙ ap (found old) (same_text name q (sym u))
          ∙ sym (ap (λ (b : Bool). if b then Some number else found old q) (is_alike t ∙ ap not u))
      by_name false u t =
          looks t
          ∙ ap (λ (b : Bool). if b then found old name else Some number) u
          ∙ sym (ap (λ (b : Bool). if b then Some number else found old q) (is_alike t ∙ ap not u))

      by : (t : Bool) → pointwise nat_eq (take 8 name) (take 8 q) ≡ t →
          found new q ≡ (if are_alike q name then Some number else found old q)
      by true t = by_name (pointwise nat_eq name q) refl t
      by false t =
          ap (other_than q) (puts (take 8 q))
          ∙ ap (λ (b : Bool). other_than q (cond b (Some e) (get (pointwise nat_eq) old (take 8 q)))) t
          ∙ sym (ap (λ (b : Bool). if b then Some number else found old q)
          (alike-symm q name ∙ ap (λ (b : Bool). b && not (pointwise nat_eq name q)) t))

  -- one symbol more is put in
  pub puts_more : (strings : List ℕ) (externals : Bool) (symbols : List GnuSymbol) (n : ℕ) (d : GnuSymbol)
      (before after : IndexMap (List ℕ) Equals S) →
      n < length symbols → PutsSymbol strings externals n (get_or symbols n d) before after →
      FindsAlike strings externals (n + 1) (drop (n + 1) symbols) before → FindsAlike strings externals n (drop n symbols) after
  puts_more strings externals symbols n d before after inside puts so_far q =
      let s : GnuSymbol = get_or symbols n d in
      puts q ∙ ap (λ (o : Option ℕ). if counts strings externals s && are_alike q (name_at strings s.place) then Some n else o) (so_far q)
      ∙ sym (ap (alike_with strings externals q n) (drop_more symbols n d inside))
