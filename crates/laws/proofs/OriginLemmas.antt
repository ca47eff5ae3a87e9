-- The place of an object in a file that was linked from it.
use Rattle.std.proofs.Common.{◌≡◌, ℕ, ◌+◌, ◌*◌, ◌/◌, ◌%◌, ◌≤◌, List, [], ◌∷◌, ◌++◌, length, refl, ap, ◌∙◌, arith, cond}
use Rattle.std.proofs.{lemmas.List.Sums.sum_by-append}
use Rattle.std.specs.{List.AllByRecursion}
use Rattle.std.specs.Prelude.{Option, Some, None}
use Rattle.aout_core.specs.declared.symbol.Segment.TheVariants.{TextSeg, DataSeg, BssSeg}
use Rattle.aout_core.specs.{declared.header.Header.Header, declared.symbol.Symbol.Symbol, declared.reloc.Kind.Kind, Contents.Contents}
use Rattle.aout_core.specs.{declared.symbol.Segment.Segment, Words.{plus, minus}, WellFormed.{kind_of, is_pc_relative, symbol_number}}
use Rattle.aout_core.specs.declared.reloc.Kind.TheVariants as kinds
use Rattle.link_session.specs.{Starts.total, Starts.size_of, Sessions.IsObject}
use Rattle.origins.specs.Fits.{Moves, added}
use Rattle.laws.specs.{Origins.{AllFit, EachIsFound}}
use Rattle.laws.specs.relation.Relocated.{IsAdded, move_in, entry_of, address_in}

-- the address that an external gives, 0 if there is none
abbrev pub address_found : Option Symbol → ℕ
address_found None = 0
address_found (Some row) = address_in row

-- the moves of the object's segments, and the addresses of the names
abbrev pub moves_in : Header → List Symbol → List Contents → List Contents → Contents → Moves
moves_in h rows os before k = record {
  text = move_in h os before k TextSeg;
  «data» = move_in h os before k DataSeg;
  bss = move_in h os before k BssSeg;
  address = λ name. address_found (entry_of rows name);
}

added_there : (h : Header) (rows : List Symbol) (os before : List Contents) (k : Contents) (kind : Option Kind) (number a : ℕ) →
    IsAdded h rows os before k kind number a → a ≡ added (moves_in h rows os before k) k kind number
added_there h rows os before k None number a is = absurd is
added_there h rows os before k (Some kinds.Absolute) number a is = is
added_there h rows os before k (Some kinds.TextSeg) number a is = is
added_there h rows os before k (Some kinds.DataSeg) number a is = is
added_there h rows os before k (Some kinds.BssSeg) number a is = is
added_there h rows os before k (Some kinds.External) number a is = rw is.named (rw is.found is.gives)

pub all_fit : AllFit
all_fit forced os o x is = (
  (λ name. address_found (entry_of is.rows name)),
  λ before k after e. (
    moves_in x.file.header is.rows os before k,
    refl,
    record {
      text_moved = omega arith;
      data_moved = refl;
      text_words = λ i w r gw gr.
          let word = is.text before k after e i w r gw gr in
          word.word ∙ ap (λ (a : ℕ). Some (minus (plus w a) (cond (is_pc_relative r) (move_in x.file.header os before k TextSeg) 0)))
          (added_there x.file.header is.rows os before k (kind_of r) (symbol_number r) word.added word.is);
      data_words = λ i w r gw gr.
          let word = is.data before k after e i w r gw gr in
          word.word ∙ ap (λ (a : ℕ). Some (minus (plus w a) (cond (is_pc_relative r) (move_in x.file.header os before k DataSeg) 0)))
          (added_there x.file.header is.rows os before k (kind_of r) (symbol_number r) word.added word.is);
    },
  ),
)

-- sizes of objects are even
abbrev pub IsEven : ℕ → Type 0
IsEven n = n % 2 ≡ 0

even_sum : (a b : ℕ) → IsEven a → IsEven b → IsEven (a + b)
even_sum a b e f = omega arith

text_even : (k : Contents) → IsObject k → IsEven k.header.text_size
text_even k is = let text = is.fits.text in omega arith

data_even : (k : Contents) → IsObject k → IsEven k.header.data_size
data_even k is = let size = is.fits.«data» in omega arith

total_first : (segment : Segment) (k : Contents) (ks : List Contents) → total segment (k ∷ ks) ≡ size_of segment k + total segment ks
total_first segment k ks = sum_by-append (size_of segment) (k ∷ []) ks ∙ omega arith

total_even_text : (ks : List Contents) → AllByRecursion IsObject ks → IsEven (total TextSeg ks)
total_even_text [] are = refl
total_even_text (k ∷ ks) are = rw (total_first TextSeg k ks) (even_sum k.header.text_size (total TextSeg ks) (text_even k are.0) (total_even_text ks are.1))

total_even_data : (ks : List Contents) → AllByRecursion IsObject ks → IsEven (total DataSeg ks)
total_even_data [] are = refl
total_even_data (k ∷ ks) are = rw (total_first DataSeg k ks) (even_sum k.header.data_size (total DataSeg ks) (data_even k are.0) (total_even_data ks are.1))

front_are : (before rest : List Contents) → AllByRecursion IsObject (before ++ rest) → AllByRecursion IsObject before
front_are [] rest are = tt
front_are (k ∷ ks) rest are = (are.0, front_are ks rest are.1)

halved : (n : ℕ) → IsEven n → n ≡ 2 * (n / 2)
halved n e = omega arith

half_within : (n m l : ℕ) → n ≤ m → 2 * l ≡ m → n / 2 ≤ l
half_within n m l le e = omega arith

pub each_found : EachIsFound
each_found forced os o x are is before k after e =
    let front : AllByRecursion IsObject before = front_are before (k ∷ after) (rw e at are) in
    let text = total_even_text before front in
    let place = total_even_data before front in
    let texts : total TextSeg before ≤ total TextSeg os = let s = sum_by-append (size_of TextSeg) before (k ∷ after) in rw e (omega (arith, s)) in
    let places : total DataSeg before ≤ total DataSeg os = let s = sum_by-append (size_of DataSeg) before (k ∷ after) in rw e (omega (arith, s)) in (
      total TextSeg before / 2,
      half_within _ _ (length x.file.text_words) texts is.holds.text_words,
      halved _ text,
      (
        total DataSeg before / 2,
        half_within _ _ (length x.file.data_words) places is.holds.data_words,
        rw (← halved _ place) (let fit = (all_fit forced os o x is).1 before k after e in (fit.0, fit.2)),
      ),
    )
