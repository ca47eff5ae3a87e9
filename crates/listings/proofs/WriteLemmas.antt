-- One more word of a segment is written.
use Rattle.std.proofs.lemmas.Grind.{common_steps}
use Rattle.std.proofs.Common.{◌≡◌, ℕ, zero, suc, ◌+◌, ◌*◌, ◌%◌, ◌<◌, List, [], ◌∷◌, ◌++◌, drop, length, get_or, refl, sym, ◌∙◌, ap, arith, subst, replicate}
use Rattle.std.proofs.{Common.{append_assoc, drop-drop}, lemmas.List.{drop_more, take_all}, Math.Seq.drop-length}
use Rattle.std.specs.Prelude.{◌-◌, codes, take, Option, slice_get}
use Rattle.aout_core.specs.{declared.reloc.Reloc.Reloc, declared.symbol.Symbol.Symbol}
use Rattle.texts.specs.{Lines.text_of, Numbers.six_digits}
use Rattle.texts.proofs.LineLemmas.{two_texts}
use Rattle.listings.proofs.{RowLemmas.gap_append, SaidLemmas.more_lines}
use Rattle.std.specs.List.{AllByRecursion}
use Rattle.listings.specs.Listing.{IsSkipped, IsWord, AreWords, IsSymbolLine, AreSymbols, gap, remarked}

get_dropped : (i : ℕ) (rs : List Reloc) → slice_get (drop i rs) 0 ≡ slice_get rs i
get_dropped zero rs = refl
get_dropped (suc i) [] = refl
get_dropped (suc i) (r ∷ rs) = get_dropped i rs

-- one more word is written: what is said of the words from it on is what is said of it, and of those after it
pub words_step : (start i w : ℕ) (r : Option Reloc) (ws : List ℕ) (rs : List Reloc) (first others : List (List ℕ)) → i < length ws →
    w ≡ get_or ws i 0 → r ≡ slice_get rs i → IsWord ((start + 2 * i) % 65536) w r first →
    AreWords (start + 2 * (i + 1)) (drop (i + 1) ws) (drop (i + 1) rs) others →
    AreWords (start + 2 * i) (drop i ws) (drop i rs) (first ++ others)
words_step start i w r ws rs first others lt is reloc line more =
    let next : start + 2 * i + 2 ≡ start + 2 * (i + 1) = omega arith in
    subst (λ (y : List ℕ). AreWords (start + 2 * i) y (drop i rs) (first ++ others)) (sym (drop_more ws i 0 lt)) (
      first,
      others,
      subst (λ (v : ℕ). IsWord ((start + 2 * i) % 65536) v (slice_get (drop i rs) 0) first) is
          (subst (λ (v : Option Reloc). IsWord ((start + 2 * i) % 65536) w v first) (reloc ∙ sym (get_dropped i rs)) line),
      subst (λ (n : ℕ). AreWords n (drop (i + 1) ws) (drop 1 (drop i rs)) others) (sym next)
          (subst (λ (y : List Reloc). AreWords (start + 2 * (i + 1)) (drop (i + 1) ws) y others) (sym (drop-drop 1 i rs)) more),
      refl,
    )

-- what is said of the words from the first on, and of the end of a part
pub words_first : (start : ℕ) (ws : List ℕ) (rs : List Reloc) (ls : List (List ℕ)) → AreWords (start + 2 * 0) ws rs ls → AreWords start ws rs ls
words_first start ws rs ls are = let same : start + 2 * 0 ≡ start = omega arith in subst (λ (n : ℕ). AreWords n ws rs ls) same are

pub words_last : (start i : ℕ) (ws : List ℕ) (rs : List Reloc) (ls : List (List ℕ)) → i ≡ length ws → AllByRecursion IsSkipped ls →
    AreWords (start + 2 * i) (drop i ws) (drop i rs) ls
words_last start i ws rs ls end are =
    subst (λ (n : ℕ). AreWords (start + 2 * n) (drop n ws) (drop n rs) ls) (sym end)
    (subst (λ (y : List ℕ). AreWords (start + 2 * length ws) y (drop (length ws) rs) ls) (sym (drop-length ws)) are)

pub symbols_step : (i : ℕ) (s : Symbol) (ss : List Symbol) (l : List ℕ) (others : List (List ℕ)) →
    drop i ss ≡ s ∷ drop (i + 1) ss → IsSymbolLine i s l → AreSymbols (i + 1) (drop (i + 1) ss) others → AreSymbols i (drop i ss) (l ∷ others)
symbols_step i s ss l others is line more =
    subst (λ (y : List Symbol). AreSymbols i y (l ∷ others)) (sym is) (l, others, line, more, refl)

pub symbols_last : (i : ℕ) (ss : List Symbol) → i ≡ length ss → AreSymbols i (drop i ss) []
symbols_last i ss end =
    subst (λ (n : ℕ). AreSymbols n (drop n ss) []) (sym end)
    (subst (λ (y : List Symbol). AreSymbols (length ss) y []) (sym (drop-length ss)) refl)

-- lines are put before those that are left
pub put_step : (init items new : List ℕ) (all : List ℕ) (first rest : List (List ℕ)) → new ≡ items ++ text_of first →
    items ++ text_of (first ++ rest) ≡ init ++ all → new ++ text_of rest ≡ init ++ all
put_step init items new all first rest grown before =
    ap (λ (y : List ℕ). y ++ text_of rest) grown
    ∙ append_assoc items (text_of first) (text_of rest)
    ∙ ap (λ (y : List ℕ). items ++ y) (sym (two_texts first rest))
    ∙ before

-- a line with a word of its own, and the lines after it
opened : (t0 t1 t2 w : List ℕ) (ls : List (List ℕ)) → t1 ≡ t0 ++ (w ++ 10 ∷ []) → t2 ≡ t1 ++ text_of ls → t2 ≡ t0 ++ text_of (w ∷ ls)
opened t0 t1 t2 w ls e1 e2 = e2 ∙ ap (λ (t : List ℕ). t ++ text_of ls) e1 ∙ append_assoc t0 (w ++ 10 ∷ []) (text_of ls)

-- the parts of a listing, one after another
pub whole : (t0 t1 t2 t3 t4 t5 t6 t7 t8 t9 t10 : List ℕ) (n h x d b s f : List (List ℕ)) → t1 ≡ t0 ++ text_of n →
    t2 ≡ t1 ++ text_of h → t3 ≡ t2 ++ codes "text\n" → t4 ≡ t3 ++ text_of x → t5 ≡ t4 ++ codes "data\n" → t6 ≡ t5 ++ text_of d →
    t7 ≡ t6 ++ text_of b → t8 ≡ t7 ++ codes "symbols\n" → t9 ≡ t8 ++ text_of s → t10 ≡ t9 ++ text_of f →
    t10 ≡ t0 ++ text_of (n ++ (h ++ ((codes "text" ∷ x) ++ ((codes "data" ∷ d) ++ (b ++ ((codes "symbols" ∷ s) ++ f))))))
whole t0 t1 t2 t3 t4 t5 t6 t7 t8 t9 t10 n h x d b s f e1 e2 e3 e4 e5 e6 e7 e8 e9 e10 =
    let symbols = (codes "symbols" ∷ s) ++ f in
    let datas = (codes "data" ∷ d) ++ (b ++ symbols) in
    let texts = (codes "text" ∷ x) ++ datas in
    more_lines t0 t1 t10 n (h ++ texts) e1 (more_lines t1 t2 t10 h texts e2
    (more_lines t2 t4 t10 (codes "text" ∷ x) datas (opened t2 t3 t4 (codes "text") x e3 e4)
    (more_lines t4 t6 t10 (codes "data" ∷ d) (b ++ symbols) (opened t4 t5 t6 (codes "data") d e5 e6)
    (more_lines t6 t7 t10 b symbols e7
    (more_lines t7 t9 t10 (codes "symbols" ∷ s) f (opened t7 t8 t9 (codes "symbols") s e8 e9) e10)))))

pub listed_bytes : (t0 t1 t2 text : List ℕ) (ls : List (List ℕ)) → t0 ≡ [] → t1 ≡ t0 ++ text_of ls → t2 ≡ t1 ++ codes "end\n" → text ≡ t2 →
    text ≡ text_of (ls ++ codes "end" ∷ [])
listed_bytes t0 t1 t2 text ls none e1 e2 is =
    is
    ∙ more_lines t0 t1 t2 ls (codes "end" ∷ []) e1 e2
    ∙ ap (λ (t : List ℕ). t ++ text_of (ls ++ codes "end" ∷ [])) none

line_put : (t0 t1 t2 t3 a b : List ℕ) → t1 ≡ t0 ++ a → t2 ≡ t1 ++ b → t3 ≡ t2 ++ 10 ∷ [] → t3 ≡ t0 ++ text_of ((a ++ b) ∷ [])
line_put t0 t1 t2 t3 a b e1 e2 e3 = grind (arith, common_steps)

-- the line of a word that was put, and of a symbol
pub word_bytes : (t0 t1 t2 t3 t4 columns said bytes : List ℕ) (labels : List (List ℕ)) → t1 ≡ t0 ++ text_of labels → t2 ≡ t1 ++ columns →
    bytes ≡ remarked said → t3 ≡ t2 ++ bytes → t4 ≡ t3 ++ 10 ∷ [] → t4 ≡ t0 ++ text_of (labels ++ (columns ++ remarked said) ∷ [])
word_bytes t0 t1 t2 t3 t4 columns said bytes labels e1 e2 is e3 e4 =
    more_lines t0 t1 t4 labels ((columns ++ remarked said) ∷ []) e1 (line_put t1 t2 t3 t4 columns (remarked said) e2
    (e3 ∙ ap (λ (y : List ℕ). t2 ++ y) is) e4)

pub symbol_bytes : (t0 t1 t2 t3 number shown name numbers bytes : List ℕ) (w far blanks : ℕ) → shown ≡ name → far ≡ blanks →
    t1 ≡ t0 ++ gap w number shown → bytes ≡ 32 ∷ (replicate far 32 ++ numbers) → t2 ≡ t1 ++ bytes → t3 ≡ t2 ++ 10 ∷ [] →
    t3 ≡ t0 ++ text_of (gap w number (gap blanks name numbers) ∷ [])
symbol_bytes t0 t1 t2 t3 number shown name numbers bytes w far blanks same long e1 is e2 e3 =
    line_put t0 t1 t2 t3 (gap w number shown) bytes e1 e2 e3
    ∙ ap (λ (l : List ℕ). t0 ++ text_of (l ∷ [])) (ap (λ (y : List ℕ). gap w number shown ++ y) is
    ∙ gap_append w number shown (32 ∷ (replicate far 32 ++ numbers))
    ∙ ap (λ (y : List ℕ). gap w number (gap far y numbers)) same
    ∙ ap (λ (n : ℕ). gap w number (gap n name numbers)) long)

-- the digits of an address and of a word, with two blanks between them
abbrev pub placed : List ℕ → List ℕ → List ℕ
placed a w =
    get_or a 0 0 ∷ get_or a 1 0 ∷ get_or a 2 0 ∷ get_or a 3 0 ∷ get_or a 4 0 ∷ get_or a 5 0 ∷ 32 ∷ 32
    ∷ get_or w 0 0 ∷ get_or w 1 0 ∷ get_or w 2 0 ∷ get_or w 3 0 ∷ get_or w 4 0 ∷ get_or w 5 0 ∷ []

pub place_row : (at word : ℕ) (a w : List ℕ) → a ≡ six_digits at → w ≡ six_digits word →
    placed a w ≡ gap 1 (six_digits at) (six_digits word)
unfolding six_digits
place_row at word a w ea ew = ap (λ (l : List ℕ). placed l w) ea ∙ ap (λ (l : List ℕ). placed (six_digits at) l) ew
