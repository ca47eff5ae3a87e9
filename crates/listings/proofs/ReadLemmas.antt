-- Steps of the loops of the reader.
use Rattle.std.proofs.Common.{◌≡◌, ℕ, ◌<◌, Bool, true, false, eqb, List, [], ◌∷◌, length, inl, inr, refl, sym, ◌∙◌, subst, ap, arith, rules}
use Rattle.std.specs.{Prelude.{◌⊎◌, ◌||◌, Result, Ok, Err}, List.list_any}
use Rattle.aout_core.specs.Contents.{Contents, IsSound}
use Rattle.listings.specs.Reading.{Mistakes, State, is_head, has_head, line_read, lines_read, read}
use Rattle.listings.specs.{MemoryWanted.{IsEntry, IsLater, MayRunOutInLines}, declared.draft.Addresses.Addresses}
use Rattle.listings.specs.{Columns.{row_of, first_line, other_lines, is_said, says_something}, declared.fault.ListingFault.ListingFault}
use Rattle.listings.specs.{Listing.IsListed, Said.{Says, Gives}}
use Rattle.listings.proofs.ListingLemmas.{listing_read}
use Rattle.texts.specs.Lines.{lines_in}

lines_by : (b : ℕ) (bs : List ℕ) (t : Bool) → eqb b 10 ≡ t → lines_in bs ≡ first_line bs ∷ lines_in (other_lines bs) →
    lines_in (b ∷ bs) ≡ first_line (b ∷ bs) ∷ lines_in (other_lines (b ∷ bs))
lines_by b bs t e h = search rules

last_by : (b : ℕ) (t : Bool) → eqb b 10 ≡ t → lines_in (b ∷ []) ≡ first_line (b ∷ []) ∷ lines_in (other_lines (b ∷ []))
last_by b t e = search rules

-- the first line of a text, and the others
pub lines_cut : (b : ℕ) (bs : List ℕ) → lines_in (b ∷ bs) ≡ first_line (b ∷ bs) ∷ lines_in (other_lines (b ∷ bs))
lines_cut b [] = last_by b (eqb b 10) refl
lines_cut b (x ∷ bs) = lines_by b (x ∷ bs) (eqb b 10) refl (lines_cut x bs)

-- reading of a text is reading of its first line, and then of the others
lines_from : (s : State) (text : List ℕ) → 0 < length text →
    lines_read s (lines_in text) ≡ lines_read (line_read s (first_line text)) (lines_in (other_lines text))
lines_from s [] more = absurd (omega arith)
lines_from s (b ∷ bs) more = ap (lines_read s) (lines_cut b bs)

pub lines_on : (s next : State) (text line others : List ℕ) → 0 < length text → line ≡ first_line text → others ≡ other_lines text →
    next ≡ line_read s line → lines_read next (lines_in others) ≡ lines_read s (lines_in text)
lines_on s next text line others more is rest found = cc (lines_from s text more)

-- the listing of a file is read as that file
same_file : (a b : Contents) (found : Result Contents Mistakes) → found ≡ Ok a → found ≡ Ok b → a ≡ b
same_file a b found ha hb = cc

never : (a : Contents) (m : Mistakes) (found : Result Contents Mistakes) → found ≡ Ok a → found ≡ Err m → ⊥
never a m found ha hf = absurd (cc)

pub says_gives : (a : Addresses) (result : Result Contents ListingFault) (text : List ℕ) (c : Contents) →
    Says result (read a text) → IsListed c text → IsSound c → Gives result c
says_gives a result text c said listed sound =
    let found : read a text ≡ Ok c = ap (read a) listed.2 ∙ listing_read a c listed.0 listed.1 sound in
    search (rules, same_file, never)

first_asks : (s : State) (l : List ℕ) (ls : List (List ℕ)) → IsEntry s.draft (row_of l) ⊎ IsLater s (row_of l) → MayRunOutInLines s (l ∷ ls)
first_asks s l ls (inl entry) = inl entry
first_asks s l ls (inr later) = inr (inl later)

-- memory may run out for the first line of a text, or for the others
pub runs_out_here : (s : State) (text line : List ℕ) → 0 < length text → line ≡ first_line text →
    IsEntry s.draft (row_of line) ⊎ IsLater s (row_of line) → MayRunOutInLines s (lines_in text)
runs_out_here s [] line more is asks = absurd (omega arith)
runs_out_here s (b ∷ bs) line more is asks =
    subst (MayRunOutInLines s) (sym (lines_cut b bs))
    (first_asks s (first_line (b ∷ bs)) (lines_in (other_lines (b ∷ bs)))
    (subst (λ (l : List ℕ). IsEntry s.draft (row_of l) ⊎ IsLater s (row_of l)) is asks))

pub runs_out_on : (s next : State) (text line others : List ℕ) → 0 < length text → line ≡ first_line text → others ≡ other_lines text →
    next ≡ line_read s line → MayRunOutInLines next (lines_in others) → MayRunOutInLines s (lines_in text)
runs_out_on s next [] line others more is rest found later = absurd (omega arith)
runs_out_on s next (b ∷ bs) line others more is rest found later = search (rules, lines_cut)

-- whether a test holds of the first line of a text, or of another one
any_first : (f : List ℕ → Bool) (text line : List ℕ) (t : Bool) → 0 < length text → line ≡ first_line text → f line ≡ t →
    list_any f (lines_in text) ≡ (t || list_any f (lines_in (other_lines text)))
any_first f [] line t more is holds = absurd (omega arith)
any_first f (b ∷ bs) line t more is holds =
    ap (list_any f) (lines_cut b bs)
    ∙ ap (λ (u : Bool). u || list_any f (lines_in (other_lines (b ∷ bs)))) (ap f (sym is) ∙ holds)

pub head_here : (text line : List ℕ) → 0 < length text → line ≡ first_line text → is_head (row_of line) ≡ true → has_head (lines_in text) ≡ true
head_here text line more is holds = any_first (λ (l : List ℕ). is_head (row_of l)) text line true more is holds

pub head_on : (text line others : List ℕ) → 0 < length text → line ≡ first_line text → others ≡ other_lines text →
    is_head (row_of line) ≡ false → has_head (lines_in others) ≡ has_head (lines_in text)
head_on text line others more is rest fails =
    ap (λ (o : List ℕ). has_head (lines_in o)) rest ∙ sym (any_first (λ (l : List ℕ). is_head (row_of l)) text line false more is fails)

pub said_here : (text line : List ℕ) → 0 < length text → line ≡ first_line text → is_said (row_of line).first ≡ true → says_something text ≡ true
said_here text line more is holds = any_first (λ (l : List ℕ). is_said (row_of l).first) text line true more is holds

pub said_on : (text line others : List ℕ) → 0 < length text → line ≡ first_line text → others ≡ other_lines text →
    is_said (row_of line).first ≡ false → says_something others ≡ says_something text
said_on text line others more is rest fails =
    ap says_something rest ∙ sym (any_first (λ (l : List ℕ). is_said (row_of l).first) text line false more is fails)
