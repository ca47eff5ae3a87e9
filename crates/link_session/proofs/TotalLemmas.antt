-- Sizes, limits and shifts read off an image.
use Rattle.std.proofs.Common.{◌≡◌, ℕ, ◌+◌, ◌*◌, ◌≤◌, Bool, cond, List, [], ◌∷◌, ◌++◌, length, Option, Some, None, refl, sym, ◌∙◌, ap, arith}
use Rattle.std.proofs.{Common.{length-append, nat_lt, rules}, lemmas.Bool.le-ltb, lemmas.List.length-map, lemmas.List.Sums.sum_by-append}
use Rattle.std.proofs.lemmas.Slice.Zip.{length-zip}
use Rattle.std.specs.{List.flat_map, List.AllByRecursion, Map.keys_of}
use Rattle.aout_core.specs.{declared.symbol.Symbol.Symbol, declared.symbol.Segment.Segment, declared.reloc.Reloc.Reloc, Contents.Contents}
use Rattle.aout_core.specs.{Contents.with_relocation, WellFormed.IsWellFormed}
use Rattle.aout_core.specs.declared.symbol.Segment.TheVariants as segments
use Rattle.link_session.specs.declared.entry.AddFault.TheVariants.{TextFull, DataFull, BssFull, NamesFull}
use Rattle.link_session.specs.Mentions.{Mention, mentions, mentions_in, names_of, externals, externals_in, mention}
use Rattle.link_session.specs.{Cells.{cells, cells_in, cell, words_of}, Limits.{limit_passed, refusal}}
use Rattle.link_session.specs.{internal.Additions.{external_names, next_limit}, declared.entry.AddFault.AddFault}
use Rattle.link_session.specs.{declared.state.State.State, Earlier.with_earlier, Starts.{total, size_of}, States.state, Image.image}
use Rattle.link_session.specs.{Sessions.IsObject, internal.Fields.IsSmall}
use Rattle.tool_options.specs.NameLists.{new_names, is_among}
use Rattle.tool_options.proofs.NameListLemmas.{new_names-seen}
use Rattle.link_session.proofs.MentionLemmas.{externals_push, is_among-externals, names_of-map}
use Rattle.link_session.proofs.{MentionedLemmas.keys-named_states, WellFormedLemmas.well_formed_parts}

-- an object has its relocation words
pub with_all : (o : Contents) → IsWellFormed o → (size : ℕ) → with_relocation o.header size ≡ size
with_all o h size = ap (λ (t : Bool). cond t size 0) (well_formed_parts o h).0

-- as many relocation words as words
text_beside : (o : Contents) → IsObject o → length o.text_words ≡ length o.text_reloc
text_beside o h = omega (arith, h.fits.text, h.fits.text_relocation, with_all o h.well o.header.text_size)

data_beside : (o : Contents) → IsObject o → length o.data_words ≡ length o.data_reloc
data_beside o h = omega (arith, h.fits.data, h.fits.data_relocation, with_all o h.well o.header.data_size)

-- for inductions over objects: the size of the first one, and of the rest
pub total-first : (segment : Segment) (o : Contents) (rest : List Contents) →
    total segment (o ∷ rest) ≡ size_of segment o + total segment rest
total-first segment o rest = sum_by-append (size_of segment) (o ∷ []) rest ∙ omega arith

-- an object has so many words
pub text_counted : (o : Contents) → IsObject o → 2 * length (words_of segments.TextSeg o) ≡ size_of segments.TextSeg o
text_counted o h = omega (arith, length-zip o.text_words o.text_reloc, text_beside o h, h.fits.text)

-- the same of data
pub data_counted : (o : Contents) → IsObject o → 2 * length (words_of segments.DataSeg o) ≡ size_of segments.DataSeg o
data_counted o h = omega (arith, length-zip o.data_words o.data_reloc, data_beside o h, h.fits.data)

-- a list made of blocks, one for each object, each as long as its words
pub blocks_counted : {A : Type 0} (segment : Segment) (f : List Contents × Contents → List A) →
    ((q : List Contents × Contents) → length (f q) ≡ length (words_of segment q.1)) →
    ((o : Contents) → IsObject o → 2 * length (words_of segment o) ≡ size_of segment o) → (earlier os : List Contents) →
    AllByRecursion IsObject os → 2 * length (flat_map f (with_earlier earlier os)) ≡ total segment os
blocks_counted segment f same counted earlier [] h = refl
blocks_counted segment f same counted earlier (o ∷ os) h = search (
  rules,
  length-append,
  total-first,
  blocks_counted segment f same counted (earlier ++ o ∷
      []) os h.1,
)

module _ (ms : List Mention) where
  cells_counted : (segment : Segment) (q : List Contents × Contents) → length (cells_in ms segment q.0 q.1) ≡ length (words_of segment q.1)
  cells_counted segment q = length-map (words_of segment q.1) (λ (wr : ℕ × Reloc). cell ms q.0 q.1 segment wr.0 wr.1)

  -- two bytes for each cell
  pub text_total : (os : List Contents) → AllByRecursion IsObject os → 2 * length (cells ms segments.TextSeg os) ≡ total segments.TextSeg os
  text_total os h = search (rules, blocks_counted, cells_counted, text_counted)

  -- the same of data
  pub data_total : (os : List Contents) → AllByRecursion IsObject os → 2 * length (cells ms segments.DataSeg os) ≡ total segments.DataSeg os
  data_total os h =
      blocks_counted segments.DataSeg (λ q. cells_in ms segments.DataSeg q.0 q.1)
      (cells_counted segments.DataSeg) data_counted [] os h

total-push : (segment : Segment) (os : List Contents) (o : Contents) → total segment (os ++ o ∷ []) ≡ total segment os + size_of segment o
total-push segment os o = sum_by-append (size_of segment) os (o ∷ []) ∙ omega arith

abbrev limit : ℕ → ℕ → ℕ → ℕ → Option AddFault
limit t d b n =
    cond (nat_lt 65534 t) (Some TextFull)
    (cond (nat_lt 65534 d) (Some DataFull) (cond (nat_lt 65534 b) (Some BssFull) (cond (nat_lt 65535 n) (Some NamesFull) None)))

-- a limit is passed with one more object where its image says so
pub refusal-next_limit : (forced : List (List ℕ)) (os : List Contents) (o : Contents) → AllByRecursion IsObject os →
    refusal forced os o ≡ next_limit (image forced os) o
refusal-next_limit forced os o h = λ i. limit (text i) (datas i) (total-push segments.BssSeg os o i) (names i)
  where
    text : total segments.TextSeg (os ++ o ∷ []) ≡ 2 * length (image forced os).text_cells + o.header.text_size
    text = total-push segments.TextSeg os o ∙ ap (λ (n : ℕ). n + o.header.text_size) (sym (text_total (mentions forced os) os h))

    datas : total segments.DataSeg (os ++ o ∷ []) ≡ 2 * length (image forced os).data_cells + o.header.data_size
    datas = total-push segments.DataSeg os o ∙ ap (λ (n : ℕ). n + o.header.data_size) (sym (data_total (mentions forced os) os h))

    seen : (n : List ℕ) → is_among (names_of (mentions forced os)) n ≡ is_among (keys_of (image forced os).externals) n
    seen n =
        sym (is_among-externals (mentions forced os) n)
        ∙ ap (λ (ns : List (List ℕ)). is_among ns n) (sym (keys-named_states (mentions forced os)))

    new : new_names (names_of (mentions forced os)) (names_of (mentions_in os o))
        ≡ new_names (keys_of (image forced os).externals) (external_names o.symbols)
    new =
        ap (λ (ns : List (List ℕ)). new_names (names_of (mentions forced os)) ns)
        (names_of-map (mention os o) (λ (s : Symbol). s.name) (λ s. refl) (externals_in o))
        ∙ new_names-seen (names_of (mentions forced os)) (keys_of (image forced os).externals) (external_names o.symbols) seen

    names : length (externals forced (os ++ o ∷ [])) ≡ length (image forced os).externals
        + length (new_names (keys_of (image forced os).externals) (external_names o.symbols))
    names =
        ap (λ (ns : List (List ℕ)). length ns) (externals_push forced os o)
        ∙ length-append (externals forced os) (new_names (names_of (mentions forced os)) (names_of (mentions_in os o)))
        ∙ (λ i. sym (length-map {B = List ℕ × State} (externals forced os) (λ n. (n, state (mentions forced os) n))) i + length (new i))

-- no limit is passed
pub record Within (t d b n : ℕ) : Type 0 where
  pub text : t ≤ 65534
  pub «data» : d ≤ 65534
  pub bss : b ≤ 65534
  pub names : n ≤ 65535

-- what an image within its limits gives for sums and casts
pub within_limit : (t d b n : ℕ) → limit t d b n ≡ None → Within t d b n
within_limit t d b n h = search rules

-- and the other way
pub limit_within : (t d b n : ℕ) → Within t d b n → limit t d b n ≡ None
limit_within t d b n w = rw (le-ltb 65534 t w.text, le-ltb 65534 d w.data, le-ltb 65534 b w.bss, le-ltb 65535 n w.names) refl

-- the image of objects that pass no limit is small
pub image_small : (forced : List (List ℕ)) (os : List Contents) → AllByRecursion IsObject os →
    limit_passed forced os ≡ None → IsSmall (image forced os)
image_small forced os h none =
    let w = within_limit (total segments.TextSeg os) (total segments.DataSeg os) (total segments.BssSeg os)
    (length (externals forced os)) none in record {
      text = omega (arith, text_total (mentions forced os) os h, w.text);
      «data» = omega (arith, data_total (mentions forced os) os h, w.data);
      bss = w.bss;
      names = omega (arith, length-map {B = List ℕ × State} (externals forced os) (λ n. (n, state (mentions forced os) n)), w.names);
    }

-- without their last object they pass none either
pub within_before : (forced : List (List ℕ)) (os : List Contents) (o : Contents) →
    limit_passed forced (os ++ o ∷ []) ≡ None → limit_passed forced os ≡ None
within_before forced os o none =
    let w = within_limit (total segments.TextSeg (os ++ o ∷ [])) (total segments.DataSeg (os ++ o ∷ []))
    (total segments.BssSeg (os ++ o ∷ [])) (length (externals forced (os ++ o ∷ []))) none in
    limit_within (total segments.TextSeg os) (total segments.DataSeg os) (total segments.BssSeg os) (length (externals forced os)) (record {
      text = omega (arith, total-push segments.TextSeg os o, w.text);
      «data» = omega (arith, total-push segments.DataSeg os o, w.data);
      bss = omega (arith, total-push segments.BssSeg os o, w.bss);
      names = omega (
        arith,
        ap (λ (ns : List (List ℕ)). length ns) (externals_push forced os o),
        length-append (externals forced os) (new_names (names_of (mentions forced os)) (names_of (mentions_in os o))),
        w.names,
      );
    })
