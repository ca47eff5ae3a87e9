-- What a writer in memory took.
use Rattle.std.proofs.Common.{◌≡◌, ℕ, ◌*◌, ◌<◌, ◌≤◌, List, [], ◌∷◌, ◌++◌, length, Some, Result, Ok, Err, IfOk, ap, subst, ◌∙◌, arith}
use Rattle.std.specs.{Prelude.{◌^◌, IsOk, String, Vec, string_bytes}, declared.alloc.Global.Global}
use Rattle.aout_core.specs.{Contents.Contents, Encoding.encoding, Wires.Latched, Wires.Puts}
use Rattle.aout_core.proofs.EncodingLemmas.{length-parts}
use Rattle.symtools.specs.{Files.by_bytes, NmLists.nm_text, SizeLines.size_text}
use Rattle.tool_options.specs.declared.nm_options.NmOptions.{NmOptions}

-- a file has at most a header, 32,767 words of text and of data with their relocation words, and 5,461 symbols
pub most_written : {E : Type 0} (c : Contents) (r : Result (Vec ℕ Global) E) → IfOk r (λ v. v.items ≡ encoding c) →
    2 * length c.text_words < 2 ^ 16 → 2 * length c.data_words < 2 ^ 16 → 2 * length c.text_reloc < 2 ^ 16 →
    2 * length c.data_reloc < 2 ^ 16 → 12 * length c.symbols < 2 ^ 16 → IfOk r (λ v. length v.items ≤ 327684)
most_written c (Ok v) is t d p q s = omega (arith, ap (λ (l : List ℕ). length l) is, length-parts c, t, d, p, q, s)
most_written c (Err e) is t d p q s = tt

module _ {T E F : Type 0} (old new : Latched (Vec ℕ Global)) (empty : Vec ℕ Global) (written : Result T E)
    (given : Result (Vec ℕ Global) F) (is_empty : empty.items ≡ []) (begun : old.device ≡ empty)
    (took : IfOk given (λ v. IsOk written × (v ≡ new.device))) where
  pub all_written : (bytes : List ℕ) → Puts written (Some old.device.items) (Some new.device.items) bytes → IfOk given (λ v. v.items ≡ bytes)
  all_written bytes more = by_results given written more took
    where
      by_results : (g : Result (Vec ℕ Global) F) (w : Result T E) → Puts w (Some old.device.items) (Some new.device.items) bytes →
          IfOk g (λ v. IsOk w × (v ≡ new.device)) → IfOk g (λ v. v.items ≡ bytes)
      by_results (Ok v) (Ok x) more h =
          ap (λ (v : Vec ℕ Global). v.items) h.1
          ∙ more
          ∙ ap (λ (l : List ℕ). l ++ bytes) (ap (λ (v : Vec ℕ Global). v.items) begun ∙ is_empty)
      by_results (Ok v) (Err e) more h = let bad = h.0 in absurd (cc)
      by_results (Err e) w more h = tt

  module _ (path : String Global) (c : Contents) (no_path : string_bytes path ≡ []) where
    pub names_written : (o : NmOptions) →
        Puts written (Some old.device.items) (Some new.device.items) (nm_text o (by_bytes ((path, c) ∷ []))) →
        IfOk given (λ v. v.items ≡ nm_text o (([], c) ∷ []))
    names_written o more =
        subst (λ (p : List ℕ). IfOk given (λ v. v.items ≡ nm_text o ((p, c) ∷ []))) no_path
        (all_written (nm_text o (by_bytes ((path, c) ∷ []))) more)

    pub sizes_written : Puts written (Some old.device.items) (Some new.device.items) (size_text (by_bytes ((path, c) ∷ []))) →
        IfOk given (λ v. v.items ≡ size_text (([], c) ∷ []))
    sizes_written more =
        subst (λ (p : List ℕ). IfOk given (λ v. v.items ≡ size_text ((p, c) ∷ []))) no_path
        (all_written (size_text (by_bytes ((path, c) ∷ []))) more)
