-- Bytes that are held of a file.
use Rattle.std.proofs.Common.{◌≡◌, ◌≢◌, ℕ, ◌+◌, ◌-◌, ◌≤◌, List, [], ◌++◌, Bool, true, false, if◌then◌else◌, length, take, drop, slice_range}
use Rattle.std.proofs.Common.{Option, None, Some, sym, ◌∙◌, ap, subst, arith, append_assoc, append-nil, length-append, length-take-le}
use Rattle.std.proofs.{lemmas.List.drop-take, KnownBytes.append_known-moved}
use Rattle.std.specs.Io.KnownBytes.{Appends, Keeps, append_known}
use Rattle.aout_core.proofs.BlockLemmas.{slice_range-front, length-slice_range}
use Rattle.aout_core.specs.{Refusals.device_fault, Wires.Latched}
use Rattle.host.specs.{Pieces.{Held, written}, Emits.{IsStoredOn, PutsUnless}, Events.path_fault, declared.file_system.Stored.Stored}
use Rattle.host.specs.declared.file_system.Stored.TheVariants.{Kept, Failed, NotCreated}
use lib.ListN.{take-append-drop}
use lib.Seq.{drop-append-le, take-append_seam}

abbrev held_of : {F : Type 0} → F → List ℕ → ℕ → Held F
held_of file held space = record { file = file; held = held; space = space }

-- the first bytes that are held were written
pub sent : {F : Type 0} (contents : F → Option (List ℕ)) (h : Held F) (old new : F) (bytes part : List ℕ) (start end n space : ℕ) →
    n ≤ end - start → held_of old (slice_range bytes start end) space ≡ h → part ≡ slice_range bytes start end →
    Appends (contents old) (contents new) (take n part) →
    Keeps (written contents h) (written contents (held_of new (slice_range bytes (start + n) end) space))
sent {F} contents h old new bytes part start end n space fits is part-is appended =
    let held = slice_range bytes start end in
    let all : held ≡ take n part ++ slice_range bytes (start + n) end =
    sym (take-append-drop n held)
    ∙ ap (λ l. take n l ++ drop n held) (sym part-is)
    ∙ ap (λ l. take n part ++ l) (sym (slice_range-front bytes start end n fits)) in
    subst (λ (s : Held F). Keeps (written contents s) (written contents (held_of new (slice_range bytes (start + n) end) space))) is
    (append_known-moved (contents old) (contents new) (take n part) (slice_range bytes (start + n) end) held appended all)

-- a part of a list grows by what stands after it
grown : (xs new rest : List ℕ) (start end : ℕ) → start ≤ end → end ≤ length xs →
    slice_range (take end xs ++ (new ++ rest)) start (end + length new) ≡ slice_range xs start end ++ new
grown xs new rest start end ordered within =
    let held = slice_range xs start end in
    let size : end + length new - start ≡ length (held ++ new) = omega (arith, length-append held new, length-slice_range xs start end within) in
    let whole : end ≡ start + (end - start) = omega arith in
    let front : drop start (take end xs) ≡ held = ap (λ k. drop start (take k xs)) whole ∙ drop-take start (end - start) xs in
    let from : start ≤ length (take end xs) = omega (arith, length-take-le end xs within) in
    ap (λ k. take k (drop start (take end xs ++ (new ++ rest)))) size
    ∙ ap (take (length (held ++ new)))
    (drop-append-le start (take end xs) (new ++ rest) from ∙ ap (λ l. l ++ (new ++ rest)) front ∙ sym (append_assoc held new rest))
    ∙ take-append_seam (held ++ new) rest

-- bytes were taken
pub taken : {F : Type 0} (h : Held F) (file : F) (xs new rest more : List ℕ) (start end n size : ℕ) → start ≤ end → end ≤ length xs →
    length new ≡ n → new ≡ more → held_of file (slice_range xs start end) (size - end) ≡ h →
    held_of file (slice_range (take end xs ++ (new ++ rest)) start (end + n)) (size - (end + n)) ≡ held_of h.file (h.held ++ more) (h.space - n)
taken {F} h file xs new rest more start end n size ordered within long same is =
    let less : size - (end + n) ≡ size - end - n = omega arith in
    ap (λ (k : ℕ). held_of file (slice_range (take end xs ++ (new ++ rest)) start (end + n)) k) less
    ∙ ap (λ (k : ℕ). held_of file (slice_range (take end xs ++ (new ++ rest)) start (end + k)) (size - end - n)) (sym long)
    ∙ ap (λ (l : List ℕ). held_of file l (size - end - n)) (grown xs new rest start end ordered within)
    ∙ ap (λ (s : Held F). held_of s.file (s.held ++ new) (s.space - n)) is
    ∙ ap (λ (l : List ℕ). held_of h.file (h.held ++ l) (h.space - n)) same

-- what went to a piece of which nothing is held is on its file
landed : (old new : Option (List ℕ)) (text : List ℕ) → Appends (append_known old []) (append_known new []) text → Appends old new text
landed None new text h = tt
landed (Some xs) None text h = h
landed (Some xs) (Some ys) text h = sym (append-nil ys) ∙ h ∙ ap (λ l. l ++ text) (append-nil xs)

-- what was stored and is kept went out whole
went_out : (failed : Bool) (old new : Option (List ℕ)) (text : List ℕ) → Kept ≡ (if failed then Failed device_fault else Kept) →
    PutsUnless failed old new text → Appends old new text
went_out false old new text is h = h
went_out true old new text is h = absurd (cc)

-- a file that was stored in pieces, and is kept, is on its device
pub on_device : {F : Type 0} (contents : F → Option (List ℕ)) (stored : Stored) (old new : Latched (Held F)) (file back : F) (text : List ℕ) →
    IsStoredOn (written contents) stored old new text → stored ≡ Kept → old.device.file ≡ file → old.device.held ≡ [] →
    new.device.held ≡ [] → back ≡ new.device.file → Appends (contents file) (contents back) text
on_device {F} contents stored old new file back text s kept from before after is =
    let whole : Appends (written contents old.device) (written contents new.device) text =
    went_out new.has_failed (written contents old.device) (written contents new.device) text (sym kept ∙ s.ends) s.bytes in
    let first : Appends (append_known (contents file) []) (written contents new.device) text =
    subst (λ (f : F). Appends (append_known (contents f) []) (written contents new.device) text) from
    (subst (λ (l : List ℕ). Appends (append_known (contents old.device.file) l) (written contents new.device) text) before whole) in
    subst (λ (f : F). Appends (contents file) (contents f) text) (sym is) (landed (contents file) (contents new.device.file) text
    (subst (λ (l : List ℕ). Appends (append_known (contents file) []) (append_known (contents new.device.file) l) text) after first))

made_by : (failed : Bool) → NotCreated path_fault ≡ (if failed then Failed device_fault else Kept) → ⊥
made_by false is = absurd (cc)
made_by true is = absurd (cc)

-- what was to be stored on a device was made
pub is_made : {W : Type 0} (contents : W → Option (List ℕ)) (stored : Stored) (old new : Latched W) (text : List ℕ) →
    IsStoredOn contents stored old new text → stored ≢ NotCreated path_fault
is_made contents stored old new text s is = made_by new.has_failed (sym is ∙ s.ends)
