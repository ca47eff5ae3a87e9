-- What a call leaves, by what the library returned.
use Rattle.std.proofs.Common.{◌≡◌, ◌≢◌, ℕ, List, Result, Ok, Err, IfOk, IfErr, refl, ap}
use Rattle.std.specs.{Prelude.Vec, declared.alloc.Global.Global}
use Rattle.libv7.specs.{declared.cause.Cause.Cause, declared.cause.Refusal.Refusal, declared.cause.Cause.TheVariants.Memory}
use Rattle.libv7.specs.{declared.parts.FileLists.FileLists, declared.parts.ObjectWord.ObjectWord, declared.parts.PartLists.PartLists}
use Rattle.libv7.specs.{declared.parts.SymbolRow.SymbolRow, declared.remarks_call.RemarkRecord.RemarkRecord}
use Rattle.libv7.specs.{declared.remarks_call.Remarks.Remarks, ObjectParts.Pieces, ObjectParts.Whole, ObjectParts.pieces_in}
use Rattle.libv7.specs.{ObjectParts.whole_of, RemarkAnswers.IsRemarked, RemarkAnswers.remarks_in, Causes.at, Causes.number_of}
use Rattle.libv7.specs.FileAnswers.{IsAny, IsTextOf}
use Rattle.libv7.specs.{declared.places_call.PlaceRecord.PlaceRecord, PlaceAnswers.{AreFound, PlacesMayRunOut, files_in}}
use Rattle.libv7.proofs.NumberLemmas.{only_memory}
use Rattle.libv7.specs.Left.{IsGiven, IsRefusal, Leaves, LeavesBytes, LeavesBytesAt, LeavesPlaces, LeavesRemarks, LeavesText, Left, Parts, Unplaced, apart_left, bytes_left, bytes_of}
use Rattle.libv7.specs.Left.{bytes_or, count_left, items, of_none, read_left, remarks_left, view_of}
use Rattle.libv7.specs.declared.answer.FileHeader.{FileHeader}
use Rattle.aout_core.specs.Refusals as memory

-- a refusal of the library, by its number
pub refusal_by : {A : Type 0} (asked : Result A Refusal) (MayRunOut : ℕ → Type 0) (r : Refusal) →
    (r.cause ≢ Memory memory.refused → asked ≡ Err r) → (r.cause ≡ Memory memory.refused → MayRunOut r.place) → IsRefusal asked MayRunOut r
refusal_by asked MayRunOut r err out = record {
  same = λ other. err (λ is. other (ap number_of is));
  memory = λ h. (only_memory r.cause h, out (only_memory r.cause h));
}

module _ {A B L : Type 0} (view : B → A) (left_by : Result A Refusal → L) (l : L) (asked : Result A Cause) (MayRunOut : Type 0) where
  unplaced : (r : Result B Cause) → l ≡ left_by (at 0 (view_of view r)) → IfOk r (λ x. asked ≡ Ok (view x)) →
      IfErr r (λ cause. cause ≢ Memory memory.refused → asked ≡ Err cause) → IfErr r (λ cause. cause ≡ Memory memory.refused → MayRunOut) →
      Leaves (IsGiven (at 0 asked) (Unplaced MayRunOut)) left_by l
  unplaced (Ok x) is ok err out = record { answer = Ok (view x); given = ap (at 0) ok; is = is }
  unplaced (Err cause) is ok err out = record {
    answer = Err (of_none cause);
    given = refusal_by (at 0 asked) (Unplaced MayRunOut) (of_none cause) (λ other. ap (at 0) (err other)) (λ h. (refl, out h));
    is = is;
  }

module _ (buffer : List ℕ) (l : Left (List ℕ)) where
  pub bytes_leave : (asked : Result (List ℕ) Cause) (MayRunOut : Type 0) (r : Result (Vec ℕ Global) Cause) → l ≡ bytes_left buffer (bytes_of r) →
      IfOk r (λ x. asked ≡ Ok x.items) → IfErr r (λ cause. cause ≢ Memory memory.refused → asked ≡ Err cause) →
      IfErr r (λ cause. cause ≡ Memory memory.refused → MayRunOut) → LeavesBytes asked MayRunOut buffer l
  bytes_leave asked MayRunOut r is ok err out = unplaced items (bytes_left buffer) l asked MayRunOut r is ok err out

  pub bytes_leave_at : (asked : Result (List ℕ) Refusal) (MayRunOut : ℕ → Type 0) (r : Result (Vec ℕ Global) Refusal) →
      l ≡ bytes_left buffer (bytes_or r) → IfOk r (λ x. asked ≡ Ok x.items) →
      IfErr r (λ e. e.cause ≢ Memory memory.refused → asked ≡ Err e) → IfErr r (λ e. e.cause ≡ Memory memory.refused → MayRunOut e.place) →
      LeavesBytesAt asked MayRunOut buffer l
  bytes_leave_at asked MayRunOut (Ok x) is ok err out = record { answer = Ok x.items; given = ok; is = is }
  bytes_leave_at asked MayRunOut (Err e) is ok err out = record { answer = Err e; given = refusal_by asked MayRunOut e err out; is = is }

pub count_leaves : (l : Left (List ℕ)) (asked : Result ℕ Cause) (MayRunOut : Type 0) (r : Result ℕ Cause) → l ≡ count_left (at 0 r) →
    IfOk r (λ x. asked ≡ Ok x) → IfErr r (λ cause. cause ≢ Memory memory.refused → asked ≡ Err cause) →
    IfErr r (λ cause. cause ≡ Memory memory.refused → MayRunOut) → Leaves (IsGiven (at 0 asked) (Unplaced MayRunOut)) count_left l
count_leaves l asked MayRunOut (Ok x) is ok err out =
    unplaced (λ (n : ℕ). n) count_left l asked MayRunOut (Ok x) is ok err out
count_leaves l asked MayRunOut (Err cause) is ok err out =
    unplaced (λ (n : ℕ). n) count_left l asked MayRunOut (Err cause) is ok err out

pub remarks_leave : (bytes buffer : List ℕ) (records : List RemarkRecord) (l : Left (List ℕ × List RemarkRecord)) (r : Result Remarks Cause) →
    l ≡ remarks_left buffer records (at 0 (view_of remarks_in r)) → IfOk r (λ x. IsRemarked bytes (remarks_in x)) →
    IfErr r (λ cause. cause ≡ Memory memory.refused) → LeavesRemarks bytes buffer records l
remarks_leave bytes buffer records l (Ok x) is ok err = record { answer = Ok (remarks_in x); given = ok; is = is }
remarks_leave bytes buffer records l (Err cause) is ok err =
    record { answer = Err (of_none cause); given = ap of_none err; is = is }

pub places_leave : (program object : List ℕ) (buffer : List PlaceRecord) (l : Left (List PlaceRecord)) (r : Result (Vec PlaceRecord Global) Refusal) →
    l ≡ bytes_left buffer (bytes_or r) → IfOk r (λ v. AreFound program object v.items) →
    IfErr r (λ e. e.cause ≢ Memory memory.refused → files_in program object ≡ Err e) →
    IfErr r (λ e. e.cause ≡ Memory memory.refused → PlacesMayRunOut program object e.place) → LeavesPlaces program object buffer l
places_leave program object buffer l (Ok v) is ok err out = record { answer = Ok v.items; given = ok; is = is }
places_leave program object buffer l (Err e) is ok err out =
    record { answer = Err e; given = refusal_by (files_in program object) (PlacesMayRunOut program object) e err out; is = is }

module _ (text datas : List ObjectWord) (symbols : List SymbolRow) where
  pub parts_leave : (l : Left Parts) (asked : Result Pieces Cause) (MayRunOut : Type 0) (r : Result PartLists Cause) →
      l ≡ apart_left text datas symbols (at 0 (view_of pieces_in r)) → IfOk r (λ x. asked ≡ Ok (pieces_in x)) →
      IfErr r (λ cause. cause ≢ Memory memory.refused → asked ≡ Err cause) → IfErr r (λ cause. cause ≡ Memory memory.refused → MayRunOut) →
      Leaves (IsGiven (at 0 asked) (Unplaced MayRunOut)) (apart_left text datas symbols) l
  parts_leave l asked MayRunOut r is ok err out = unplaced pieces_in (apart_left text datas symbols) l asked MayRunOut r is ok err out

  pub file_leaves : (l : FileHeader × Left Parts) (asked : Result Whole Cause) (MayRunOut : Type 0) (r : Result FileLists Cause) →
      l ≡ read_left text datas symbols (at 0 (view_of whole_of r)) → IfOk r (λ x. asked ≡ Ok (whole_of x)) →
      IfErr r (λ cause. cause ≢ Memory memory.refused → asked ≡ Err cause) → IfErr r (λ cause. cause ≡ Memory memory.refused → MayRunOut) →
      Leaves (IsGiven (at 0 asked) (Unplaced MayRunOut)) (read_left text datas symbols) l
  file_leaves l asked MayRunOut r is ok err out = unplaced whole_of (read_left text datas symbols) l asked MayRunOut r is ok err out

module _ {A : Type 0} (Is : A → List ℕ → Type 0) (found : Result A Cause) (MayRunOut : Type 0) (buffer : List ℕ) (l : Left (List ℕ)) where
  pub text_leaves : (r : Result (Vec ℕ Global) Cause) → l ≡ bytes_left buffer (bytes_of r) →
      IfOk r (λ text. IsTextOf Is found text.items) → IfErr r (λ cause. cause ≢ Memory memory.refused → found ≡ Err cause) →
      IfErr r (λ cause. cause ≡ Memory memory.refused → MayRunOut) → LeavesText Is found MayRunOut buffer l
  text_leaves (Ok x) is ok err out = record { answer = Ok x.items; given = ok; is = is }
  text_leaves (Err cause) is ok err out = record {
    answer = Err (of_none cause);
    given = refusal_by (at 0 found) (Unplaced MayRunOut) (of_none cause) (λ other. ap (at 0) (err other)) (λ h. (refl, out h));
    is = is;
  }

pub words_leave : (words buffer : List ℕ) (MayRunOut : Type 0) (l : Left (List ℕ)) (r : Result (Vec ℕ Global) Cause) →
    l ≡ bytes_left buffer (bytes_of r) → IfErr r (λ cause. cause ≡ Memory memory.refused) →
    IfErr r (λ cause. cause ≡ Memory memory.refused → MayRunOut) → LeavesText IsAny (Ok words) MayRunOut buffer l
words_leave words buffer MayRunOut l (Ok x) is err out = record { answer = Ok x.items; given = (words, refl, tt); is = is }
words_leave words buffer MayRunOut l (Err cause) is err out = record {
  answer = Err (of_none cause);
  given = refusal_by (at 0 (Ok words)) (Unplaced MayRunOut) (of_none cause) (λ other. absurd (other err)) (λ h. (refl, out h));
  is = is;
}
