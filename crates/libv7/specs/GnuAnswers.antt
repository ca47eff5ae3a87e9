-- What a call answers for an object in GNU's form.
use Rattle.std.specs.Prelude.{◌≡◌, ℕ, nat_lt, if◌then◌else◌, List, None, Result, Ok, Err, IsOk}
use Rattle.aout_core.specs.Encoding.{encoding}
use Rattle.gnu_objects.specs.declared.options.Locals.TheVariants.{KeepAll, KeepNeeded, KeepNone}
use Rattle.gnu_objects.specs.{Converted.converted, GnuRefusals.sizes_refusal, Places.place_of, declared.options.Options.Options}
use Rattle.gnu_objects.specs.declared.refusal.Refusal as gnu
use Rattle.link_out.specs.Steps.{and_then, refused_as}
use Rattle.libv7.specs.declared.cause.Cause.TheVariants.{NoOption, NotConverted}
use Rattle.libv7.specs.{declared.cause.Cause.Cause, declared.cause.Refusal.Refusal, Causes.at, FileAnswers.has_bit}

-- 1: -S, 2: -X, 4: -x, which wins over -X
abbrev pub conversion_in : ℕ → Result Options Cause
conversion_in bits = if nat_lt 7 bits then Err NoOption else Ok (record {
  drops_debugger = has_bit bits 1;
  locals = if has_bit bits 4 then KeepNone else (if has_bit bits 2 then KeepNeeded else KeepAll);
})

-- a refusal, at its byte
abbrev pub refused_in : List ℕ → gnu.Refusal → Refusal
refused_in bytes refusal = record { cause = NotConverted refusal; place = place_of bytes refusal }

-- the bytes of the object that one in GNU's form becomes, or why there is none
abbrev pub converted_in : ℕ → List ℕ → Result (List ℕ) Refusal
converted_in bits bytes =
    and_then (at 0 (conversion_in bits)) (λ o. and_then (refused_as (refused_in bytes) (converted o bytes)) (λ c. Ok (encoding c)))

-- memory may run out, not before the options, the header and the sizes are accepted; that has no place
pub record ConversionMayRunOut (bits : ℕ) (bytes : List ℕ) (place : ℕ) : Type 0 where
  pub none : place ≡ 0
  pub options : IsOk (conversion_in bits)
  pub sizes : sizes_refusal bytes ≡ None
