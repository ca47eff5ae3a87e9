-- The answers of a session.
--
-- Each command has its answer by the objects that are kept: what was added or withdrawn, the list that was asked for, or the text of
-- the fault. A link is answered once it is known what became of its file.
use Rattle.std.specs.{Prelude.{ℕ, ◌+◌, List, [], ◌++◌, Option, Some, None, Result, Ok, Err, codes, decimal}, List.flat_map}
use Rattle.aout_core.specs.{declared.symbol.Symbol.Symbol, declared.file.ReadFault.TheVariants.Device, Refusals.device_fault, WellFormed.segment_number}
use Rattle.link_session.specs.Edits.{without_last, last_of}
use Rattle.link_session.specs.{declared.state.State.State, declared.state.State.TheVariants.Defined}
use Rattle.link_session.specs.{declared.state.State.TheVariants.Wanted, Labelled.Labelled, Labelled.objects, Mentions.mentions, Image.named_states}
use Rattle.link_out.specs.function.Reports.{ReportNames, line, report_text, status_of, undefined_names}
use Rattle.link_out.specs.Inputs.{Cause, cannot_open, bad_file, with_input}
use Rattle.link_out.specs.{FaultTexts.link_text, declared.linked.LinkFault.LinkFault, function.Link.Outcome, function.Link.link}
use Rattle.tool_options.specs.Choices.{Choices}
use Rattle.symtools.specs.SymbolLines.{symbol_line}
use Rattle.v7tools.specs.FaultTexts.{cause_text, at_file}
use Rattle.host.specs.{declared.file_system.Stored.Stored, declared.file_system.Stored.TheVariants.{Kept, NotCreated, Failed}}

-- what a path leads to: nothing, a device that fails, or these bytes
pub data Source : Type 0 where
  absent : Source
  failing : Source
  giving : List ℕ → Source

-- a command, with what its path leads to
pub data Asking : Type 0 where
  adding : List ℕ → Source → Asking
  withdrawing : Asking
  listing_externals : Asking
  listing_undefined : Asking
  linking : Asking
  anything_else : Asking

-- how a step ends: it is done, or refused, or its link is made and the file of that is to be stored
pub data Verdict : Type 0 where
  done : Verdict
  refused : Verdict
  to_store : Outcome → Verdict

-- what a step does: how it ends, its answer, and what is kept after it
pub record Stepped : Type 0 where
  pub verdict : Verdict
  pub answer : List ℕ
  pub kept : List Labelled

abbrev pub input_from : List (List ℕ) → List Labelled → List ℕ → Source → Result (List Labelled) Cause
input_from forced kept path absent = Err cannot_open
input_from forced kept path failing = Err (bad_file (Device device_fault))
input_from forced kept path (giving bytes) = with_input forced kept path bytes

abbrev pub add_step : List Labelled → List ℕ → Result (List Labelled) Cause → Stepped
add_step kept path (Ok more) = record { verdict = done; answer = line (codes "added " ++ path); kept = more }
add_step kept path (Err cause) = record { verdict = refused; answer = line (cause_text path cause); kept = kept }

abbrev pub withdraw_step : List Labelled → Option Labelled → Stepped
withdraw_step kept None = record { verdict = refused; answer = line (codes "nothing to withdraw"); kept = kept }
withdraw_step kept (Some e) = record { verdict = done; answer = line (codes "withdrew " ++ e.label); kept = without_last kept }

-- an external as a symbol: its type and its merged offset, or the size that is wanted
abbrev pub entry_of : List ℕ → State → Symbol
entry_of name (Defined segment offset) = record { name = name; type_bits = 0o40 + segment_number segment; value = offset }
entry_of name (Wanted size) = record { name = name; type_bits = 0o40; value = size }

abbrev pub externals_text : List (List ℕ) → List Labelled → List ℕ
externals_text forced kept = flat_map (λ e. symbol_line (entry_of e.0 e.1)) (named_states (mentions forced (objects kept)))

abbrev pub undefined_text : List (List ℕ) → List Labelled → List ℕ
undefined_text forced kept = flat_map line (undefined_names (mentions forced (objects kept)))

abbrev pub link_step : List Labelled → Result Outcome LinkFault → Stepped
link_step kept (Err fault) = record { verdict = refused; answer = line (link_text fault); kept = kept }
link_step kept (Ok x) = record { verdict = to_store x; answer = []; kept = kept }

abbrev pub step : List (List ℕ) → Choices → List Labelled → Asking → Stepped
step forced o kept (adding path source) = add_step kept path (input_from forced kept path source)
step forced o kept withdrawing = withdraw_step kept (last_of kept)
step forced o kept listing_externals = record { verdict = done; answer = externals_text forced kept; kept = kept }
step forced o kept listing_undefined = record { verdict = done; answer = undefined_text forced kept; kept = kept }
step forced o kept linking = link_step kept (link forced (objects kept) o)
step forced o kept anything_else = record { verdict = refused; answer = line (codes "bad command"); kept = kept }

-- the answer of a link, once it is known what became of its file
abbrev pub link_answer_text : ReportNames → List ℕ → Stored → List ℕ
link_answer_text f path Kept = report_text f ++ line (codes "linked " ++ path ++ codes " " ++ decimal (status_of f))
link_answer_text f path (NotCreated _) = line (at_file path (codes "cannot create"))
link_answer_text f path (Failed _) = line (at_file path (codes "write error"))

abbrev pub link_status : ReportNames → Stored → ℕ
link_status f Kept = status_of f
link_status f _ = 1
