-- What a run of the program is, by its arguments: that of the session or the `ld` that they ask for.
use Rattle.std.specs.{Prelude.{◌≡◌, ℕ, List, map, Option, String, Vec, string_bytes}, declared.alloc.Global.Global}
use Rattle.tool_options.specs.Choices.{Choices}
use Rattle.command_words.specs.declared.words.Call.TheVariants.{Ld, Session}
use Rattle.v7tools.specs.{CommandRuns.AsksFor, CommandRuns.RunsWords, SessionRuns.IsSessionRun}
use Rattle.laws.specs.{Disks.Did, Disks.Run, SessionsByCommands.RunsLd}

-- the arguments ask ld for a link of the files at these paths into the file at `out`
pub record AsksToLink (words forced : List (List ℕ)) (o : Choices) (out : List ℕ) (paths : List (List ℕ)) : Type 0 where
  pub output : String Global
  pub files : Vec (String Global) Global
  pub asks : AsksFor words (Ld o forced output files)
  pub out_path : string_bytes output ≡ out
  pub file_paths : map string_bytes files.items ≡ paths

module _ {W E : Type 0} (out_contents : W → Option (List ℕ)) (error_contents : E → Option (List ℕ)) where
  -- it did what the contract of `perform` specifies (`Performs`)
  abbrev pub DoesPerform : Run W E → Type 0
  DoesPerform r = Did error_contents (RunsWords out_contents r.words r.script) r

  -- a session was run, whatever ended it
  abbrev pub RunsSession : List (List ℕ) → Choices → Run W E → Type 0
  RunsSession forced o r = Did error_contents (IsSessionRun out_contents forced o r.script) r

  abbrev pub SessionCallLaw : Type 0
  SessionCallLaw =
      (forced : List (List ℕ)) (o : Choices) (r : Run W E) → DoesPerform r → AsksFor r.words (Session o forced) → RunsSession forced o r

  abbrev pub LinkCallLaw : Type 0
  LinkCallLaw =
      (forced : List (List ℕ)) (o : Choices) (out : List ℕ) (paths : List (List ℕ)) (r : Run W E) → DoesPerform r →
      AsksToLink r.words forced o out paths → RunsLd out_contents error_contents forced o out paths r
