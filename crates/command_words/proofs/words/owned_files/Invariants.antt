use Rattle.std.proofs.Common.{◌≡◌, ◌++◌, drop, map}
use Rattle.std.specs.Prelude.{string_bytes}
use Rattle.clap.specs.{Matches.found_of, Walk.rows_of}
use Rattle.command_words.specs.{LinkWords.values_of, declared.words.TheConstants.FILE}
use Rattle.command_words.proofs.words.owned_files.Given as goal

-- the files so far, with those that are left, make the whole
abbrev pub invariant-loop-file : goal.invariant-loop-file
invariant-loop-file l =
    values_of (rows_of (found_of l.fn.matches)) FILE.now
    ≡ map string_bytes l.owned.items ++ map (λ t. t.now) (drop l.file-index l.given)
