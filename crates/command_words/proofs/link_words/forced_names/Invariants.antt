use Rattle.std.proofs.Common.{◌≡◌, drop, map}
use Rattle.clap.specs.{Walk.rows_of, Matches.found_of}
use Rattle.command_words.specs.LinkWords.{forced_asked, with_names}
use Rattle.command_words.proofs.link_words.forced_names.Given as goal

-- the names so far, with those that are left, make the whole
abbrev pub invariant-loop-name : goal.invariant-loop-name
invariant-loop-name l = forced_asked (rows_of (found_of l.fn.given)) ≡ with_names l.forced (map (λ t. t.now) (drop l.name-index l.names))
