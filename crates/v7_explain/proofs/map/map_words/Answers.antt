use Rattle.std.proofs.Common.{map, refl, string_bytes, subst}
use Rattle.command_words.specs.Calls.{AsksForNone}
use Rattle.v7_explain.proofs.MapLemmas.{words_none}
use Rattle.v7_explain.proofs.map.map_words.Goals as goal

pub returns-in_ok-refused_answer-in-Err-Usage : goal.returns-in_ok-refused_answer-in-Err-Usage
returns-in_ok-refused_answer-in-Err-Usage g c =
    let old = g.O.FileSystem.history c.args.file_system.now in
    let all = map string_bytes c.in_ok-link_words.field-0.items in
    words_none (map string_bytes c.args.words.now) all old old _ c.in_ok-link_words.ensures
    (subst (λ fault. AsksForNone all fault) c.in-Err-Usage.field-0-is c.in-Err-Usage.ensures.none)
    refl c.in_ok-refused_answer-in-Err-Usage.ensures
