use Rattle.std.proofs.Common.{◌≡◌, sym, ap, ◌∙◌, subst, rules}
use Rattle.std.specs.Prelude.{codes}
use Rattle.command_words.specs.{Scripts.asked, Scripts.to_add, Scripts.to_link, ScriptAnswers.NamesPath}
use Rattle.command_words.proofs.AskedLemmas.{where_err, asked_add, asked_withdraw, asked_externals, asked_undefined, asked_link}
use Rattle.command_words.proofs.lines.asked_in.Goals as goal

pub returns-in_err-from_str-clause-memory : goal.returns-in_err-from_str-clause-memory
returns-in_err-from_str-clause-memory c =
    where_err c.from_residual.result (NamesPath (asked c.args.line.now))
    (subst NamesPath (sym (asked_add c.args.line.now c.utf8.line c.in-Some.ensures.0)) tt)

pub returns-in_err-from_str-in-Some-path_after-clause-memory : goal.returns-in_err-from_str-in-Some-path_after-clause-memory
returns-in_err-from_str-in-Some-path_after-clause-memory c =
    let no_withdraw : c.args.line.now ≡ codes "withdraw" → ⊥ = search rules in
    let no_externals : c.args.line.now ≡ codes "externals" → ⊥ = search rules in
    let no_undefined : c.args.line.now ≡ codes "undefined" → ⊥ = search rules in
    where_err c.from_residual-in_err-from_str-in-Some-path_after.result (NamesPath (asked c.args.line.now))
    (subst NamesPath (sym (asked_link c.args.line.now c.utf8.line c.in_default.ensures no_withdraw no_externals
    no_undefined c.in-Some-path_after.ensures.0)) tt)

pub returns-in-Some-clause-value : goal.returns-in-Some-clause-value
returns-in-Some-clause-value c =
    ap to_add (c.in_ok-from_str.ensures.ok ∙ c.in-Some.ensures.1)
    ∙ sym (asked_add c.args.line.now c.utf8.line c.in-Some.ensures.0)

pub returns-in-withdraw-clause-value : goal.returns-in-withdraw-clause-value
returns-in-withdraw-clause-value c = sym (asked_withdraw c.args.line.now c.utf8.line c.in-withdraw.is)

pub returns-in-externals-clause-value : goal.returns-in-externals-clause-value
returns-in-externals-clause-value c = sym (asked_externals c.args.line.now c.utf8.line c.in-externals.is)

pub returns-in-undefined-clause-value : goal.returns-in-undefined-clause-value
returns-in-undefined-clause-value c = sym (asked_undefined c.args.line.now c.utf8.line c.in-undefined.is)

pub returns-in_ok-from_str-in-Some-path_after-clause-value : goal.returns-in_ok-from_str-in-Some-path_after-clause-value
returns-in_ok-from_str-in-Some-path_after-clause-value c =
    let no_withdraw : c.args.line.now ≡ codes "withdraw" → ⊥ = search rules in
    let no_externals : c.args.line.now ≡ codes "externals" → ⊥ = search rules in
    let no_undefined : c.args.line.now ≡ codes "undefined" → ⊥ = search rules in
    ap to_link (c.in_ok-from_str-in-Some-path_after.ensures.ok ∙ c.in-Some-path_after.ensures.1)
    ∙ sym (asked_link c.args.line.now c.utf8.line c.in_default.ensures no_withdraw no_externals no_undefined c.in-Some-path_after.ensures.0)
