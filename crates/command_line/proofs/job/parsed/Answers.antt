use Rattle.std.proofs.Common.{◌≡◌, ◌∙◌, List, [], map, ap, refl, subst, true}
use Rattle.clap.specs.Words.{App, HasKind, HasMatchesOf, Text, app_of, fault_of, is_simple, is_simple_and_free}
use Rattle.clap.proofs.OnLiterals.{clap_on_literals}
use Rattle.command_line.specs.CommandLine.{fdref_app}
use Rattle.command_line.proofs.Parses.{deserved}
use Rattle.command_line.proofs.job.parsed.Goals as goal

free : is_simple_and_free fdref_app ≡ true
unfolding clap_on_literals
free = refl

simple : is_simple fdref_app ≡ true
unfolding clap_on_literals
simple = refl

pub returns-in-Ok-clause-ok : goal.returns-in-Ok-clause-ok
returns-in-Ok-clause-ok g c =
    let words : List Text = map g.S.AsStr.text c.args.words.now in
    let same : app_of c.in_ok-fdref_command.field-0 ≡ fdref_app = c.in_ok-fdref_command.ensures.app in
    record {
      parsed = subst (λ (a : App). fault_of a words ≡ []) same (c.in-Ok.ensures.kinds (ap is_simple_and_free same ∙ free));
      rows = (subst (λ (a : App). HasMatchesOf a words c.in-Ok.matches) same c.in-Ok.ensures.matches simple).1;
    }

pub returns-in-Err-clause-fault : goal.returns-in-Err-clause-fault
returns-in-Err-clause-fault g c =
    let words : List Text = map g.S.AsStr.text c.args.words.now in
    let same : app_of c.in_ok-fdref_command.field-0 ≡ fdref_app = c.in_ok-fdref_command.ensures.app in
    deserved words c.in-Err.error c.fault_of_parse.result
    (subst (λ (a : App). HasKind (fault_of a words) c.in-Err.error) same (c.in-Err.ensures.kinds (ap is_simple_and_free same ∙ free)))
    c.fault_of_parse.ensures
