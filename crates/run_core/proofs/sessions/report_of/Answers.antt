use Rattle.std.proofs.Common.{◌∙◌, ap}
use Rattle.run_core.proofs.StarterLemmas.{is_a_want}
use Rattle.run_core.proofs.sessions.report_of.Goals as goal

pub returns-in-Some-clause-want : goal.returns-in-Some-clause-want
returns-in-Some-clause-want g c = λ none. absurd (is_a_want c.in-Some.want c.unreported.result.fault (ap (λ u. u.fault) c.unreported.ensures ∙
    c.from.ensures) none)

pub end_run-requires : goal.end_run-requires
end_run-requires g c = record { owned = λ p. rw c.as_slice.ensures.value (c.requires.owned p) }
