-- Each line computes.
use Rattle.std.proofs.Common.{refl}
use Rattle.clap.proofs.OnLiterals.{clap_on_literals}
use Rattle.command_line.proofs.job.lines_read.Goals as goal

pub returns-clause-plain : goal.returns-clause-plain
unfolding clap_on_literals
returns-clause-plain c = (refl, refl)

pub returns-clause-apart : goal.returns-clause-apart
unfolding clap_on_literals
returns-clause-apart c = (refl, refl)

pub returns-clause-joined : goal.returns-clause-joined
unfolding clap_on_literals
returns-clause-joined c = (refl, refl)

pub returns-clause-missing : goal.returns-clause-missing
unfolding clap_on_literals
returns-clause-missing c = refl

pub returns-clause-help : goal.returns-clause-help
unfolding clap_on_literals
returns-clause-help c = refl

pub returns-clause-version : goal.returns-clause-version
unfolding clap_on_literals
returns-clause-version c = refl

pub returns-clause-surplus : goal.returns-clause-surplus
unfolding clap_on_literals
returns-clause-surplus c = refl

pub returns-clause-twice : goal.returns-clause-twice
unfolding clap_on_literals
returns-clause-twice c = refl

pub returns-clause-serve : goal.returns-clause-serve
unfolding clap_on_literals
returns-clause-serve c = (refl, refl)

pub returns-clause-socket : goal.returns-clause-socket
unfolding clap_on_literals
returns-clause-socket c = refl

pub returns-clause-sessions : goal.returns-clause-sessions
unfolding clap_on_literals
returns-clause-sessions c = refl

pub returns-clause-records : goal.returns-clause-records
unfolding clap_on_literals
returns-clause-records c = refl

pub returns-clause-incomplete : goal.returns-clause-incomplete
unfolding clap_on_literals
returns-clause-incomplete c = refl

pub returns-clause-audit : goal.returns-clause-audit
unfolding clap_on_literals
returns-clause-audit c = (refl, refl)

pub returns-clause-file : goal.returns-clause-file
unfolding clap_on_literals
returns-clause-file c = refl

pub returns-clause-no_file : goal.returns-clause-no_file
unfolding clap_on_literals
returns-clause-no_file c = refl

pub returns-clause-two_files : goal.returns-clause-two_files
unfolding clap_on_literals
returns-clause-two_files c = refl

pub returns-clause-audit_alone : goal.returns-clause-audit_alone
unfolding clap_on_literals
returns-clause-audit_alone c = refl

pub returns-clause-complete : goal.returns-clause-complete
unfolding clap_on_literals
returns-clause-complete c = (refl, refl)

pub returns-clause-demand_of_complete : goal.returns-clause-demand_of_complete
unfolding clap_on_literals
returns-clause-demand_of_complete c = (refl, refl)

pub returns-clause-acts_alone : goal.returns-clause-acts_alone
unfolding clap_on_literals
returns-clause-acts_alone c = (refl, (refl, refl))

pub returns-clause-show : goal.returns-clause-show
unfolding clap_on_literals
returns-clause-show c = (refl, refl)

pub returns-clause-acts : goal.returns-clause-acts
unfolding clap_on_literals
returns-clause-acts c = (refl, refl)

pub returns-clause-records_alone : goal.returns-clause-records_alone
unfolding clap_on_literals
returns-clause-records_alone c = refl

pub returns-clause-trace : goal.returns-clause-trace
unfolding clap_on_literals
returns-clause-trace c = refl

pub returns-clause-traceless : goal.returns-clause-traceless
unfolding clap_on_literals
returns-clause-traceless c = refl

pub returns-clause-capacity_given : goal.returns-clause-capacity_given
unfolding clap_on_literals
returns-clause-capacity_given c = (refl, refl)

pub returns-clause-served_capacity : goal.returns-clause-served_capacity
unfolding clap_on_literals
returns-clause-served_capacity c = refl

pub returns-clause-migrate : goal.returns-clause-migrate
unfolding clap_on_literals
returns-clause-migrate c = (refl, refl)

pub returns-clause-both_files : goal.returns-clause-both_files
unfolding clap_on_literals
returns-clause-both_files c = (refl, refl)

pub returns-clause-one_word : goal.returns-clause-one_word
unfolding clap_on_literals
returns-clause-one_word c = refl

pub returns-clause-three_words : goal.returns-clause-three_words
unfolding clap_on_literals
returns-clause-three_words c = refl

pub returns-clause-outcomes : goal.returns-clause-outcomes
unfolding clap_on_literals
returns-clause-outcomes c = (refl, refl)

pub returns-clause-outcomes_alone : goal.returns-clause-outcomes_alone
unfolding clap_on_literals
returns-clause-outcomes_alone c = (refl, refl)

pub returns-clause-states : goal.returns-clause-states
unfolding clap_on_literals
returns-clause-states c = (refl, refl)

pub returns-clause-witness : goal.returns-clause-witness
unfolding clap_on_literals
returns-clause-witness c = (refl, refl)

pub returns-clause-acts_of_witness : goal.returns-clause-acts_of_witness
unfolding clap_on_literals
returns-clause-acts_of_witness c = refl

pub returns-clause-file_of_outcomes : goal.returns-clause-file_of_outcomes
unfolding clap_on_literals
returns-clause-file_of_outcomes c = refl

pub returns-clause-objects : goal.returns-clause-objects
unfolding clap_on_literals
returns-clause-objects c = (refl, refl)

pub returns-clause-acts_in_text : goal.returns-clause-acts_in_text
unfolding clap_on_literals
returns-clause-acts_in_text c = refl

pub returns-clause-mixed_forms : goal.returns-clause-mixed_forms
unfolding clap_on_literals
returns-clause-mixed_forms c = (refl, refl)

pub returns-clause-in_text : goal.returns-clause-in_text
unfolding clap_on_literals
returns-clause-in_text c = (refl, refl)

pub returns-clause-plainly : goal.returns-clause-plainly
unfolding clap_on_literals
returns-clause-plainly c = refl
