use Rattle.script_text.proofs.ScriptLaws as laws
use Rattle.script_text.proofs.round_trip.spelled_scripts_are_read.Goals as goal

pub returns : goal.returns
returns c = λ acts text. laws.script_again text acts
