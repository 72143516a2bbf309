use Rattle.script_text.proofs.ScriptLaws as laws
use Rattle.script_text.proofs.round_trip.read_scripts_are_spelled.Goals as goal

pub returns : goal.returns
returns c = λ acts text. laws.script_takes text acts
