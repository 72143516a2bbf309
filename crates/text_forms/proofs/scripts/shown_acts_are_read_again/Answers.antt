use Rattle.text_forms.proofs.ScriptRoundTrip.{shown_again}
use Rattle.text_forms.proofs.scripts.shown_acts_are_read_again.Goals as goal

pub returns : goal.returns
returns c = shown_again
