use Rattle.std.proofs.Common.{◌∙◌}
use Rattle.script_text.proofs.WordTests.{same_length}
use Rattle.script_text.proofs.words.Next.is.Goals as goal

pub returns : goal.returns
returns c = c.starts_with.ensures.value ∙ same_length c.args.self.text.now c.args.text.now c.if-self-text.false
