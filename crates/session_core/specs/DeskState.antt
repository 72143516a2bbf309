-- What a desk holds (own).
use Rattle.std.specs.Prelude.{Option}
use Rattle.session_core.specs.Stages.{Standing}
use Rattle.session_core.specs.OutputState.{OutputState}
use Rattle.session_core.specs.Answering.{TakingEnd}

-- what a desk holds
pub record DeskState : Type 0 where
  pub ring : TakingEnd
  pub output_is : OutputState
  pub standing : Option Standing
