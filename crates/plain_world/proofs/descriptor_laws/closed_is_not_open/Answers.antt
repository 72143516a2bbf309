use Rattle.plain_world.proofs.DescriptorLaws.{close_closes, not_open_is_bad}
use Rattle.plain_world.proofs.descriptor_laws.closed_is_not_open.Goals as goal

pub returns : goal.returns
returns c = record { close = close_closes; not_open = not_open_is_bad }
