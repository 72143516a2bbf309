use Rattle.plain_world.proofs.CallLaws.{files_stay, pipes_stay, acts_leave_files, acts_leave_pipes}
use Rattle.plain_world.proofs.file_laws.contents_stay.Goals as goal

pub returns : goal.returns
returns c = record {
  files = files_stay c.calls_are_sound.ensures;
  pipes = pipes_stay c.calls_are_sound.ensures;
  act_files = acts_leave_files c.acts_are_sound.ensures;
  act_pipes = acts_leave_pipes c.acts_are_sound.ensures;
}
