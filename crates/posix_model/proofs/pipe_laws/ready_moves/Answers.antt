use Rattle.posix_model.proofs.ReadyLaws.{waiting_read_is_ready, waiting_write_is_ready, ready_open_ends}
use Rattle.posix_model.proofs.WaitLaws.{ready_reads, ready_writes, nonblock_never_waits}
use Rattle.posix_model.proofs.pipe_laws.ready_moves.Goals as goal

pub returns : goal.returns
returns c = record {
  reads = ready_reads;
  writes = ready_writes;
  nonblock = nonblock_never_waits;
  waiting_reads = waiting_read_is_ready;
  waiting_writes =
      waiting_write_is_ready;
  waiting_opens = ready_open_ends;
}
