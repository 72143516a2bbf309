-- The types that most definitions and proofs name, with errors, replies and limits.
pub use Rattle.call_types.specs.declared.call.Call.{Call}
pub use Rattle.call_types.specs.declared.act.Act.{Act}
pub use Rattle.call_types.specs.declared.act.Record.{Record}
pub use Rattle.call_types.specs.declared.outcome.Outcome.{Outcome}
pub use Rattle.call_types.specs.declared.outcome.Reply.{Reply}
pub use Rattle.call_types.specs.declared.outcome.Stat.{Stat}
pub use Rattle.call_types.specs.declared.errno.Errno.{Errno}
pub use Rattle.call_types.specs.declared.flags.OpenFlags.{OpenFlags}
pub use Rattle.call_types.specs.declared.whence.Whence.{Whence}
pub use Rattle.call_types.specs.declared.limits.Bounds.{Bounds}
pub use Rattle.posix_model.specs.declared.world.World.{World}
pub use Rattle.process_table.specs.declared.process.Process.{Process}
pub use Rattle.process_table.specs.declared.process.Parked.{Parked}
pub use Rattle.call_types.specs.declared.description.Description.{Description}
pub use Rattle.call_types.specs.declared.description.DescriptionEdit.{DescriptionEdit}
pub use Rattle.call_types.specs.declared.description.Target.{Target}
pub use Rattle.call_types.specs.declared.description.Mode.{Mode}
pub use Rattle.posix_model.specs.declared.world.File.{File}
pub use Rattle.posix_model.specs.declared.world.Fifo.{Fifo}
pub use Rattle.posix_model.specs.declared.opened.OpenDescriptor.{OpenDescriptor}
pub use Rattle.posix_model.specs.declared.change.DataSource.{DataSource}
pub use Rattle.posix_model.specs.declared.change.NameEdit.{NameEdit}
pub use Rattle.posix_model.specs.declared.change.FileEdit.{FileEdit}
pub use Rattle.posix_model.specs.declared.change.ProcessEdit.{ProcessEdit}
pub use Rattle.posix_model.specs.declared.change.TableEdit.{TableEdit}
pub use Rattle.posix_model.specs.declared.change.Change.{Change}
pub use Rattle.posix_model.specs.declared.change.Decided.{Decided}
pub use Rattle.posix_model.specs.declared.change.Try.{Try}
pub use Rattle.call_types.specs.declared.errno.Errno.TheVariants.{
  EAGAIN,
  EBADF,
  EEXIST,
  EFBIG,
  EINVAL,
  EMFILE,
  EMLINK,
  ENAMETOOLONG,
  ENFILE,
  ENOENT,
  ENOSPC,
  ENXIO,
  EOVERFLOW,
  EPIPE,
  ESPIPE,
  ESRCH,
}
pub use Rattle.call_types.specs.declared.limits.TheConstants.{
  DESCRIPTIONS_MAX,
  LINK_MAX,
  NAMES_MAX,
  NAME_MAX,
  OFFSET_MAX,
  OPEN_MAX,
  PIPE_BUF,
  PROCESSES_MAX,
  RECORD_LENGTH_MAX,
  TRANSFER_MAX,
}
pub use Rattle.call_types.specs.declared.outcome.Outcome.TheVariants.{Parked as ParkedAt, Part, Reply as Replied}
pub use Rattle.call_types.specs.declared.outcome.Reply.TheVariants.{Data, Done, Error, Number, Pair, Stat as StatReply}
