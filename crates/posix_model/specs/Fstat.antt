-- The page of fstat: kind, size and links.
use Rattle.std.specs.Prelude.{ℕ, min, [], length}
use Rattle.posix_model.specs.Types.{Stat, World, Target, OpenDescriptor, StatReply}
use Rattle.call_types.specs.declared.outcome.FileType.TheVariants as kind
use Rattle.posix_model.specs.Counts.{links}
use Rattle.posix_model.specs.Pages.{Page, tells}
use Rattle.posix_model.specs.Descriptors.{bytes_of, held_in}
use Rattle.call_types.specs.declared.description.Target.TheVariants as target

-- the greatest number of links that a reply can tell, since it tells them in 32 bits (own)
abbrev pub LINKS_TOLD_MAX : ℕ
LINKS_TOLD_MAX = 4294967295

-- the links of a file as a reply tells them: all, in every world of a run, in which a file has few names (LINK_MAX)
abbrev pub links_told : World → ℕ → ℕ
links_told w file = min (links w.names file) LINKS_TOLD_MAX

-- what a descriptor refers to (own: a pipe or FIFO has the bytes that it holds now, and a pipe no links)
abbrev pub stat_of : World → Target → Stat
stat_of w (target.Regular file) = record { kind = kind.Regular; size = length (bytes_of w file); links = links_told w file }
stat_of w (target.Pipe pipe) = record { kind = kind.Pipe; size = held_in w pipe; links = 0 }
stat_of w (target.Fifo file pipe) = record { kind = kind.Fifo; size = held_in w pipe; links = links_told w file }

-- fstat(fd)
abbrev pub fstat : World → OpenDescriptor → Page
fstat w o = record { faults = []; effect = tells (StatReply (stat_of w o.description.target)) }
