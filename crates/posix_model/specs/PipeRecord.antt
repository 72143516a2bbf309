-- What a history puts into a pipe, and what it gets from it.
use Rattle.std.specs.Prelude.{◌≡◌, ℕ, pos, ℤ, ◌<◌, ◌≤◌, Bool, true, false, List, [], ◌∷◌, ◌++◌, Option, None, Some, length, take, drop, is_some, if◌then◌else◌}
use Rattle.std.specs.Option.{option_map, option_map_or}
use Rattle.call_types.specs.CallTable.{descriptor_of}
use Rattle.posix_model.specs.Types.{Act, Record, Outcome, Bounds, World, Parked, OpenDescriptor, PIPE_BUF}
use Rattle.call_types.specs.declared.act.Act.TheVariants as act
use Rattle.slots.specs.Slots.{slot}
use Rattle.process_table.specs.Processes.{parked_of}
use Rattle.posix_model.specs.Counts.{is_pipe}
use Rattle.posix_model.specs.Descriptors.{opened}
use Rattle.posix_model.specs.Pipes.{held_bytes}
use Rattle.posix_model.specs.History.{empty_world, after, world_of}
use Rattle.posix_model.specs.Given.{data_given}
use Rattle.posix_model.specs.Turns.{Turn, turn, total, took_in, took, data_in}

-- what a descriptor leads to, if there is one and it is open
abbrev pub opened_if : World → ℕ → Option ℤ → Option OpenDescriptor
opened_if w process None = None
opened_if w process (Some fd) = opened w process fd

-- a turn, with what the descriptor of its call leads to (own)
pub record TurnOn : Type 0 where
  pub turn : Turn
  pub on : Option OpenDescriptor

-- a turn, on this
abbrev pub turn_with : Option OpenDescriptor → Turn → TurnOn
turn_with on turn = record { turn = turn; on = on }

-- what the descriptor that a process waits on leads to
abbrev pub parked_on : World → ℕ → Option Parked → Option OpenDescriptor
parked_on w process None = None
parked_on w process (Some parked) = opened w process (pos parked.fd)

-- what the descriptor of an act's call leads to: the first that a new call names, or the one that the process waits on
abbrev pub act_on : World → ℕ → Act → Option OpenDescriptor
act_on w actor (act.Call c) = opened_if w actor (descriptor_of c)
act_on w actor act.Resume = parked_on w actor (parked_of (slot w.processes actor))
act_on w actor other = None

-- the turn of an act, on what its descriptor leads to; an act that is about no call has none
abbrev pub turn_on : World → ℕ → Act → Option TurnOn
turn_on w actor act = option_map (turn_with (act_on w actor act)) (turn w actor act)

-- whether a descriptor is on this pipe
abbrev pub is_on : ℕ → Option OpenDescriptor → Bool
is_on pipe None = false
is_on pipe (Some o) = is_pipe pipe o.description.target

-- the bytes that a turn with this outcome takes: of its call's data, after what it moved before
abbrev pub taken_in : Outcome → Turn → List ℕ
taken_in o t = take (took_in (total o) t) (drop t.moved (data_given t.call))

-- what a turn with this outcome puts into a pipe: the bytes that it takes, where it is on the pipe (page of write)
abbrev pub put_in : ℕ → Outcome → TurnOn → List ℕ
put_in pipe o t = if is_on pipe t.on then taken_in o t.turn else []

-- what it gets from a pipe: the data that it is told, where it is on the pipe (page of read)
abbrev pub got_in : ℕ → Outcome → TurnOn → List ℕ
got_in pipe o t = if is_on pipe t.on then data_in o else []

-- what a record puts into a pipe, in the world before it
abbrev pub put_by : ℕ → World → Record → List ℕ
put_by pipe w r = option_map_or (put_in pipe r.outcome) (turn_on w r.actor r.act) []

-- what a record gets from a pipe, in the world before it
abbrev pub got_by : ℕ → World → Record → List ℕ
got_by pipe w r = option_map_or (got_in pipe r.outcome) (turn_on w r.actor r.act) []

-- the parts that records have in a list, joined in their order, each in the world before it
abbrev pub joined_from : (World → Record → List ℕ) → Bounds → World → List Record → List ℕ
joined_from part bounds w [] = []
joined_from part bounds w (r ∷ rs) = part w r ++ joined_from part bounds (after bounds w r) rs

-- all that a history put into a pipe
abbrev pub put : Bounds → List Record → ℕ → List ℕ
put bounds h pipe = joined_from (put_by pipe) bounds empty_world h

-- all that a history got from a pipe
abbrev pub got : Bounds → List Record → ℕ → List ℕ
got bounds h pipe = joined_from (got_by pipe) bounds empty_world h

-- what a history put into a pipe that is there is what it got from it, followed by what the pipe holds (page of pipe: first in, first out)
abbrev pub KeepsBytes : Bounds → List Record → Type 0
KeepsBytes bounds h = (pipe : ℕ) → is_some (slot (world_of bounds h).pipes pipe) ≡ true → put bounds h pipe ≡ got bounds h pipe ++ held_bytes
    (world_of bounds h) pipe

-- one record put the part, and it stands in the list in one piece, after the bytes that were put before
pub record IsUnbroken (part by_one before bytes : List ℕ) : Type 0 where
  pub is_one : by_one ≡ part
  pub rest : List ℕ
  pub whole : bytes ≡ before ++ (part ++ rest)

-- the data of a write of at most PIPE_BUF bytes that moved any stands unbroken in what a history put into its pipe, from one record (page of write)
abbrev pub KeepsSmallWhole : Bounds → List Record → Type 0
KeepsSmallWhole bounds h = (before rest : List Record) (r : Record) (t : TurnOn) (pipe : ℕ) → before ++ r ∷ rest ≡ h →
    turn_on (world_of bounds before) r.actor r.act ≡ Some t → is_on pipe t.on ≡ true → length (data_given t.turn.call) ≤ PIPE_BUF →
    0 < took (world_of bounds before) r →
    IsUnbroken (data_given t.turn.call) (put_by pipe (world_of bounds before) r) (put bounds before pipe) (put bounds h pipe)
