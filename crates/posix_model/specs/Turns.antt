-- What a record moves: the bytes that it took from a process and gave to it.
use Rattle.std.specs.Prelude.{ℕ, ◌+◌, ◌-◌, List, [], ◌∷◌, Option, None, Some, length, is_some, if◌then◌else◌}
use Rattle.std.specs.Option.{option_map, option_map_or}
use Rattle.call_types.specs.CallTable.{payload_of}
use Rattle.posix_model.specs.Types.{Call, Act, Record, Outcome, Bounds, World, Parked}
use Rattle.call_types.specs.declared.act.Act.TheVariants as act
use Rattle.call_types.specs.declared.outcome.Outcome.TheVariants as outcome
use Rattle.call_types.specs.declared.outcome.Reply.TheVariants as reply
use Rattle.slots.specs.Slots.{slot}
use Rattle.process_table.specs.Processes.{parked_of}
use Rattle.posix_model.specs.History.{empty_world, after}

-- the call that an act is about, and how many bytes it moved before: a new call, or the one that its process waits in
pub record Turn : Type 0 where
  pub call : Call
  pub moved : ℕ

abbrev pub new_turn : Call → Turn
new_turn c = record { call = c; moved = 0 }

abbrev pub next_turn : Parked → Turn
next_turn parked = record { call = parked.call; moved = parked.moved }

-- the turn of an act: of a call or a resume, and of no other
abbrev pub turn : World → ℕ → Act → Option Turn
turn w actor (act.Call c) = Some (new_turn c)
turn w actor act.Resume = option_map next_turn (parked_of (slot w.processes actor))
turn w actor other = None

-- the bytes that a call has moved in all, as an outcome tells them, where it is a write
abbrev pub total : Outcome → ℕ
total (outcome.Reply (reply.Number n)) = n
total (outcome.Parked moved) = moved
total (outcome.Part moved) = moved
total other = 0

-- the bytes that a turn takes, of a call that gives data: all that it has moved now, but for what it moved before
abbrev pub took_in : ℕ → Turn → ℕ
took_in now t = if is_some (payload_of t.call) then now - t.moved else 0

-- the bytes that a record took from a process, in the world before it
abbrev pub took : World → Record → ℕ
took w r = option_map_or (took_in (total r.outcome)) (turn w r.actor r.act) 0

-- the bytes that an outcome gives
abbrev pub data_in : Outcome → List ℕ
data_in (outcome.Reply (reply.Data bytes)) = bytes
data_in other = []

-- the bytes that a record gave to a process
abbrev pub gave : World → Record → ℕ
gave w r = length (data_in r.outcome)

-- a sum over records, each in the world before it
abbrev pub sum_from : (World → Record → ℕ) → Bounds → World → List Record → ℕ
sum_from count bounds w [] = 0
sum_from count bounds w (r ∷ rs) = count w r + sum_from count bounds (after bounds w r) rs

-- the bytes that a history took
abbrev pub bytes_in : Bounds → List Record → ℕ
bytes_in bounds h = sum_from took bounds empty_world h

-- the bytes that a history gave
abbrev pub bytes_out : Bounds → List Record → ℕ
bytes_out bounds h = sum_from gave bounds empty_world h
