-- What a book counts of its journal (own).
use Rattle.std.specs.Prelude.{◌≡◌, ℕ, ◌+◌, ◌≤◌, List, [], ◌∷◌, length, sum_by}
use Rattle.call_types.specs.declared.act.Act.{Act}
use Rattle.call_types.specs.declared.act.Act.TheVariants as act
use Rattle.call_types.specs.declared.act.Record.{Record}
use Rattle.call_types.specs.declared.outcome.Outcome.{Outcome}
use Rattle.posix_model.specs.History.{legal}
use Rattle.posix_model.specs.PipeRecord.{KeepsBytes, KeepsSmallWhole}
use Rattle.posix_model.specs.Turns.{total, took_in, new_turn, data_in, bytes_in, bytes_out}
use Rattle.byte_ledger.specs.Counted.{Counted}
use Rattle.byte_ledger.specs.declared.tallies.Sums.{Sums}
use Rattle.record_book.specs.Seat.{Receipted}
use Rattle.record_book.specs.Book.{BookState, world_now}
use Rattle.posix_model.specs.Reserve.{exits_left}

-- how many seats an act opens: a join and an attach open one each, whatever their outcome
abbrev pub seats_of : Act → ℕ
seats_of act.Join = 1
seats_of act.Attach = 1
seats_of other = 0

-- how many seats records opened
abbrev pub seats_in : List Record → ℕ
seats_in [] = 0
seats_in (r ∷ rs) = seats_of r.act + seats_in rs

-- how many seats a book has given, that of the house among them
abbrev pub seats_given : BookState → ℕ
seats_given b = seats_in b.history + 1

-- so many records, which took and gave no bytes
abbrev pub only_records : ℕ → Counted
only_records n = record { records = n; bytes_in = 0; bytes_out = 0 }

-- how many records a book holds, and how many bytes they took and gave
abbrev pub counted_in : BookState → Counted
counted_in b = record { records = length b.history; bytes_in = bytes_in b.limits.bounds b.history; bytes_out = bytes_out b.limits.bounds b.history }

-- how many bytes a record gave
abbrev pub given_by : Receipted → ℕ
given_by r = length (data_in r.record_is.outcome)

-- how many bytes an act of this outcome took at least: a call all that it has moved; what a resume took depends on what its call had moved
-- before
abbrev pub least_moved : Act → Outcome → ℕ
least_moved (act.Call c) told = took_in (total told) (new_turn c)
least_moved other told = 0

-- how many it took at most
abbrev pub most_moved : Act → Outcome → ℕ
most_moved (act.Call c) told = took_in (total told) (new_turn c)
most_moved act.Resume told = total told
most_moved other told = 0

abbrev pub least_taken_by : Receipted → ℕ
least_taken_by r = least_moved r.record_is.act r.record_is.outcome

abbrev pub most_taken_by : Receipted → ℕ
most_taken_by r = most_moved r.record_is.act r.record_is.outcome

-- what is counted are these receipts: one record for each, the bytes that they gave, and as many bytes taken as they can have taken, which
-- is just one number where none of them is of a resume
pub record CountsOwn (c : Counted) (receipts : List Receipted) : Type 0 where
  pub records_are : c.records ≡ length receipts
  pub given_are : c.bytes_out ≡ sum_by given_by receipts
  pub taken_least : sum_by least_taken_by receipts ≤ c.bytes_in
  pub taken_most : c.bytes_in ≤ sum_by most_taken_by receipts

-- how many records a book holds, and how many bytes they took and gave; they are a run of the model, in which each pipe holds the
-- bytes that were put into it and not yet taken out, and small writes went in unbroken; and the exits and the closing have theirs
pub record CountsOf (b : BookState) (sums : Sums) : Type 0 where
  pub records : sums.records ≡ length b.history
  pub bytes_in : sums.bytes_in ≡ bytes_in b.limits.bounds b.history
  pub bytes_out : sums.bytes_out ≡ bytes_out b.limits.bounds b.history
  pub is_legal : legal b.limits.bounds b.history
  pub pipes : KeepsBytes b.limits.bounds b.history
  pub small_writes : KeepsSmallWhole b.limits.bounds b.history
  pub reserve : length b.history + exits_left (world_now b) ≤ b.limits.records
