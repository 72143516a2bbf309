-- What a job's end says of its reads.
use Rattle.std.proofs.Common.{◌≡◌, ◌∙◌, ℕ, ◌+◌, ◌≤◌, inl, inr, refl, sym}
use Rattle.logged_streams.specs.Reading.{more_calls}
use Rattle.logged_streams.specs.Streams.{IsReadNoMore, LogState}
use Rattle.job_core.specs.Reads.{ReadsFew}
use Rattle.job_core.specs.declared.job_end.JobEnd.{JobEnd}
use Rattle.job_core.specs.declared.job_end.JobEnd.TheVariants as ended

-- the reader is read no more
pub read_no_more : (most : ℕ) (from to : LogState) → to.calls ≤ from.calls + most → to.interruptions ≤ 16 → IsReadNoMore (more_calls most from) to →
    ReadsFew most from to ended.CannotRead
read_no_more most from to few row why = record { few = few; few_interrupted = row; met = inl (refl, why) }

-- no read failed
pub read_well : (most : ℕ) (from to : LogState) (end : JobEnd) → to.calls ≤ from.calls + most → to.interruptions ≤ 16 → to.failed ≡ from.failed →
    (end ≡ ended.CannotRead → ⊥) → ReadsFew most from to end
read_well most from to end few row sound other = record { few = few; few_interrupted = row; met = inr (other, sound) }

pub memory_of_none : ended.NoMemory ≡ ended.CannotRead → ⊥
memory_of_none e = cc

pub write_of_none : (end : JobEnd) → end ≡ ended.CannotWrite → end ≡ ended.CannotRead → ⊥
write_of_none end is e = let bad : ended.CannotWrite ≡ ended.CannotRead = sym is ∙ e in cc

pub cannot_write_of_none : ended.CannotWrite ≡ ended.CannotRead → ⊥
cannot_write_of_none e = cc

pub done_of_none : ended.Done ≡ ended.CannotRead → ⊥
done_of_none e = cc
