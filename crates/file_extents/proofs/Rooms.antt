-- Room of a file, and of the chunks that it is in.
use Rattle.std.proofs.Common.{◌≡◌, ℕ, ◌+◌, ◌-◌, ◌≤◌, ◌<◌, ◌/◌, ◌%◌, arith, inl, inr}
use Rattle.std.proofs.lemmas.Bool.{cases_lt}
use Rattle.file_extents.specs.ChunkTable.{TableState, chunk_at}
use Rattle.file_extents.specs.Proved.Chunks.{HasPlaces, KeepsPlaces}
use Rattle.file_extents.specs.Proved.Contents.{HasRoom}

pub room_there : (t : TableState) (s n : ℕ) → HasRoom t s n → 0 < n → s % 65536 + n ≤ 65536 → HasPlaces (chunk_at t (s / 65536)) (s % 65536) (s % 65536 + n)
room_there t s n has some fits = record { low = has.low s (omega arith) (omega arith); high = omega (arith, less) }
  where
    less : s % 65536 + n - 1 < (chunk_at t (s / 65536)).high
    less =
        let last = has.high (s + n - 1) (omega arith) (omega arith) in
        let chunk : (s + n - 1) / 65536 ≡ s / 65536 = omega arith in
        let place : (s + n - 1) % 65536 ≡ s % 65536 + n - 1 = omega arith in
        rw (chunk, place) at last

pub room_goes : (t u : TableState) (s n start count : ℕ) → HasRoom t s n → ((k : ℕ) → KeepsPlaces (chunk_at t k) (chunk_at u k)) → s ≤ start →
    start + count ≤ s + n → HasRoom u start count
room_goes t u s n start count has keeps from till = record { low = low; high = high }
  where
    low : (p : ℕ) → start ≤ p → p < start + count → (chunk_at u (p / 65536)).low ≤ p % 65536
    low p above below =
        (keeps (p / 65536)).low (p % 65536) (has.low p (omega (arith, above, from)) (omega (arith, below, till)))
        (has.high p (omega (arith, above, from)) (omega (arith, below, till)))

    high : (p : ℕ) → start ≤ p → p < start + count → p % 65536 < (chunk_at u (p / 65536)).high
    high p above below =
        (keeps (p / 65536)).high (p % 65536) (has.low p (omega (arith, above, from)) (omega (arith, below, till)))
        (has.high p (omega (arith, above, from)) (omega (arith, below, till)))

pub room_made : (t : TableState) (s n : ℕ) → s % 65536 + n ≤ 65536 → HasPlaces (chunk_at t (s / 65536)) (s % 65536) (s % 65536 + n) → HasRoom t s n
room_made t s n fits made = record { low = low; high = high }
  where
    low : (p : ℕ) → s ≤ p → p < s + n → (chunk_at t (p / 65536)).low ≤ p % 65536
    low p from below =
        let chunk : p / 65536 ≡ s / 65536 = omega (arith, from, below, fits) in
        rw chunk (omega (arith, from, below, fits, made.low))

    high : (p : ℕ) → s ≤ p → p < s + n → p % 65536 < (chunk_at t (p / 65536)).high
    high p from below =
        let chunk : p / 65536 ≡ s / 65536 = omega (arith, from, below, fits) in
        rw chunk (omega (arith, from, below, fits, made.high))

pub room_joined : (t : TableState) (s m n : ℕ) → m ≤ n → HasRoom t s m → HasRoom t (s + m) (n - m) → HasRoom t s n
room_joined t s m n le first second = record {
  low = λ p from below. elim (cases_lt p (s + m)) [ inl front ↦ first.low p from front | inr behind ↦ second.low p behind (omega (arith, below, le)) ];
  high = λ p from below. elim (cases_lt p (s + m)) [ inl front ↦ first.high p from front | inr behind ↦ second.high p behind (omega (arith, below, le)) ];
}
