-- Seats that fit the processes, and go on to fit them.
use Rattle.std.proofs.Common.{◌≡◌, ◌≢◌, ◌∙◌, ℕ, zero, suc, ◌-◌, ◌≤◌, List, [], ◌∷◌, ◌++◌, Option, None, Some, length, set, replicate, inl, inr, refl, ap, sym, subst, arith, length-append}
use Rattle.std.proofs.lemmas.Bool.{cases_lt, lt-ltb, le-ltb}
use Rattle.std.proofs.lemmas.Bool.Decides.{eqb_tells}
use Rattle.std.proofs.lemmas.List.{length-replicate}
use Rattle.slots.specs.Slots.{slot}
use Rattle.process_table.specs.declared.process.Process.{Process}
use Rattle.process_table.specs.Processes.{is_here}
use Rattle.posix_model.proofs.SlotLaws.{set_within, set_other, slot_at_end}
use Rattle.record_book.specs.Seat.{SeatState}
use Rattle.script_run.specs.Runs.{Seats, with_seat}
use Rattle.script_run.specs.Fits.{StandsFor, SeatsFit}

-- more records were made, and the process is as much here as it was
stands_more : (records more p : ℕ) (there now : Option Process) (s : Option SeatState) → StandsFor records p there s → is_here now ≡ is_here there →
    records ≤ more → StandsFor more p now s
stands_more records more p there now None fits same less = same ∙ fits
stands_more records more p there now (Some s) fits same less = (same ∙ fits.0, fits.1, omega (arith, fits.2, less))

-- nobody came and nobody went
pub seats_stay : (ps qs : List (Option Process)) (records more : ℕ) (seats : Seats) → SeatsFit ps records seats →
    ((q : ℕ) → is_here (slot qs q) ≡ is_here (slot ps q)) → records ≤ more → SeatsFit qs more seats
seats_stay ps qs records more seats fits same less = λ q. stands_more records more q (slot ps q) (slot qs q) (slot seats q) (fits q) (same q) less

-- what stands at one number is another
pub seats_at : (ps qs : List (Option Process)) (records more : ℕ) (seats after : Seats) (n : ℕ) → SeatsFit ps records seats →
    StandsFor more n (slot qs n) (slot after n) →
    ((q : ℕ) → n ≢ q → slot after q ≡ slot seats q) → ((q : ℕ) → n ≢ q → is_here (slot qs q) ≡ is_here (slot ps q)) → records ≤ more → SeatsFit qs more after
seats_at ps qs records more seats after n fits here others same less = λ q. at q
  where
    at : (q : ℕ) → StandsFor more q (slot qs q) (slot after q)
    at q = elim (eqb_tells n q) [
      | inl is ↦ subst (λ (m : ℕ). StandsFor more m (slot qs m) (slot after m)) is.1 here
      | inr apart ↦ subst (StandsFor more q (slot qs q)) (sym (others q apart.1)) (stands_more records more q (slot ps q) (slot qs q) (slot seats q) (fits q)
          (same q apart.1) less)
    ]

-- a slot that was emptied is empty, also past the end
pub slot_emptied : {T : Type 0} (xs : List (Option T)) (n : ℕ) → slot (set xs n None) n ≡ None
slot_emptied [] n = refl
slot_emptied (x ∷ xs) zero = refl
slot_emptied (x ∷ xs) (suc n) = slot_emptied xs n

-- what is added at the end leaves all others
pub pushed_other : {T : Type 0} (xs : List (Option T)) (y : Option T) (q : ℕ) → length xs ≢ q → slot (xs ++ y ∷ []) q ≡ slot xs q
pushed_other [] y zero apart = absurd (apart refl)
pushed_other [] y (suc q) apart = refl
pushed_other (x ∷ xs) y zero apart = refl
pushed_other (x ∷ xs) y (suc q) apart = pushed_other xs y q (λ same. apart (ap suc same))

none_there : {T : Type 0} (k q : ℕ) (free : Option T) → free ≡ None → slot (replicate k free) q ≡ None
none_there zero q free is = refl
none_there (suc k) zero free is = is
none_there (suc k) (suc q) free is = none_there k q free is

-- free slots at the end
padded : {T : Type 0} (xs : List (Option T)) (k q : ℕ) (free : Option T) → free ≡ None → slot (xs ++ replicate k free) q ≡ slot xs q
padded [] k q free is = none_there k q free is
padded (x ∷ xs) k zero free is = refl
padded (x ∷ xs) k (suc q) free is = padded xs k q free is

-- a seat that is put past the others
pushed_past : (n : ℕ) (s : SeatState) (seats : Seats) → length seats ≤ n →
    (slot (seats ++ replicate (n - length seats) None ++ Some s ∷ []) n ≡ Some s) ×
    ((q : ℕ) → n ≢ q → slot (seats ++ replicate (n - length seats) None ++ Some s ∷ []) q ≡ slot seats q)
pushed_past n s seats past =
    let free : Option SeatState = None in
    let more : Seats = seats ++ replicate (n - length seats) free in
    let len : length more ≡ n = omega (arith, length-append seats (replicate (n - length seats) free), length-replicate (n - length seats) free, past) in (
      ap (λ (m : ℕ). slot (more ++ Some s ∷ []) m) (sym len) ∙ slot_at_end more (Some s),
      λ q apart. pushed_other more (Some s) q (λ is. apart (sym len ∙ is)) ∙ padded seats (n - length seats) q free refl,
    )

-- a seat that is put stands there, and the others where they stood
pub seat_put : (n : ℕ) (s : SeatState) (seats : Seats) → (slot (with_seat n s seats) n ≡ Some s) ×
    ((q : ℕ) → n ≢ q → slot (with_seat n s seats) q ≡ slot seats q)
seat_put n s seats = elim (cases_lt n (length seats)) [
  | inl within ↦ rw (lt-ltb n (length seats) within) (set_within seats n (Some s) within, λ q apart. set_other seats n q (Some s) apart)
  | inr past ↦ rw (le-ltb n (length seats) past) (pushed_past n s seats past)
]
