-- A process goes as if its descriptors were closed in turn, and a descriptor is set as if it were closed first.
use Rattle.std.proofs.Common.{◌≡◌, ◌≢◌, ℕ, zero, suc, ◌≤◌, ◌<◌, ◌∙◌, List, [], ◌∷◌, Option, None, Some, length, set, refl, ap, sym, subst, arith, set-set, inl, inr}
use Rattle.std.specs.Option.{option_map}
use Rattle.std.specs.List.{count_by, sum_by}
use Rattle.std.proofs.lemmas.List.{set-get_or}
use Rattle.std.proofs.lemmas.List.Sums.{sum_by-cons}
use Rattle.slots.specs.Slots.{slot, edited}
use Rattle.posix_model.specs.Counts.{refers, refs, refs_of}
use Rattle.posix_model.specs.Sweep.{sweep}
use Rattle.process_table.specs.Processes.{with_entry, table_of}
use Rattle.posix_model.specs.Descriptors.{with_descriptor}
use Rattle.posix_model.specs.Proved.Drops.{without_process, closed_below, ExitCloses, ClosedIsBare, CloseThenSet}
use Rattle.posix_model.specs.Types.{World, Process}
use Rattle.posix_model.proofs.ReleaseLaws.{same_or_not, other_number, swept_is_settled, settled_stays}
use Rattle.posix_model.proofs.SweepLaws.{one, sweep_first, sweep_settles}

-- of two values at a place the lesser makes the lesser sum
sum_of_less : {X : Type 0} (f : X → ℕ) (xs : List X) (n : ℕ) (y z : X) → f y ≤ f z → sum_by f (set xs n y) ≤ sum_by f (set xs n z)
sum_of_less f [] n y z h = omega arith
sum_of_less f (x ∷ xs) zero y z h = omega (arith, h, sum_by-cons f y xs, sum_by-cons f z xs)
sum_of_less f (x ∷ xs) (suc n) y z h = omega (arith, sum_of_less f xs n y z h, sum_by-cons f x (set xs n y), sum_by-cons f x (set xs n z))

-- a process that goes takes references away
refs_less : (ps : List (Option Process)) (p m : ℕ) → refs (set ps p None) m ≤ refs ps m
refs_less ps p m = rw (set-get_or ps p None) at (sum_of_less (refs_of m) ps p None (slot ps p) (omega arith))

-- but none where it has none
refs_no_less : (ps : List (Option Process)) (p m : ℕ) → refs_of m (slot ps p) ≡ 0 → refs ps m ≤ refs (set ps p None) m
refs_no_less ps p m bare = rw (set-get_or ps p None) at (sum_of_less (refs_of m) ps p (slot ps p) None (omega (arith, bare)))

-- what is closed before a process goes makes no difference
exits_alike : (p n : ℕ) (w : World) → sweep (without_process (closed_below p n w) p) ≡ sweep (without_process w p)
exits_alike p zero w = refl
exits_alike p (suc fd) w =
    let u = closed_below p fd w in
    let v = with_descriptor u p fd None in
    sweep_first v (set v.processes p None) (λ m more. omega (arith, more, refs_less v.processes p m)) ∙
    (ap (λ ps. sweep (record u { processes = ps })) (set-set u.processes p (option_map (with_entry fd None) (slot u.processes p)) None) ∙ exits_alike p fd w)

closed_settles : (p n : ℕ) (w : World) → sweep w ≡ w → sweep (closed_below p n w) ≡ closed_below p n w
closed_settles p zero w settled = settled
closed_settles p (suc fd) w settled = sweep_settles (with_descriptor (closed_below p fd w) p fd None)

-- a table whose entries below a number are free
abbrev freed : ℕ → List (Option ℕ) → List (Option ℕ)
freed zero table = table
freed (suc fd) table = set (freed fd table) fd None

freed_nil : (n : ℕ) → freed n [] ≡ []
freed_nil zero = refl
freed_nil (suc fd) = ap (λ table. set table fd None) (freed_nil fd)

freed_cons : (n : ℕ) (x : Option ℕ) (table : List (Option ℕ)) → freed (suc n) (x ∷ table) ≡ None ∷ freed n table
freed_cons zero x table = refl
freed_cons (suc fd) x table = ap (λ table. set table (suc fd) None) (freed_cons fd x table)

-- where all entries are free, none refers to anything
freed_refers : (m n : ℕ) (table : List (Option ℕ)) → length table ≤ n → count_by (refers m) (freed n table) ≡ 0
freed_refers m n [] h = ap (count_by (refers m)) (freed_nil n)
freed_refers m zero (x ∷ table) h = absurd (omega (arith, h))
freed_refers m (suc n) (x ∷ table) h = ap (count_by (refers m)) (freed_cons n x table) ∙ freed_refers m n table (omega (arith, h))

-- a table after its entry is written, and after those below a number are closed
table_edited : (fd : ℕ) (entry : Option ℕ) (ps : List (Option Process)) (p : ℕ) → table_of (slot (edited p (with_entry fd entry) ps) p) ≡ set
    (table_of (slot ps p)) fd entry
table_edited fd entry [] p = refl
table_edited fd entry (None ∷ ps) zero = refl
table_edited fd entry (Some process ∷ ps) zero = refl
table_edited fd entry (x ∷ ps) (suc p) = table_edited fd entry ps p

table_closed : (p n : ℕ) (w : World) → table_of (slot (closed_below p n w).processes p) ≡ freed n (table_of (slot w.processes p))
table_closed p zero w = refl
table_closed p (suc fd) w = table_edited fd None (closed_below p fd w).processes p ∙ ap (λ table. set table fd None) (table_closed p fd w)

refs_of_table : (m : ℕ) (x : Option Process) → refs_of m x ≡ count_by (refers m) (table_of x)
refs_of_table m None = refl
refs_of_table m (Some process) = refl

pub closed_is_bare : ClosedIsBare
closed_is_bare w p n m within = refs_of_table m (slot (closed_below p n w).processes p) ∙
    (ap (count_by (refers m)) (table_closed p n w) ∙ freed_refers m n (table_of (slot w.processes p)) within)

pub exit_closes : ExitCloses
exit_closes w p n settled within =
    let u = closed_below p n w in
    let s = swept_is_settled u (closed_settles p n w settled) in
    sym (exits_alike p n w) ∙
    settled_stays (without_process u p) (record {
      descriptions = λ m there. omega (arith, s.descriptions m there, refs_no_less u.processes p m (closed_is_bare w p n m within));
      pipes = s.pipes;
      fifos = s.fifos;
      files = s.files;
    })

-- an entry that is written twice
edited_twice : (fd : ℕ) (a b : Option ℕ) (ps : List (Option Process)) (p : ℕ) → edited p (with_entry fd b) (edited p (with_entry fd a) ps) ≡ edited p
    (with_entry fd b) ps
edited_twice fd a b [] p = refl
edited_twice fd a b (None ∷ ps) zero = refl
edited_twice fd a b (Some process ∷ ps) zero = ap (λ table. Some (record process { table = table }) ∷ ps) (set-set process.table fd a b)
edited_twice fd a b (x ∷ ps) (suc p) = ap (λ ys. x ∷ ys) (edited_twice fd a b ps p)

-- a descriptor that is set adds no reference to any other description
entry_elsewhere : (m fd n : ℕ) → m ≢ n → (x : Option Process) → refs_of m (option_map (with_entry fd (Some n)) x) ≤ refs_of m
    (option_map (with_entry fd None) x)
entry_elsewhere m fd n apart None = omega arith
entry_elsewhere m fd n apart (Some process) =
    let nothing : one (refers m (Some n)) ≡ 0 = rw (other_number m n apart) refl in
    sum_of_less (λ x. one (refers m x)) process.table fd (Some n) None (omega (arith, nothing))

pub close_then_set : CloseThenSet
close_then_set w p fd n still =
    let v = with_descriptor w p fd None in
    let twice = edited_twice fd None (Some n) w.processes p in
    sweep_first v (edited p (with_entry fd (Some n)) v.processes) (λ m more. referred m (rw twice at more)) ∙
    ap (λ ps. sweep (record w { processes = ps })) twice
  where
    referred : (m : ℕ) → 0 < refs (with_descriptor w p fd (Some n)).processes m → 0 < refs (with_descriptor w p fd None).processes m
    referred m more = elim (same_or_not n m) [
      | inl same ↦ let P : ℕ → Type 0 = λ k. 0 < refs (with_descriptor w p fd None).processes k in subst P same.0 still
      | inr other ↦
          let x = slot w.processes p in
          let apart : m ≢ n = λ e. other.0 (sym e) in
          omega (
            arith,
            more,
            sum_of_less (refs_of m) w.processes p (option_map (with_entry fd (Some n)) x) (option_map (with_entry fd None) x)
                (entry_elsewhere m fd n apart x),
          )
    ]
