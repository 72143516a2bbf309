-- The exits that are prepared, and the room of the house.
use Rattle.std.proofs.Common.{◌≡◌, ◌∙◌, ℕ, zero, suc, ◌+◌, ◌≤◌, ◌<◌, true, false, cond, map, drop, append_assoc, length-append, List, [], ◌∷◌, ◌++◌, Option, None, Some, length, set, refl, ap, sym, subst, arith}
use Rattle.std.specs.Prelude.{is_some}
use Rattle.std.specs.Option.{option_map}
use Rattle.call_types.specs.declared.act.Record.{Record}
use Rattle.slots.specs.Slots.{slot, edited}
use Rattle.process_table.specs.declared.process.Process.{Process}
use Rattle.process_table.specs.Processes.{process_with, with_connection, with_entry, with_parked, with_total, awaits}
use Rattle.posix_model.specs.Change.{with_files, with_processes, with_table, with_description, end_of, changed}
use Rattle.posix_model.specs.Pipes.{with_pipe}
use Rattle.call_types.specs.declared.description.Mode.TheVariants as mode
use Rattle.posix_model.specs.Proved.Sound.{makes, ended_by}
use Rattle.posix_model.specs.declared.world.World.{World}
use Rattle.posix_model.specs.declared.change.FileEdit.{FileEdit}
use Rattle.posix_model.specs.declared.change.ProcessEdit.{ProcessEdit}
use Rattle.posix_model.specs.declared.change.TableEdit.{TableEdit}
use Rattle.posix_model.specs.declared.change.Change.{Change}
use Rattle.posix_model.specs.declared.change.FileEdit.TheVariants as on_files
use Rattle.posix_model.specs.declared.change.ProcessEdit.TheVariants as on_process
use Rattle.posix_model.specs.declared.change.TableEdit.TheVariants as on_table
use Rattle.record_book.specs.Exits.{exit_record, closing_record, orphans_from, orphans_exits, receipts_from}
use Rattle.record_book.specs.Proved.Prepared.{exits_from, prepared_for, with_prepared}
use Rattle.record_book.specs.Ends.{told_more, Ends}
use Rattle.record_book.specs.Proved.Leaving.{OrphansEnd}
use Rattle.record_book.specs.Book.{BookState, world_now}
use Rattle.record_book.specs.Proved.Inside.{prepared_closing}
use Rattle.record_book.specs.Seat.{Receipted, SeatState}
use Rattle.record_book.specs.Proved.House.{HasRoom, SameHouse}
use Rattle.record_book.specs.declared.journal.House.{House}

-- a process is added, edited, or gone
exits_push : (k : ℕ) (ps : List (Option Process)) (x : Process) → exits_from k (ps ++ Some x ∷ []) ≡ exits_from k ps ++ Some (exit_record (k + length ps)) ∷ []
exits_push k [] x = let same : k + 0 ≡ k = omega arith in rw same refl
exits_push k (p ∷ ps) x =
    let same : suc k + length ps ≡ k + suc (length ps) = omega arith in
    ap (λ es. option_map (λ _. exit_record k) p ∷ es) (exits_push (suc k) ps x ∙ ap (λ n. exits_from (suc k) ps ++ Some (exit_record n) ∷ []) same)

exits_edited : (k : ℕ) (ps : List (Option Process)) (n : ℕ) (f : Process → Process) → exits_from k (edited n f ps) ≡ exits_from k ps
exits_edited k [] n f = refl
exits_edited k (None ∷ ps) zero f = refl
exits_edited k (Some x ∷ ps) zero f = refl
exits_edited k (x ∷ ps) (suc n) f = ap (λ es. option_map (λ _. exit_record k) x ∷ es) (exits_edited (suc k) ps n f)

pub exits_emptied : (k : ℕ) (ps : List (Option Process)) (n : ℕ) → exits_from k (set ps n None) ≡ set (exits_from k ps) n None
exits_emptied k [] n = refl
exits_emptied k (x ∷ ps) zero = refl
exits_emptied k (x ∷ ps) (suc n) = ap (λ es. option_map (λ _. exit_record k) x ∷ es) (exits_emptied (suc k) ps n)

-- what is prepared for a live process
pub exits_at : (k : ℕ) (ps : List (Option Process)) (n : ℕ) → is_some (slot ps n) ≡ true → slot (exits_from k ps) n ≡ Some (exit_record (k + n))
exits_at k [] n there = cc
exits_at k (None ∷ ps) zero there = cc
exits_at k (Some x ∷ ps) zero there = let same : k + 0 ≡ k = omega arith in rw same refl
exits_at k (x ∷ ps) (suc n) there =
    let same : suc k + n ≡ k + suc n = omega arith in
    exits_at (suc k) ps n there ∙ ap (λ m. Some (exit_record m)) same

-- one case for each edit
exits_files : (w : World) (bytes : List ℕ) (e : FileEdit) → (with_files w bytes e).processes ≡ w.processes
exits_files w bytes on_files.Nothing = refl
exits_files w bytes other = refl

exits_process : (w : World) (e : ProcessEdit) → ended_by e ≡ 0 → exits_from 0 (with_processes w e).processes ≡ with_prepared
    (prepared_for (length w.processes) e) (exits_from 0 w.processes)
exits_process w on_process.Nothing none = refl
exits_process w (on_process.Add table attached) none =
    let same : 0 + length w.processes ≡ length w.processes = omega arith in
    exits_push 0 w.processes (process_with table attached) ∙ ap (λ n. exits_from 0 w.processes ++ Some (exit_record n) ∷ []) same
exits_process w (on_process.Attach p) none = exits_edited 0 w.processes p with_connection
exits_process w (on_process.Park p parked) none = exits_edited 0 w.processes p (with_parked (Some parked))
exits_process w (on_process.Total p moved) none = exits_edited 0 w.processes p (with_total moved)
exits_process w (on_process.Unpark p) none = exits_edited 0 w.processes p (with_parked None)
exits_process w (on_process.Exit p) none = cc
exits_process w on_process.Close none = refl

exits_table : (w : World) (e : TableEdit) → exits_from 0 (with_table w e).processes ≡ exits_from 0 w.processes
exits_table w on_table.Nothing = refl
exits_table w (on_table.Describe number edit) = refl
exits_table w (on_table.Open process fd d) = exits_edited 0 w.processes process (with_entry fd (Some (length w.descriptions)))
exits_table w (on_table.OpenPair process reading writing) =
    let u = with_description (with_pipe w) process reading (end_of (length w.pipes) mode.Read) in
    exits_edited 0 u.processes process (with_entry writing (Some (length u.descriptions))) ∙
    exits_edited 0 w.processes process (with_entry reading (Some (length w.descriptions)))
exits_table w (on_table.OpenEnd process fd file d) = exits_edited 0 w.processes process (with_entry fd (Some (length w.descriptions)))
exits_table w (on_table.Entry process fd entry) = exits_edited 0 w.processes process (with_entry fd entry)

pub exits_changed : (w : World) (bytes : List ℕ) (c : Change) → ended_by c.process ≡ 0 →
    exits_from 0 (changed w bytes c).processes ≡ with_prepared (prepared_for (length w.processes) c.process) (exits_from 0 w.processes)
exits_changed w bytes c none =
    let u = with_files w bytes c.files in
    let P : List (Option Process) → Type 0 = λ ps. exits_from 0 (with_processes u c.process).processes ≡ with_prepared (prepared_for (length ps) c.process)
    (exits_from 0 ps) in
    exits_table (with_processes u c.process) c.table ∙ subst P (exits_files w bytes c.files) (exits_process u c.process none)

-- an edit makes a process exactly where one exit is prepared
pub prepared_count : (n : ℕ) (e : ProcessEdit) → makes e ≡ cond (is_some (prepared_for n e)) 1 0
prepared_count n (on_process.Add table attached) = refl
prepared_count n other = refl

-- room for more is room for fewer
pub room_less : (m k : ℕ) (h : Option House) → k ≤ m → HasRoom m h → HasRoom k h
room_less m k None less room = tt
room_less m k (Some h) less room = omega (arith, less, room)

-- where room for one exit more is made with each process, there is room for all
pub house_grows : (old new : Option House) (live more : ℕ) (prepared : Option Record) → SameHouse old new → HasRoom live old →
    (is_some prepared ≡ true → HasRoom (live + 1) new) →
    more ≡ cond (is_some prepared) 1 0 → HasRoom (live + more) new
house_grows old new live more None same room made count = room_less live (live + more) new (omega (arith, count)) (same.room live room)
house_grows old new live more (Some r) same room made count = room_less (live + 1) (live + more) new (omega (arith, count)) (made refl)

pub prepared_there : (ps : List (Option Process)) (p : ℕ) → is_some (slot ps p) ≡ true → slot (exits_from 0 ps) p ≡ Some (exit_record p)
prepared_there ps p there =
    let same : 0 + p ≡ p = omega arith in
    exits_at 0 ps p there ∙ ap (λ m. Some (exit_record m)) same

same_some : (a b : Record) → Some a ≡ Some b → a ≡ b
same_some a b e = cc

-- the record that the house of an open run has
pub closing_is : (r : Record) (w : World) → Some r ≡ prepared_closing w → w.closed ≡ false → r ≡ closing_record
closing_is r w is stays_open = same_some r closing_record (is ∙ ap (λ b. cond b None (Some closing_record)) stays_open)

-- the processes without a connection from a number on: the first of them, and the others
drop_next : {T : Type 0} (xs : List (Option T)) (n : ℕ) → n < length xs → drop n xs ≡ slot xs n ∷ drop (suc n) xs
drop_next [] n below = absurd (omega arith)
drop_next (x ∷ xs) zero below = refl
drop_next (x ∷ xs) (suc n) below = drop_next xs n (omega (arith, below))

drop_emptied : {T : Type 0} (xs : List (Option T)) (n : ℕ) → drop (suc n) (set xs n None) ≡ drop (suc n) xs
drop_emptied [] n = refl
drop_emptied (x ∷ xs) zero = refl
drop_emptied (x ∷ xs) (suc n) = drop_emptied xs n

-- the exits that are left from a number on
abbrev pub exits_ahead : ℕ → List (Option Process) → List Record
exits_ahead n ps = map exit_record (orphans_from n (drop n ps))

pub ahead_other : (ps : List (Option Process)) (n : ℕ) → n < length ps → awaits (slot ps n) ≡ false → exits_ahead n ps ≡ exits_ahead (n + 1) ps
ahead_other ps n below other =
    let next : n + 1 ≡ suc n = omega arith in
    rw (next, drop_next ps n below, other) refl

pub ahead_orphan : (ps : List (Option Process)) (n : ℕ) → n < length ps → awaits (slot ps n) ≡ true → exits_ahead n ps ≡ exit_record n ∷ exits_ahead (n + 1)
    (set ps n None)
ahead_orphan ps n below one =
    let next : n + 1 ≡ suc n = omega arith in
    rw (next, drop_next ps n below, one, drop_emptied ps n) refl

-- receipts of records in a row
pub receipts_more : (place : ℕ) (xs ys : List Record) → receipts_from place (xs ++ ys) ≡ receipts_from place xs ++ receipts_from (place + length xs) ys
receipts_more place [] ys = let same : place + 0 ≡ place = omega arith in rw same refl
receipts_more place (x ∷ xs) ys =
    let same : place + 1 + length xs ≡ place + suc (length xs) = omega arith in
    ap (λ rs. record { place = place; record_is = x } ∷ rs) (receipts_more (place + 1) xs ys ∙
    ap (λ n. receipts_from (place + 1) xs ++ receipts_from n ys) same)

pub told_twice : (place : ℕ) (xs ys : List Record) (house : Option (List Receipted)) → told_more (place + length xs) ys (told_more place xs house)
    ≡ told_more place (xs ++ ys) house
told_twice place xs ys None = refl
told_twice place xs ys (Some rs) = ap Some (append_assoc rs (receipts_from place xs) (receipts_from (place + length xs) ys) ∙
    ap (λ more. rs ++ more) (sym (receipts_more place xs ys)))

-- the exits of a closing and the closing itself, told as one
pub ends_as_one : (a b c : BookState) (rs : List Record) (s : SeatState) → OrphansEnd a b → Ends b c rs s → Ends a c (orphans_exits (world_now a) ++ rs) s
ends_as_one a b c rs s first last =
    let xs = orphans_exits (world_now a) in
    let place : length b.history ≡ length a.history + length xs = ap length first.history ∙ length-append a.history xs in
    record {
      limits = last.limits ∙ first.limits;
      is_traced = last.is_traced ∙ first.is_traced;
      history = last.history ∙ ap (λ h. h ++ rs) first.history ∙ append_assoc a.history xs rs;
      pid = last.pid;
      seen = last.seen;
      counts = last.counts;
      given_away = last.given_away;
      receipts = last.receipts ∙ ap (λ n. told_more n rs b.house) place ∙ ap (λ house. told_more (length a.history + length xs) rs house) first.house ∙
          told_twice (length a.history) xs rs a.house;
    }
