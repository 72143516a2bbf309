-- What is decided moves the bytes that its outcome tells.
use Rattle.std.proofs.Common.{◌≡◌, ◌∙◌, ℕ, ℤ, ◌+◌, ◌-◌, ◌<◌, ◌≤◌, Bool, true, false, not, cond, List, [], Some, length, take, drop, refl, ap, sym, arith, eqb, leb}
use Rattle.std.specs.Option.{is_some}
use Rattle.std.proofs.lemmas.Bool.Decides.{nat_tests}
use Rattle.slots.specs.Slots.{slot}
use Rattle.process_table.specs.Processes.{parked_of}
use Rattle.call_types.specs.CallTable.{payload_of}
use Rattle.call_types.specs.declared.call.Call.TheVariants as call
use Rattle.posix_model.specs.Types.{Call, World, Bounds, Errno, Parked, DataSource, OpenDescriptor, FileEdit, Decided, Try, EPIPE, EAGAIN, PIPE_BUF, Replied, Number, Data, Error}
use Rattle.posix_model.specs.Pages.{refused}
use Rattle.posix_model.specs.Descriptors.{held_in}
use Rattle.posix_model.specs.Pipes.{room_in, has_reader, has_writer}
use Rattle.posix_model.specs.Change.{bytes_from}
use Rattle.posix_model.specs.Tries.{read_try, write_try, broken, first_try, next_try}
use Rattle.posix_model.specs.Turns.{Turn, total, took_in, data_in}
use Rattle.posix_model.specs.Given.{data_given}
use Rattle.posix_model.specs.declared.change.FileEdit.TheVariants as on_files
use Rattle.posix_model.specs.declared.change.Try.TheVariants.{Ends, Waits}
use Rattle.posix_model.proofs.Flows.{edit_put, edit_got, cond_same}

-- the turn of a call that moved so many bytes before
abbrev pub turn_of : Call → ℕ → Turn
turn_of c moved = record { call = c; moved = moved }

-- the bytes that a turn takes where its total becomes this
abbrev pub part_of : Turn → ℕ → List ℕ
part_of t now = take (took_in now t) (drop t.moved (data_given t.call))

-- a turn takes all its data or nothing, if that is small
abbrev pub TakesAll : Turn → ℕ → Type 0
TakesAll t now = length (data_given t.call) ≤ PIPE_BUF → 0 < took_in now t → length (data_given t.call) ≤ took_in now t

-- what was decided puts into a pipe and gets from it what its outcome tells, on the pipe where the test holds, and can be made
pub record Tells (w : World) (bytes : List ℕ) (on : ℕ → Bool) (t : Turn) (d : Decided) : Type 0 where
  pub put : (q : ℕ) → edit_put w bytes q d.change.files ≡ cond (on q) (part_of t (total d.outcome)) []
  pub got : (q : ℕ) → edit_got w q d.change.files ≡ cond (on q) (data_in d.outcome) []
  pub whole : (q : ℕ) → on q ≡ true → TakesAll t (total d.outcome)

-- the total, the data and the edit of a try
abbrev total_of : Try → ℕ
total_of (Ends reply edit) = total (Replied reply)
total_of (Waits moved edit) = moved

abbrev told_of : Try → List ℕ
told_of (Ends reply edit) = data_in (Replied reply)
told_of (Waits moved edit) = []

abbrev edit_of : Try → FileEdit
edit_of (Ends reply edit) = edit
edit_of (Waits moved edit) = edit

-- the same of a try
pub record Fair (w : World) (bytes : List ℕ) (on : ℕ → Bool) (t : Turn) (d : Try) : Type 0 where
  pub put : (q : ℕ) → edit_put w bytes q (edit_of d) ≡ cond (on q) (part_of t (total_of d)) []
  pub got : (q : ℕ) → edit_got w q (edit_of d) ≡ cond (on q) (told_of d) []
  pub whole : TakesAll t (total_of d)

none : (b : Bool) (x : List ℕ) → x ≡ [] → [] ≡ cond b x []
none b x h = rw h (sym (cond_same b []))

none_took : (b : Bool) (n : ℕ) (l : List ℕ) → n ≡ 0 → [] ≡ cond b (take n l) []
none_took b n l h = none b (take n l) (ap (λ k. take k l) h)

-- where nothing is told, nothing was taken
took_zero : (t : Turn) → took_in 0 t ≡ 0
took_zero t = let P : Bool → Type 0 = λ b. cond b (0 - t.moved) 0 ≡ 0 in elim (is_some (payload_of t.call)) as P [ true ↦ omega arith | false ↦ refl ]

-- a try that moves nothing
pub fair_still : (w : World) (bytes : List ℕ) (on : ℕ → Bool) (t : Turn) (d : Try) → edit_of d ≡ on_files.Nothing → took_in (total_of d) t ≡ 0 →
    told_of d ≡ [] → Fair w bytes on t d
fair_still w bytes on t d still no_bytes no_data = record {
  put = λ q. rw still (none_took (on q) (took_in (total_of d) t) (drop t.moved (data_given t.call)) no_bytes);
  got = λ q. rw still (none (on q) (told_of d) no_data);
  whole = λ s h. absurd (omega arith);
}

abbrev FairRead : World → List ℕ → ℕ → ℤ → ℕ → ℕ → Try → Type 0
FairRead w bytes pipe fd count moved d = Fair w bytes (eqb pipe) (turn_of (call.Read fd count) moved) d

pub if_at : {A : Type 0} (Has : A → Type 0) (b : Bool) (d e : A) → (b ≡ true → Has d) → (b ≡ false → Has e) → Has (cond b d e)
if_at Has true d e h k = h refl
if_at Has false d e h k = k refl

pub fair_read : (w : World) (bytes : List ℕ) (pipe : ℕ) (fd : ℤ) (count moved : ℕ) → FairRead w bytes pipe fd count moved (read_try w pipe count)
fair_read w bytes pipe fd count moved =
    let t = turn_of (call.Read fd count) moved in
    if_at (FairRead w bytes pipe fd count moved) (not (eqb (held_in w pipe) 0)) _ _
    (λ e. record { put = λ q. none (eqb pipe q) (part_of t 0) refl; got = λ q. refl; whole = λ s h. absurd (omega arith) })
    (λ e. if_at (FairRead w bytes pipe fd count moved) (has_writer w pipe) _ _
    (λ e. fair_still w bytes (eqb pipe) t (Waits 0 on_files.Nothing) refl refl refl)
    (λ e. fair_still w bytes (eqb pipe) t (Ends (Data []) on_files.Nothing) refl refl refl))

abbrev FairWrite : World → List ℕ → ℕ → ℤ → List ℕ → ℕ → Try → Type 0
FairWrite w bytes pipe fd new moved d = Fair w bytes (eqb pipe) (turn_of (call.Write fd new) moved) d

-- of the rest, n bytes go in
part_more : (fd : ℤ) (new : List ℕ) (moved n : ℕ) → take n (drop moved new) ≡ part_of (turn_of (call.Write fd new) moved) (moved + n)
part_more fd new moved n = let e : moved + n - moved ≡ n = omega arith in ap (λ k. take k (drop moved new)) (sym e)

fair_broken : (w : World) (bytes : List ℕ) (pipe : ℕ) (fd : ℤ) (new : List ℕ) (moved : ℕ) →
    FairWrite w bytes pipe fd new moved (Ends (broken moved) on_files.Nothing)
fair_broken w bytes pipe fd new moved =
    let t = turn_of (call.Write fd new) moved in
    if_at (λ r. FairWrite w bytes pipe fd new moved (Ends r on_files.Nothing)) (eqb moved 0) (Error EPIPE) (Number moved)
    (λ e. fair_still w bytes (eqb pipe) t (Ends (Error EPIPE) on_files.Nothing) refl (omega arith) refl)
    (λ e. fair_still w bytes (eqb pipe) t (Ends (Number moved) on_files.Nothing) refl (omega arith) refl)

pub fair_write : (bounds : Bounds) (w : World) (bytes : List ℕ) (pipe : ℕ) (s : DataSource) (fd : ℤ) (new : List ℕ) (moved : ℕ) →
    bytes_from w bytes s ≡ drop moved new → (length new ≤ PIPE_BUF → moved ≡ 0) →
    FairWrite w bytes pipe fd new moved (write_try bounds w pipe s (length new) moved)
fair_write bounds w bytes pipe s fd new moved from small =
    let t = turn_of (call.Write fd new) moved in
    let rest = length new - moved in
    let free = room_in bounds w pipe in
    let Has = FairWrite w bytes pipe fd new moved in
    let put : (n q : ℕ) → cond (eqb pipe q) (take n (bytes_from w bytes s)) [] ≡ cond (eqb pipe q) (part_of t (moved + n)) [] =
    λ n q. ap (λ l. cond (eqb pipe q) l []) (ap (λ l. take n l) from ∙ part_more fd new moved n) in
    if_at Has (not (has_reader w pipe)) _ _ (λ e. fair_broken w bytes pipe fd new moved)
    (λ e. if_at Has (leb rest free) _ _
    (λ e. record { put = put rest; got = λ q. none (eqb pipe q) [] refl; whole = λ s h. let z = small s in omega arith })
    (λ less. if_at Has (leb (length new) PIPE_BUF) _ _ (λ e. fair_still w bytes (eqb pipe) t (Waits moved on_files.Nothing) refl (omega arith) refl)
    (λ large. record { put = put free; got = λ q. none (eqb pipe q) [] refl; whole = λ s h. absurd (grind (arith, nat_tests)) })))

-- an edit of files that moves no bytes
abbrev pub IsStill : FileEdit → Type 0
IsStill (on_files.Put pipe source count) = ⊥
IsStill (on_files.Take pipe count) = ⊥
IsStill other = Unit {0}

record StillMoves (w : World) (bytes : List ℕ) (e : FileEdit) : Type 0 where
  puts : (q : ℕ) → edit_put w bytes q e ≡ []
  gets : (q : ℕ) → edit_got w q e ≡ []

still_moves : (w : World) (bytes : List ℕ) (e : FileEdit) → IsStill e → StillMoves w bytes e
still_moves w bytes (on_files.Put pipe source count) s = absurd s
still_moves w bytes (on_files.Take pipe count) s = absurd s
still_moves w bytes other s = record { puts = λ q. refl; gets = λ q. refl }

-- nothing is told, and nothing moves
pub tells_none : (w : World) (bytes : List ℕ) (on : ℕ → Bool) (t : Turn) (d : Decided) → took_in (total d.outcome) t ≡ 0 → data_in d.outcome ≡ [] →
    IsStill d.change.files → Tells w bytes on t d
tells_none w bytes on t d no_bytes no_data still = let moves = still_moves w bytes d.change.files still in record {
  put = λ q. moves.puts q ∙ none_took (on q) (took_in (total d.outcome) t) (drop t.moved (data_given t.call)) no_bytes;
  got = λ q. moves.gets q ∙ none (on q) (data_in d.outcome) no_data;
  whole = λ q e s h. absurd (omega arith);
}

-- the call is on no pipe, and nothing moves there
pub tells_elsewhere : (w : World) (bytes : List ℕ) (on : ℕ → Bool) (t : Turn) (d : Decided) → ((q : ℕ) → on q ≡ false) → IsStill d.change.files →
    Tells w bytes on t d
tells_elsewhere w bytes on t d off still = let moves = still_moves w bytes d.change.files still in record {
  put = λ q. moves.puts q ∙ sym (ap (λ b. cond b (part_of t (total d.outcome)) []) (off q));
  got = λ q. moves.gets q ∙ sym (ap (λ b. cond b (data_in d.outcome) []) (off q));
  whole = λ q e s h. let no = off q in cc;
}

pub tells_refused : (w : World) (bytes : List ℕ) (on : ℕ → Bool) (t : Turn) (error : Errno) → Tells w bytes on t (refused error)
tells_refused w bytes on t error = tells_none w bytes on t (refused error) (took_zero t) refl tt

-- the first try of a call
pub tells_first : (w : World) (bytes : List ℕ) (on : ℕ → Bool) (p : ℕ) (c : Call) (o : OpenDescriptor) (d : Try) → Fair w bytes on (turn_of c 0) d →
    Tells w bytes on (turn_of c 0) (first_try p c o d)
tells_first w bytes on p c o (Ends reply edit) h = record { put = h.put; got = h.got; whole = λ q e. h.whole }
tells_first w bytes on p c o (Waits moved edit) h =
    let Has = Tells w bytes on (turn_of c 0) in
    if_at Has o.description.nonblock _ _
    (λ e. if_at Has (eqb moved 0) _ _ (λ e. tells_refused w bytes on (turn_of c 0) EAGAIN) (λ e. record { put = h.put; got = h.got; whole = λ q e. h.whole }))
    (λ e. record { put = h.put; got = h.got; whole = λ q e. h.whole })

-- a further try of the call that a process waits in
pub tells_next : (w : World) (bytes : List ℕ) (on : ℕ → Bool) (p : ℕ) (parked : Parked) (d : Try) → parked_of (slot w.processes p) ≡ Some parked →
    Fair w bytes on (turn_of parked.call parked.moved) d →
    Tells w bytes on (turn_of parked.call parked.moved) (next_try p d)
tells_next w bytes on p parked (Ends reply edit) is h = record { put = h.put; got = h.got; whole = λ q e. h.whole }
tells_next w bytes on p parked (Waits moved edit) is h = record { put = h.put; got = h.got; whole = λ q e. h.whole }
