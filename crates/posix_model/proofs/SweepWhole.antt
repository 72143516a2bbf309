-- A sweep uses no number again, and takes nothing that is referred to.
use Rattle.std.proofs.Common.{◌≡◌, ℕ, ◌+◌, ◌<◌, ◌∙◌, Bool, true, false, ◌&&◌, cond, List, Option, None, Some, length, get_or, map, refl, ap, sym, subst, arith, ltb, eqb}
use Rattle.std.specs.Option.{is_some}
use Rattle.std.specs.List.{count_by}
use Rattle.std.proofs.lemmas.List.Sums.{get_or-le-sum_by}
use Rattle.std.proofs.lemmas.Bool.Decides.{nat_tests}
use Rattle.slots.specs.Slots.{slot, kept}
use Rattle.call_types.specs.Names.{Entries}
use Rattle.posix_model.specs.Counts.{links, refs, refs_of, refers, holders, holds, readers, reads, writers, writes, is_file, is_pipe}
use Rattle.posix_model.specs.Sweep.{is_referred, is_open, is_wanted, open_pipe, without_gone_pipe, sweep}
use Rattle.posix_model.specs.Proved.Whole.{is_fifo, is_regular_file, TargetIsThere, PipeIsThere, IsOnItsPipe, IsWhole}
use Rattle.posix_model.specs.Proved.Numbers.{StaysSame, Rises, NumbersRise}
use Rattle.posix_model.specs.Types.{World, Process, Description, Target, Mode, File, Fifo}
use Rattle.posix_model.specs.declared.world.File.TheVariants as file
use Rattle.call_types.specs.declared.description.Mode.TheVariants as mode
use Rattle.call_types.specs.declared.description.Target.TheVariants as target
use Rattle.posix_model.proofs.SlotLaws.{kept_as_is, stays_thinned, there_below, stands_there, not_there, kept_stood, length_kept, counted}
use Rattle.posix_model.proofs.ChangeLaws.{Goes, HasPipe, its_from, apart_from, pipe_in}
use Rattle.posix_model.proofs.SweepLaws.{length_mapped, slot_mapped, sweep_leaves_there}

rises_thinned : {T : Type 0} (xs ys : List (Option T)) (keeps : ℕ → Bool) → length ys ≡ length xs →
    ((n : ℕ) → is_some (slot ys n) ≡ (is_some (slot xs n) && keeps n)) → Rises xs ys
rises_thinned xs ys keeps long is = record {
  longer = omega arith;
  gone = λ n below h. not_there (slot ys n) (let none : is_some (slot xs n) ≡ false = ap is_some h in is n ∙ ap (λ b. b && keeps n) none);
}

-- a file without its gone pipe is of its kind
kind_stays : (p : Option File → Bool) (ds : List (Option Description)) → ((old new : Fifo) → p (Some (file.Fifo old)) ≡ p (Some (file.Fifo new))) →
    (x : Option File) → p (without_gone_pipe ds x) ≡ p x
kind_stays p ds same None = refl
kind_stays p ds same (Some (file.Regular bytes)) = refl
kind_stays p ds same (Some (file.Fifo fifo)) = same (record fifo { pipe = open_pipe ds fifo.pipe }) fifo

-- what stands among the swept files stood there, but for its pipe
file_stood : (w : World) (n : ℕ) (y : File) → slot (sweep w).files n ≡ Some y → without_gone_pipe (sweep w).descriptions (slot w.files n) ≡ Some y
file_stood w n y h =
    let ds = (sweep w).descriptions in
    sym (slot_mapped (without_gone_pipe ds) refl w.files n) ∙ kept_stood (is_wanted w.names ds) 0 (map (without_gone_pipe ds) w.files) n y h

kinds_stay : (w : World) → StaysSame (λ f. is_fifo (Some f)) w.files (sweep w).files
kinds_stay w n x y h k =
    let ds = (sweep w).descriptions in
    let now : is_fifo (without_gone_pipe ds (slot w.files n)) ≡ is_fifo (Some y) = ap is_fifo (file_stood w n y k) in
    let was : is_fifo (slot w.files n) ≡ is_fifo (Some x) = ap is_fifo h in
    sym now ∙ (kind_stays is_fifo ds (λ _ _. refl) (slot w.files n) ∙ was)

sweep_rises : (w : World) → NumbersRise w (sweep w)
sweep_rises w =
    let ds = kept (is_referred w.processes) w.descriptions in
    let left = sweep_leaves_there w in
    record {
      files = rises_thinned w.files (sweep w).files (is_wanted w.names ds)
          (length_kept (is_wanted w.names ds) 0 (map (without_gone_pipe ds) w.files) ∙ length_mapped (without_gone_pipe ds) w.files) left.files;
      pipes = rises_thinned w.pipes (sweep w).pipes (is_open ds) (length_kept (is_open ds) 0 w.pipes) left.pipes;
      descriptions = rises_thinned w.descriptions ds (is_referred w.processes) (length_kept (is_referred w.processes) 0 w.descriptions) left.descriptions;
      processes = record { longer = omega arith; gone = λ n below h. h };
      kinds = kinds_stay w;
      targets = stays_thinned (λ d. d.target) w.descriptions ds (kept_stood (is_referred w.processes) 0 w.descriptions);
      modes = stays_thinned (λ d. d.mode) w.descriptions ds (kept_stood (is_referred w.processes) 0 w.descriptions);
    }

-- what is above zero is so by test
above : (n : ℕ) → 0 < n → ltb 0 n ≡ true
above n h = grind (arith, nat_tests)

either_above : (a b : ℕ) → 0 < a → ltb 0 (a + b) ≡ true
either_above a b h = above (a + b) (omega arith)

or_above : (a b : ℕ) → 0 < b → ltb 0 (a + b) ≡ true
or_above a b h = above (a + b) (omega arith)

same_number : (n : ℕ) → eqb n n ≡ true
same_number n = grind (arith, nat_tests)

-- a description that stands and passes is counted
description_counted : (p : Option Description → Bool) (ds : List (Option Description)) (n : ℕ) (d : Description) → slot ds n ≡ Some d → p (Some d) ≡ true →
    0 < count_by p ds
description_counted p ds n d h pass = counted p ds n None (there_below ds n (stands_there ds n d h)) (ap p h ∙ pass)

-- an end of a pipe reads or writes
end_counted : (ds : List (Option Description)) (n : ℕ) (d : Description) (pipe : ℕ) → slot ds n ≡ Some d → is_pipe pipe d.target ≡ true → is_open ds pipe ≡ true
end_counted ds n d pipe h is = by d.mode refl
  where
    by : (m : Mode) → d.mode ≡ m → is_open ds pipe ≡ true
    by mode.Read e =
        let pass : reads pipe (Some d) ≡ true = rw (is, e) refl in
        either_above (readers ds pipe) (writers ds pipe) (description_counted (reads pipe) ds n d h pass)
    by mode.Write e =
        let pass : writes pipe (Some d) ≡ true = rw (is, e) refl in
        or_above (readers ds pipe) (writers ds pipe) (description_counted (writes pipe) ds n d h pass)
    by mode.ReadWrite e =
        let pass : reads pipe (Some d) ≡ true = rw (is, e) refl in
        either_above (readers ds pipe) (writers ds pipe) (description_counted (reads pipe) ds n d h pass)

held_wanted : (names : Entries) (ds : List (Option Description)) (n : ℕ) (d : Description) (f : ℕ) → slot ds n ≡ Some d → is_file f d.target ≡ true →
    is_wanted names ds f ≡ true
held_wanted names ds n d f h is = or_above (links names f) (holders ds f) (description_counted (holds f) ds n d h is)

-- what is there and kept is there
stays : (a b c : Bool) → a ≡ (b && c) → b ≡ true → c ≡ true → a ≡ true
stays a b c e f g = cc (e, ap (λ x. x && c) f)

-- a file that is wanted is of its kind after the sweep
wanted_kind : (w : World) (p : Option File → Bool) (f : ℕ) → ((old new : Fifo) → p (Some (file.Fifo old)) ≡ p (Some (file.Fifo new))) →
    is_wanted w.names (sweep w).descriptions f ≡ true → p (slot (sweep w).files f) ≡ p (slot w.files f)
wanted_kind w p f same wanted =
    let ds = (sweep w).descriptions in
    let first : 0 + f ≡ f = omega arith in
    ap p (kept_as_is (is_wanted w.names ds) 0 (map (without_gone_pipe ds) w.files) f (ap (is_wanted w.names ds) first ∙ wanted)) ∙
    (ap p (slot_mapped (without_gone_pipe ds) refl w.files f) ∙ kind_stays p ds same (slot w.files f))

target_kept : (w : World) (n : ℕ) (d : Description) (t : Target) → slot (sweep w).descriptions n ≡ Some d → d.target ≡ t → TargetIsThere w.files w.pipes t →
    TargetIsThere (sweep w).files (sweep w).pipes t
target_kept w n d (target.Regular f) h e there =
    let ds = (sweep w).descriptions in
    let is : is_file f d.target ≡ true = ap (is_file f) e ∙ same_number f in
    wanted_kind w is_regular_file f (λ _ _. refl) (held_wanted w.names ds n d f h is) ∙ there
target_kept w n d (target.Pipe pipe) h e there =
    let ds = (sweep w).descriptions in
    let is : is_pipe pipe d.target ≡ true = ap (is_pipe pipe) e ∙ same_number pipe in
    stays (is_some (slot (sweep w).pipes pipe)) (is_some (slot w.pipes pipe)) (is_open ds pipe) ((sweep_leaves_there w).pipes pipe) there
    (end_counted ds n d pipe h is)
target_kept w n d (target.Fifo f pipe) h e there =
    let ds = (sweep w).descriptions in
    let file_is : is_file f d.target ≡ true = ap (is_file f) e ∙ same_number f in
    let pipe_is : is_pipe pipe d.target ≡ true = ap (is_pipe pipe) e ∙ same_number pipe in (
      wanted_kind w is_fifo f (λ _ _. refl) (held_wanted w.names ds n d f h file_is) ∙ there.0,
      stays (is_some (slot (sweep w).pipes pipe)) (is_some (slot w.pipes pipe)) (is_open ds pipe) ((sweep_leaves_there w).pipes pipe) there.1
          (end_counted ds n d pipe h pipe_is),
    )

-- a swept FIFO keeps a pipe of which an end is open
fifo_keeps : (ds : List (Option Description)) (x : Option File) (p : ℕ) → is_open ds p ≡ true → pipe_in x ≡ Some p → pipe_in (without_gone_pipe ds x) ≡ Some p
fifo_keeps ds None p open_is h = h
fifo_keeps ds (Some (file.Regular bytes)) p open_is h = h
fifo_keeps ds (Some (file.Fifo fifo)) p open_is h = ap (open_pipe ds) h ∙ ap (λ b. cond b (Some p) None) open_is

-- so each end that is left is on its pipe
on_kept : (w : World) (n : ℕ) (d : Description) (t : Target) → slot (sweep w).descriptions n ≡ Some d → d.target ≡ t → IsOnItsPipe w.files t →
    IsOnItsPipe (sweep w).files t
on_kept w n d (target.Regular f) h e on = tt
on_kept w n d (target.Pipe pipe) h e on = tt
on_kept w n d (target.Fifo f pipe) h e on =
    let ds = (sweep w).descriptions in
    let first : 0 + f ≡ f = omega arith in
    let wanted = held_wanted w.names ds n d f h (ap (is_file f) e ∙ same_number f) in
    ap pipe_in (kept_as_is (is_wanted w.names ds) 0 (map (without_gone_pipe ds) w.files) f (ap (is_wanted w.names ds) first ∙ wanted)) ∙
    (ap pipe_in (slot_mapped (without_gone_pipe ds) refl w.files f) ∙
    fifo_keeps ds (slot w.files f) pipe (end_counted ds n d pipe h (ap (is_pipe pipe) e ∙ same_number pipe)) on)

-- the pipe that a swept FIFO has is open
open_stays : (ds : List (Option Description)) (old : Option ℕ) (pipe : ℕ) → open_pipe ds old ≡ Some pipe → (is_open ds pipe ≡ true) × (old ≡ Some pipe)
open_stays ds None pipe h = cc
open_stays ds (Some p) pipe h = at (is_open ds p) refl h
  where
    at : (b : Bool) → is_open ds p ≡ b → cond b (Some p) None ≡ Some pipe → (is_open ds pipe ≡ true) × (Some p ≡ Some pipe)
    at true e k = let same : p ≡ pipe = cc in (ap (is_open ds) (sym same) ∙ e, k)
    at false e k = cc

fifo_kept : (w : World) (old : Option File) (x : File) → without_gone_pipe (sweep w).descriptions old ≡ Some x →
    ((z : File) → old ≡ Some z → PipeIsThere w.pipes z) → PipeIsThere (sweep w).pipes x
fifo_kept w None x h all = cc
fifo_kept w (Some (file.Regular bytes)) x h all = let same : file.Regular bytes ≡ x = cc in subst (PipeIsThere (sweep w).pipes) same tt
fifo_kept w (Some (file.Fifo fifo)) x h all =
    let ds = (sweep w).descriptions in
    let same : file.Fifo (record fifo { pipe = open_pipe ds fifo.pipe }) ≡ x = cc in
    subst (PipeIsThere (sweep w).pipes) same (λ pipe k.
    let was = open_stays ds fifo.pipe pipe k in
    stays (is_some (slot (sweep w).pipes pipe)) (is_some (slot w.pipes pipe)) (is_open ds pipe) ((sweep_leaves_there w).pipes pipe)
    (all (file.Fifo fifo) refl pipe was.1) was.0)

-- a descriptor is counted among all of them
pub descriptor_counted : (ps : List (Option Process)) (p : ℕ) (process : Process) (fd n : ℕ) → slot ps p ≡ Some process → slot process.table fd ≡ Some n →
    is_referred ps n ≡ true
descriptor_counted ps p process fd n h k =
    let mine : 0 < count_by (refers n) process.table = counted (refers n) process.table fd None
    (there_below process.table fd (stands_there process.table fd n k)) (ap (refers n) k ∙ same_number n) in
    let least = rw h at (get_or-le-sum_by (refs_of n) ps p None (there_below ps p (stands_there ps p process h))) in
    above (refs ps n) (omega arith)

-- a swept FIFO had its pipe before
pipe_stood : (w : World) (old : Option File) (x : Fifo) (p : ℕ) → without_gone_pipe (sweep w).descriptions old ≡ Some (file.Fifo x) → x.pipe ≡ Some p →
    (y : Fifo) × (old ≡ Some (file.Fifo y)) × (y.pipe ≡ Some p)
pipe_stood w None x p h k = cc
pipe_stood w (Some (file.Regular bytes)) x p h k = cc
pipe_stood w (Some (file.Fifo y)) x p h k =
    let ds = (sweep w).descriptions in
    let same : record y { pipe = open_pipe ds y.pipe } ≡ x = cc in
    (y, refl, (open_stays ds y.pipe p (ap (λ (z : Fifo). z.pipe) same ∙ k)).1)

had_pipe : (w : World) (g p : ℕ) → HasPipe (sweep w).files g p → HasPipe w.files g p
had_pipe w g p h =
    let was = pipe_stood w (slot w.files g) h.fifo p (file_stood w g (file.Fifo h.fifo) h.stands) h.its_pipe in
    record { fifo = was.0; stands = was.1; its_pipe = was.2 }

sweep_whole : (w : World) → IsWhole w → IsWhole (sweep w)
sweep_whole w whole =
    let ds = (sweep w).descriptions in
    record {
      names = λ k d below.
          let f = (get_or w.names k d).1 in
          let linked : 0 < links w.names f = counted (λ entry. eqb entry.1 f) w.names k d below (same_number f) in
          stays (is_some (slot (sweep w).files f)) (is_some (slot w.files f)) (is_wanted w.names ds f) ((sweep_leaves_there w).files f) (whole.names k d below)
          (either_above (links w.names f) (holders ds f) linked);
      descriptions = λ n d h. target_kept w n d d.target h refl (whole.descriptions n d (kept_stood (is_referred w.processes) 0 w.descriptions n d h));
      fifos = λ n x h.
          fifo_kept w (slot w.files n) x (file_stood w n x h) (whole.fifos n);
      processes = λ p process h fd n k.
          stays (is_some (slot ds n)) (is_some (slot w.descriptions n)) (is_referred w.processes n) ((sweep_leaves_there w).descriptions n)
          (whole.processes p process h fd n k) (descriptor_counted w.processes p process fd n h k);
      ends = λ n d h. its_from w.files (sweep w).files d.target (had_pipe w) (whole.ends n d (kept_stood (is_referred w.processes) 0 w.descriptions n d h));
      apart = apart_from w.files (sweep w).files (had_pipe w) whole.apart;
      pipes = λ n d h. on_kept w n d d.target h refl (whole.pipes n d (kept_stood (is_referred w.processes) 0 w.descriptions n d h));
      waits = whole.waits;
      tables = whole.tables;
    }

-- a sweep from a world in which nothing refers to what is gone
pub sweep_goes : (w : World) → IsWhole w → Goes w (sweep w)
sweep_goes w whole = record { rises = sweep_rises w; whole = sweep_whole w whole }
