-- Descriptors that are opened, with what they open.
use Rattle.std.proofs.Common.{◌≡◌, ℕ, suc, ◌+◌, ◌<◌, ◌∙◌, true, cond, List, [], ◌∷◌, ◌++◌, Option, None, Some, length, length-set, set, refl, ap, sym, subst, arith}
use Rattle.std.specs.Prelude.{is_some, unwrap_or}
use Rattle.std.specs.Option.{option_map}
use Rattle.std.proofs.lemmas.List.{get_or-set_other}
use Rattle.call_types.specs.declared.limits.TheConstants.{DESCRIPTIONS_MAX}
use Rattle.slots.specs.Slots.{slot, live, edited}
use Rattle.posix_model.specs.Counts.{links, refers, refs, holders}
use Rattle.posix_model.specs.Sweep.{is_open}
use Rattle.posix_model.specs.Pipes.{pipe_at, pipe_of_fifo, pipe_between, fifo_at, with_pipe, opened_file}
use Rattle.process_table.specs.Processes.{with_entry, table_of}
use Rattle.posix_model.specs.Change.{with_description, end_of}
use Rattle.posix_model.specs.Proved.Whole.{is_fifo, TargetIsThere}
use Rattle.posix_model.specs.Kept.{IsThere}
use Rattle.posix_model.specs.Proved.Fits.{IsFree, CanOpen, CanOpenPair, CanOpenEnd}
use Rattle.machine_state.specs.Proved.Types.{World, Description, Target, Mode, File, Ring, FileBody, StoredPipe}
use Rattle.call_types.specs.declared.description.Target.TheVariants as target
use Rattle.call_types.specs.declared.description.Mode.TheVariants as mode
use Rattle.slots.specs.UsedSlots.{value_at, values_in}
use Rattle.slots.specs.Proved.Uses.{used_once, with_value}
use Rattle.machine_state.specs.Proved.Uses.{with_use}
use Rattle.file_table.specs.declared.stored_file.FileBody.TheVariants as body
use Rattle.machine_state.specs.Proved.Targets.{file_of_target}
use Rattle.pipe_table.specs.Proved.Pipes.{endless, with_end}
use Rattle.machine_state.specs.StoredPipes.{pipe_slot, pipe_slots}
use Rattle.machine_state.specs.Proved.Pipes.{open_ends, with_end_at}
use Rattle.file_table.specs.StoredFiles.{file_in}
use Rattle.file_table.specs.Proved.Files.{opened_stored, opened_body}
use Rattle.machine_state.specs.Held.{Stored, world_in}
use Rattle.machine_state.specs.Proved.Consistent.{IsConsistent}
use Rattle.slots.proofs.SlotLaws.{is_itself}
use Rattle.machine_state.proofs.SlotLaws.{one, slot_set, slot_added}
use Rattle.machine_state.proofs.UseLaws.{counted_more, values_more, counted_added, values_added, length_values, positive}
use Rattle.machine_state.proofs.FileLaws.{slot_files, regular_there, files_there, files_edited}
use Rattle.machine_state.proofs.PipeLaws.{Pipes, ring_with, pipes_there}
use Rattle.machine_state.proofs.EndLaws.{PipeFacts, Adds, adds, some_of, pipes_opened, pipes_first, pipes_held}
use Rattle.machine_state.proofs.CountLaws.{refs_entry, holders_added, live_added, live_edited}
use Rattle.machine_state.proofs.StoredLaws.{facts_of, consistent_of, knows_more, after_edit, tables_set}

pub some_fifo : (x : Option File) → is_fifo x ≡ true → is_some x ≡ true
some_fifo None h = cc
some_fifo (Some x) h = refl

-- a slot is added to those of the world
pub pipe_slots_added : (xs : Pipes) (pipe : StoredPipe) → pipe_slots (values_in (xs ++ Some (used_once pipe) ∷ [])) ≡ pipe_slots
    (values_in xs) ++ Some pipe.ring.bytes ∷ []
pipe_slots_added [] pipe = refl
pipe_slots_added (x ∷ xs) pipe = ap (λ ys. pipe_slot (value_at x) ∷ ys) (pipe_slots_added xs pipe)

module _ (s : Stored) (all : IsConsistent s) where
  abbrev ds : List (Option Description)
  ds = values_in s.descriptions

  -- what is opened is there
  pub target_there : (t : Target) → TargetIsThere (world_in s).files (world_in s).pipes t → (n : ℕ) → file_of_target t ≡ Some n →
      is_some (slot s.files n) ≡ true
  target_there (target.Regular f) there n is = let P : ℕ → Type 0 = λ k. is_some (slot s.files k) ≡ true in
      subst P (same_number f n is) (regular_there s.files f there)
    where
      same_number : (a b : ℕ) → Some a ≡ Some b → a ≡ b
      same_number a b e = cc
  target_there (target.Pipe p) there n is = cc
  target_there (target.Fifo f p) there n is = let P : ℕ → Type 0 = λ k. is_some (slot s.files k) ≡ true in
      subst P (same_number f n is) (sym (files_there s.files f) ∙ some_fifo (slot (world_in s).files f) there.0)
    where
      same_number : (a b : ℕ) → Some a ≡ Some b → a ≡ b
      same_number a b e = cc

  -- and so is the pipe of which it is an end
  pub pipe_there : (t : Target) → TargetIsThere (world_in s).files (world_in s).pipes t → (n : ℕ) → pipe_at t ≡ Some n → is_some (slot s.pipes n) ≡ true
  pipe_there (target.Regular f) there n is = cc
  pipe_there (target.Pipe p) there n is = let P : ℕ → Type 0 = λ k. is_some (slot s.pipes k) ≡ true in
      subst P (same_number p n is) (sym (pipes_there s.pipes p) ∙ there)
    where
      same_number : (a b : ℕ) → Some a ≡ Some b → a ≡ b
      same_number a b e = cc
  pipe_there (target.Fifo f p) there n is = let P : ℕ → Type 0 = λ k. is_some (slot s.pipes k) ≡ true in
      subst P (same_number p n is) (sym (pipes_there s.pipes p) ∙ there.1)
    where
      same_number : (a b : ℕ) → Some a ≡ Some b → a ≡ b
      same_number a b e = cc

  -- the pipe that a FIFO knows is there
  pub fifo_pipe_there : (f p : ℕ) → pipe_of_fifo (fifo_at (slot (world_in s).files f)) ≡ Some p → is_some (slot s.pipes p) ≡ true
  fifo_pipe_there f p knows =
      let facts = facts_of s all in
      positive (slot s.pipes p) (omega (
        arith,
        facts.fifos f p (ap (λ x. pipe_of_fifo (fifo_at x)) (sym (slot_files (values_in s.files) f)) ∙ knows),
        (facts.pipes.ends p).uses,
      ))

  -- a free descriptor refers to a new description, with these pipes and this ring to spare
  abbrev pub opened_with : Pipes → Option Ring → ℕ → ℕ → Description → Stored
  opened_with pipes spare p fd d = record s {
    files = with_use (file_of_target d.target) s.files;
    pipes = pipes;
    descriptions = s.descriptions ++ Some (used_once d) ∷ [];
    processes = edited p (with_entry fd (Some (length s.descriptions))) s.processes;
    spare = spare;
  }

  after_opened : (pipes : Pipes) (spare : Option Ring) (p fd : ℕ) (d : Description) → PipeFacts pipes (ds ++ Some d ∷ []) s.capacity →
      ((ring : Ring) → spare ≡ Some ring → (ring.bytes ≡ []) × (ring.capacity ≡ s.capacity)) → IsFree (world_in s) p fd →
      ((n : ℕ) → file_of_target d.target ≡ Some n → is_some (slot s.files n) ≡ true) → live ds < DESCRIPTIONS_MAX →
      IsConsistent (opened_with pipes spare p fd d)
  after_opened pipes spare p fd d counted right free there few =
      let facts = facts_of s all in
      let t = opened_with pipes spare p fd d in
      let within : fd < length (table_of (slot s.processes p)) = rw free.process_is free.within in
      let nothing : (n : ℕ) → one (refers n (slot (table_of (slot s.processes p)) fd)) ≡ 0 = λ n. rw (free.process_is, free.free) refl in
      let es = values_in t.descriptions in
      let values : es ≡ ds ++ Some d ∷ [] = values_added s.descriptions d in
      consistent_of t (record {
        references = counted_added s.descriptions (λ n. refs s.processes n) (λ n. refs t.processes n) d facts.references
            (λ n. omega (arith, refs_entry s.processes p fd (Some (length s.descriptions)) n within, nothing n));
        uses = counted_more s.files (λ f. links s.names f + holders ds f) (λ f. links s.names f + holders es f) (file_of_target d.target) facts.uses there
            (λ f. rw values (omega (arith, holders_added ds d f)));
        links = rw (values_more s.files (file_of_target d.target)) facts.links;
        pipes = rw values counted;
        fifos = rw (values, values_more s.files (file_of_target d.target)) (knows_more (values_in s.files) ds facts.fifos (ds ++ Some d ∷ [])
            (λ k. omega (arith, (adds ds d).ends k)));
        spare = right;
        tables = tables_set s all p fd (Some (length s.descriptions));
        few_processes = omega (arith, facts.few_processes, live_edited s.processes p (with_entry fd (Some (length s.descriptions))));
        few_descriptions = rw values (omega (arith, few, live_added ds d));
        few_names = facts.few_names;
      })

  -- an end of a pipe that is there, or a regular file
  abbrev pub opened : ℕ → ℕ → Description → Stored
  opened p fd d = opened_with (with_end_at (pipe_at d.target) d.mode s.pipes) s.spare p fd d

  pub after_open : (p fd : ℕ) (d : Description) → CanOpen (world_in s) p fd d → live ds < DESCRIPTIONS_MAX → IsConsistent (opened p fd d)
  after_open p fd d can few =
      let facts = facts_of s all in
      after_opened (with_end_at (pipe_at d.target) d.mode s.pipes) s.spare p fd d
      (pipes_opened s.pipes ds s.capacity facts.pipes (ds ++ Some d ∷ []) (pipe_at d.target) d.mode (adds ds d) (pipe_there d.target can.there))
      facts.spare can.free (target_there d.target can.there) few

  pub opened_world : (p fd : ℕ) (d : Description) → world_in (opened p fd d) ≡ with_description (world_in s) p fd d
  opened_world p fd d = rw (
    values_more s.files (file_of_target d.target),
    pipes_held s.pipes (pipe_at d.target) d.mode,
    values_added s.descriptions d,
    length_values s.descriptions,
  ) refl

  -- the first end of the next pipe
  abbrev pub first : Ring → ℕ → ℕ → Description → Stored
  first ring p fd d = opened_with (s.pipes ++ Some (used_once (with_end d.mode (endless ring))) ∷ []) None p fd d

  pub length_pipes : length (world_in s).pipes ≡ length s.pipes
  length_pipes = length_mapped s.pipes
    where
      length_mapped : (xs : Pipes) → length (pipe_slots (values_in xs)) ≡ length xs
      length_mapped [] = refl
      length_mapped (x ∷ xs) = ap suc (length_mapped xs)

  pub after_first : (ring : Ring) (p fd : ℕ) (d : Description) → s.spare ≡ Some ring → IsFree (world_in s) p fd →
      pipe_at d.target ≡ Some (length (world_in s).pipes) →
      ((n : ℕ) → file_of_target d.target ≡ Some n → IsThere (world_in s).files n) → live ds < DESCRIPTIONS_MAX → IsConsistent (first ring p fd d)
  after_first ring p fd d stands_by free on_next there few =
      let facts = facts_of s all in
      let on : pipe_at d.target ≡ Some (length s.pipes) = on_next ∙ ap Some length_pipes in
      let more : Adds ds (ds ++ Some d ∷ []) (Some (length s.pipes)) d.mode = let P : Option ℕ → Type 0 = λ e. Adds ds (ds ++ Some d ∷ []) e d.mode in
      subst P on (adds ds d) in
      after_opened (s.pipes ++ Some (used_once (with_end d.mode (endless ring))) ∷ []) None p fd d
      (pipes_first s.pipes ds s.capacity facts.pipes (ds ++ Some d ∷ []) d.mode ring more (facts.spare ring stands_by).1)
      (λ ring h. cc) free (λ n is. sym (files_there s.files n) ∙ there n is) few

  pub first_world : (ring : Ring) (p fd : ℕ) (d : Description) → s.spare ≡ Some ring → world_in (first ring p fd d) ≡ with_description
      (with_pipe (world_in s)) p fd d
  first_world ring p fd d stands_by =
      let pipe = with_end d.mode (endless ring) in
      let empty : pipe.ring.bytes ≡ [] = ap (λ (ring : Ring). ring.bytes) (ring_with d.mode (endless ring)) ∙ ((facts_of s all).spare ring stands_by).0 in
      rw (values_more s.files (file_of_target d.target), pipe_slots_added s.pipes pipe, empty, values_added s.descriptions d, length_values s.descriptions) refl

  -- an end of a FIFO was opened once more
  pub after_opening : (n : ℕ) (m : Mode) (pipe : ℕ) → is_open ds pipe ≡ true →
      IsConsistent (record s { files = edited n (with_value (opened_stored m pipe)) s.files })
  after_opening n m pipe opens = after_edit s all n (opened_stored m pipe) (λ x. refl) (λ x p is h. let P : ℕ → Type 0 = λ k. 0 < open_ends ds k in
      subst P (knows x.body m p h) (some_of ds pipe opens))
    where
      same_number : (a b : ℕ) → Some a ≡ Some b → a ≡ b
      same_number a b e = cc

      knows : (b : FileBody) (m : Mode) (p : ℕ) → pipe_of_fifo (fifo_at (Some (file_in (opened_body m pipe b)))) ≡ Some p → pipe ≡ p
      knows (body.Regular bytes) m p h = cc
      knows (body.Fifo fifo) mode.Read p h = same_number pipe p h
      knows (body.Fifo fifo) mode.Write p h = same_number pipe p h
      knows (body.Fifo fifo) mode.ReadWrite p h = same_number pipe p h

  pub opening_world : (n : ℕ) (m : Mode) (pipe : ℕ) → world_in (record s { files = edited n (with_value (opened_stored m pipe)) s.files }) ≡ record
      (world_in s) { files = edited n (opened_file m pipe) (world_in s).files }
  opening_world n m pipe = ap (λ files. record (world_in s) { files = files }) (files_edited s.files n (opened_stored m pipe) (opened_file m pipe)
      (λ x. same x.body))
    where
      same : (b : FileBody) → file_in (opened_body m pipe b) ≡ opened_file m pipe (file_in b)
      same (body.Regular bytes) = refl
      same (body.Fifo fifo) = refl

slot_edited : {T : Type 0} (xs : List (Option T)) (n : ℕ) (f : T → T) (x : T) → slot xs n ≡ Some x → slot (edited n f xs) n ≡ Some (f x)
slot_edited xs n f x is = ap (λ y. slot (set xs n (option_map f y)) n) is ∙
    (slot_set xs n x (Some (f x)) n is ∙ ap (λ b. cond b (Some (f x)) (slot xs n)) (is_itself n))

-- the writing end can be opened after the reading end
pub can_open_second : (w : World) (p reading writing : ℕ) (d : Description) → CanOpenPair w p reading writing →
    CanOpen (with_description (with_pipe w) p reading d) p writing (end_of (length w.pipes) mode.Write)
can_open_second w p reading writing d can =
    let second = can.second in
    let entry : Option ℕ = Some (length w.descriptions) in
    record {
      free = record {
        process = with_entry reading entry second.process;
        process_is = slot_edited w.processes p (with_entry reading entry) second.process second.process_is;
        within = omega (arith, second.within, length-set second.process.table reading entry);
        free = get_or-set_other second.process.table reading writing entry None (λ e. can.apart (sym e)) ∙ second.free;
      };
      there = ap is_some (slot_added w.pipes (Some []) (length w.pipes) ∙ ap (λ b. cond b (Some []) (slot w.pipes (length w.pipes)))
          (is_itself (length w.pipes)));
    }

-- an end can be opened on the pipe that a FIFO knows
pub can_open_end : (s : Stored) → IsConsistent s → (p fd f : ℕ) (d : Description) (pipe : ℕ) → CanOpenEnd (world_in s) p fd f d →
    pipe_of_fifo (fifo_at (slot (world_in s).files f)) ≡ Some pipe → CanOpen (world_in s) p fd d
can_open_end s all p fd f d pipe can knows =
    let w = world_in s in
    let between : pipe_between w (fifo_at (slot w.files f)) ≡ pipe = ap (λ x. unwrap_or x (length w.pipes)) knows in
    let P : Target → Type 0 = TargetIsThere w.files w.pipes in
    let stored : IsThere w.pipes pipe = pipes_there s.pipes pipe ∙ fifo_pipe_there s all f pipe knows in
    record { free = can.free; there = subst P (sym (can.target_is ∙ ap (target.Fifo f) between)) (can.there, stored) }
