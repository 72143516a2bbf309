use Rattle.std.proofs.Common.{◌≡◌, ℕ, ◌+◌, ◌-◌, ◌≤◌, ◌<◌, min, ◌∙◌, Bool, true, false, ◌&&◌, cond, List, [], ◌∷◌, ◌++◌, Option, None, Some, length, length-set, set, refl, ap, sym, subst, arith, inl, inr}
use Rattle.std.specs.Prelude.{is_some, ◌==◌}
use Rattle.std.proofs.lemmas.Bool.{lt-ltb}
use Rattle.call_types.specs.declared.limits.TheConstants.{OPEN_MAX, NAMES_MAX, DESCRIPTIONS_MAX, PROCESSES_MAX}
use Rattle.slots.specs.Slots.{slot, live, edited}
use Rattle.call_types.specs.Names.{file_of, with_name, without_name}
use Rattle.posix_model.specs.Counts.{links, refs, holders, readers, writers}
use Rattle.posix_model.specs.Sweep.{without_gone_pipe}
use Rattle.posix_model.specs.Pipes.{pipe_of_fifo, fifo_at}
use Rattle.process_table.specs.Processes.{with_entry}
use Rattle.posix_model.specs.Descriptors.{held_in}
use Rattle.posix_model.specs.Proved.Whole.{EachThere, StaysOpen}
use Rattle.posix_model.specs.Kept.{IsThere, IsSettled}
use Rattle.machine_state.specs.Proved.Types.{Process, Description, Ring, FileBody, StoredFile, StoredPipe}
use Rattle.slots.specs.UsedSlots.{value_at, values_in}
use Rattle.slots.specs.Proved.Uses.{uses_at, used_once, use_added, with_value}
use Rattle.file_table.specs.declared.stored_file.FileBody.TheVariants as body
use Rattle.pipe_table.specs.Blocks.{block_slots}
use Rattle.pipe_table.specs.Proved.Pipes.{held_at, readers_at, writers_at, block_at, places_left, edited_ring, with_block, HasPlacesAt}
use Rattle.machine_state.specs.Proved.Pipes.{is_end, open_ends}
use Rattle.file_table.specs.StoredFiles.{file_in}
use Rattle.file_extents.specs.ExtentsState.{ExtentsState}
use Rattle.file_table.specs.Proved.Files.{named, with_extents_in, with_extents, links_at}
use Rattle.machine_state.specs.Held.{Stored, world_in}
use Rattle.machine_state.specs.Proved.Consistent.{IsConsistent}
use Rattle.posix_model.proofs.NameLemmas.{still_none, one_fewer}
use Rattle.slots.proofs.SlotLaws.{same_or_not}
use Rattle.machine_state.proofs.SlotLaws.{one, slot_set, slot_added, set_none, each_edited}
use Rattle.machine_state.proofs.UseLaws.{Counted, slot_values, there_edited, there_values, counted_as, counted_more, values_more, counted_added, values_added, length_values, counted_edited, values_edited}
use Rattle.machine_state.proofs.FileLaws.{Files, slot_files, files_there, files_same, known, known_open, open_stays}
use Rattle.machine_state.proofs.PipeLaws.{pipes_there, pipes_edited, pipes_same, held_there, held_is, block_there, block_is}
use Rattle.machine_state.proofs.EndLaws.{PipeFacts, open_of, some_of, ends_within, KeepsEnds, pipes_moved, pipes_kept}
use Rattle.machine_state.proofs.LinkLaws.{Tallies, tallies_more, tallies_kept, tallies_added}
use Rattle.machine_state.proofs.CountLaws.{refs_most, holders_most, count_most, holders_same, links_added, count_live, names_longer, live_edited}

-- a FIFO that knows a pipe knows one of which an end is open
abbrev pub KnowsOpen : List (Option StoredFile) → List (Option Description) → Type 0
KnowsOpen files ds = (n p : ℕ) → known (slot files n) ≡ Some p → 0 < open_ends ds p

-- what holds of a machine, with each count told at its slot
pub record Facts (s : Stored) : Type 0 where
  pub references : Counted s.descriptions (λ n. refs s.processes n)
  pub uses : Counted s.files (λ f. links s.names f + holders (values_in s.descriptions) f)
  pub links : Tallies links_at (values_in s.files) (λ f. links s.names f)
  pub pipes : PipeFacts s.pipes (values_in s.descriptions) s.capacity
  pub fifos : KnowsOpen (values_in s.files) (values_in s.descriptions)
  pub spare : (ring : Ring) → s.spare ≡ Some ring → (ring.bytes ≡ []) × (ring.capacity ≡ s.capacity)
  pub tables : EachThere (λ process. length process.table ≡ OPEN_MAX) s.processes
  pub few_processes : live s.processes ≤ PROCESSES_MAX
  pub few_descriptions : live (values_in s.descriptions) ≤ DESCRIPTIONS_MAX
  pub few_names : length s.names ≤ NAMES_MAX

pub facts_of : (s : Stored) → IsConsistent s → Facts s
facts_of s all =
    let ds = values_in s.descriptions in
    let states = values_in s.files in
    record {
      references = λ n. record { uses = all.references n; some = λ there. all.settled.descriptions n (there_values s.descriptions n ∙ there) };
      uses = λ f. record { uses = all.uses f; some = λ there. all.settled.files f (files_there s.files f ∙ there) };
      links = all.links;
      pipes = record {
        ends = λ p. record {
          uses = all.ends p;
          some =
              λ there. some_of ds p (lt-ltb 0 (readers ds p + writers ds p) (all.settled.pipes p (pipes_there s.pipes p ∙ there)));
        };
        readers = all.readers;
        writers = all.writers;
        capacities = all.capacities;
      };
      fifos = λ n p knows. some_of ds p (known_open ds (slot states n) p (ap (without_gone_pipe ds) (sym (slot_files states n)) ∙
          (all.settled.fifos n ∙ slot_files states n)) knows);
      spare = all.spare;
      tables = all.tables;
      few_processes = all.few_processes;
      few_descriptions = all.few_descriptions;
      few_names = all.few_names;
    }

pub settled : (s : Stored) → Facts s → IsSettled (world_in s)
settled s facts =
    let ds = values_in s.descriptions in
    let states = values_in s.files in
    record {
      descriptions = λ n there. (facts.references n).some (sym (there_values s.descriptions n) ∙ there);
      pipes = λ p there. omega (arith, (facts.pipes.ends p).some (sym (pipes_there s.pipes p) ∙ there), (ends_within p ds).0);
      fifos = λ n. rw (slot_files states n) (open_stays ds (slot states n) (λ p knows. open_of ds p (facts.fifos n p knows)));
      files = λ n there. (facts.uses n).some (sym (files_there s.files n) ∙ there);
    }

pub consistent_of : (s : Stored) → Facts s → IsConsistent s
consistent_of s facts = record {
  references = λ n. (facts.references n).uses;
  uses = λ f. (facts.uses f).uses;
  links = facts.links;
  ends = λ p. (facts.pipes.ends p).uses;
  readers = facts.pipes.readers;
  writers = facts.pipes.writers;
  capacities = facts.pipes.capacities;
  spare = facts.spare;
  settled = settled s facts;
  tables = facts.tables;
  few_processes = facts.few_processes;
  few_descriptions = facts.few_descriptions;
  few_names = facts.few_names;
}

-- a FIFO knows its pipe still, where the files know no other, or where the open ends are no fewer
module _ (states : List (Option StoredFile)) (ds : List (Option Description)) (knows : KnowsOpen states ds) where
  pub knows_more : (es : List (Option Description)) → ((p : ℕ) → open_ends ds p ≤ open_ends es p) → KnowsOpen states es
  knows_more es more n p h = omega (arith, knows n p h, more p)

  pub knows_set : (k : ℕ) (x : StoredFile) (y : Option StoredFile) → slot states k ≡ Some x → ((p : ℕ) → known y ≡ Some p → 0 < open_ends ds p) →
      KnowsOpen (set states k y) ds
  knows_set k x y is new n p h =
      elim (same_or_not k n) [
        | inl same ↦ new p (sym (ap known (slot_set states k x y n is ∙ ap (λ b. cond b y (slot states n)) same.1)) ∙ h)
        | inr other ↦ knows n p (sym (ap known (slot_set states k x y n is ∙ ap (λ b. cond b y (slot states n)) other.1)) ∙ h)
      ]

  pub knows_edited : (k : ℕ) (f : StoredFile → StoredFile) → ((x : StoredFile) (p : ℕ) → slot states k ≡ Some x → known (Some (f x)) ≡ Some p →
      0 < open_ends ds p) → KnowsOpen (edited k f states) ds
  knows_edited k f new = by_slot (slot states k) refl
    where
      by_slot : (x : Option StoredFile) → slot states k ≡ x → KnowsOpen (edited k f states) ds
      by_slot None is = rw (is, set_none states k is) knows
      by_slot (Some x) is = rw is (knows_set k x (Some (f x)) is (λ p h. new x p is h))

  pub knows_added : (x : StoredFile) → known (Some x) ≡ None → KnowsOpen (states ++ Some x ∷ []) ds
  knows_added x unknown n p h =
      elim (same_or_not (length states) n) [
        | inl same ↦ let bad : None ≡ Some p = sym unknown ∙ (sym (ap known (slot_added states (Some x) n ∙ ap (λ b. cond b (Some x) (slot states n)) same.1)) ∙
            h) in cc
        | inr other ↦ knows n p (sym (ap known (slot_added states (Some x) n ∙ ap (λ b. cond b (Some x) (slot states n)) other.1)) ∙ h)
      ]

  pub knows_gone : (k : ℕ) → KnowsOpen (set states k None) ds
  knows_gone k = by_slot (slot states k) refl
    where
      by_slot : (x : Option StoredFile) → slot states k ≡ x → KnowsOpen (set states k None) ds
      by_slot None is = rw (set_none states k is) knows
      by_slot (Some x) is = knows_set k x None is (λ p h. cc)

-- a process has its descriptors
abbrev pub HasAll : Process → Type 0
HasAll process = length process.table ≡ OPEN_MAX

-- no count comes near the end of its numbers
pub few_references : (s : Stored) → IsConsistent s → (n : ℕ) → uses_at (slot s.descriptions n) ≤ 2048
few_references s all n =
    let most : live s.processes ≤ 64 = all.few_processes in
    omega (arith, most, all.references n, refs_most s.processes n all.tables)

pub few_holders : (s : Stored) → IsConsistent s → (f : ℕ) → uses_at (slot s.files f) ≤ 2048
few_holders s all f =
    let most : live (values_in s.descriptions) ≤ 1024 = all.few_descriptions in
    let names : length s.names ≤ 1024 = all.few_names in
    omega (arith, most, names, all.uses f, holders_most (values_in s.descriptions) f, count_most (λ entry. entry.1 == f) s.names)

pub few_links : (s : Stored) → IsConsistent s → (f : ℕ) → links_at (slot (values_in s.files) f) ≤ 1024
few_links s all f =
    let names : length s.names ≤ 1024 = all.few_names in
    omega (arith, names, all.links f, count_most (λ entry. entry.1 == f) s.names)

pub and_true : (b : Bool) → (b && true) ≡ b
and_true true = refl
and_true false = refl

-- nor does one of the ends of a pipe
pub record FewEnds (s : Stored) (p : ℕ) : Type 0 where
  pub uses : uses_at (slot s.pipes p) ≤ 1024
  pub readers : readers_at (slot (values_in s.pipes) p) ≤ 1024
  pub writers : writers_at (slot (values_in s.pipes) p) ≤ 1024

pub few_ends : (s : Stored) → IsConsistent s → (p : ℕ) → FewEnds s p
few_ends s all p =
    let ds = values_in s.descriptions in
    let most : live ds ≤ 1024 = all.few_descriptions in
    let within = ends_within p ds in
    let living = count_live (is_end p) refl ds in
    record {
      uses = omega (arith, most, living, all.ends p);
      readers = omega (arith, most, living, within.1, all.readers p);
      writers = omega (arith, most, living, within.2, all.writers p);
    }

module _ (s : Stored) (all : IsConsistent s) where
  abbrev ds : List (Option Description)
  ds = values_in s.descriptions

  -- a file is another, with as many names, and knows no pipe that is closed
  pub after_edit : (n : ℕ) (f : StoredFile → StoredFile) → ((x : StoredFile) → (f x).links ≡ x.links) →
      ((x : StoredFile) (p : ℕ) → slot (values_in s.files) n ≡ Some x → known (Some (f x)) ≡ Some p → 0 < open_ends ds p) →
      IsConsistent (record s { files = edited n (with_value f) s.files })
  after_edit n f same knows =
      let facts = facts_of s all in
      consistent_of (record s { files = edited n (with_value f) s.files }) (record {
        references = facts.references;
        uses = counted_edited s.files (λ g. links s.names g + holders ds g) n f facts.uses;
        links = rw (values_edited s.files n f) (tallies_kept links_at refl (values_in s.files) (λ g. links s.names g) n f same facts.links);
        pipes = facts.pipes;
        fifos = rw (values_edited s.files n f) (knows_edited (values_in s.files) ds facts.fifos n f knows);
        spare = facts.spare;
        tables = facts.tables;
        few_processes = facts.few_processes;
        few_descriptions = facts.few_descriptions;
        few_names = facts.few_names;
      })

  -- a file has other bytes
  pub after_lending : (n : ℕ) (now : ExtentsState) → IsConsistent (record s { files = edited n (with_value (with_extents now)) s.files })
  after_lending n now = after_edit n (with_extents now) (λ x. refl) (λ x p is h. (facts_of s all).fifos n p (ap known is ∙ (sym (alike x.body) ∙ h)))
    where
      alike : (b : FileBody) → pipe_of_fifo (fifo_at (Some (file_in (with_extents_in now b)))) ≡ pipe_of_fifo (fifo_at (Some (file_in b)))
      alike (body.Regular bytes) = refl
      alike (body.Fifo fifo) = refl

  -- a pipe is another, with the same ends
  after_ring : (n : ℕ) (f : StoredPipe → StoredPipe) → KeepsEnds f → IsConsistent (record s { pipes = edited n (with_value f) s.pipes })
  after_ring n f same =
      let facts = facts_of s all in
      consistent_of (record s { pipes = edited n (with_value f) s.pipes }) (record {
        references = facts.references;
        uses = facts.uses;
        links = facts.links;
        pipes = pipes_kept s.pipes ds s.capacity facts.pipes n f same;
        fifos = facts.fifos;
        spare = facts.spare;
        tables = facts.tables;
        few_processes = facts.few_processes;
        few_descriptions = facts.few_descriptions;
        few_names = facts.few_names;
      })

  -- a pipe has other bytes
  pub after_written : (n : ℕ) (edit : List ℕ → List ℕ) → IsConsistent (record s { pipes = edited n (with_value (edited_ring edit)) s.pipes })
  after_written n edit = after_ring n (edited_ring edit) (record { readers = λ x. refl; writers = λ x. refl; capacity = λ x. refl })

  -- a pipe has another block
  pub after_block : (n block : ℕ) → IsConsistent (record s { pipes = edited n (with_value (with_block block)) s.pipes })
  after_block n block = after_ring n (with_block block) (record { readers = λ x. refl; writers = λ x. refl; capacity = λ x. refl })

  pub block_world : (n block : ℕ) → world_in (record s { pipes = edited n (with_value (with_block block)) s.pipes }) ≡ world_in s
  block_world n block = ap (λ pipes. record (world_in s) { pipes = pipes }) (pipes_same s.pipes n (with_block block) (λ x. refl))

  pub written_world : (n : ℕ) (edit : List ℕ → List ℕ) → world_in (record s { pipes = edited n (with_value (edited_ring edit)) s.pipes }) ≡ record
      (world_in s) { pipes = edited n edit (world_in s).pipes }
  written_world n edit = ap (λ pipes. record (world_in s) { pipes = pipes }) (pipes_edited s.pipes n (edited_ring edit) edit (λ x. refl))

  -- a ring with places for bytes is a pipe with room for them
  pub put_room : (n count : ℕ) → HasPlacesAt s.pipes n count → min count (s.capacity - held_in (world_in s) n) ≤ block_at
      (block_slots (values_in s.pipes)) n - held_in (world_in s) n
  put_room n count has =
      let held : held_in (world_in s) n ≡ length has.0.value.ring.bytes = ap length (held_there s.pipes n has.0 has.1) in
      let right : has.0.value.ring.capacity ≡ s.capacity = all.capacities n has.0.value (slot_values s.pipes n ∙ ap value_at has.1) in
      omega (arith, held, right, block_there s.pipes n has.0 has.1, has.2)

  -- what is put has places in the ring
  pub fits_ring : (n count : ℕ) → count ≤ s.capacity - held_in (world_in s) n →
      min count (s.capacity - held_in (world_in s) n) ≤ block_at (block_slots (values_in s.pipes)) n - held_in (world_in s) n →
      count ≤ places_left (value_at (slot s.pipes n))
  fits_ring n count few room =
      let held : held_in (world_in s) n ≡ length (held_at (value_at (slot s.pipes n))) = ap length (held_is s.pipes n ∙ ap held_at (slot_values s.pipes n)) in
      omega (arith, few, room, held, block_is s.pipes n)

  -- a new file has a new name
  pub after_create : (name : List ℕ) (stored : StoredFile) → stored.links ≡ 1 → known (Some stored) ≡ None → file_of name s.names ≡ None →
      length s.names < NAMES_MAX →
      IsConsistent (record s { files = s.files ++ Some (used_once stored) ∷ []; names = with_name name (length s.files) s.names })
  after_create name stored single unknown new few =
      let facts = facts_of s all in
      let more : (g : ℕ) → links (with_name name (length s.files) s.names) g ≡ links s.names g + one (length (values_in s.files) == g && true) =
      λ g. rw (length_values s.files) (links_added name (length s.files) g s.names new ∙
      ap (λ b. links s.names g + one b) (sym (and_true (length s.files == g)))) in
      consistent_of (record s { files = s.files ++ Some (used_once stored) ∷ []; names = with_name name (length s.files) s.names }) (record {
        references = facts.references;
        uses = counted_added s.files (λ g. links s.names g + holders ds g) (λ g. links (with_name name (length s.files) s.names) g + holders ds g) stored
            facts.uses
            (λ g. omega (arith, links_added name (length s.files) g s.names new));
        links = rw (values_added s.files stored) (tallies_added links_at refl (values_in s.files) (λ g. links s.names g)
            (λ g. links (with_name name (length s.files) s.names) g) stored true facts.links single more);
        pipes = facts.pipes;
        fifos = rw (values_added s.files stored) (knows_added (values_in s.files) ds facts.fifos stored unknown);
        spare = facts.spare;
        tables = facts.tables;
        few_processes = facts.few_processes;
        few_descriptions = facts.few_descriptions;
        few_names = omega (arith, few, names_longer name (length s.files) s.names new);
      })

  -- a file that is there has one more name
  abbrev named_files : ℕ → Files
  named_files file = edited file (with_value named) s.files

  abbrev pub linked : List ℕ → ℕ → Stored
  linked name file = record s { files = use_added file (named_files file); names = with_name name file s.names }

  pub same_entry : (a b : ℕ) → Some a ≡ Some b → a ≡ b
  same_entry a b e = cc

  pub after_link : (name : List ℕ) (file : ℕ) → file_of name s.names ≡ None → IsThere (world_in s).files file → length s.names < NAMES_MAX →
      IsConsistent (linked name file)
  after_link name file new there few =
      let facts = facts_of s all in
      let stored : is_some (slot s.files file) ≡ true = sym (files_there s.files file) ∙ there in
      let xs = named_files file in
      let values : values_in (use_added file xs) ≡ edited file named (values_in s.files) = values_more xs (Some file) ∙ values_edited s.files file named in
      let more : (g : ℕ) → links (with_name name file s.names) g ≡ links s.names g + one (file == g) = λ g. links_added name file g s.names new in
      let once : (g : ℕ) → links (with_name name file s.names) g ≡ links s.names g + one (file == g && true) = λ g. more g ∙
      ap (λ b. links s.names g + one b) (sym (and_true (file == g))) in
      consistent_of (linked name file) (record {
        references = facts.references;
        uses = counted_more xs (λ g. links s.names g + holders ds g) (λ g. links (with_name name file s.names) g + holders ds g) (Some file)
            (counted_edited s.files (λ g. links s.names g + holders ds g) file named facts.uses)
            (λ n is. let P : ℕ → Type 0 = λ k. is_some (slot xs k) ≡ true in
            subst P (same_entry file n is) (there_edited s.files file (with_value named) file stored))
            (λ g. omega (arith, more g));
        links = rw values (tallies_more links_at refl (values_in s.files) (λ g. links s.names g) (λ g. links (with_name name file s.names) g) file named true
            facts.links (there_values s.files file ∙ stored) (λ x. refl) once);
        pipes = facts.pipes;
        fifos = rw values (knows_edited (values_in s.files) ds facts.fifos file named (λ x p is h. facts.fifos file p (ap known is ∙ h)));
        spare = facts.spare;
        tables = facts.tables;
        few_processes = facts.few_processes;
        few_descriptions = facts.few_descriptions;
        few_names = omega (arith, few, names_longer name file s.names new);
      })

  pub linked_world : (name : List ℕ) (file : ℕ) → world_in (linked name file) ≡ record (world_in s) { names = with_name name file s.names }
  linked_world name file = rw (values_more (named_files file) (Some file), files_same s.files file named (λ _. refl)) refl

  -- a file has a new name in place of an old one
  abbrev pub moved_name : List ℕ → List ℕ → ℕ → Stored
  moved_name old new file = record s { names = with_name new file (without_name old s.names) }

  pub same_links : (old new : List ℕ) (file : ℕ) → file_of new s.names ≡ None →
      ((g : ℕ) → links (without_name old s.names) g + one (file == g) ≡ links s.names g) →
      (g : ℕ) → links (with_name new file (without_name old s.names)) g ≡ links s.names g
  same_links old new file none fewer g = omega (arith, links_added new file g (without_name old s.names) (still_none old new s.names none), fewer g)

  pub after_move : (old new : List ℕ) (file : ℕ) → file_of old s.names ≡ Some file → file_of new s.names ≡ None →
      ((g : ℕ) → links (with_name new file (without_name old s.names)) g ≡ links s.names g) → IsConsistent (moved_name old new file)
  after_move old new file is none same =
      let facts = facts_of s all in
      consistent_of (moved_name old new file) (record {
        references = facts.references;
        uses = counted_as s.files (λ g. links s.names g + holders ds g) (λ g. links (with_name new file (without_name old s.names)) g + holders ds g) facts.uses
            (λ g. ap (λ k. k + holders ds g) (same g));
        links = λ n. facts.links n ∙ sym (same n);
        pipes = facts.pipes;
        fifos = facts.fifos;
        spare = facts.spare;
        tables = facts.tables;
        few_processes = facts.few_processes;
        few_descriptions = facts.few_descriptions;
        few_names = omega (
          arith,
          facts.few_names,
          names_longer new file (without_name old s.names) (still_none old new s.names none),
          one_fewer old s.names (ap is_some is),
        );
      })

  -- a description has another offset, or other flags
  pub after_description : (n : ℕ) (f : Description → Description) → StaysOpen f →
      IsConsistent (record s { descriptions = edited n (with_value f) s.descriptions })
  after_description n f stays =
      let facts = facts_of s all in
      let t = record s { descriptions = edited n (with_value f) s.descriptions } in
      let values : values_in t.descriptions ≡ edited n f ds = values_edited s.descriptions n f in
      consistent_of t (record {
        references = counted_edited s.descriptions (λ m. refs s.processes m) n f facts.references;
        uses = counted_as s.files (λ g. links s.names g + holders ds g) (λ g. links s.names g + holders (values_in t.descriptions) g) facts.uses
            (λ g. rw values (ap (λ k. links s.names g + k) (holders_same ds n f stays g)));
        links = facts.links;
        pipes = rw values (pipes_moved s.pipes ds s.capacity facts.pipes n f stays);
        fifos = rw values (knows_more (values_in s.files) ds facts.fifos (edited n f ds)
            (λ p. omega (arith, (facts.pipes.ends p).uses, ((pipes_moved s.pipes ds s.capacity facts.pipes n f stays).ends p).uses)));
        spare = facts.spare;
        tables = facts.tables;
        few_processes = facts.few_processes;
        few_descriptions = rw values (omega (arith, facts.few_descriptions, live_edited ds n f));
        few_names = facts.few_names;
      })

  -- its world
  pub description_world : (n : ℕ) (f : Description → Description) → world_in (record s { descriptions = edited n (with_value f) s.descriptions }) ≡ record
      (world_in s) { descriptions = edited n f (world_in s).descriptions }
  description_world n f = ap (λ es. record (world_in s) { descriptions = es }) (values_edited s.descriptions n f)

  -- a process has another entry
  pub tables_set : (p fd : ℕ) (entry : Option ℕ) → EachThere HasAll (edited p (with_entry fd entry) s.processes)
  tables_set p fd entry = each_edited HasAll s.processes p (with_entry fd entry) all.tables (λ x h. length-set x.table fd entry ∙ h)
