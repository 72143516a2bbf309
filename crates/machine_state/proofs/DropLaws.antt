-- Names and descriptors that go, with what goes with them.
use Rattle.std.proofs.Common.{◌≡◌, ◌≢◌, ℕ, ◌+◌, ◌<◌, ◌∙◌, Bool, true, false, cond, List, Option, None, Some, set, refl, ap, sym, subst, arith, ltb, ◌⊎◌, inl, inr}
use Rattle.std.specs.Prelude.{is_some, ◌==◌}
use Rattle.std.specs.Option.{option_map}
use Rattle.std.proofs.lemmas.Bool.{lt-ltb}
use Rattle.slots.specs.Slots.{slot, edited}
use Rattle.call_types.specs.Names.{without_name}
use Rattle.posix_model.specs.Counts.{links, refers, refs, holders, is_file, holds}
use Rattle.posix_model.specs.Sweep.{sweep, is_open, is_wanted, open_pipe, is_referred, without_gone_pipe}
use Rattle.posix_model.specs.Pipes.{pipe_at, pipe_of_fifo, fifo_at}
use Rattle.posix_model.specs.declared.world.Fifo.{Fifo}
use Rattle.process_table.specs.Processes.{with_entry, table_of}
use Rattle.posix_model.specs.Descriptors.{with_descriptor}
use Rattle.posix_model.specs.Proved.Fits.{CanSet}
use Rattle.posix_model.specs.Proved.Released.{StaysBut, SettledStays, SweepReleases, NamesRelease, released, files_after, fifos_after, pipes_after}
use Rattle.posix_model.specs.Kept.{IsSettled}
use Rattle.posix_model.specs.Proved.Laws.{Swept, SweepLeaves}
use Rattle.machine_state.specs.Proved.Types.{World, Process, Description, Target, Mode, File, Used, FileBody, StoredFile, StoredPipe}
use Rattle.posix_model.specs.declared.world.File.TheVariants as file
use Rattle.call_types.specs.declared.description.Target.TheVariants as target
use Rattle.slots.specs.UsedSlots.{value_at, values_in}
use Rattle.slots.specs.Proved.Uses.{use_dropped, with_value}
use Rattle.description_table.specs.Proved.Drops.{dropped}
use Rattle.description_table.specs.declared.Dropped.TheVariants.{Gone}
use Rattle.std.proofs.lemmas.List.{set-get_or}
use Rattle.machine_state.specs.Proved.Uses.{with_use, without_use, lost}
use Rattle.file_table.specs.declared.stored_file.FileBody.TheVariants as body
use Rattle.machine_state.specs.Proved.Targets.{file_of_target, pipes_left, pipe_gone, files_left, forgot, CanLeave, EndsAreTheirs}
use Rattle.machine_state.specs.StoredPipes.{pipe_slots}
use Rattle.machine_state.specs.Proved.Pipes.{open_ends}
use Rattle.file_table.specs.StoredFiles.{file_in, file_slot, file_slots}
use Rattle.file_table.specs.Proved.Files.{unnamed, forgetful, forgetful_body, other_pipe, links_at}
use Rattle.machine_state.specs.Held.{Stored, world_in}
use Rattle.machine_state.specs.Proved.Consistent.{IsConsistent}
use Rattle.slots.proofs.SlotLaws.{same_or_not, other_number, is_itself}
use Rattle.machine_state.proofs.SlotLaws.{one}
use Rattle.machine_state.proofs.UseLaws.{Counted, slot_values, there_values, counted_more, values_more, counted_edited, values_edited, positive, StaysUsed, Goes, LosesUse, loses_use}
use Rattle.machine_state.proofs.FileLaws.{Files, slot_files, file_slots_set, files_same, files_edited, known, open_stays}
use Rattle.machine_state.proofs.EndLaws.{Takes, takes, open_of, some_of, closed_of, pipes_closed, pipes_released, has_end, loses_end}
use Rattle.machine_state.proofs.LinkLaws.{Tallies, tallies_fewer, tallies_kept, tallies_less}
use Rattle.machine_state.proofs.CountLaws.{refs_entry, holders_gone, refers_target, count_there, names_shorter, live_set, live_edited}
use Rattle.machine_state.proofs.StoredLaws.{Facts, KnowsOpen, facts_of, settled, consistent_of, knows_gone, knows_edited, same_entry, tables_set, and_true}

-- a file that goes knows no pipe
knows_less : (xs : Files) (uses : ℕ → ℕ) (entry : Option ℕ) → StaysUsed xs uses entry ⊎ Goes xs uses entry → (ds : List (Option Description)) →
    KnowsOpen (values_in xs) ds → KnowsOpen (values_in (without_use entry xs)) ds
knows_less xs uses entry (inl stays) ds knows = rw stays.values knows
knows_less xs uses entry (inr goes) ds knows = rw goes.values (knows_gone (values_in xs) ds knows goes.number)

-- what a FIFO knows after a sweep is open
swept_knows : (w v : World) → Swept w v → (f p : ℕ) → pipe_of_fifo (fifo_at (slot v.files f)) ≡ Some p → is_open v.descriptions p ≡ true
swept_knows w v left f p knows = by_slot (is_wanted w.names v.descriptions f) (slot w.files f) (ap (λ x. pipe_of_fifo (fifo_at x)) (sym (left.files f)) ∙ knows)
  where
    by_pipe : (pipe : Option ℕ) → open_pipe v.descriptions pipe ≡ Some p → is_open v.descriptions p ≡ true
    by_pipe None h = cc
    by_pipe (Some q) h = elim (is_open v.descriptions q) as (λ b. is_open v.descriptions q ≡ b → cond b (Some q) None ≡ Some p →
        is_open v.descriptions p ≡ true) [
          | true ↦ λ opens same. let here : q ≡ p = cc in ap (is_open v.descriptions) (sym here) ∙ opens
          | false ↦ λ _ bad. cc
        ] refl h

    by_slot : (b : Bool) (x : Option File) → pipe_of_fifo (fifo_at (cond b (without_gone_pipe v.descriptions x) None)) ≡ Some p →
        is_open v.descriptions p ≡ true
    by_slot false x h = cc
    by_slot true None h = cc
    by_slot true (Some (file.Regular bytes)) h = cc
    by_slot true (Some (file.Fifo fifo)) h = by_pipe fifo.pipe h

-- an end is still one of its FIFO after a sweep
pub swept_theirs : (w v : World) → Swept w v → EndsAreTheirs w → EndsAreTheirs v
swept_theirs w v left theirs n d is g x p stands has on =
    let knows = before (is_wanted w.names v.descriptions g) (slot w.files g) (sym (left.files g) ∙ stands) in
    theirs n d (kept_slot (is_referred w.processes n) (sym (left.descriptions n) ∙ is)) g knows.0 p knows.1 knows.2 on
  where
    kept_slot : (b : Bool) → cond b (slot w.descriptions n) None ≡ Some d → slot w.descriptions n ≡ Some d
    kept_slot true h = h
    kept_slot false h = cc

    by_pipe : (pipe : Option ℕ) → open_pipe v.descriptions pipe ≡ Some p → pipe ≡ Some p
    by_pipe None h = cc
    by_pipe (Some q) h = elim (is_open v.descriptions q) as (λ b. cond b (Some q) None ≡ Some p → Some q ≡ Some p) [ true ↦ λ same. same | false ↦ λ bad. cc ] h

    before : (b : Bool) (y : Option File) → cond b (without_gone_pipe v.descriptions y) None ≡ Some (file.Fifo x) →
        (z : Fifo) × (y ≡ Some (file.Fifo z)) × (z.pipe ≡ Some p)
    before false y h = cc
    before true None h = cc
    before true (Some (file.Regular bytes)) h = cc
    before true (Some (file.Fifo fifo)) h =
        let same : pipe_of_fifo (fifo_at (Some (file.Fifo (record fifo { pipe = open_pipe v.descriptions fifo.pipe })))) ≡ x.pipe =
        ap (λ y. pipe_of_fifo (fifo_at y)) h in
        (fifo, refl, by_pipe fifo.pipe (same ∙ has))

-- what a FIFO forgets
abbrev forget_file : ℕ → File → File
forget_file p (file.Regular bytes) = file.Regular bytes
forget_file p (file.Fifo fifo) = file.Fifo (record fifo { pipe = other_pipe p fifo.pipe })

forget_is : (es : List (Option Description)) (p : ℕ) (x : Option StoredFile) → ((q : ℕ) → known x ≡ Some q → q ≢ p → is_open es q ≡ true) →
    is_open es p ≡ false →
    option_map (forget_file p) (file_slot x) ≡ without_gone_pipe es (file_slot x)
forget_is es p None opens closed = refl
forget_is es p (Some stored) opens closed = by_body stored.body opens
  where
    by_pipe : (pipe : Option ℕ) → ((q : ℕ) → pipe ≡ Some q → q ≢ p → is_open es q ≡ true) → other_pipe p pipe ≡ open_pipe es pipe
    by_pipe None opens = refl
    by_pipe (Some q) opens = elim (same_or_not q p) [
      | inl same ↦ let shut : is_open es q ≡ false = ap (is_open es) same.0 ∙ closed in rw (same.1, shut) refl
      | inr other ↦ let still : is_open es q ≡ true = opens q refl other.0 in rw (other.1, still) refl
    ]

    by_body : (b : FileBody) → ((q : ℕ) → pipe_of_fifo (fifo_at (Some (file_in b))) ≡ Some q → q ≢ p → is_open es q ≡ true) →
        option_map (forget_file p) (Some (file_in b)) ≡ without_gone_pipe es (Some (file_in b))
    by_body (body.Regular bytes) opens = refl
    by_body (body.Fifo fifo) opens = ap (λ pipe. Some (file.Fifo (record fifo { pipe = pipe }))) (by_pipe fifo.pipe opens)

module _ (s : Stored) (all : IsConsistent s) where
  abbrev ds : List (Option Description)
  ds = values_in s.descriptions

  -- a file that loses a use
  released_as : (xs : Files) (new : ℕ → ℕ) (f : ℕ) → StaysUsed xs new (Some f) ⊎ Goes xs new (Some f) →
      cond (ltb 0 (new f)) (file_slots (values_in xs)) (set (file_slots (values_in xs)) f None) ≡ file_slots (values_in (without_use (Some f) xs))
  released_as xs new f (inl stays) =
      let still : ltb 0 (new f) ≡ true = lt-ltb 0 (new f) (stays.used f refl) in
      rw (still, stays.values) refl
  released_as xs new f (inr goes) =
      let same : goes.number ≡ f = sym (same_entry s all f goes.number goes.entry_is) in
      let gone : ltb 0 (new f) ≡ false = rw (← same, goes.none) refl in
      rw (gone, goes.values, same) (sym (file_slots_set (values_in xs) f None))

  -- a name is taken away, and a file that has lost its last use is gone
  abbrev unnamed_files : ℕ → Files
  unnamed_files file = edited file (with_value unnamed) s.files

  abbrev pub unlinked : List ℕ → ℕ → Stored
  unlinked name file = record s { files = use_dropped file (unnamed_files file); names = without_name name s.names }

  -- a name that is taken away was one of its file
  pub some_link : (name : List ℕ) (file : ℕ) → ((g : ℕ) → links (without_name name s.names) g + one (file == g) ≡ links s.names g) →
      0 < links_at (value_at (slot s.files file))
  some_link name file fewer =
      let once : one (file == file) ≡ 1 = ap one (is_itself file) in
      omega (arith, once, fewer file, all.links file, ap links_at (slot_values s.files file))

  pub record IsUnlinked (name : List ℕ) (t : Stored) : Type 0 where
    pub consistent : IsConsistent t
    pub world : world_in t ≡ sweep (record (world_in s) { names = without_name name s.names })

  pub after_unlink : (name : List ℕ) (file : ℕ) → ((g : ℕ) → links (without_name name s.names) g + one (file == g) ≡ links s.names g) → NamesRelease →
      IsUnlinked name (unlinked name file)
  after_unlink name file fewer release =
      let facts = facts_of s all in
      let names = without_name name s.names in
      let xs = unnamed_files file in
      let uses : ℕ → ℕ = λ g. links names g + holders ds g in
      let left = loses_use xs (λ g. links s.names g + holders ds g) uses (Some file)
      (counted_edited s.files (λ g. links s.names g + holders ds g) file unnamed facts.uses) (λ g. omega (arith, fewer g)) in
      let law = release (world_in s) names file all.settled (λ g apart some. let none : one (file == g) ≡ 0 = ap one (other_number g file apart) in
      omega (arith, none, some, fewer g)) in
      let same : file_slots (values_in xs) ≡ file_slots (values_in s.files) = files_same s.files file unnamed (λ _. refl) in
      record {
        consistent = consistent_of (unlinked name file) (record {
          references = facts.references;
          uses = left.counted;
          links = tallies_less links_at refl xs uses (λ g. links names g) (Some file) left.either (λ g none. omega (arith, none))
              (rw (values_edited s.files file unnamed) (tallies_fewer links_at refl (values_in s.files) (λ g. links s.names g)
              (λ g. links names g) file unnamed true facts.links (λ x. refl)
              (λ g. ap (λ b. links names g + one b) (and_true (file == g)) ∙ fewer g)));
          pipes = facts.pipes;
          fifos = knows_less xs uses (Some file) left.either ds
              (rw (values_edited s.files file unnamed) (knows_edited (values_in s.files) ds facts.fifos file unnamed
              (λ x p is h. facts.fifos file p (ap known is ∙ h))));
          spare = facts.spare;
          tables = facts.tables;
          few_processes = facts.few_processes;
          few_descriptions = facts.few_descriptions;
          few_names = omega (arith, facts.few_names, names_shorter name s.names);
        });
        world = sym (law ∙ ap (λ fs. record (world_in s) { names = names; files = fs }) (rw same at (released_as xs uses file left.either)));
      }

  counted_forgot : (gone : Option StoredPipe) (t : Target) → Counted (forgot gone t s.files) (λ f. links s.names f + holders ds f)
  counted_forgot None t = (facts_of s all).uses
  counted_forgot (Some pipe) (target.Regular f) = (facts_of s all).uses
  counted_forgot (Some pipe) (target.Pipe p) = (facts_of s all).uses
  counted_forgot (Some pipe) (target.Fifo f p) = counted_edited s.files (λ f. links s.names f + holders ds f) f (forgetful p) (facts_of s all).uses

  tallies_forgot : (gone : Option StoredPipe) (t : Target) → Tallies links_at (values_in (forgot gone t s.files)) (λ f. links s.names f)
  tallies_forgot None t = all.links
  tallies_forgot (Some pipe) (target.Regular f) = all.links
  tallies_forgot (Some pipe) (target.Pipe p) = all.links
  tallies_forgot (Some pipe) (target.Fifo f p) = rw (values_edited s.files f (forgetful p))
      (tallies_kept links_at refl (values_in s.files) (λ f. links s.names f) f (forgetful p) (λ x. refl) all.links)

  -- the FIFO of a pipe that goes forgets it
  fifos_forgot : (es : List (Option Description)) (t : Target) (m : Mode) → Takes ds es (pipe_at t) m →
      file_slots (values_in (forgot (pipe_gone (Gone t m) s.pipes) t s.files)) ≡ fifos_after es (world_in s).files t
  fifos_forgot es (target.Regular f) m less = refl
  fifos_forgot es (target.Pipe p) m less = either (pipe_gone (Gone (target.Pipe p) m) s.pipes)
    where
      either : (gone : Option StoredPipe) → file_slots (values_in (forgot gone (target.Pipe p) s.files)) ≡ (world_in s).files
      either None = refl
      either (Some pipe) = refl
  fifos_forgot es (target.Fifo f p) m less =
      let fs = (world_in s).files in
      let facts = facts_of s all in
      let x = slot (values_in s.files) f in
      let stands : slot fs f ≡ file_slot x = slot_files (values_in s.files) f in
      let others : (q : ℕ) → known x ≡ Some q → q ≢ p → is_open es q ≡ true = λ q knows apart.
      let none : one (p == q) ≡ 0 = ap one (other_number q p apart) in
      open_of es q (omega (arith, none, less.ends q, facts.fifos f q knows)) in
      elim (loses_end s.pipes ds s.capacity facts.pipes es (Some p) m less).either as
      (λ _. file_slots (values_in (forgot (pipe_gone (Gone (target.Fifo f p) m) s.pipes) (target.Fifo f p) s.files)) ≡ set fs f
      (without_gone_pipe es (slot fs f))) [
        | inl stays ↦
            let opens : (q : ℕ) → known x ≡ Some q → is_open es q ≡ true = λ q knows. elim (same_or_not q p) [
              | inl same ↦ open_of es q (let P : ℕ → Type 0 = λ k. 0 < open_ends es k in subst P (sym same.0) (stays.used p refl))
              | inr other ↦ others q knows other.0
            ] in
            let remembers : without_gone_pipe es (slot fs f) ≡ slot fs f = ap (without_gone_pipe es) stands ∙ (open_stays es x opens ∙ sym stands) in
            rw (stays.lost, remembers) (sym (set-get_or fs f None))
        | inr goes ↦
            let here : goes.number ≡ p = sym (same_entry s all p goes.number goes.entry_is) in
            let closed : is_open es p ≡ false = closed_of es p (ap (open_ends es) (sym here) ∙ goes.none) in
            let forgets : option_map (forget_file p) (slot fs f) ≡ without_gone_pipe es (slot fs f) = ap (option_map (forget_file p)) stands ∙
            (forget_is es p x others closed ∙ ap (without_gone_pipe es) (sym stands)) in
            rw goes.lost (files_edited s.files f (forgetful p) (forget_file p) (λ x. same x.body) ∙ ap (λ y. set fs f y) forgets)
      ]
    where
      same : (b : FileBody) → file_in (forgetful_body p b) ≡ forget_file p (file_in b)
      same (body.Regular bytes) = refl
      same (body.Fifo fifo) = refl

  -- the file of a description that went has lost a use
  files_released : (es : List (Option Description)) (fs : Files) (t : Target) → StaysUsed fs (λ f. links s.names f + holders es f) (file_of_target t) ⊎ Goes fs
      (λ f. links s.names f + holders es f) (file_of_target t) →
      files_after s.names es (file_slots (values_in fs)) t ≡ file_slots (values_in (without_use (file_of_target t) fs))
  files_released es fs (target.Regular f) either = released_as fs (λ f. links s.names f + holders es f) f either
  files_released es fs (target.Pipe p) either = refl
  files_released es fs (target.Fifo f p) either = released_as fs (λ f. links s.names f + holders es f) f either

  -- a descriptor refers to another description or is free, and what has lost its last use is gone
  abbrev pub entry_set : ℕ → ℕ → Option ℕ → Option Description → Stored
  entry_set p fd entry gone = record s {
    files = files_left (dropped gone) (pipe_gone (dropped gone) s.pipes) s.files;
    pipes = pipes_left (dropped gone) s.pipes;
    descriptions = without_use (slot (table_of (slot s.processes p)) fd) (with_use entry s.descriptions);
    processes = edited p (with_entry fd entry) s.processes;
  }

  pub record IsSet (p fd : ℕ) (entry : Option ℕ) (t : Stored) : Type 0 where
    pub consistent : IsConsistent t
    pub world : world_in t ≡ sweep (with_descriptor (world_in s) p fd entry)

  module _ (p fd : ℕ) (entry : Option ℕ) (can : CanSet (world_in s) p fd entry) where
    abbrev qs : List (Option Process)
    qs = edited p (with_entry fd entry) s.processes

    abbrev old : Option ℕ
    old = slot (table_of (slot s.processes p)) fd

    abbrev more : List (Option (Used Description))
    more = with_use entry s.descriptions

    change : (n : ℕ) → refs qs n + one (refers n old) ≡ refs s.processes n + one (refers n entry)
    change n = refs_entry s.processes p fd entry n (rw can.process_is can.within)

    loses : LosesUse more (λ n. refs qs n) old
    loses = loses_use more (λ n. refs s.processes n + one (refers n entry)) (λ n. refs qs n) old
        (counted_more s.descriptions (λ n. refs s.processes n) (λ n. refs s.processes n + one (refers n entry)) entry (facts_of s all).references
        (λ n is. sym (there_values s.descriptions n) ∙ can.there n is) (λ n. refl)) change

    goes_from : (last : Goes more (λ n. refs qs n) old) → slot ds last.number ≡ Some last.value
    goes_from last = ap (λ es. slot es last.number) (sym (values_more s.descriptions entry)) ∙ last.is

    -- what the description held that goes is there
    pub can_leave : CanLeave (dropped (lost old more)) s.pipes s.files
    can_leave = elim loses.either as (λ _. CanLeave (dropped (lost old more)) s.pipes s.files) [
      | inl stays ↦ rw stays.lost tt
      | inr last ↦ rw last.lost (has_end s.pipes ds s.capacity (facts_of s all).pipes last.number last.value (goes_from last), λ n on. held last n on)
    ]
      where
        held : (last : Goes more (λ n. refs qs n) old) (n : ℕ) → file_of_target last.value.target ≡ Some n → is_some (slot s.files n) ≡ true
        held last n on =
            let holding : is_file n last.value.target ≡ true = sym (refers_target n last.value.target) ∙ (ap (refers n) on ∙ is_itself n) in
            positive (slot s.files n) (omega (arith, count_there (holds n) refl ds last.number last.value (goes_from last) holding, all.uses n))

    module _ (settled_stays : SettledStays) (releases : SweepReleases) (leaves : SweepLeaves) (theirs : EndsAreTheirs (world_in s)) where
      still : StaysUsed more (λ n. refs qs n) old → IsSet p fd entry (entry_set p fd entry None)
      still stays =
          let facts = facts_of s all in
          let t = entry_set p fd entry None in
          let values : values_in t.descriptions ≡ ds = stays.values ∙ values_more s.descriptions entry in
          let now : Facts t = record {
            references = loses.counted;
            uses = rw values facts.uses;
            links = facts.links;
            pipes = rw values facts.pipes;
            fifos = rw values facts.fifos;
            spare = facts.spare;
            tables = tables_set s all p fd entry;
            few_processes = omega (arith, facts.few_processes, live_edited s.processes p (with_entry fd entry));
            few_descriptions = rw values facts.few_descriptions;
            few_names = facts.few_names;
          } in
          let v = with_descriptor (world_in s) p fd entry in
          let same : world_in t ≡ v = rw values refl in
          record { consistent = consistent_of t now; world = same ∙ sym (settled_stays v (subst IsSettled same (settled t now))) }

      goes : (last : Goes more (λ n. refs qs n) old) → IsSet p fd entry (entry_set p fd entry (Some last.value))
      goes last =
          let facts = facts_of s all in
          let d = last.value in
          let t = entry_set p fd entry (Some d) in
          let is = goes_from last in
          let es = set ds last.number None in
          let values : values_in t.descriptions ≡ es = last.values ∙ ap (λ xs. set xs last.number None) (values_more s.descriptions entry) in
          let less = takes ds last.number d is in
          let gone = pipe_gone (Gone d.target d.mode) s.pipes in
          let fs = forgot gone d.target s.files in
          let left = loses_use fs (λ f. links s.names f + holders ds f) (λ f. links s.names f + holders es f) (file_of_target d.target)
          (counted_forgot gone d.target)
          (λ f. omega (arith, holders_gone ds last.number d f is)) in
          let unreferred : is_referred qs last.number ≡ false = rw last.none refl in
          let others : StaysBut last.number s.processes qs = λ e apart some.
          let none : one (refers e old) ≡ 0 = ap (λ x. one (refers e x)) last.entry_is ∙ ap one (other_number e last.number apart) in
          omega (arith, change e, none, some) in
          let v = with_descriptor (world_in s) p fd entry in
          let law : sweep v ≡ released v last.number d.target = releases (world_in s) qs last.number d all.settled is (theirs last.number d is) others in
          let pipes_are : pipes_after es (world_in s).pipes d.target ≡ pipe_slots (values_in t.pipes) =
          sym (pipes_released s.pipes ds s.capacity facts.pipes es d.target d.mode less) in
          let fifos_are : fifos_after es (world_in s).files d.target ≡ file_slots (values_in fs) = sym (fifos_forgot es d.target d.mode less) in
          let result : released v last.number d.target ≡ world_in t = rw (
            unreferred,
            pipes_are,
            fifos_are,
            files_released es fs d.target left.either,
            values,
          ) refl in
          let same : sweep v ≡ world_in t = law ∙ result in
          let P : World → Type 0 = λ u. (f k : ℕ) → pipe_of_fifo (fifo_at (slot u.files f)) ≡ Some k → is_open u.descriptions k ≡ true in
          let opens : P (world_in t) = subst P same (swept_knows v (sweep v) (leaves v)) in
          let now : Facts t = record {
            references = loses.counted;
            uses = rw values left.counted;
            links = tallies_less links_at refl fs (λ f. links s.names f + holders es f) (λ f. links s.names f) (file_of_target d.target) left.either
                (λ f none. omega (arith, none)) (tallies_forgot gone d.target);
            pipes = rw values (pipes_closed s.pipes ds s.capacity facts.pipes es (pipe_at d.target) d.mode less);
            fifos = λ f k knows. some_of (values_in t.descriptions) k (opens f k (ap (λ x. pipe_of_fifo (fifo_at x)) (slot_files (values_in t.files) f) ∙
                knows));
            spare = facts.spare;
            tables = tables_set s all p fd entry;
            few_processes = omega (arith, facts.few_processes, live_edited s.processes p (with_entry fd entry));
            few_descriptions = rw values (omega (arith, facts.few_descriptions, live_set ds last.number d None is));
            few_names = facts.few_names;
          } in
          record { consistent = consistent_of t now; world = sym same }

      pub is_set : IsSet p fd entry (entry_set p fd entry (lost old more))
      is_set = elim loses.either as (λ _. IsSet p fd entry (entry_set p fd entry (lost old more))) [
        | inl stays ↦ rw stays.lost (still stays)
        | inr last ↦ rw last.lost (goes last)
      ]
