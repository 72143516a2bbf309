-- Parts of changes of a world that use no number again and leave nothing that refers to what is gone.
use Rattle.std.proofs.Common.{◌≡◌, ◌∙◌, ℕ, zero, suc, Bool, true, false, not, cond, List, [], ◌∷◌, ◌++◌, Option, None, Some, length, length-set, set, get_or, refl, ap, sym, subst}
use Rattle.std.specs.Option.{option_map, is_some}
use Rattle.std.specs.List.{All}
use Rattle.std.proofs.lemmas.List.Elements.{All-cons, All-head, All-tail}
use Rattle.std.specs.Ordering.{nat_cmp, eq_by_cmp}
use Rattle.std.specs.Cmp.Lexicographic.{slice_cmp}
use Rattle.std.specs.FinMap.Entries.{by_order}
use Rattle.std.specs.declared.cmp.Ordering.TheVariants.{Less, Equal, Greater}
use Rattle.posix_model.specs.Proved.Whole.{TargetIsThere, is_fifo, is_regular_file, EachThere, PipeIsThere, IsItsFifo, IsOnItsPipe, PipesApart, WaitsForFew, IsWhole, StaysOpen}
use Rattle.posix_model.specs.Kept.{IsThere}
use Rattle.slots.specs.Slots.{slot, edited}
use Rattle.call_types.specs.Names.{Entries, with_name, without_name}
use Rattle.call_types.specs.Descriptions.{described}
use Rattle.call_types.specs.declared.description.DescriptionEdit.TheVariants as on_description
use Rattle.process_table.specs.Processes.{with_entry, process_with, with_parked, moved_in}
use Rattle.posix_model.specs.Descriptors.{with_descriptor}
use Rattle.posix_model.specs.Pipes.{fifo_at, pipe_of_fifo}
use Rattle.posix_model.specs.Change.{with_processes, with_bytes, created, with_description}
use Rattle.posix_model.specs.Proved.Fits.{CanAdd}
use Rattle.posix_model.specs.Types.{World, Process, Parked, Description, DescriptionEdit, Target, File, Fifo, OPEN_MAX}
use Rattle.posix_model.specs.declared.change.ProcessEdit.TheVariants as on_process
use Rattle.posix_model.specs.Proved.Numbers.{Rises, NumbersRise, StaysSame}
use Rattle.process_table.specs.Proved.Waits.{AsksFew}
use Rattle.posix_model.specs.declared.world.File.TheVariants as file
use Rattle.call_types.specs.declared.description.Target.TheVariants as target
use Rattle.posix_model.proofs.SlotLaws.{test_set, slot_pushed, there_below, stays_as_is, stays_pushed, stays_set, stays_twice, Adds, adds_same, adds_set, adds_edited, adds_push, pushed_there, rises_twice, rises_emptied, each_set, each_push}

-- a change that uses no number again and leaves nothing that refers to what is gone
pub record Goes (w v : World) : Type 0 where
  pub rises : NumbersRise w v
  pub whole : IsWhole v

same_rises : (w : World) → NumbersRise w w
same_rises w = record {
  files = (adds_same w.files).rises;
  pipes = (adds_same w.pipes).rises;
  descriptions = (adds_same w.descriptions).rises;
  processes = (adds_same w.processes).rises;
  kinds = stays_as_is (λ f. is_fifo (Some f)) w.files;
  targets = stays_as_is (λ d. d.target) w.descriptions;
  modes = stays_as_is (λ d. d.mode) w.descriptions;
}

pub goes_nowhere : (w : World) → IsWhole w → Goes w w
goes_nowhere w whole = record { rises = same_rises w; whole = whole }

rise_twice : (u v w : World) → NumbersRise u v → NumbersRise v w → NumbersRise u w
rise_twice u v w r s = record {
  files = rises_twice u.files v.files w.files r.files s.files;
  pipes = rises_twice u.pipes v.pipes w.pipes r.pipes s.pipes;
  descriptions = rises_twice u.descriptions v.descriptions w.descriptions r.descriptions s.descriptions;
  processes = rises_twice u.processes v.processes w.processes r.processes s.processes;
  kinds = stays_twice (λ f. is_fifo (Some f)) u.files v.files w.files r.files s.files r.kinds s.kinds;
  targets = stays_twice (λ d. d.target) u.descriptions v.descriptions w.descriptions r.descriptions s.descriptions r.targets s.targets;
  modes = stays_twice (λ d. d.mode) u.descriptions v.descriptions w.descriptions r.descriptions s.descriptions r.modes s.modes;
}

pub goes_twice : (u v w : World) → Goes u v → Goes v w → Goes u w
goes_twice u v w g h = record { rises = rise_twice u v w g.rises h.rises; whole = h.whole }

-- a regular file is there, and no FIFO
regular_parts : (x : Option File) → is_regular_file x ≡ true → (is_some x ≡ true) × (is_fifo x ≡ false)
regular_parts None h = cc
regular_parts (Some (file.Regular bytes)) h = (refl, refl)
regular_parts (Some (file.Fifo fifo)) h = cc

fifo_there : (x : Option File) → is_fifo x ≡ true → is_some x ≡ true
fifo_there None h = cc
fifo_there (Some (file.Regular bytes)) h = cc
fifo_there (Some (file.Fifo fifo)) h = refl

-- no file went, and none is of another kind
pub record FilesAdd (xs ys : List (Option File)) : Type 0 where
  pub adds : Adds xs ys
  pub regular : (n : ℕ) → is_regular_file (slot xs n) ≡ true → is_regular_file (slot ys n) ≡ true
  pub fifo : (n : ℕ) → is_fifo (slot xs n) ≡ true → is_fifo (slot ys n) ≡ true
  pub kinds : StaysSame (λ f. is_fifo (Some f)) xs ys

pub files_set : (xs : List (Option File)) (m : ℕ) (y : Option File) → is_some y ≡ is_some (slot xs m) → is_regular_file y ≡ is_regular_file (slot xs m) →
    is_fifo y ≡ is_fifo (slot xs m) → FilesAdd xs (set xs m y)
files_set xs m y full regular fifo = record {
  adds = adds_set xs m y full;
  regular = λ n h. test_set is_regular_file xs m y n regular ∙ h;
  fifo = λ n h. test_set is_fifo xs m y n fifo ∙ h;
  kinds = stays_set (λ f. is_fifo (Some f)) xs m y (λ a b h k. ap is_fifo (sym k) ∙ (fifo ∙ ap is_fifo h));
}

files_push : (xs : List (Option File)) (y : File) → FilesAdd xs (xs ++ Some y ∷ [])
files_push xs y = record {
  adds = adds_push xs (Some y);
  regular = λ n h. ap is_regular_file (slot_pushed xs (Some y) n (there_below xs n (regular_parts (slot xs n) h).0)) ∙ h;
  fifo = λ n h. ap is_fifo (slot_pushed xs (Some y) n (there_below xs n (fifo_there (slot xs n) h))) ∙ h;
  kinds = stays_pushed (λ f. is_fifo (Some f)) xs (Some y);
}

-- what is there stays so where files are added
target_stays : (files more : List (Option File)) (pipes : List (Option (List ℕ))) → FilesAdd files more → (t : Target) →
    TargetIsThere files pipes t → TargetIsThere more pipes t
target_stays files more pipes a (target.Regular f) h = a.regular f h
target_stays files more pipes a (target.Pipe p) h = h
target_stays files more pipes a (target.Fifo f p) h = (a.fifo f h.0, h.1)

-- a FIFO stands there and has this pipe
pub record HasPipe (files : List (Option File)) (g p : ℕ) : Type 0 where
  pub fifo : Fifo
  pub stands : slot files g ≡ Some (file.Fifo fifo)
  pub its_pipe : fifo.pipe ≡ Some p

-- where no FIFO has a pipe that it had not, an end of a FIFO's pipe stays one of that FIFO
pub its_from : (files more : List (Option File)) (t : Target) → ((g p : ℕ) → HasPipe more g p → HasPipe files g p) → IsItsFifo files t → IsItsFifo more t
its_from files more t was its g x p h k is =
    let old = was g p (record { fifo = x; stands = h; its_pipe = k }) in
    its g old.fifo p old.stands old.its_pipe is

-- and no two have the same
pub apart_from : (files more : List (Option File)) → ((g p : ℕ) → HasPipe more g p → HasPipe files g p) → PipesApart files → PipesApart more
apart_from files more was apart f g x y p h k e i =
    let one = was f p (record { fifo = x; stands = h; its_pipe = e }) in
    let other = was g p (record { fifo = y; stands = k; its_pipe = i }) in
    apart f g one.fifo other.fifo p one.stands other.stands one.its_pipe other.its_pipe

-- the pipe that a FIFO has, if a FIFO stands there
abbrev pub pipe_in : Option File → Option ℕ
pipe_in x = pipe_of_fifo (fifo_at x)

-- no FIFO has lost the pipe that it had
abbrev pub PipesStay : List (Option File) → List (Option File) → Type 0
PipesStay files more = (f p : ℕ) → pipe_in (slot files f) ≡ Some p → pipe_in (slot more f) ≡ Some p

-- so an end of a FIFO stays on its pipe
pub on_stays : (files more : List (Option File)) → PipesStay files more → (t : Target) → IsOnItsPipe files t → IsOnItsPipe more t
on_stays files more stay (target.Regular f) h = tt
on_stays files more stay (target.Pipe p) h = tt
on_stays files more stay (target.Fifo f p) h = stay f p h

-- a regular file has no pipe
regular_has_none : (x : Option File) → is_regular_file x ≡ true → pipe_in x ≡ None
regular_has_none None h = cc
regular_has_none (Some (file.Regular bytes)) h = refl
regular_has_none (Some (file.Fifo fifo)) h = cc

-- what has a pipe is there
pipe_in_there : (x : Option File) (p : ℕ) → pipe_in x ≡ Some p → is_some x ≡ true
pipe_in_there None p h = cc
pipe_in_there (Some x) p h = refl

stay_push : (files : List (Option File)) (y : File) → PipesStay files (files ++ Some y ∷ [])
stay_push files y f p h = ap pipe_in (slot_pushed files (Some y) f (there_below files f (pipe_in_there (slot files f) p h))) ∙ h

-- a file is another, which has no pipe: the others have the pipes that they had
had_set : (xs : List (Option File)) (m : ℕ) (y : Option File) → ((p : ℕ) (x : Fifo) → y ≡ Some (file.Fifo x) → x.pipe ≡ Some p → ⊥) →
    (g p : ℕ) → HasPipe (set xs m y) g p → HasPipe xs g p
had_set [] m y none g p h = h
had_set (z ∷ xs) zero y none zero p h = absurd (none p h.fifo h.stands h.its_pipe)
had_set (z ∷ xs) zero y none (suc g) p h = record { fifo = h.fifo; stands = h.stands; its_pipe = h.its_pipe }
had_set (z ∷ xs) (suc m) y none zero p h = record { fifo = h.fifo; stands = h.stands; its_pipe = h.its_pipe }
had_set (z ∷ xs) (suc m) y none (suc g) p h =
    let rest = had_set xs m y none g p (record { fifo = h.fifo; stands = h.stands; its_pipe = h.its_pipe }) in
    record { fifo = rest.fifo; stands = rest.stands; its_pipe = rest.its_pipe }

-- a file without a pipe is added
had_push : (xs : List (Option File)) (y : File) → ((p : ℕ) (x : Fifo) → y ≡ file.Fifo x → x.pipe ≡ Some p → ⊥) → (g p : ℕ) → HasPipe (xs ++ Some y ∷ []) g p →
    HasPipe xs g p
had_push [] y none zero p h = let e : Some y ≡ Some (file.Fifo h.fifo) = h.stands in let same : y ≡ file.Fifo h.fifo = cc in
    absurd (none p h.fifo same h.its_pipe)
had_push [] y none (suc g) p h = let e : None ≡ Some (file.Fifo h.fifo) = h.stands in cc
had_push (z ∷ xs) y none zero p h = record { fifo = h.fifo; stands = h.stands; its_pipe = h.its_pipe }
had_push (z ∷ xs) y none (suc g) p h =
    let rest = had_push xs y none g p (record { fifo = h.fifo; stands = h.stands; its_pipe = h.its_pipe }) in
    record { fifo = rest.fifo; stands = rest.stands; its_pipe = rest.its_pipe }

-- the pipe of a FIFO is there
pub pipe_there : (pipes : List (Option (List ℕ))) (files : List (Option File)) → EachThere (PipeIsThere pipes) files → (g p : ℕ) → HasPipe files g p →
    IsThere pipes p
pipe_there pipes files fifos g p h = fifos g (file.Fifo h.fifo) h.stands p h.its_pipe

target_edited : (P : Target → Type 0) (f : Description → Description) (stays : StaysOpen f) (old : Option Description) (d : Description) →
    ((x : Description) → old ≡ Some x → P x.target) → option_map f old ≡ Some d →
    P d.target
target_edited P f stays None d all h = cc
target_edited P f stays (Some x) d all h = let e : f x ≡ d = cc in subst (λ (y : Description). P y.target) e (subst P (sym (stays.target x)) (all x refl))

-- an edit of a description leaves what it is open on, and for what
pub stays_open : (e : DescriptionEdit) → StaysOpen (described e)
stays_open (on_description.Offset offset) = record { target = λ d. refl; mode = λ d. refl }
stays_open other = record { target = λ d. refl; mode = λ d. refl }

-- a description has another offset, or other flags
pub description_goes : (w : World) (n : ℕ) (f : Description → Description) → StaysOpen f → IsWhole w →
    Goes w (record w { descriptions = edited n f w.descriptions })
description_goes w n f stays whole =
    let ds = w.descriptions in
    let moved = option_map f (slot ds n) in
    let adds = adds_edited ds n f in
    let same : (x y : Description) → slot ds n ≡ Some x → moved ≡ Some y → f x ≡ y =
    λ x y h e. let is : option_map f (Some x) ≡ Some y = ap (option_map f) (sym h) ∙ e in cc in
    record {
      rises = record {
        files = (adds_same w.files).rises;
        pipes = (adds_same w.pipes).rises;
        descriptions = adds.rises;
        processes = (adds_same w.processes).rises;
        kinds = stays_as_is (λ f. is_fifo (Some f)) w.files;
        targets = stays_set (λ d. d.target) ds n moved (λ x y h e. sym (sym (stays.target x) ∙ ap (λ (d : Description). d.target) (same x y h e)));
        modes = stays_set (λ d. d.mode) ds n moved (λ x y h e. sym (sym (stays.mode x) ∙ ap (λ (d : Description). d.mode) (same x y h e)));
      };
      whole = record {
        names = whole.names;
        descriptions = each_set (λ d. TargetIsThere w.files w.pipes d.target) ds n moved whole.descriptions
            (λ d h. target_edited (TargetIsThere w.files w.pipes) f stays (slot ds n) d (whole.descriptions n) h);
        fifos = whole.fifos;
        ends = each_set (λ d. IsItsFifo w.files d.target) ds n moved whole.ends (λ d h. target_edited (IsItsFifo w.files) f stays (slot ds n) d
            (whole.ends n) h);
        apart = whole.apart;
        pipes = each_set (λ d. IsOnItsPipe w.files d.target) ds n moved whole.pipes (λ d h. target_edited (IsOnItsPipe w.files) f stays (slot ds n) d
            (whole.pipes n) h);
        processes = λ p process at m x h. adds.there x (whole.processes p process at m x h);
        waits = whole.waits;
        tables = whole.tables;
      };
    }

-- the files of a world are others, of which none went, and none has a pipe that it had not or lost one
files_go : (w : World) (files : List (Option File)) → IsWhole w → FilesAdd w.files files → EachThere (PipeIsThere w.pipes) files →
    ((g p : ℕ) → HasPipe files g p → HasPipe w.files g p) →
    PipesStay w.files files → Goes w (record w { files = files })
files_go w files whole add fifos had stay = record {
  rises = record {
    files = add.adds.rises;
    pipes = (adds_same w.pipes).rises;
    descriptions = (adds_same w.descriptions).rises;
    processes = (adds_same w.processes).rises;
    kinds = add.kinds;
    targets = stays_as_is (λ d. d.target) w.descriptions;
    modes = stays_as_is (λ d. d.mode) w.descriptions;
  };
  whole = record {
    names = λ k d below. add.adds.there (get_or w.names k d).1 (whole.names k d below);
    descriptions = λ n d h. target_stays w.files files w.pipes add d.target (whole.descriptions n d h);
    fifos = fifos;
    ends = λ n d h. its_from w.files files d.target had (whole.ends n d h);
    apart = apart_from w.files files had whole.apart;
    pipes = λ n d h. on_stays w.files files stay d.target (whole.pipes n d h);
    processes = whole.processes;
    waits = whole.waits;
    tables = whole.tables;
  };
}

-- a file has other bytes
pub bytes_go : (w : World) (f : ℕ) (bytes : List ℕ) → IsWhole w → is_regular_file (slot w.files f) ≡ true → Goes w (with_bytes w f bytes)
bytes_go w f bytes whole there =
    let parts = regular_parts (slot w.files f) there in
    files_go w (set w.files f (Some (file.Regular bytes))) whole (files_set w.files f (Some (file.Regular bytes)) (sym parts.0) (sym there) (sym parts.1))
    (each_set (PipeIsThere w.pipes) w.files f (Some (file.Regular bytes)) whole.fifos (λ x h. let e : file.Regular bytes ≡ x = cc in
    subst (PipeIsThere w.pipes) e tt))
    (had_set w.files f (Some (file.Regular bytes)) (λ p x h. cc)) (λ g p h. test_set pipe_in w.files f (Some (file.Regular bytes)) g
    (sym (regular_has_none (slot w.files f) there)) ∙ h)

-- a name is put at a file that is there
pub names_with : (files : List (Option File)) (name : List ℕ) (f : ℕ) (es : Entries) → IsThere files f →
    All (λ entry. IsThere files entry.1) es → All (λ entry. IsThere files entry.1) (with_name name f es)
names_with files name f [] there all = All-cons (λ entry. IsThere files entry.1) (name, f) [] there all
names_with files name f (e ∷ es) there all =
    let first = All-head (λ entry. IsThere files entry.1) e es all in
    let rest = All-tail (λ entry. IsThere files entry.1) e es all in
    elim (slice_cmp nat_cmp name e.0) as (λ o. All (λ entry. IsThere files entry.1) (by_order o ((name, f) ∷ e ∷ es) ((e.0, f) ∷ es) (e ∷ with_name name f es))) [
      | Less ↦ All-cons (λ entry. IsThere files entry.1) (name, f) (e ∷ es) there all
      | Equal ↦ All-cons (λ entry. IsThere files entry.1) (e.0, f) es there rest
      | Greater ↦ All-cons (λ entry. IsThere files entry.1) e (with_name name f es) first (names_with files name f es there rest)
    ]

-- and some names are taken away
pub names_without : (files : List (Option File)) (name : List ℕ) (es : Entries) → All (λ entry. IsThere files entry.1) es →
    All (λ entry. IsThere files entry.1) (without_name name es)
names_without files name [] all = all
names_without files name (e ∷ es) all =
    let rest = names_without files name es (All-tail (λ entry. IsThere files entry.1) e es all) in
    elim (not (eq_by_cmp (slice_cmp nat_cmp) name e.0)) as
    (λ b. All (λ entry. IsThere files entry.1) (cond b (e ∷ without_name name es) (without_name name es))) [
      | true ↦ All-cons (λ entry. IsThere files entry.1) e (without_name name es) (All-head (λ entry. IsThere files entry.1) e es all) rest
      | false ↦ rest
    ]

-- the names are others, and each is of a file that is there
pub names_go : (w : World) (names : Entries) → IsWhole w → All (λ entry. IsThere w.files entry.1) names → Goes w (record w { names = names })
names_go w names whole all =
    let same = same_rises w in
    record {
      rises = record {
        files = same.files;
        pipes = same.pipes;
        descriptions = same.descriptions;
        processes = same.processes;
        kinds = same.kinds;
        targets =
            same.targets;
        modes = same.modes;
      };
      whole = record {
        names = all;
        descriptions = whole.descriptions;
        fifos = whole.fifos;
        ends = whole.ends;
        apart = whole.apart;
        pipes = whole.pipes;
        processes = whole.processes;
        waits = whole.waits;
        tables = whole.tables;
      };
    }

-- a new file, which has no pipe
pub created_goes : (w : World) (name : List ℕ) (new : File) → IsWhole w → PipeIsThere w.pipes new →
    ((p : ℕ) (x : Fifo) → new ≡ file.Fifo x → x.pipe ≡ Some p → ⊥) → Goes w (created w name new)
created_goes w name new whole there none =
    let files = w.files ++ Some new ∷ [] in
    let moved = files_go w files whole (files_push w.files new) (each_push (PipeIsThere w.pipes) w.files new whole.fifos there) (had_push w.files new none)
    (stay_push w.files new) in
    record {
      rises = record {
        files = moved.rises.files;
        pipes = moved.rises.pipes;
        descriptions = moved.rises.descriptions;
        processes = moved.rises.processes;
        kinds =
            moved.rises.kinds;
        targets = moved.rises.targets;
        modes = moved.rises.modes;
      };
      whole = record {
        names = names_with files name (length w.files) w.names (pushed_there w.files new) moved.whole.names;
        descriptions = moved.whole.descriptions;
        fifos = moved.whole.fifos;
        ends = moved.whole.ends;
        apart = moved.whole.apart;
        pipes = moved.whole.pipes;
        processes = moved.whole.processes;
        waits = moved.whole.waits;
        tables = moved.whole.tables;
      };
    }

-- the descriptors of a process refer to what is there
abbrev pub Refers : List (Option Description) → Process → Type 0
Refers ds process = EachThere (IsThere ds) process.table

entry_edited : (ds : List (Option Description)) (fd : ℕ) (entry : Option ℕ) (old : Option Process) (x : Process) →
    ((n : ℕ) → entry ≡ Some n → IsThere ds n) → ((y : Process) → old ≡ Some y → Refers ds y) → option_map (with_entry fd entry) old ≡ Some x → Refers ds x
entry_edited ds fd entry None x new all h = cc
entry_edited ds fd entry (Some y) x new all h =
    let e : with_entry fd entry y ≡ x = cc in
    subst (Refers ds) e (each_set (IsThere ds) y.table fd entry (all y refl) new)

-- a process has so many descriptors
abbrev pub HasAll : Process → Type 0
HasAll process = length process.table ≡ OPEN_MAX

entry_keeps : (fd : ℕ) (entry : Option ℕ) (old : Option Process) (x : Process) → ((y : Process) → old ≡ Some y → HasAll y) →
    option_map (with_entry fd entry) old ≡ Some x → HasAll x
entry_keeps fd entry None x all h = cc
entry_keeps fd entry (Some y) x all h =
    let e : with_entry fd entry y ≡ x = cc in
    subst HasAll e (length-set y.table fd entry ∙ all y refl)

-- what holds of each process holds of it after an edit that keeps it
edited_has : (Has : Process → Type 0) (edit : Process → Process) (old : Option Process) (x : Process) → ((y : Process) → Has y → Has (edit y)) →
    ((y : Process) → old ≡ Some y → Has y) →
    option_map edit old ≡ Some x → Has x
edited_has Has edit None x keeps all h = cc
edited_has Has edit (Some y) x keeps all h = let e : edit y ≡ x = cc in subst Has e (keeps y (all y refl))

-- a descriptor refers to what is there, or is free
pub descriptor_goes : (w : World) (process fd : ℕ) (entry : Option ℕ) → IsWhole w → ((n : ℕ) → entry ≡ Some n → IsThere w.descriptions n) →
    Goes w (with_descriptor w process fd entry)
descriptor_goes w process fd entry whole new =
    let edited = option_map (with_entry fd entry) (slot w.processes process) in
    let adds = adds_edited w.processes process (with_entry fd entry) in
    record {
      rises = record {
        files = (adds_same w.files).rises;
        pipes = (adds_same w.pipes).rises;
        descriptions = (adds_same w.descriptions).rises;
        processes = adds.rises;
        kinds = stays_as_is (λ f. is_fifo (Some f)) w.files;
        targets = stays_as_is (λ d. d.target) w.descriptions;
        modes = stays_as_is (λ d. d.mode) w.descriptions;
      };
      whole = record {
        names = whole.names;
        descriptions = whole.descriptions;
        fifos = whole.fifos;
        ends = whole.ends;
        apart = whole.apart;
        pipes = whole.pipes;
        waits = each_set WaitsForFew w.processes process edited whole.waits (λ x h. edited_has WaitsForFew (with_entry fd entry) (slot w.processes process) x
            (λ y has. has) (whole.waits process) h);
        processes = each_set (Refers w.descriptions) w.processes process edited whole.processes
            (λ x h. entry_edited w.descriptions fd entry (slot w.processes process) x new (whole.processes process) h);
        tables = each_set HasAll w.processes process edited whole.tables (λ x h. entry_keeps fd entry (slot w.processes process) x (whole.tables process) h);
      };
    }

-- one more description, of what is there
described_goes : (w : World) (d : Description) → IsWhole w → TargetIsThere w.files w.pipes d.target → IsItsFifo w.files d.target →
    IsOnItsPipe w.files d.target → Goes w (record w { descriptions = w.descriptions ++ Some d ∷ [] })
described_goes w d whole there its on =
    let adds = adds_push w.descriptions (Some d) in
    record {
      rises = record {
        files = (adds_same w.files).rises;
        pipes = (adds_same w.pipes).rises;
        descriptions = adds.rises;
        processes = (adds_same w.processes).rises;
        kinds = stays_as_is (λ f. is_fifo (Some f)) w.files;
        targets = stays_pushed (λ x. x.target) w.descriptions (Some d);
        modes = stays_pushed (λ x. x.mode) w.descriptions (Some d);
      };
      whole = record {
        names = whole.names;
        descriptions = each_push (λ x. TargetIsThere w.files w.pipes x.target) w.descriptions d whole.descriptions there;
        fifos = whole.fifos;
        ends = each_push (λ x. IsItsFifo w.files x.target) w.descriptions d whole.ends its;
        apart = whole.apart;
        pipes = each_push (λ x. IsOnItsPipe w.files x.target) w.descriptions d whole.pipes on;
        processes = λ p process at n x h. adds.there x (whole.processes p process at n x h);
        waits = whole.waits;
        tables = whole.tables;
      };
    }

-- the processes of a world are others, of which each refers to what is there, waits for few bytes and has all its descriptors
processes_go : (w : World) (ps : List (Option Process)) → IsWhole w → Rises w.processes ps → EachThere (Refers w.descriptions) ps → EachThere WaitsForFew ps →
    EachThere HasAll ps →
    Goes w (record w { processes = ps })
processes_go w ps whole rises refers few all =
    let same = same_rises w in
    record {
      rises = record {
        files = same.files;
        pipes = same.pipes;
        descriptions = same.descriptions;
        processes = rises;
        kinds = same.kinds;
        targets = same.targets;
        modes = same.modes;
      };
      whole = record {
        names = whole.names;
        descriptions = whole.descriptions;
        fifos = whole.fifos;
        ends = whole.ends;
        apart = whole.apart;
        pipes = whole.pipes;
        processes = refers;
        waits = few;
        tables = all;
      };
    }

pub added_goes : (w : World) (table : List (Option ℕ)) (attached : Bool) → IsWhole w → CanAdd w table →
    Goes w (with_processes w (on_process.Add table attached))
added_goes w table attached whole can =
    let child = process_with table attached in
    processes_go w (w.processes ++ Some child ∷ []) whole (adds_push w.processes (Some child)).rises
    (each_push (Refers w.descriptions) w.processes child whole.processes can.there) (each_push WaitsForFew w.processes child whole.waits (λ parked h. cc))
    (each_push HasAll w.processes child whole.tables can.all)

-- a process is another, with the descriptors that it had, and waits for few bytes
pub process_goes : (w : World) (p : ℕ) (edit : Process → Process) → IsWhole w → ((y : Process) → (edit y).table ≡ y.table) →
    ((y : Process) → WaitsForFew y → WaitsForFew (edit y)) →
    Goes w (record w { processes = set w.processes p (option_map edit (slot w.processes p)) })
process_goes w p edit whole same few =
    let old = slot w.processes p in
    let new = option_map edit old in
    let stays : (P : List (Option ℕ) → Type 0) (y : Process) → P y.table → P (edit y).table = λ P y h. subst P (sym (same y)) h in
    processes_go w (set w.processes p new) whole (adds_edited w.processes p edit).rises
    (each_set (Refers w.descriptions) w.processes p new whole.processes
    (λ x h. edited_has (Refers w.descriptions) edit old x (stays (EachThere (IsThere w.descriptions))) (whole.processes p) h))
    (each_set WaitsForFew w.processes p new whole.waits (λ x h. edited_has WaitsForFew edit old x few (whole.waits p) h))
    (each_set HasAll w.processes p new whole.tables (λ x h. edited_has HasAll edit old x (stays (λ table. length table ≡ OPEN_MAX)) (whole.tables p) h))

-- a process waits in a call that asks for few bytes
pub few_parked : (parked : Parked) → AsksFew parked.call → (y : Process) → WaitsForFew (with_parked (Some parked) y)
few_parked parked few y other h = let same : parked ≡ other = cc in subst (λ (q : Parked). AsksFew q.call) same few

-- and it goes on waiting in the same call
pub few_moved : (moved : ℕ) (old : Option Parked) (other : Parked) → ((q : Parked) → old ≡ Some q → AsksFew q.call) →
    option_map (moved_in moved) old ≡ Some other → AsksFew other.call
few_moved moved None other few h = cc
few_moved moved (Some q) other few h = let same : moved_in moved q ≡ other = cc in subst (λ (q : Parked). AsksFew q.call) same (few q refl)

pub exited_goes : (w : World) (p : ℕ) → IsWhole w → Goes w (with_processes w (on_process.Exit p))
exited_goes w p whole =
    processes_go w (set w.processes p None) whole (rises_emptied w.processes p)
    (each_set (Refers w.descriptions) w.processes p None whole.processes (λ x h. cc)) (each_set WaitsForFew w.processes p None whole.waits (λ x h. cc))
    (each_set HasAll w.processes p None whole.tables (λ x h. cc))

pub closed_goes : (w : World) → IsWhole w → Goes w (with_processes w on_process.Close)
closed_goes w whole =
    let same = same_rises w in
    record {
      rises = record {
        files = same.files;
        pipes = same.pipes;
        descriptions = same.descriptions;
        processes = same.processes;
        kinds = same.kinds;
        targets =
            same.targets;
        modes = same.modes;
      };
      whole = record {
        names = whole.names;
        descriptions = whole.descriptions;
        fifos = whole.fifos;
        ends = whole.ends;
        apart = whole.apart;
        pipes = whole.pipes;
        processes = whole.processes;
        waits = whole.waits;
        tables = whole.tables;
      };
    }

pub opened_goes : (w : World) (process fd : ℕ) (d : Description) → IsWhole w → TargetIsThere w.files w.pipes d.target → IsItsFifo w.files d.target →
    IsOnItsPipe w.files d.target → Goes w (with_description w process fd d)
opened_goes w process fd d whole there its on =
    let more : World = record w { descriptions = w.descriptions ++ Some d ∷ [] } in
    let first = described_goes w d whole there its on in
    let at_end : (n : ℕ) → Some (length w.descriptions) ≡ Some n → IsThere more.descriptions n = λ n h. let same : length w.descriptions ≡ n = cc in
    subst (IsThere more.descriptions) same (pushed_there w.descriptions d) in
    goes_twice w more (with_description w process fd d) first (descriptor_goes more process fd (Some (length w.descriptions)) first.whole at_end)
