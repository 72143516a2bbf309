-- What a sweep leaves, that it leaves nothing for the next one, and that one more before it makes no difference.
use Rattle.std.proofs.Common.{◌≡◌, ℕ, zero, suc, ◌+◌, ◌≤◌, ◌<◌, ◌∙◌, Bool, true, false, ◌&&◌, cond, ltb, List, [], ◌∷◌, Option, None, Some, length, map, refl, ap, sym, subst, arith}
use Rattle.std.specs.Option.{is_some, option_map}
use Rattle.std.specs.List.{count_by}
use Rattle.std.proofs.lemmas.Bool.{lt-ltb, ltb-true}
use Rattle.std.proofs.lemmas.List.Sums.{sum_by-cons}
use Rattle.slots.specs.Slots.{slot, kept, kept_from}
use Rattle.posix_model.specs.Proved.Laws.{SweepSettles, StepSettles, SweepLeaves}
use Rattle.posix_model.specs.Types.{Act, Bounds, World, Process, Description, File, Decided}
use Rattle.posix_model.specs.Step.{Stepped, stepped, comes_to, given, step}
use Rattle.posix_model.specs.Change.{changed}
use Rattle.posix_model.specs.Counts.{links, refs, holds, holders, reads, readers, writes, writers}
use Rattle.posix_model.specs.Sweep.{is_referred, is_open, is_wanted, open_pipe, without_gone_pipe, sweep}
use Rattle.posix_model.specs.declared.world.File.TheVariants as file
use Rattle.posix_model.proofs.SlotLaws.{length_kept}

-- what the second test passes, the first has passed
abbrev Narrows : (ℕ → Bool) → (ℕ → Bool) → Type 0
Narrows first second = (n : ℕ) → second n ≡ true → first n ≡ true

fails_too : (b c : Bool) → (c ≡ true → b ≡ true) → b ≡ false → c ≡ false
fails_too b true h fails = sym (h refl) ∙ fails
fails_too b false h fails = refl

-- what is kept of what a wider test kept is what is kept
kept_twice : {T : Type 0} (p q : ℕ → Bool) → Narrows p q → (m : ℕ) (xs : List (Option T)) → kept_from q m (kept_from p m xs) ≡ kept_from q m xs
kept_twice p q narrows m [] = refl
kept_twice p q narrows m (x ∷ xs) =
    let tail = kept_twice p q narrows (suc m) xs in
    elim (p m) as (λ b. p m ≡ b → cond (q m) (cond b x None) None ∷ kept_from q (suc m) (kept_from p (suc m) xs) ≡ cond (q m) x None ∷ kept_from q (suc m) xs) [
      | true ↦ λ _. ap (λ ys. cond (q m) x None ∷ ys) tail
      | false ↦ λ fails. rw (fails_too (p m) (q m) (narrows m) fails, tail) refl
    ] refl

mapped_twice : {T : Type 0} (f g : Option T → Option T) → g None ≡ None → ((x : Option T) → g (f x) ≡ g x) →
    (p q : ℕ → Bool) → Narrows p q → (m : ℕ) (xs : List (Option T)) →
    kept_from q m (map g (kept_from p m (map f xs))) ≡ kept_from q m (map g xs)
mapped_twice f g none same p q narrows m [] = refl
mapped_twice f g none same p q narrows m (x ∷ xs) =
    let tail = mapped_twice f g none same p q narrows (suc m) xs in
    elim (p m) as (λ b. p m ≡ b → cond (q m) (g (cond b (f x) None)) None ∷ kept_from q (suc m) (map g (kept_from p (suc m) (map f xs))) ≡ cond (q m)
    (g x) None ∷ kept_from q (suc m) (map g xs)) [
      | true ↦ λ _. rw (same x, tail) refl
      | false ↦ λ fails. rw (fails_too (p m) (q m) (narrows m) fails, tail) refl
    ] refl

-- a pipe that is gone is forgotten, sooner or later
forgets_later : (ds es : List (Option Description)) → Narrows (is_open ds) (is_open es) → (f : Option File) → without_gone_pipe es (without_gone_pipe ds f)
    ≡ without_gone_pipe es f
forgets_later ds es narrows None = refl
forgets_later ds es narrows (Some (file.Regular bytes)) = refl
forgets_later ds es narrows (Some (file.Fifo fifo)) = ap (λ pipe. Some (file.Fifo (record fifo { pipe = pipe }))) (later fifo.pipe)
  where
    later : (pipe : Option ℕ) → open_pipe es (open_pipe ds pipe) ≡ open_pipe es pipe
    later None = refl
    later (Some pipe) = elim (is_open ds pipe) as (λ b. is_open ds pipe ≡ b → open_pipe es (cond b (Some pipe) None) ≡ open_pipe es (Some pipe)) [
      | true ↦ λ _. refl
      | false ↦ λ fails. rw (fails_too (is_open ds pipe) (is_open es pipe) (narrows pipe) fails) refl
    ] refl

-- what an element that is tested adds to a count
abbrev pub one : Bool → ℕ
one b = cond b 1 0

-- a count falls where places are emptied
count_kept : {T : Type 0} (t : Option T → Bool) → t None ≡ false → (keeps : ℕ → Bool) (m : ℕ) (xs : List (Option T)) →
    count_by t (kept_from keeps m xs) ≤ count_by t xs
count_kept t none keeps m [] = omega arith
count_kept t none keeps m (x ∷ xs) =
    let tail = count_kept t none keeps (suc m) xs in
    let nothing : one (t None) ≡ 0 = rw none refl in
    elim (keeps m) as (λ b. count_by t (cond b x None ∷ kept_from keeps (suc m) xs) ≤ count_by t (x ∷ xs)) [
      | true ↦ omega (arith, tail, sum_by-cons (λ x. one (t x)) x xs, sum_by-cons (λ x. one (t x)) x (kept_from keeps (suc m) xs))
      | false ↦ omega (arith, tail, nothing, sum_by-cons (λ x. one (t x)) x xs, sum_by-cons (λ x. one (t x)) None (kept_from keeps (suc m) xs))
    ]

above : (a b : ℕ) → (0 < a → 0 < b) → ltb 0 a ≡ true → ltb 0 b ≡ true
above a b more h = lt-ltb 0 b (more (ltb-true 0 a h))

-- where references only fall, sweeping first makes no difference
pub sweep_first : (w : World) (ps : List (Option Process)) → ((n : ℕ) → 0 < refs ps n → 0 < refs w.processes n) →
    sweep (record (sweep w) { processes = ps }) ≡ sweep (record w { processes = ps })
sweep_first w ps falls =
    let ds = kept (is_referred w.processes) w.descriptions in
    let es = kept (is_referred ps) ds in
    let referred : Narrows (is_referred w.processes) (is_referred ps) = λ n. above (refs ps n) (refs w.processes n) (falls n) in
    let fewer = λ (t : Option Description → Bool) (none : t None ≡ false). count_kept t none (is_referred ps) 0 ds in
    let opened : Narrows (is_open ds) (is_open es) = λ n. above (readers es n + writers es n) (readers ds n + writers ds n)
    (λ more. omega (arith, more, fewer (reads n) refl, fewer (writes n) refl)) in
    let wanted : Narrows (is_wanted w.names ds) (is_wanted w.names es) = λ n. above (links w.names n + holders es n) (links w.names n + holders ds n)
    (λ more. omega (arith, more, fewer (holds n) refl)) in
    rw (
      ← kept_twice (is_referred w.processes) (is_referred ps) referred 0 w.descriptions,
      kept_twice (is_open ds) (is_open es) opened 0 w.pipes,
      mapped_twice (without_gone_pipe ds) (without_gone_pipe es) refl (forgets_later ds es opened) (is_wanted w.names ds)
          (is_wanted w.names es) wanted 0 w.files,
    ) refl

pub sweep_settles : SweepSettles
sweep_settles w = sweep_first w w.processes (λ n more. more)

-- a step, by what its act comes to
pub step_parts : (Has : Stepped → Type 0) (bounds : Bounds) (w : World) (actor : ℕ) (act : Act) (s : Stepped) →
    ((d : Decided) → comes_to bounds w actor act ≡ Some d → Has (stepped w (given act) d)) → step bounds w actor act ≡ Some s → Has s
step_parts Has bounds w actor act s all h = by_cases (comes_to bounds w actor act) all h
  where
    by_cases : (found : Option Decided) → ((d : Decided) → found ≡ Some d → Has (stepped w (given act) d)) → option_map (stepped w (given act)) found ≡ Some s →
        Has s
    by_cases None all h = cc
    by_cases (Some d) all h = let is : stepped w (given act) d ≡ s = cc in subst Has is (all d refl)

pub step_settles : StepSettles
step_settles bounds w actor act s h = step_parts (λ s. sweep s.world ≡ s.world) bounds w actor act s (λ d is. sweep_settles (changed w (given act) d.change)) h

either_way : {X : Type 0} (b : Bool) (x : X) → x ≡ cond b x x
either_way true x = refl
either_way false x = refl

-- what stands at a number of the places that are kept
slot_kept_from : {T : Type 0} (keeps : ℕ → Bool) (m : ℕ) (xs : List (Option T)) (n : ℕ) → slot (kept_from keeps m xs) n ≡ cond (keeps (m + n)) (slot xs n) None
slot_kept_from keeps m [] n = either_way (keeps (m + n)) None
slot_kept_from keeps m (x ∷ xs) zero = let e : m + 0 ≡ m = omega arith in rw e refl
slot_kept_from keeps m (x ∷ xs) (suc n) =
    let e : m + suc n ≡ suc m + n = omega arith in
    rw e (slot_kept_from keeps (suc m) xs n)

slot_kept : {T : Type 0} (keeps : ℕ → Bool) (xs : List (Option T)) (n : ℕ) → slot (kept keeps xs) n ≡ cond (keeps n) (slot xs n) None
slot_kept keeps xs n = let e : 0 + n ≡ n = omega arith in rw e at (slot_kept_from keeps 0 xs n)

pub length_mapped : {X Y : Type 0} (f : X → Y) (xs : List X) → length (map f xs) ≡ length xs
length_mapped f [] = refl
length_mapped f (x ∷ xs) = ap suc (length_mapped f xs)

-- what stands at a number of mapped places
pub slot_mapped : {X : Type 0} (f : Option X → Option X) → f None ≡ None → (xs : List (Option X)) (n : ℕ) → slot (map f xs) n ≡ f (slot xs n)
slot_mapped f none [] n = sym none
slot_mapped f none (x ∷ xs) zero = refl
slot_mapped f none (x ∷ xs) (suc n) = slot_mapped f none xs n

pub sweep_leaves : SweepLeaves
sweep_leaves w =
    let ds = kept (is_referred w.processes) w.descriptions in
    record {
      descriptions = λ n. slot_kept (is_referred w.processes) w.descriptions n;
      pipes = λ n. slot_kept (is_open ds) w.pipes n;
      files = λ n.
          slot_kept (is_wanted w.names ds) (map (without_gone_pipe ds) w.files) n ∙
          ap (λ x. cond (is_wanted w.names ds n) x None) (slot_mapped (without_gone_pipe ds) refl w.files n);
      numbers = (
        length_kept (is_referred w.processes) 0 w.descriptions,
        length_kept (is_open ds) 0 w.pipes,
        length_kept (is_wanted w.names ds) 0 (map (without_gone_pipe ds) w.files) ∙ length_mapped (without_gone_pipe ds) w.files,
      );
      processes = refl;
      names = refl;
      closed = refl;
    }

kept_there : {T : Type 0} (x : Option T) (b : Bool) → is_some (cond b x None) ≡ (is_some x && b)
kept_there None true = refl
kept_there None false = refl
kept_there (Some x) true = refl
kept_there (Some x) false = refl

pub still_there : (ds : List (Option Description)) (x : Option File) → is_some (without_gone_pipe ds x) ≡ is_some x
still_there ds None = refl
still_there ds (Some (file.Regular bytes)) = refl
still_there ds (Some (file.Fifo fifo)) = refl

-- what is there after a sweep
pub record LeavesThere (w v : World) : Type 0 where
  pub descriptions : (n : ℕ) → is_some (slot v.descriptions n) ≡ (is_some (slot w.descriptions n) && is_referred v.processes n)
  pub pipes : (n : ℕ) → is_some (slot v.pipes n) ≡ (is_some (slot w.pipes n) && is_open v.descriptions n)
  pub files : (n : ℕ) → is_some (slot v.files n) ≡ (is_some (slot w.files n) && is_wanted v.names v.descriptions n)

pub sweep_leaves_there : (w : World) → LeavesThere w (sweep w)
sweep_leaves_there w =
    let left = sweep_leaves w in
    let ds = (sweep w).descriptions in
    record {
      descriptions = λ n. ap is_some (left.descriptions n) ∙ kept_there (slot w.descriptions n) (is_referred w.processes n);
      pipes = λ n. ap is_some (left.pipes n) ∙ kept_there (slot w.pipes n) (is_open ds n);
      files = λ n.
          ap is_some (left.files n) ∙
          (kept_there (without_gone_pipe ds (slot w.files n)) (is_wanted w.names ds n) ∙
          ap (λ b. b && is_wanted w.names ds n) (still_there ds (slot w.files n)));
    }
