-- The open ends of pipes, counted where the pipes are stored.
use Rattle.std.proofs.Common.{◌≡◌, ℕ, ◌+◌, ◌-◌, ◌≤◌, ◌<◌, ◌∙◌, Bool, true, false, ◌&&◌, cond, ltb, List, [], ◌∷◌, ◌++◌, Option, None, Some, length, set, refl, ap, sym, arith, eqb, ◌⊎◌, inl, inr}
use Rattle.std.specs.Prelude.{is_some}
use Rattle.std.proofs.lemmas.List.Sums.{sum_by-cons}
use Rattle.std.proofs.lemmas.Bool.{lt-ltb, ltb-true}
use Rattle.slots.specs.Slots.{slot, edited}
use Rattle.slots.specs.UsedSlots.{value_at, values_in}
use Rattle.slots.specs.Proved.Uses.{used_once, with_value}
use Rattle.call_types.specs.Descriptions.{can_read, can_write}
use Rattle.posix_model.specs.Counts.{refers, is_pipe, reads, writes, readers, writers}
use Rattle.posix_model.specs.Pipes.{pipe_at}
use Rattle.posix_model.specs.Sweep.{is_open}
use Rattle.posix_model.specs.Proved.Whole.{EachThere, StaysOpen}
use Rattle.posix_model.specs.Proved.Released.{pipes_after}
use Rattle.machine_state.specs.Proved.Types.{Description, Target, Mode, Used, Ring, StoredPipe}
use Rattle.call_types.specs.declared.description.Target.TheVariants as target
use Rattle.call_types.specs.declared.description.Mode.TheVariants as mode
use Rattle.description_table.specs.declared.Dropped.TheVariants.{Gone}
use Rattle.machine_state.specs.Proved.Uses.{with_use, without_use}
use Rattle.pipe_table.specs.Proved.Pipes.{readers_at, writers_at, endless, with_end, without_end, HasEnd, HasEndAt}
use Rattle.machine_state.specs.StoredPipes.{pipe_slots}
use Rattle.machine_state.specs.Proved.Pipes.{is_end, open_ends, with_end_at, counted_less}
use Rattle.machine_state.specs.Proved.Targets.{pipes_left}
use Rattle.slots.proofs.SlotLaws.{is_itself}
use Rattle.machine_state.proofs.SlotLaws.{one, each_set, each_added, each_edited}
use Rattle.machine_state.proofs.UseLaws.{Counted, slot_values, there_values, there_edited, counted_as, counted_more, values_more, counted_added, values_added, length_values, counted_edited, values_edited, full, positive, StaysUsed, Goes, LosesUse, loses_use}
use Rattle.machine_state.proofs.PipeLaws.{Pipes, pipe_slots_set, pipes_same, ring_with, ring_without}
use Rattle.machine_state.proofs.LinkLaws.{Tallies, tallies_more, tallies_fewer, tallies_kept, tallies_added, tallies_less}
use Rattle.machine_state.proofs.CountLaws.{count_gone, count_added, count_edited, count_there}

-- a target is the pipe that it is an end of
pub pipe_refers : (p : ℕ) (t : Target) → is_pipe p t ≡ refers p (pipe_at t)
pipe_refers p (target.Regular f) = refl
pipe_refers p (target.Pipe q) = refl
pipe_refers p (target.Fifo f q) = refl

-- each end can read or write
module _ (p : ℕ) where
  of_mode : (b : Bool) (m : Mode) → (one b ≤ one (b && can_read m) + one (b && can_write m)) × (one (b && can_read m) ≤ one b) ×
      (one (b && can_write m) ≤ one b)
  of_mode false m = (omega arith, omega arith, omega arith)
  of_mode true mode.Read = (omega arith, omega arith, omega arith)
  of_mode true mode.Write = (omega arith, omega arith, omega arith)
  of_mode true mode.ReadWrite = (omega arith, omega arith, omega arith)

  at_slot : (x : Option Description) → (one (is_end p x) ≤ one (reads p x) + one (writes p x)) × (one (reads p x) ≤ one (is_end p x)) ×
      (one (writes p x) ≤ one (is_end p x))
  at_slot None = (omega arith, omega arith, omega arith)
  at_slot (Some d) = of_mode (is_pipe p d.target) d.mode

  pub ends_within : (ds : List (Option Description)) → (open_ends ds p ≤ readers ds p + writers ds p) × (readers ds p ≤ open_ends ds p) ×
      (writers ds p ≤ open_ends ds p)
  ends_within [] = (omega arith, omega arith, omega arith)
  ends_within (x ∷ ds) =
      let rest = ends_within ds in
      let here = at_slot x in
      let e = sum_by-cons (λ x. one (is_end p x)) x ds in
      let r = sum_by-cons (λ x. one (reads p x)) x ds in
      let w = sum_by-cons (λ x. one (writes p x)) x ds in
      (omega (arith, rest.0, here.0, e, r, w), omega (arith, rest.1, here.1, e, r), omega (arith, rest.2, here.2, e, w))

module _ (ds : List (Option Description)) (p : ℕ) where
  pub open_of : 0 < open_ends ds p → is_open ds p ≡ true
  open_of some = lt-ltb 0 (readers ds p + writers ds p) (omega (arith, some, (ends_within p ds).0))

  pub some_of : is_open ds p ≡ true → 0 < open_ends ds p
  some_of opens = omega (arith, ltb-true 0 (readers ds p + writers ds p) opens, (ends_within p ds).1, (ends_within p ds).2)

  pub closed_of : open_ends ds p ≡ 0 → is_open ds p ≡ false
  closed_of nothing = let zero_left : readers ds p + writers ds p ≡ 0 = omega (arith, nothing, (ends_within p ds).1, (ends_within p ds).2) in
      ap (ltb 0) zero_left

-- a pipe has the ends that it had, and can hold as many bytes
pub record KeepsEnds (f : StoredPipe → StoredPipe) : Type 0 where
  pub readers : (x : StoredPipe) → (f x).readers ≡ x.readers
  pub writers : (x : StoredPipe) → (f x).writers ≡ x.writers
  pub capacity : (x : StoredPipe) → (f x).ring.capacity ≡ x.ring.capacity

-- the pipes as they are stored, with the counts of these descriptions
pub record PipeFacts (xs : Pipes) (ds : List (Option Description)) (capacity : ℕ) : Type 0 where
  pub ends : Counted xs (λ p. open_ends ds p)
  pub readers : Tallies readers_at (values_in xs) (λ p. readers ds p)
  pub writers : Tallies writers_at (values_in xs) (λ p. writers ds p)
  pub capacities : EachThere (λ pipe. pipe.ring.capacity ≡ capacity) (values_in xs)

-- a change of the ends by one description
pub record Adds (ds es : List (Option Description)) (e : Option ℕ) (m : Mode) : Type 0 where
  pub ends : (n : ℕ) → open_ends es n ≡ open_ends ds n + one (refers n e)
  pub readers : (n : ℕ) → readers es n ≡ readers ds n + one (refers n e && can_read m)
  pub writers : (n : ℕ) → writers es n ≡ writers ds n + one (refers n e && can_write m)

pub adds : (ds : List (Option Description)) (d : Description) → Adds ds (ds ++ Some d ∷ []) (pipe_at d.target) d.mode
adds ds d = record {
  ends = λ n. count_added (is_end n) refl ds d ∙ ap (λ b. open_ends ds n + one b) (pipe_refers n d.target);
  readers = λ n. count_added (reads n) refl ds d ∙ ap (λ b. readers ds n + one (b && can_read d.mode)) (pipe_refers n d.target);
  writers = λ n. count_added (writes n) refl ds d ∙ ap (λ b. writers ds n + one (b && can_write d.mode)) (pipe_refers n d.target);
}

pub record Takes (ds es : List (Option Description)) (e : Option ℕ) (m : Mode) : Type 0 where
  pub ends : (n : ℕ) → open_ends es n + one (refers n e) ≡ open_ends ds n
  pub readers : (n : ℕ) → readers es n + one (refers n e && can_read m) ≡ readers ds n
  pub writers : (n : ℕ) → writers es n + one (refers n e && can_write m) ≡ writers ds n

pub takes : (ds : List (Option Description)) (k : ℕ) (d : Description) → slot ds k ≡ Some d → Takes ds (set ds k None) (pipe_at d.target) d.mode
takes ds k d is = record {
  ends = λ n. ap (λ b. open_ends (set ds k None) n + one b) (sym (pipe_refers n d.target)) ∙ count_gone (is_end n) refl ds k d is;
  readers = λ n. ap (λ b. readers (set ds k None) n + one (b && can_read d.mode)) (sym (pipe_refers n d.target)) ∙ count_gone (reads n) refl ds k d is;
  writers = λ n. ap (λ b. writers (set ds k None) n + one (b && can_write d.mode)) (sym (pipe_refers n d.target)) ∙ count_gone (writes n) refl ds k d is;
}

-- what one end more or less is in the stored numbers
reading_with : (m : Mode) (x : StoredPipe) → (with_end m x).readers ≡ x.readers + one (can_read m)
reading_with mode.Read x = refl
reading_with mode.Write x = omega arith
reading_with mode.ReadWrite x = refl

writing_with : (m : Mode) (x : StoredPipe) → (with_end m x).writers ≡ x.writers + one (can_write m)
writing_with mode.Read x = omega arith
writing_with mode.Write x = refl
writing_with mode.ReadWrite x = refl

reading_without : (m : Mode) (x : StoredPipe) → (without_end m x).readers ≡ x.readers - one (can_read m)
reading_without mode.Read x = refl
reading_without mode.Write x = omega arith
reading_without mode.ReadWrite x = refl

writing_without : (m : Mode) (x : StoredPipe) → (without_end m x).writers ≡ x.writers - one (can_write m)
writing_without mode.Read x = omega arith
writing_without mode.Write x = refl
writing_without mode.ReadWrite x = refl

module _ (xs : Pipes) (ds : List (Option Description)) (capacity : ℕ) (facts : PipeFacts xs ds capacity) where
  -- the counts of other descriptions are the same
  pub pipes_as : (es : List (Option Description)) → ((n : ℕ) → open_ends es n ≡ open_ends ds n) → ((n : ℕ) → readers es n ≡ readers ds n) →
      ((n : ℕ) → writers es n ≡ writers ds n) → PipeFacts xs es capacity
  pipes_as es ends reading writing = record {
    ends = counted_as xs (λ p. open_ends ds p) (λ p. open_ends es p) facts.ends ends;
    readers = λ n. facts.readers n ∙ sym (reading n);
    writers = λ n. facts.writers n ∙ sym (writing n);
    capacities = facts.capacities;
  }

  -- a description has another offset, or other flags
  pub pipes_moved : (n : ℕ) (f : Description → Description) → StaysOpen f → PipeFacts xs (edited n f ds) capacity
  pipes_moved n f stays = pipes_as (edited n f ds) (λ p. count_edited (is_end p) refl ds n f (λ d. rw (stays.target d) refl))
      (λ p. count_edited (reads p) refl ds n f (λ d. rw (stays.target d, stays.mode d) refl))
      (λ p. count_edited (writes p) refl ds n f (λ d. rw (stays.target d, stays.mode d) refl))

  -- a pipe has other bytes
  pub pipes_kept : (n : ℕ) (f : StoredPipe → StoredPipe) → KeepsEnds f → PipeFacts (edited n (with_value f) xs) ds capacity
  pipes_kept n f same =
      let values = values_edited xs n f in
      record {
        ends = counted_edited xs (λ p. open_ends ds p) n f facts.ends;
        readers = rw values (tallies_kept readers_at refl (values_in xs) (λ p. readers ds p) n f same.readers facts.readers);
        writers = rw values (tallies_kept writers_at refl (values_in xs) (λ p. writers ds p) n f same.writers facts.writers);
        capacities = rw values (each_edited (λ (pipe : StoredPipe). pipe.ring.capacity ≡ capacity) (values_in xs) n f facts.capacities (λ x h. same.capacity x ∙
            h));
      }

  -- a pipe has one end more
  pub pipes_opened : (es : List (Option Description)) (e : Option ℕ) (m : Mode) → Adds ds es e m → ((n : ℕ) → e ≡ Some n → is_some (slot xs n) ≡ true) →
      PipeFacts (with_end_at e m xs) es capacity
  pipes_opened es None m more there = pipes_as es (λ n. omega (arith, more.ends n)) (λ n. omega (arith, more.readers n)) (λ n. omega (arith, more.writers n))
  pipes_opened es (Some k) m more there =
      let ys : Pipes = edited k (with_value (with_end m)) xs in
      let values : values_in (with_use (Some k) ys) ≡ edited k (with_end m) (values_in xs) = values_more ys (Some k) ∙ values_edited xs k (with_end m) in
      let stored : is_some (slot xs k) ≡ true = there k refl in
      let stands : is_some (slot (values_in xs) k) ≡ true = there_values xs k ∙ stored in
      record {
        ends = counted_more ys (λ p. open_ends ds p) (λ p. open_ends es p) (Some k) (counted_edited xs (λ p. open_ends ds p) k (with_end m) facts.ends)
            (λ n is. there_edited xs k (with_value (with_end m)) n (there n is)) more.ends;
        readers = rw values (tallies_more readers_at refl (values_in xs) (λ p. readers ds p) (λ p. readers es p) k (with_end m)
            (can_read m) facts.readers stands (reading_with m) more.readers);
        writers = rw values (tallies_more writers_at refl (values_in xs) (λ p. writers ds p) (λ p. writers es p) k (with_end m)
            (can_write m) facts.writers stands (writing_with m) more.writers);
        capacities = rw values (each_edited (λ (pipe : StoredPipe). pipe.ring.capacity ≡ capacity) (values_in xs) k (with_end m) facts.capacities
            (λ x h. ap (λ (ring : Ring). ring.capacity) (ring_with m x) ∙ h));
      }

  -- a pipe is added with one end
  pub pipes_first : (es : List (Option Description)) (m : Mode) (ring : Ring) → Adds ds es (Some (length xs)) m → ring.capacity ≡ capacity →
      PipeFacts (xs ++ Some (used_once (with_end m (endless ring))) ∷ []) es capacity
  pipes_first es m ring more right =
      let pipe = with_end m (endless ring) in
      let values = values_added xs pipe in
      let reads_more : (n : ℕ) → readers es n ≡ readers ds n + one (eqb (length (values_in xs)) n && can_read m) =
      λ n. rw (length_values xs) (more.readers n) in
      let writes_more : (n : ℕ) → writers es n ≡ writers ds n + one (eqb (length (values_in xs)) n && can_write m) =
      λ n. rw (length_values xs) (more.writers n) in
      record {
        ends = counted_added xs (λ p. open_ends ds p) (λ p. open_ends es p) pipe facts.ends more.ends;
        readers = rw values (tallies_added readers_at refl (values_in xs) (λ p. readers ds p) (λ p. readers es p) pipe (can_read m) facts.readers
            (omega (arith, reading_with m (endless ring))) reads_more);
        writers = rw values (tallies_added writers_at refl (values_in xs) (λ p. writers ds p) (λ p. writers es p) pipe (can_write m) facts.writers
            (omega (arith, writing_with m (endless ring))) writes_more);
        capacities = rw values (each_added (λ (pipe : StoredPipe). pipe.ring.capacity ≡ capacity) (values_in xs) pipe facts.capacities
            (ap (λ (ring : Ring). ring.capacity) (ring_with m (endless ring)) ∙ right));
      }

  -- an end of a pipe is stored with it
  pub has_end : (k : ℕ) (d : Description) → slot ds k ≡ Some d → (n : ℕ) → pipe_at d.target ≡ Some n → HasEndAt xs d.mode n
  has_end k d is n on =
      let ending : is_end n (Some d) ≡ true = pipe_refers n d.target ∙ (ap (refers n) on ∙ is_itself n) in
      let used = full (slot xs n) (positive (slot xs n) (omega (arith, count_there (is_end n) refl ds k d is ending, (facts.ends n).uses))) in
      (used.0, used.1, by_mode used.0 used.1 ending d.mode refl)
    where
      by_mode : (used : Used StoredPipe) → slot xs n ≡ Some used → is_pipe n d.target ≡ true → (m : Mode) → d.mode ≡ m → HasEnd m used.value
      by_mode used here ending m same =
          let stored : slot (values_in xs) n ≡ Some used.value = slot_values xs n ∙ ap value_at here in
          let reading : used.value.readers ≡ readers ds n = ap readers_at (sym stored) ∙ facts.readers n in
          let writing : used.value.writers ≡ writers ds n = ap writers_at (sym stored) ∙ facts.writers n in
          let some_reader : can_read m ≡ true → 0 < used.value.readers =
          λ h. omega (arith, reading, count_there (reads n) refl ds k d is (ap (λ b. b && can_read d.mode) ending ∙ (ap can_read same ∙ h))) in
          let some_writer : can_write m ≡ true → 0 < used.value.writers =
          λ h. omega (arith, writing, count_there (writes n) refl ds k d is (ap (λ b. b && can_write d.mode) ending ∙ (ap can_write same ∙ h))) in
          each m some_reader some_writer
        where
          each : (m : Mode) → (can_read m ≡ true → 0 < used.value.readers) → (can_write m ≡ true → 0 < used.value.writers) → HasEnd m used.value
          each mode.Read r w = r refl
          each mode.Write r w = w refl
          each mode.ReadWrite r w = (r refl, w refl)

  -- a pipe has one end less, and goes with its last
  module _ (es : List (Option Description)) (e : Option ℕ) (m : Mode) (less : Takes ds es e m) where
    counted : (e : Option ℕ) → Counted (counted_less e m xs) (λ p. open_ends ds p)
    counted None = facts.ends
    counted (Some k) = counted_edited xs (λ p. open_ends ds p) k (without_end m) facts.ends

    pub loses_end : LosesUse (counted_less e m xs) (λ p. open_ends es p) e
    loses_end = loses_use (counted_less e m xs) (λ p. open_ends ds p) (λ p. open_ends es p) e (counted e) less.ends

  abbrev Fewer : (List (Option Description)) → Option ℕ → Mode → Type 0
  Fewer es e m = Tallies readers_at (values_in (counted_less e m xs)) (λ p. readers es p) × Tallies writers_at (values_in (counted_less e m xs))
      (λ p. writers es p) ×
      EachThere (λ pipe. pipe.ring.capacity ≡ capacity) (values_in (counted_less e m xs))

  fewer : (es : List (Option Description)) (e : Option ℕ) (m : Mode) → Takes ds es e m → Fewer es e m
  fewer es None m less = (λ n. omega (arith, facts.readers n, less.readers n), λ n. omega (arith, facts.writers n, less.writers n), facts.capacities)
  fewer es (Some k) m less =
      let values = values_edited xs k (without_end m) in (
        rw values (tallies_fewer readers_at refl (values_in xs) (λ p. readers ds p) (λ p. readers es p) k (without_end m) (can_read m) facts.readers
            (reading_without m) less.readers),
        rw values (tallies_fewer writers_at refl (values_in xs) (λ p. writers ds p) (λ p. writers es p) k (without_end m) (can_write m) facts.writers
            (writing_without m) less.writers),
        rw values (each_edited (λ (pipe : StoredPipe). pipe.ring.capacity ≡ capacity) (values_in xs) k (without_end m) facts.capacities
            (λ x h. ap (λ (ring : Ring). ring.capacity) (ring_without m x) ∙ h)),
      )

  pub pipes_closed : (es : List (Option Description)) (e : Option ℕ) (m : Mode) → Takes ds es e m → PipeFacts (without_use e (counted_less e m xs)) es capacity
  pipes_closed es e m less =
      let loses = loses_end es e m less in
      let left = fewer es e m less in
      let ys = counted_less e m xs in
      record {
        ends = loses.counted;
        readers = tallies_less readers_at refl ys (λ p. open_ends es p) (λ p. readers es p) e loses.either
            (λ n nothing. omega (arith, nothing, (ends_within n es).1)) left.0;
        writers = tallies_less writers_at refl ys (λ p. open_ends es p) (λ p. writers es p) e loses.either
            (λ n nothing. omega (arith, nothing, (ends_within n es).2)) left.1;
        capacities = each_left ys loses.either left.2;
      }
    where
      each_left : (ys : Pipes) → StaysUsed ys (λ p. open_ends es p) e ⊎ Goes ys (λ p. open_ends es p) e → EachThere (λ pipe. pipe.ring.capacity ≡ capacity)
          (values_in ys) →
          EachThere (λ pipe. pipe.ring.capacity ≡ capacity) (values_in (without_use e ys))
      each_left ys (inl stays) each = rw stays.values each
      each_left ys (inr goes) each = rw goes.values (each_set (λ (pipe : StoredPipe). pipe.ring.capacity ≡ capacity) (values_in ys) goes.number None each
          (λ x h. cc))

  same_number : (a b : ℕ) → Some a ≡ Some b → a ≡ b
  same_number a b e = cc

  released_at : (es : List (Option Description)) (k : ℕ) (m : Mode) → Takes ds es (Some k) m →
      pipe_slots (values_in (without_use (Some k) (counted_less (Some k) m xs))) ≡ cond (is_open es k) (pipe_slots (values_in xs))
      (set (pipe_slots (values_in xs)) k None)
  released_at es k m less =
      let ys : Pipes = counted_less (Some k) m xs in
      let same : pipe_slots (values_in ys) ≡ pipe_slots (values_in xs) =
      pipes_same xs k (without_end m) (λ x. ap (λ (ring : Ring). ring.bytes) (ring_without m x)) in
      elim (loses_end es (Some k) m less).either as (λ _. pipe_slots (values_in (without_use (Some k) ys)) ≡ cond (is_open es k) (pipe_slots (values_in xs))
      (set (pipe_slots (values_in xs)) k None)) [
        | inl stays ↦ let still : is_open es k ≡ true = open_of es k (stays.used k refl) in rw (still, stays.values) same
        | inr goes ↦
            let here : goes.number ≡ k = sym (same_number k goes.number goes.entry_is) in
            let gone : is_open es k ≡ false = closed_of es k (ap (open_ends es) (sym here) ∙ goes.none) in
            rw (gone, goes.values, here) (pipe_slots_set (values_in ys) k None ∙ ap (λ ps. set ps k None) same)
      ]

  -- what is left of the pipes of the world
  pub pipes_released : (es : List (Option Description)) (t : Target) (m : Mode) → Takes ds es (pipe_at t) m → pipe_slots (values_in (pipes_left (Gone t m) xs))
      ≡ pipes_after es (pipe_slots (values_in xs)) t
  pipes_released es (target.Regular f) m less = refl
  pipes_released es (target.Pipe p) m less = released_at es p m less
  pipes_released es (target.Fifo f p) m less = released_at es p m less

-- one end more is no matter to the pipes of the world
pub pipes_held : (xs : Pipes) (e : Option ℕ) (m : Mode) → pipe_slots (values_in (with_end_at e m xs)) ≡ pipe_slots (values_in xs)
pipes_held xs None m = refl
pipes_held xs (Some k) m =
    let ys : Pipes = edited k (with_value (with_end m)) xs in
    ap pipe_slots (values_more ys (Some k)) ∙ pipes_same xs k (with_end m) (λ x. ap (λ (ring : Ring). ring.bytes) (ring_with m x))
