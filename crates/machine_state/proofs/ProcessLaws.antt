-- Processes that come, change and go.
use Rattle.std.proofs.Common.{◌≡◌, ℕ, zero, suc, ◌≤◌, ◌<◌, ◌+◌, ◌-◌, ◌∙◌, Bool, true, List, [], ◌∷◌, ◌++◌, Option, None, Some, length, set, refl, ap, sym, arith}
use Rattle.std.specs.Prelude.{is_some}
use Rattle.call_types.specs.declared.limits.TheConstants.{OPEN_MAX, PROCESSES_MAX}
use Rattle.slots.specs.Slots.{slot, live, edited}
use Rattle.posix_model.specs.Counts.{refs, refs_of}
use Rattle.process_table.specs.Processes.{with_entry, table_of, process_with}
use Rattle.posix_model.specs.Change.{with_processes}
use Rattle.posix_model.specs.Proved.Whole.{EachThere}
use Rattle.posix_model.specs.Kept.{IsThere}
use Rattle.posix_model.specs.Proved.Fits.{CanAdd, CanSet}
use Rattle.posix_model.specs.Sweep.{sweep}
use Rattle.posix_model.specs.Descriptors.{with_descriptor}
use Rattle.posix_model.specs.Proved.Drops.{closed_below}
use Rattle.machine_state.specs.Proved.Types.{World, Process, Description}
use Rattle.posix_model.specs.declared.change.ProcessEdit.TheVariants as on_process
use Rattle.slots.specs.UsedSlots.{values_in}
use Rattle.machine_state.specs.Proved.Uses.{with_uses}
use Rattle.machine_state.specs.Held.{Stored, world_in}
use Rattle.machine_state.specs.Proved.Consistent.{IsConsistent}
use Rattle.machine_state.proofs.SlotLaws.{each_set, each_added, each_edited}
use Rattle.machine_state.proofs.UseLaws.{there_values, counted_as, counted_uses, values_uses}
use Rattle.machine_state.proofs.CountLaws.{refs_added, refs_same, refs_without, live_added, live_edited, live_without}
use Rattle.machine_state.proofs.StoredLaws.{HasAll, facts_of, consistent_of}

module _ (s : Stored) (all : IsConsistent s) where
  abbrev ds : List (Option Description)
  ds = values_in s.descriptions

  -- a new process refers to what is there
  abbrev pub added : List (Option ℕ) → Bool → Stored
  added table attached = record s { descriptions = with_uses table s.descriptions; processes = s.processes ++ Some (process_with table attached) ∷ [] }

  pub after_add : (table : List (Option ℕ)) (attached : Bool) → CanAdd (world_in s) table → live s.processes < PROCESSES_MAX →
      IsConsistent (added table attached)
  after_add table attached can few =
      let facts = facts_of s all in
      let child = process_with table attached in
      let values : values_in (with_uses table s.descriptions) ≡ ds = values_uses table s.descriptions in
      consistent_of (added table attached) (record {
        references = counted_uses table s.descriptions (λ n. refs s.processes n) (λ n. refs (added table attached).processes n) facts.references
            (λ k n is. sym (there_values s.descriptions n) ∙ can.there k n is) (λ n. refs_added s.processes child n);
        uses = rw values facts.uses;
        links = facts.links;
        pipes = rw values facts.pipes;
        fifos = rw values facts.fifos;
        spare = facts.spare;
        tables = each_added HasAll s.processes child facts.tables can.all;
        few_processes = omega (arith, few, live_added s.processes child);
        few_descriptions = rw values facts.few_descriptions;
        few_names = facts.few_names;
      })

  pub added_world : (table : List (Option ℕ)) (attached : Bool) → world_in (added table attached) ≡ with_processes (world_in s) (on_process.Add table attached)
  added_world table attached = rw (values_uses table s.descriptions) refl

  -- a process is another, with the descriptors that it had
  pub after_process : (p : ℕ) (f : Process → Process) → ((x : Process) → (f x).table ≡ x.table) → IsConsistent (record s { processes = edited p f s.processes })
  after_process p f same =
      let facts = facts_of s all in
      let ps = edited p f s.processes in
      consistent_of (record s { processes = ps }) (record {
        references = counted_as s.descriptions (λ n. refs s.processes n) (λ n. refs ps n) facts.references (λ n. refs_same s.processes p f n same);
        uses = facts.uses;
        links = facts.links;
        pipes = facts.pipes;
        fifos = facts.fifos;
        spare = facts.spare;
        tables = each_edited HasAll s.processes p f facts.tables (λ x h. ap length (same x) ∙ h);
        few_processes = omega (arith, facts.few_processes, live_edited s.processes p f);
        few_descriptions = facts.few_descriptions;
        few_names = facts.few_names;
      })

  -- a process that has no open descriptor goes
  pub after_remove : (p : ℕ) → ((n : ℕ) → refs_of n (slot s.processes p) ≡ 0) → IsConsistent (record s { processes = set s.processes p None })
  after_remove p bare =
      let facts = facts_of s all in
      let ps = set s.processes p None in
      consistent_of (record s { processes = ps }) (record {
        references = counted_as s.descriptions (λ n. refs s.processes n) (λ n. refs ps n) facts.references (λ n. refs_without s.processes p n (bare n));
        uses = facts.uses;
        links = facts.links;
        pipes = facts.pipes;
        fifos = facts.fifos;
        spare = facts.spare;
        tables = each_set HasAll s.processes p None facts.tables (λ x h. cc);
        few_processes = omega (arith, facts.few_processes, live_without s.processes p);
        few_descriptions = facts.few_descriptions;
        few_names = facts.few_names;
      })

-- a descriptor of a process that is there can be closed
pub can_close : (w : World) (p fd : ℕ) → EachThere (λ process. length process.table ≡ OPEN_MAX) w.processes → IsThere w.processes p → fd < OPEN_MAX →
    CanSet w p fd None
can_close w p fd tables there below = by_slot (slot w.processes p) refl there
  where
    by_slot : (x : Option Process) → slot w.processes p ≡ x → is_some x ≡ true → CanSet w p fd None
    by_slot None is some = cc
    by_slot (Some process) is some = record { process = process; process_is = is; within = omega (arith, below, tables p process is); there = λ n h. cc }

-- a process has no more descriptors than there may be
pub table_most : (w : World) (p : ℕ) → EachThere (λ process. length process.table ≡ OPEN_MAX) w.processes → length (table_of (slot w.processes p)) ≤ OPEN_MAX
table_most w p tables = by_slot (slot w.processes p) refl
  where
    by_slot : (x : Option Process) → slot w.processes p ≡ x → length (table_of x) ≤ OPEN_MAX
    by_slot None is = omega arith
    by_slot (Some process) is = omega (arith, tables p process is)

-- an entry that is written leaves its process where it is
pub still_there : (ps : List (Option Process)) (p fd : ℕ) (entry : Option ℕ) → IsThere ps p → IsThere (edited p (with_entry fd entry) ps) p
still_there [] p fd entry there = cc
still_there (None ∷ ps) zero fd entry there = cc
still_there (Some x ∷ ps) zero fd entry there = refl
still_there (x ∷ ps) (suc p) fd entry there = still_there ps p fd entry there

-- what is free stays the same where it is freed
cleared : {X : Type 0} (xs : List (Option X)) (n : ℕ) → slot xs n ≡ None → set xs n None ≡ xs
cleared [] n free = refl
cleared (x ∷ xs) zero free = ap (λ y. y ∷ xs) (sym free)
cleared (x ∷ xs) (suc n) free = ap (λ ys. x ∷ ys) (cleared xs n free)

-- so a descriptor that is not open can be freed, and nothing changes
pub freed_again : (ps : List (Option Process)) (p fd : ℕ) → slot (table_of (slot ps p)) fd ≡ None → edited p (with_entry fd None) ps ≡ ps
freed_again [] p fd free = refl
freed_again (None ∷ ps) zero fd free = refl
freed_again (Some x ∷ ps) zero fd free = ap (λ table. Some (record x { table = table }) ∷ ps) (cleared x.table fd free)
freed_again (x ∷ ps) (suc p) fd free = ap (λ qs. x ∷ qs) (freed_again ps p fd free)

-- where the descriptors from a number on are not open, closing them too changes nothing
closed_on : (p from more : ℕ) (w u : World) → u ≡ closed_below p from w → sweep u ≡ u →
    ((k : ℕ) → from ≤ k → k < from + more → slot (table_of (slot u.processes p)) k ≡ None) →
    closed_below p (from + more) w ≡ u
closed_on p from zero w u is settled free =
    let place : from + 0 ≡ from = omega arith in
    ap (λ n. closed_below p n w) place ∙ sym is
closed_on p from (suc more) w u is settled free =
    let before = closed_on p from more w u is settled (λ k after below. free k after (omega (arith, below))) in
    let place : from + suc more ≡ suc (from + more) = omega arith in
    let same = freed_again u.processes p (from + more) (free (from + more) (omega arith) (omega arith)) in
    ap (λ n. closed_below p n w) place ∙ ap (λ v. sweep (with_descriptor v p (from + more) None)) before ∙ ap (λ ps. sweep (record u { processes = ps })) same ∙
    settled

pub closed_to : (p from to : ℕ) (w u : World) → from ≤ to → u ≡ closed_below p from w → sweep u ≡ u →
    ((k : ℕ) → from ≤ k → k < to → slot (table_of (slot u.processes p)) k ≡ None) →
    closed_below p to w ≡ u
closed_to p from to w u after is settled free =
    let place : to ≡ from + (to - from) = omega (arith, after) in
    ap (λ n. closed_below p n w) place ∙ closed_on p from (to - from) w u is settled (λ k from_on below. free k from_on (omega (arith, below, after)))
