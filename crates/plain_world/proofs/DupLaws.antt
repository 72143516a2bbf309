-- What dup and dup2 do to descriptors.
use Rattle.std.proofs.Common.{◌≡◌, ◌≢◌, ◌∙◌, ℕ, ℤ, pos, negsuc, nat_abs, ◌<◌, Bool, true, false, cond, [], ◌∷◌, Option, None, Some, length, refl, ap, sym, subst, arith, eqb, eqb-true, eq-eqb}
use Rattle.std.specs.Option.{option_map, is_some, is_none, unwrap_or}
use Rattle.std.proofs.lemmas.Bool.Decides.{nat_tests}
use Rattle.std.proofs.lemmas.List.{get_or-set_same, get_or-set_other}
use Rattle.slots.specs.Slots.{slot, lowest}
use Rattle.posix_model.specs.Proved.Numbers.{IsLowest}
use Rattle.process_table.specs.Processes.{table_of, with_entry}
use Rattle.posix_model.specs.Descriptors.{opened, opened_number, opened_description, with_descriptor}
use Rattle.posix_model.specs.Proved.Sound.{number_of}
use Rattle.posix_model.specs.Change.{changed}
use Rattle.posix_model.specs.Pages.{first_fault, tells, does}
use Rattle.posix_model.specs.Open.{free_descriptor}
use Rattle.posix_model.specs.Dup.{dup}
use Rattle.posix_model.specs.Dup2.{is_no_descriptor, dup2}
use Rattle.posix_model.specs.declared.change.FileEdit.TheVariants as on_files
use Rattle.posix_model.specs.declared.change.TableEdit.TheVariants as on_table
use Rattle.plain_world.specs.Proved.Types.{World, Process, OpenDescriptor, OPEN_MAX, EMFILE, Replied, Number}
use Rattle.plain_world.specs.Proved.DescriptorLaws.{Leads, DupLeads, Dup2Leads, Dup2KeepsEqual}
use Rattle.posix_model.proofs.PageLaws.{if_has}
use Rattle.plain_world.proofs.PageLemmas.{open_free_has}
use Rattle.plain_world.proofs.OpenedLemmas.{opened_stands}
use Rattle.plain_world.proofs.StepLaws.{lowest_is_least}
use Rattle.plain_world.proofs.SlotLemmas.{slot_edited}

-- an open descriptor is one of a process that is there
process_there : (there : Option Process) (fd n : ℕ) → slot (table_of there) fd ≡ Some n → (process : Process) × (there ≡ Some process)
process_there None fd n h = cc
process_there (Some process) fd n h = (process, refl)

module _ (w : World) (p n : ℕ) (from : ℤ) (o : OpenDescriptor) (is : opened w p from ≡ Some o) where
  abbrev v : World
  v = with_descriptor w p n (Some o.number)

  same_descriptions : (fd : ℕ) (entry : Option ℕ) → opened_number v fd entry ≡ opened_number w fd entry
  same_descriptions fd None = refl
  same_descriptions fd (Some number) = refl

  module _ (process : Process) (here : slot w.processes p ≡ Some process) where
    table_is : table_of (slot v.processes p) ≡ (with_entry n (Some o.number) process).table
    table_is = ap table_of (slot_edited w.processes p (with_entry n (Some o.number)) ∙ ap (option_map (with_entry n (Some o.number))) here)

    others : (other : ℤ) → other ≢ pos n → opened v p other ≡ opened w p other
    others (pos m) apart =
        let as_was : slot (table_of (slot v.processes p)) m ≡ slot (table_of (slot w.processes p)) m =
        ap (λ t. slot t m) table_is ∙ (get_or-set_other process.table n m (Some o.number) None (λ same. apart (ap pos same)) ∙
        ap (λ x. slot (table_of x) m) (sym here)) in
        ap (opened_number v m) as_was ∙ same_descriptions m (slot (table_of (slot w.processes p)) m)
    others (negsuc m) apart = refl

    leads : n < length process.table → number_of v p (pos n) ≡ number_of w p from
    leads below =
        let entry : slot (table_of (slot v.processes p)) n ≡ Some o.number = ap (λ t. slot t n) table_is ∙
        get_or-set_same process.table n (Some o.number) None below in
        let stands : opened v p (pos n) ≡ opened_description n o.number (slot w.descriptions o.number) = ap (opened_number v n) entry in
        let told : number_of v p (pos n) ≡ Some o.number =
        ap (option_map (λ x. x.number)) (stands ∙ ap (opened_description n o.number) (opened_stands w p from o is).description_is) in
        told ∙ sym (ap (option_map (λ x. x.number)) is)

  pub set_leads : ((process : Process) → slot w.processes p ≡ Some process → n < length process.table) → Leads w v p n from
  set_leads below =
      let there = process_there (slot w.processes p) o.fd o.number (opened_stands w p from o is).entry_is in
      record {
        there = ap (λ x. is_some (option_map (λ x. x.number) x)) is;
        leads = leads there.0 there.1 (below there.0 there.1);
        others = others there.0 there.1;
      }

-- nothing changes, and the descriptor is that of the description
same_leads : (w : World) (p : ℕ) (from : ℤ) (o : OpenDescriptor) → opened w p from ≡ Some o → Leads w w p o.fd from
same_leads w p from o is = record {
  there = ap (λ x. is_some (option_map (λ x. x.number) x)) is;
  leads = ap (number_of w p) (opened_stands w p from o is).fd_is;
  others = λ other apart. refl;
}

-- a free descriptor that is told
told_free : (low : Option ℕ) (told : ℕ) → first_fault ((is_none low, EMFILE) ∷ []) ≡ None → Replied (Number (unwrap_or low 0)) ≡ Replied (Number told) →
    low ≡ Some told
told_free None told free h = cc
told_free (Some fd) told free h = let same : fd ≡ told = cc in ap (λ (k : ℕ). Some k) same

pub dup_leads : DupLeads
dup_leads bounds w p fd told answer =
    open_free_has (λ d. d.outcome ≡ Replied (Number told) → IsLowest (table_of (slot w.processes p)) told × Leads w (changed w [] d.change) p told fd)
    (opened w p fd) (dup w p) (λ error refused. cc)
    (λ o is free h.
    let low : lowest (table_of (slot w.processes p)) ≡ Some told = told_free (lowest (table_of (slot w.processes p))) told free h in
    let least = lowest_is_least (table_of (slot w.processes p)) told low in
    let fd_is : free_descriptor w p ≡ told = ap (λ x. unwrap_or x 0) low in
    let below : (process : Process) → slot w.processes p ≡ Some process → told < length process.table = λ process here. let P : Option Process → Type 0 =
    λ x. told < length (table_of x) in subst P here least.within in
    (least, rw fd_is (set_leads w p told fd o is below))) answer

-- a number that is told of a dup2 is the one that was asked
asked : (to : ℤ) (told : ℕ) → is_no_descriptor to ≡ false → nat_abs to ≡ told → (pos told ≡ to) × (told < OPEN_MAX)
asked (pos n) told free same = (ap pos (sym same), grind (arith, nat_tests))
asked (negsuc n) told free same = cc

no_fault : (to : ℤ) (p : ℕ) (o : OpenDescriptor) → first_fault (dup2 p to o).faults ≡ None → is_no_descriptor to ≡ false
no_fault to p o free = by (is_no_descriptor to) refl
  where
    by : (b : Bool) → is_no_descriptor to ≡ b → b ≡ false
    by false e = refl
    by true e = let bad = rw e at free in cc

pub dup2_leads : Dup2Leads
dup2_leads bounds w p fd to told tables answer =
    open_free_has (λ d. d.outcome ≡ Replied (Number told) → (pos told ≡ to) × Leads w (changed w [] d.change) p told fd) (opened w p fd) (dup2 p to)
    (λ error refused. cc)
    (λ o is free.
    let may = no_fault to p o free in
    if_has (λ d. d.outcome ≡ Replied (Number told) → (pos told ≡ to) × Leads w (changed w [] d.change) p told fd) (eqb (nat_abs to) o.fd)
    (tells (Number (nat_abs to))) (does (Number (nat_abs to)) on_files.Nothing (on_table.Entry p (nat_abs to) (Some o.number)))
    (λ equal h.
    let same : nat_abs to ≡ told = cc in
    let P : ℕ → Type 0 = λ k. Leads w w p k fd in
    ((asked to told may same).0, subst P (sym (eqb-true (nat_abs to) o.fd equal) ∙ same) (same_leads w p fd o is)))
    (λ other h.
    let same : nat_abs to ≡ told = cc in
    let is_told = asked to told may same in
    let below : (process : Process) → slot w.processes p ≡ Some process → told < length process.table =
    λ process here. omega (arith, is_told.1, tables p process here) in
    (is_told.0, rw same (set_leads w p told fd o is below)))) answer

pub dup2_keeps_equal : Dup2KeepsEqual
dup2_keeps_equal bounds w p fd =
    open_free_has (λ d. changed w [] d.change ≡ w) (opened w p fd) (dup2 p fd) (λ error. refl)
    (λ o is free.
    let at = opened_stands w p fd o is in
    let same : eqb (nat_abs fd) o.fd ≡ true = eq-eqb (nat_abs fd) o.fd (ap nat_abs (sym at.fd_is)) in
    ap (λ b. changed w [] (cond b (tells (Number (nat_abs fd)))
    (does (Number (nat_abs fd)) on_files.Nothing (on_table.Entry p (nat_abs fd) (Some o.number)))).change) same)
