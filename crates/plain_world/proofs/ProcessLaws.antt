-- What forks, attaches, exits and closings do.
use Rattle.std.proofs.Common.{◌≡◌, ◌∙◌, ℕ, ℤ, zero, suc, pos, negsuc, ◌<◌, Bool, true, false, ◌&&◌, eqb, List, [], ◌∷◌, ◌++◌, Option, None, Some, length, length-set, refl, ap, sym, subst, arith}
use Rattle.std.specs.Option.{option_map, is_some}
use Rattle.std.proofs.lemmas.List.{get_or-set_other}
use Rattle.call_types.specs.declared.act.TheConstants.{HOUSE}
use Rattle.call_types.specs.declared.act.Act.TheVariants as act
use Rattle.call_types.specs.declared.call.Call.TheVariants as call
use Rattle.slots.specs.Slots.{slot}
use Rattle.call_types.specs.Descriptions.{described}
use Rattle.process_table.specs.Processes.{table_of, copied_table, process_with}
use Rattle.posix_model.specs.Kept.{IsThere}
use Rattle.posix_model.specs.Descriptors.{opened, opened_number, opened_description, with_edit}
use Rattle.posix_model.specs.Change.{changed}
use Rattle.posix_model.specs.Pages.{refused, decided_by}
use Rattle.posix_model.specs.Fork.{fork}
use Rattle.posix_model.specs.Exit.{exit}
use Rattle.posix_model.specs.Step.{stepped}
use Rattle.posix_model.specs.Proved.Laws.{SweepLeaves}
use Rattle.plain_world.specs.Proved.Types.{World, Process, DescriptionEdit, OpenDescriptor, Replied, Number, Done, EAGAIN}
use Rattle.plain_world.specs.Proved.Calls.{before_sweep}
use Rattle.plain_world.specs.Proved.ProcessLaws.{Forks, ForkCopies, ForkShares, FullForkRefused, description_at, SharedIsSeen, AfterExit, ExitFrees, ClosingCloses, ClosedOnce}
use Rattle.posix_model.proofs.PageLaws.{page_has}
use Rattle.posix_model.proofs.SweepLaws.{step_parts}
use Rattle.plain_world.proofs.PageLemmas.{where_may}
use Rattle.plain_world.proofs.OpenedLemmas.{IsOpenAt, opened_stands}
use Rattle.posix_model.proofs.SlotLaws.{slot_pushed, slot_at_end}
use Rattle.plain_world.proofs.SlotLemmas.{slot_edited, slot_freed}

-- the descriptors of a child of a live process
copied_there : (parent : Option Process) → is_some parent ≡ true → copied_table parent ≡ table_of parent
copied_there None there = cc
copied_there (Some process) there = refl

pub fork_copies : ForkCopies
fork_copies bounds w p child there told =
    page_has (λ d. d.outcome ≡ Replied (Number child) → Forks w (changed w [] d.change) p child) (fork w p) (λ error refused. cc)
    (λ _ is. record {
      number = cc;
      world = ap (λ table. record w { processes = w.processes ++ Some (process_with table false) ∷ [] }) (copied_there (slot w.processes p) there);
    }) told

-- equal tables lead to the same
same_opened : (w : World) (p q : ℕ) (fd : ℤ) → table_of (slot w.processes p) ≡ table_of (slot w.processes q) → opened w p fd ≡ opened w q fd
same_opened w p q (pos n) same = ap (λ table. opened_number w n (slot table n)) same
same_opened w p q (negsuc n) same = refl

there_below : {T : Type 0} (xs : List (Option T)) (n : ℕ) → IsThere xs n → n < length xs
there_below [] n there = cc
there_below (x ∷ xs) zero there = omega arith
there_below (x ∷ xs) (suc n) there = let below = there_below xs n there in omega arith

forked_shares : (w v : World) (p child : ℕ) (fd : ℤ) → IsThere w.processes p → Forks w v p child → opened v child fd ≡ opened v p fd
forked_shares w v p child fd there forks =
    let new : Option Process = Some (process_with (table_of (slot w.processes p)) false) in
    let u : World = record w { processes = w.processes ++ new ∷ [] } in
    let Has : World → ℕ → Type 0 = λ x n. opened x n fd ≡ opened x p fd in
    let same = ap table_of (slot_at_end w.processes new) ∙ ap table_of (sym (slot_pushed w.processes new p (there_below w.processes p there))) in
    subst (λ n. Has v n) (sym forks.number) (subst (λ x. Has x (length w.processes)) (sym forks.world) (same_opened u (length w.processes) p fd same))

pub fork_shares : ForkShares
fork_shares bounds w p child fd there told =
    ap (option_map (λ o. o.number)) (forked_shares w (before_sweep bounds w p call.Fork) p child fd there (fork_copies bounds w p child there told))

pub full_fork_refused : FullForkRefused
full_fork_refused bounds w p full =
    let is : decided_by (fork w p) ≡ refused EAGAIN = rw full refl in
    (ap (λ d. d.outcome) is, ap (λ d. changed w [] d.change) is)

-- a descriptor whose number and description stand there is open
stands_open : (w : World) (p : ℕ) (fd : ℤ) (o : OpenDescriptor) → IsOpenAt w p fd o → opened w p fd ≡ Some o
stands_open w p fd o at =
    subst (λ x. opened w p x ≡ Some o) at.fd_is (ap (opened_number w o.fd) at.entry_is ∙ ap (opened_description o.fd o.number) at.description_is)

sees : (w : World) (p : ℕ) (fd : ℤ) (o : OpenDescriptor) (e : DescriptionEdit) → IsOpenAt w p fd o → description_at (with_edit w o.number e) p fd ≡ Some
    (described e o.description)
sees w p fd o e at =
    let now : OpenDescriptor = record o { description = described e o.description } in
    let v = with_edit w o.number e in
    ap (option_map (λ x. x.description)) (stands_open v p fd now (record {
      fd_is = at.fd_is;
      entry_is = at.entry_is;
      description_is = slot_edited w.descriptions o.number (described e) ∙ ap (option_map (described e)) at.description_is;
    }))

-- a descriptor that leads to the number of a description leads to that
leads_to : (w : World) (p : ℕ) (fd : ℤ) (o : OpenDescriptor) (found : Option OpenDescriptor) → slot w.descriptions o.number ≡ Some o.description →
    opened w p fd ≡ found →
    option_map (λ x. x.number) found ≡ Some o.number → (n : ℕ) × IsOpenAt w p fd (record o { fd = n })
leads_to w p fd o None stands is h = cc
leads_to w p fd o (Some x) stands is h =
    let at = opened_stands w p fd x is in
    let same : x.number ≡ o.number = cc in
    (x.fd, record { fd_is = at.fd_is; entry_is = at.entry_is ∙ ap (λ (n : ℕ). Some n) same; description_is = stands })

pub shared_is_seen : SharedIsSeen
shared_is_seen w p q fd to o is number =
    let first = opened_stands w p fd o is in
    let other = leads_to w q to o (opened w q to) first.description_is refl number in
    let second : OpenDescriptor = record o { fd = other.0 } in
    let description = option_map (λ (x : OpenDescriptor). x.description) in (
      record { first = ap description is; second = ap description (stands_open w q to second other.1) },
      λ e. record { first = sees w p fd o e first; second = sees w q to second e other.1 },
    )

exit_ends : SweepLeaves → (w : World) (p : ℕ) → AfterExit w (stepped w [] (exit p)).world p
exit_ends leaves w p =
    let left = leaves (changed w [] (exit p).change) in
    record {
      gone = slot_freed w.processes p;
      others = λ q other. get_or-set_other w.processes p q None None other;
      all = (let none : Option Process = None in length-set w.processes p none);
      names = refl;
      closed = refl;
      descriptions = left.descriptions;
      files = left.files;
    }

pub exit_frees : SweepLeaves → ExitFrees
exit_frees leaves bounds w p s h =
    step_parts (λ t. (t.outcome ≡ Replied Done) × AfterExit w t.world p) bounds w p act.Exit s
    (λ d is. subst (λ x. ((stepped w [] x).outcome ≡ Replied Done) × AfterExit w (stepped w [] x).world p)
    (where_may (is_some (slot w.processes p)) (exit p) d is)
    (refl, exit_ends leaves w p)) h

pub closing_closes : ClosingCloses
closing_closes bounds w swept running = rw running (ap (λ (u : World). Some (record { world = record u { closed = true }; outcome = Replied Done })) swept)

never : (b : Bool) → (b && false) ≡ false
never true = refl
never false = refl

pub closed_once : ClosedOnce
closed_once bounds w actor closed = rw (closed, never (eqb actor HOUSE)) refl
