-- A run that can be ended could always be ended: no record takes more of what is kept free than itself.
use Rattle.std.proofs.Common.{◌≡◌, ℕ, ◌+◌, ◌≤◌, Bool, true, false, cond, List, [], ◌∷◌, Some, length, leb-true, arith, rules}
use Rattle.std.specs.Prelude.{nat_le, ◌||◌}
use Rattle.std.proofs.lemmas.Bool.Decides.{nat_tests}
use Rattle.slots.specs.Slots.{live}
use Rattle.posix_model.specs.Types.{Act, Record, Bounds, World}
use Rattle.call_types.specs.declared.act.Act.TheVariants as act
use Rattle.posix_model.specs.Step.{Stepped, step}
use Rattle.posix_model.specs.History.{empty_world, after, world_from}
use Rattle.posix_model.specs.Reserve.{exits_left, has_reserve, CanEndFrom}
use Rattle.posix_model.specs.Proved.Sound.{added, ended, closes}
use Rattle.posix_model.specs.Proved.Laws.{Counts, ReserveWasKept}
use Rattle.posix_model.proofs.ProcessLaws.{step_tells_processes}
use Rattle.posix_model.proofs.HistoryLaws.{stepped_or_not}

-- an act ends one process at most, and a closing ends none
few_ended : (a : Act) → ended a + cond (closes a) 1 0 ≤ 1
few_ended act.Exit = omega arith
few_ended act.CloseRun = omega arith
few_ended other = omega arith

-- after a step one exit less is left at most
exits_less : (closed closing : Bool) (before after more ends : ℕ) → after + ends ≡ before + more → ends + cond closing 1 0 ≤ 1 →
    cond closed before (before + 1) ≤ cond (closing || closed) after (after + 1) + 1
exits_less true true before after more ends living few = omega arith
exits_less true false before after more ends living few = omega arith
exits_less false true before after more ends living few = omega arith
exits_less false false before after more ends living few = omega arith

counted_less : (w v : World) (more : ℕ) (a : Act) → Counts w v more (ended a) (closes a) → exits_left w ≤ exits_left v + 1
counted_less w v more a c = rw c.closed (exits_less w.closed (closes a) (live w.processes) (live v.processes) more (ended a) c.living (few_ended a))

-- and after any record
record_less : (bounds : Bounds) (w : World) (r : Record) → exits_left w ≤ exits_left (after bounds w r) + 1
record_less bounds w r =
    stepped_or_not (λ v. exits_left w ≤ exits_left v + 1) w (step bounds w r.actor r.act) (omega arith)
    (λ s is. counted_less w s.world (added r.act s.outcome) r.act (step_tells_processes bounds w r.actor r.act s is))

-- so of records from this world on
was_left : (bounds : Bounds) (w : World) (len : ℕ) (h : List Record) → len + exits_left w ≤ (len + length h) + exits_left (world_from bounds w h)
was_left bounds w len [] = omega arith
was_left bounds w len (r ∷ rs) =
    let first = record_less bounds w r in
    let rest = was_left bounds (after bounds w r) (len + 1) rs in
    omega (arith, first, rest)

could_end : (bounds : Bounds) (most : ℕ) (w : World) (len : ℕ) (h : List Record) → (len + length h) + exits_left (world_from bounds w h) ≤ most →
    CanEndFrom bounds (Some most) w len h
could_end bounds most w len [] fits = tt
could_end bounds most w len (r ∷ rs) fits =
    let v = after bounds w r in
    let rest = was_left bounds v (len + 1) rs in
    let here : nat_le ((len + 1) + exits_left v) most ≡ true = grind (arith, nat_tests) in
    (here, could_end bounds most v (len + 1) rs (omega (arith, fits)))

pub reserve_was_kept : ReserveWasKept
reserve_was_kept bounds most h fits = could_end bounds most empty_world 0 h (let all = leb-true _ _ fits in omega (arith, all))
