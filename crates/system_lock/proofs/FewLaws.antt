-- Different processes that are live are few: no act adds one where there are as many as there may be.
use Rattle.std.proofs.Common.{◌≡◌, ℕ, zero, suc, ◌+◌, ◌==◌, ◌||◌, ◌<◌, ◌≤◌, Bool, true, false, cond, List, [], ◌∷◌, Option, None, Some, All, length, arith, refl, sym, subst}
use Rattle.std.specs.Prelude.{nat_le}
use Rattle.std.specs.Option.{is_some, option_map_or}
use Rattle.std.specs.List.{list_any}
use Rattle.std.proofs.lemmas.Bool.Decides.{nat_tests, Decides-eqb}
use Rattle.std.proofs.lemmas.Cmp.{nat_eq_equiv}
use Rattle.std.proofs.lemmas.List.Elements.{All-head, All-tail}
use Rattle.std.proofs.lemmas.List.Sums.{sum_by-cons}
use Rattle.std.proofs.lemmas.Map.Made.{IsDistinct-from_AllPairs, length-le_from_is_member}
use Rattle.call_types.specs.declared.act.Act.{Act}
use Rattle.call_types.specs.declared.act.Act.TheVariants as act
use Rattle.call_types.specs.declared.act.Record.{Record}
use Rattle.call_types.specs.declared.call.Call.TheVariants as call
use Rattle.call_types.specs.declared.limits.Bounds.{Bounds}
use Rattle.call_types.specs.declared.limits.TheConstants.{PROCESSES_MAX}
use Rattle.slots.specs.Slots.{slot, live}
use Rattle.posix_model.specs.declared.world.World.{World}
use Rattle.posix_model.specs.Join.{is_full}
use Rattle.posix_model.specs.Step.{Stepped, step}
use Rattle.posix_model.specs.History.{empty_world, after, world_from}
use Rattle.posix_model.specs.Proved.Sound.{adds, ended, closes}
use Rattle.posix_model.specs.Proved.Laws.{Counts, StepPlansProcesses}
use Rattle.record_book.specs.Book.{world_now}
use Rattle.system_lock.specs.System.{AreDistinct}
use Rattle.system_lock.specs.Proved.Watch.{LiveAreFew}
use Rattle.system_lock.proofs.StirLaws.{neither}

-- ---- of slots of which so many are full, different ones that are full are no more

-- the numbers of the slots that are full, from this one on
abbrev full_from : {T : Type 0} → ℕ → List (Option T) → List ℕ
full_from n [] = []
full_from n (None ∷ xs) = full_from (n + 1) xs
full_from n (Some x ∷ xs) = n ∷ full_from (n + 1) xs

counted : {T : Type 0} (n : ℕ) (xs : List (Option T)) → length (full_from n xs) ≡ live xs
counted n [] = refl
counted {T} n (None ∷ xs) =
    let none : Option T = None in
    omega (arith, counted (n + 1) xs, sum_by-cons (λ p. cond (is_some p) 1 0) none xs)
counted n (Some x ∷ xs) = omega (arith, counted (n + 1) xs, sum_by-cons (λ p. cond (is_some p) 1 0) (Some x) xs)

here : (q n : ℕ) (more : List ℕ) → q ≡ n → list_any (λ x. q == x) (n ∷ more) ≡ true
here q n more e = grind (arith, nat_tests)

yes_right : (a b : Bool) → b ≡ true → (a || b) ≡ true
yes_right true b e = refl
yes_right false b e = e

found : {T : Type 0} (q n p : ℕ) (xs : List (Option T)) → q ≡ n + p → is_some (slot xs p) ≡ true → list_any (λ x. q == x) (full_from n xs) ≡ true
found q n p [] e h = cc
found q n zero (None ∷ xs) e h = cc
found q n zero (Some x ∷ xs) e h = here q n (full_from (n + 1) xs) (omega (arith, e))
found q n (suc p) (None ∷ xs) e h = found q (n + 1) p xs (omega (arith, e)) h
found q n (suc p) (Some x ∷ xs) e h = yes_right (q == n) (list_any (λ x. q == x) (full_from (n + 1) xs)) (found q (n + 1) p xs (omega (arith, e)) h)

either_of : (a b : Bool) (P : Type 0) → (a || b) ≡ true → (a ≡ true → P) → (b ≡ true → P) → P
either_of true b P e f g = f refl
either_of false b P e f g = g e

at_member : (P : ℕ → Type 0) (q : ℕ) (xs : List ℕ) → list_any (λ x. q == x) xs ≡ true → All P xs → P q
at_member P q [] e h = absurd (cc)
at_member P q (x ∷ xs) e h = either_of (q == x) (list_any (λ y. q == y) xs) (P q) e (λ t. subst P (sym (grind (arith, nat_tests))) (All-head P x xs h))
    (λ t. at_member P q xs t (All-tail P x xs h))

apart_by : {a b : ℕ} → a ≡ b → (a == b) ≡ false → ⊥
apart_by e f = grind (arith, nat_tests)

few_are_full : {T : Type 0} (slots : List (Option T)) (most : ℕ) → live slots ≤ most → (some : List ℕ) → AreDistinct some →
    All (λ p. is_some (slot slots p) ≡ true) some → length some ≤ most
few_are_full slots most few some distinct full =
    let apart = IsDistinct-from_AllPairs Decides-eqb some (λ i j d l k e. apart_by e (distinct i j d l k)) in
    let within = length-le_from_is_member nat_eq_equiv some (full_from 0 slots) apart
    (λ q h. found q 0 q slots (omega arith) (at_member (λ p. is_some (slot slots p) ≡ true) q some h full)) in
    omega (arith, within, counted 0 slots, few)

-- ---- of each history, no more processes are live than there may be

has_room : (closed : Bool) (n : ℕ) → (closed || nat_le PROCESSES_MAX n) ≡ false → n < PROCESSES_MAX
has_room closed n e = let beyond = (neither closed (nat_le PROCESSES_MAX n) e).1 in grind (arith, nat_tests)

one_more : (w : World) (full : Bool) → is_full w ≡ full → live w.processes ≤ PROCESSES_MAX → live w.processes + cond full 0 1 ≤ PROCESSES_MAX
one_more w true is few = omega (arith, few)
one_more w false is few = let room = has_room w.closed (live w.processes) is in omega (arith, room)

adds_few : (w : World) (a : Act) → live w.processes ≤ PROCESSES_MAX → live w.processes + adds w a ≤ PROCESSES_MAX
adds_few w act.Join few = one_more w (is_full w) refl few
adds_few w (act.Call call.Fork) few = one_more w (is_full w) refl few
adds_few w (act.Call other) few = omega (arith, few)
adds_few w other few = omega (arith, few)

step_few : (w : World) (a : Act) (found : Option Stepped) → ((s : Stepped) → found ≡ Some s → Counts w s.world (adds w a) (ended a) (closes a)) →
    live w.processes ≤ PROCESSES_MAX →
    live (option_map_or (λ s. s.world) found w).processes ≤ PROCESSES_MAX
step_few w a None counts few = few
step_few w a (Some s) counts few = let living = (counts s refl).living in omega (arith, living, adds_few w a few)

few_from : StepPlansProcesses → (bounds : Bounds) (w : World) (rs : List Record) → live w.processes ≤ PROCESSES_MAX →
    live (world_from bounds w rs).processes ≤ PROCESSES_MAX
few_from plans bounds w [] few = few
few_from plans bounds w (r ∷ rs) few = few_from plans bounds (after bounds w r) rs
    (step_few w r.act (step bounds w r.actor r.act) (λ s is. plans bounds w r.actor r.act s is) few)

pub live_are_few : StepPlansProcesses → LiveAreFew
live_are_few plans b some distinct live = few_are_full (world_now b).processes PROCESSES_MAX
    (few_from plans b.limits.bounds empty_world b.history (omega arith)) some distinct live
