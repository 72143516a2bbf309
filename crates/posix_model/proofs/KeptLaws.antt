-- What is there in every world of a history: what is counted, and nothing else.
use Rattle.std.proofs.Common.{◌≡◌, ℕ, zero, suc, ◌+◌, ◌<◌, Bool, true, false, ◌&&◌, cond, List, [], ◌∷◌, Option, None, Some, length, get_or, refl, subst, arith, eqb, eqb-true}
use Rattle.std.specs.Option.{is_some}
use Rattle.std.specs.List.{count_by, sum_by}
use Rattle.std.proofs.lemmas.List.Sums.{sum_by-cons}
use Rattle.slots.specs.Slots.{slot}
use Rattle.call_types.specs.Descriptions.{can_read, can_write}
use Rattle.posix_model.specs.Counts.{links, refs, refs_of, refers, holders, holds, readers, reads, writers, writes, is_file, is_pipe}
use Rattle.posix_model.specs.Proved.Whole.{TargetIsThere, is_regular_file, is_fifo, IsWhole}
use Rattle.posix_model.specs.Kept.{IsThere, IsSettled, KeptExactly}
use Rattle.posix_model.specs.Proved.Laws.{HistoryIsWhole, HistorySettles, HistoryKeepsExactly}
use Rattle.posix_model.specs.Proved.Released.{SweptIsSettled}
use Rattle.posix_model.specs.History.{world_of}
use Rattle.posix_model.specs.Types.{World, Process, Description, Target, File}
use Rattle.call_types.specs.declared.description.Target.TheVariants as target

-- a sum of two that is above zero has a term that is
either : (a b : ℕ) (A : Type 0) → 0 < a + b → (0 < a → A) → (0 < b → A) → A
either zero b A h first second = second (omega arith)
either (suc a) b A h first second = first (omega arith)

-- a sum above zero has a term above zero
summed_at : {X : Type 0} (f : X → ℕ) (xs : List X) (d : X) (A : Type 0) → 0 < sum_by f xs → ((n : ℕ) → n < length xs → 0 < f (get_or xs n d) → A) → A
summed_at f [] d A h found = absurd (omega arith)
summed_at f (x ∷ xs) d A h found =
    either (f x) (sum_by f xs) A (rw (sum_by-cons f x xs) at h) (λ k. found 0 (omega arith) k)
    (λ k. summed_at f xs d A k (λ n below more. found (suc n) (omega arith) more))

passes : (b : Bool) → 0 < cond b 1 0 → b ≡ true
passes true h = refl
passes false h = absurd (omega arith)

-- what is counted stands somewhere
counted_at : {X : Type 0} (p : X → Bool) (xs : List X) (d : X) (A : Type 0) → 0 < count_by p xs → ((n : ℕ) → n < length xs → p (get_or xs n d) ≡ true → A) → A
counted_at p xs d A h found = summed_at (λ x. cond (p x) 1 0) xs d A h (λ n below more. found n below (passes (p (get_or xs n d)) more))

regular_there : (x : Option File) → is_regular_file x ≡ true → is_some x ≡ true
regular_there None h = cc
regular_there (Some x) h = refl

fifo_there : (x : Option File) → is_fifo x ≡ true → is_some x ≡ true
fifo_there None h = cc
fifo_there (Some x) h = refl

-- what a target refers to is there
file_there : (files : List (Option File)) (pipes : List (Option (List ℕ))) (t : Target) (f : ℕ) → is_file f t ≡ true → TargetIsThere files pipes t →
    IsThere files f
file_there files pipes (target.Regular g) f is there = subst (IsThere files) (eqb-true g f is) (regular_there (slot files g) there)
file_there files pipes (target.Pipe p) f is there = cc
file_there files pipes (target.Fifo g p) f is there = subst (IsThere files) (eqb-true g f is) (fifo_there (slot files g) there.0)

pipe_there : (files : List (Option File)) (pipes : List (Option (List ℕ))) (t : Target) (p : ℕ) → is_pipe p t ≡ true → TargetIsThere files pipes t →
    IsThere pipes p
pipe_there files pipes (target.Regular f) p is there = cc
pipe_there files pipes (target.Pipe q) p is there = subst (IsThere pipes) (eqb-true q p is) there
pipe_there files pipes (target.Fifo f q) p is there = subst (IsThere pipes) (eqb-true q p is) there.1

both : (a b : Bool) → (a && b) ≡ true → a ≡ true
both true b h = refl
both false b h = h

-- a live description of which something holds is of a target of which it holds
on_target : (A : Type 0) (p : Option Description → Bool) (q : Target → Bool) → p None ≡ false → ((d : Description) → p (Some d) ≡ true → q d.target ≡ true) →
    (x : Option Description) → p x ≡ true → ((d : Description) → x ≡ Some d → q d.target ≡ true → A) → A
on_target A p q none some None h found = cc
on_target A p q none some (Some d) h found = found d refl (some d h)

named_there : (w : World) (f : ℕ) → IsWhole w → 0 < links w.names f → IsThere w.files f
named_there w f whole h =
    counted_at (λ entry. eqb entry.1 f) w.names ([], 0) (IsThere w.files f) h
    (λ n below same. subst (IsThere w.files) (eqb-true (get_or w.names n ([], 0)).1 f same) (whole.names n ([], 0) below))

held_there : (w : World) (f : ℕ) → IsWhole w → 0 < holders w.descriptions f → IsThere w.files f
held_there w f whole h =
    counted_at (holds f) w.descriptions None (IsThere w.files f) h
    (λ n below holding. on_target (IsThere w.files f) (holds f) (is_file f) refl (λ d k. k) (slot w.descriptions n) holding
    (λ d stands is. file_there w.files w.pipes d.target f is (whole.descriptions n d stands)))

read_there : (w : World) (p : ℕ) → IsWhole w → 0 < readers w.descriptions p → IsThere w.pipes p
read_there w p whole h =
    counted_at (reads p) w.descriptions None (IsThere w.pipes p) h
    (λ n below holding. on_target (IsThere w.pipes p) (reads p) (is_pipe p) refl (λ d k. both (is_pipe p d.target) (can_read d.mode) k)
    (slot w.descriptions n) holding
    (λ d stands is. pipe_there w.files w.pipes d.target p is (whole.descriptions n d stands)))

written_there : (w : World) (p : ℕ) → IsWhole w → 0 < writers w.descriptions p → IsThere w.pipes p
written_there w p whole h =
    counted_at (writes p) w.descriptions None (IsThere w.pipes p) h
    (λ n below holding. on_target (IsThere w.pipes p) (writes p) (is_pipe p) refl (λ d k. both (is_pipe p d.target) (can_write d.mode) k)
    (slot w.descriptions n) holding
    (λ d stands is. pipe_there w.files w.pipes d.target p is (whole.descriptions n d stands)))

referred_by : (w : World) (n p : ℕ) (process : Option Process) → slot w.processes p ≡ process → IsWhole w → 0 < refs_of n process → IsThere w.descriptions n
referred_by w n p None e whole h = absurd (omega arith)
referred_by w n p (Some process) e whole h =
    counted_at (refers n) process.table None (IsThere w.descriptions n) h
    (λ fd below referring. entry (slot process.table fd) (whole.processes p process e fd) referring)
  where
    entry : (x : Option ℕ) → ((m : ℕ) → x ≡ Some m → IsThere w.descriptions m) → refers n x ≡ true → IsThere w.descriptions n
    entry None all k = cc
    entry (Some m) all k = subst (IsThere w.descriptions) (eqb-true m n k) (all m refl)

referred_there : (w : World) (n : ℕ) → IsWhole w → 0 < refs w.processes n → IsThere w.descriptions n
referred_there w n whole h =
    summed_at (refs_of n) w.processes None (IsThere w.descriptions n) h (λ p below more. referred_by w n p (slot w.processes p) refl whole more)

keeps_exactly : (w : World) → IsWhole w → IsSettled w → KeptExactly w
keeps_exactly w whole settled = record {
  files = λ n. (settled.files n, λ h. either (links w.names n) (holders w.descriptions n) (IsThere w.files n) h (named_there w n whole) (held_there w n whole));
  pipes = λ n. (
    settled.pipes n,
    λ h. either (readers w.descriptions n) (writers w.descriptions n) (IsThere w.pipes n) h (read_there w n whole)
        (written_there w n whole),
  );
  descriptions = λ n. (settled.descriptions n, referred_there w n whole);
}

pub history_keeps_exactly : HistoryIsWhole → HistorySettles → SweptIsSettled → HistoryKeepsExactly
history_keeps_exactly whole settles settled bounds h = keeps_exactly (world_of bounds h) (whole bounds h) (settled (world_of bounds h) (settles bounds h))
