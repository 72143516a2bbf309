-- Those that sleep, and those that are lost, after an event and with one more.
use Rattle.std.proofs.Common.{◌≡◌, ◌∙◌, ℕ, zero, suc, ◌+◌, ◌==◌, ◌<◌, Bool, true, false, not, cond, List, [], ◌∷◌, ◌++◌, Option, None, Some, All, length, map, get_or, arith, refl, sym, ap, subst, length-append}
use Rattle.std.specs.List.{filter, list_any, remove, position, position_from}
use Rattle.std.proofs.lemmas.Bool.Decides.{nat_tests}
use Rattle.std.proofs.lemmas.Iterator.Adapters.{position_from-zero}
use Rattle.std.proofs.lemmas.List.Elements.{All-nil, All-cons, All-head, All-tail, All-push, All-filter, All-weaker, filter_passes}
use Rattle.std.proofs.lemmas.List.Folds.{list_any-append}
use Rattle.std.proofs.lemmas.List.Kept.{AllPairs-filter}
use Rattle.std.proofs.lemmas.List.Quantifiers.{all_pairs_push, position-Some}
use Rattle.record_book.specs.Book.{BookState}
use Rattle.system_lock.specs.System.{is_among, is_live_in, AreDistinct, AreLive, AreUnmarked}
use Rattle.system_lock.specs.Proved.Sleeping.{wakes_in, without, SleepsSound}
use Rattle.record_book.specs.Refusals.{is_ready_in}
use Rattle.system_lock.specs.Proved.Events.{still_asleep, still_lost}
use Rattle.system_lock.specs.Proved.Sleepers.{SparesIn, pipe_in}
use Rattle.system_lock.specs.Proved.Watch.{WatchSound, LiveAreFew}
use Rattle.system_lock.specs.declared.watch.Watch.{Watch}
use Rattle.system_lock.specs.declared.stirred.Stirred.TheVariants as stirred
use Rattle.system_lock.proofs.StirLaws.{neither}
use Rattle.system_lock.proofs.SleeperLaws.{both_no, not_false, asleep_sound, filter_all, nobody_ready}

-- ---- lists

-- who is not among some is not among those that a filter keeps
kept_none : (test keeps : ℕ → Bool) (x : ℕ) (xs : List ℕ) (b : Bool) → keeps x ≡ b → list_any test (x ∷ xs) ≡ false → list_any test (filter keeps xs) ≡ false →
    list_any test (filter keeps (x ∷ xs)) ≡ false
kept_none test keeps x xs true is e h = rw is (both_no (test x) (list_any test (filter keeps xs)) (neither (test x) (list_any test xs) e).0 h)
kept_none test keeps x xs false is e h = rw is h

not_kept : (test keeps : ℕ → Bool) (xs : List ℕ) → list_any test xs ≡ false → list_any test (filter keeps xs) ≡ false
not_kept test keeps [] e = refl
not_kept test keeps (x ∷ xs) e = kept_none test keeps x xs (keeps x) refl e (not_kept test keeps xs (neither (test x) (list_any test xs) e).1)

none_among : (test : ℕ → Bool) (xs : List ℕ) → list_any test xs ≡ false → All (λ x. test x ≡ false) xs
none_among test [] e = All-nil (λ x. test x ≡ false)
none_among test (x ∷ xs) e =
    let none = neither (test x) (list_any test xs) e in
    All-cons (λ y. test y ≡ false) x xs none.0 (none_among test xs none.1)

not_true : (b : Bool) → not b ≡ true → b ≡ false
not_true true e = sym e
not_true false e = refl

-- what a filter keeps passes its test
kept_not : (test : ℕ → Bool) (xs : List ℕ) → All (λ p. test p ≡ false) (filter (λ p. not (test p)) xs)
kept_not test xs = All-weaker (λ p. not (test p) ≡ true) (λ p. test p ≡ false) (λ p e. not_true (test p) e) (filter (λ p. not (test p)) xs)
    (filter_passes (λ p. not (test p)) xs)

-- where all pass, all stay
all_kept : (test : ℕ → Bool) (xs : List ℕ) → All (λ p. test p ≡ true) xs → filter test xs ≡ xs
all_kept test [] all = refl
all_kept test (x ∷ xs) all = rw (All-head (λ p. test p ≡ true) x xs all, all_kept test xs (All-tail (λ p. test p ≡ true) x xs all)) refl

-- the place of a process that is there once
removed_at : (process : ℕ) (xs : List ℕ) (i : ℕ) → AreDistinct xs → i < length xs → (get_or xs i 0 == process) ≡ true → remove xs i ≡ without xs process
removed_at process [] i distinct below is = absurd (omega arith)
removed_at process (x ∷ xs) zero distinct below is =
    rw is (sym (filter_all (λ other. other == process) xs
    (λ k d l. apart_too x (get_or xs k d) process is (distinct 0 (suc k) d (omega arith) (omega (arith, l))))))
  where
    apart_too : (a b c : ℕ) → (a == c) ≡ true → (a == b) ≡ false → (b == c) ≡ false
    apart_too a b c e f = grind (arith, nat_tests)
removed_at process (x ∷ xs) (suc i) distinct below is =
    rw (apart_before x (get_or xs i 0) process is (distinct 0 (suc i) 0 (omega arith) below))
    (ap (λ l. x ∷ l) (removed_at process xs i (λ j k d l m. distinct (suc j) (suc k) d (omega (arith, l)) (omega (arith, m))) (omega (arith, below)) is))
  where
    apart_before : (a b c : ℕ) → (b == c) ≡ true → (a == b) ≡ false → (a == c) ≡ false
    apart_before a b c e f = grind (arith, nat_tests)

-- a process that has a place has no other
pub one_removed : (process : ℕ) (xs : List ℕ) (i : ℕ) → AreDistinct xs → position (λ other. other == process) xs ≡ Some i →
    (i < length xs) × (remove xs i ≡ without xs process)
one_removed process xs i distinct e =
    let place = position-Some (λ other. other == process) xs i 0 e in
    (place.0, removed_at process xs i distinct place.0 place.1)

none_at : (test : ℕ → Bool) (i x : ℕ) (xs : List ℕ) (b : Bool) → test x ≡ b → cond b (Some i) (position_from test (i + 1) xs) ≡ None →
    (position_from test (i + 1) xs ≡ None → All (λ y. test y ≡ false) xs) → All (λ y. test y ≡ false) (x ∷ xs)
none_at test i x xs true is e rest = cc
none_at test i x xs false is e rest = All-cons (λ y. test y ≡ false) x xs is (rest e)

none_from : (test : ℕ → Bool) (i : ℕ) (xs : List ℕ) → position_from test i xs ≡ None → All (λ x. test x ≡ false) xs
none_from test i [] e = All-nil (λ x. test x ≡ false)
none_from test i (x ∷ xs) e = none_at test i x xs (test x) refl e (λ h. none_from test (i + 1) xs h)

-- a process that has no place is not there
pub none_removed : (process : ℕ) (xs : List ℕ) → position (λ other. other == process) xs ≡ None → xs ≡ without xs process
none_removed process xs e =
    let test : ℕ → Bool = λ other. other == process in
    sym (filter_all test xs (none_from test 0 xs (sym (position_from-zero test xs) ∙ e)))

-- ---- after an event

pub still_distinct : (keeps : ℕ → Bool) (old new : List ℕ) → new ≡ filter keeps old → AreDistinct old → AreDistinct new
still_distinct keeps old new e h = subst AreDistinct (sym e) (AllPairs-filter (λ x y. (x == y) ≡ false) keeps old h)

pub still_live : (b : BookState) (old new : List ℕ) → new ≡ still_lost b old → AreLive b new
still_live b old new e = subst (AreLive b) (sym e) (filter_passes (λ p. is_live_in b p) old)

pub still_unmarked : (wakes keeps : ℕ → Bool) (asleep woken lost kept : List ℕ) → AreUnmarked lost asleep → woken ≡ filter (λ p. not (wakes p)) asleep →
    kept ≡ filter keeps lost → AreUnmarked kept woken
still_unmarked wakes keeps asleep woken lost kept h e f =
    let on = filter (λ p. not (wakes p)) asleep in
    let left : AreUnmarked lost on = All-filter (λ p. not (wakes p)) (λ p. is_among lost p ≡ false) asleep h in
    subst (λ (l : List ℕ). AreUnmarked kept l) (sym e) (subst (λ (l : List ℕ). AreUnmarked l on) (sym f)
    (All-weaker (λ p. is_among lost p ≡ false) (λ p. is_among (filter keeps lost) p ≡ false) (λ p none. not_kept (λ other. other == p) keeps lost none) on
    left))

-- where an event stirs nobody, all stay as they were
pub nobody_goes : (was b : BookState) (watch : Watch) → WatchSound was watch → SparesIn was b stirred.Nobody → WatchSound b watch
nobody_goes was b watch sound spares = record {
  sleepers = nobody_ready was b watch.sleepers sound.sleepers spares;
  asleep = sound.asleep;
  lost = sound.lost;
  live = All-weaker (λ p. is_live_in was p ≡ true) (λ p. is_live_in b p ≡ true) (λ p there. spares.live p refl there) watch.lost.processes.items sound.live;
  unmarked = sound.unmarked;
}

pub all_sleep_on : (b : BookState) (watch : Watch) → WatchSound b watch → watch.sleepers.asleep.items ≡ still_asleep b watch.sleepers.asleep.items
all_sleep_on b watch sound = sym (filter_all (wakes_in b) watch.sleepers.asleep.items sound.sleepers.none_wakes)

pub all_stay_lost : (b : BookState) (watch : Watch) → WatchSound b watch → watch.lost.processes.items ≡ still_lost b watch.lost.processes.items
all_stay_lost b watch sound = sym (all_kept (is_live_in b) watch.lost.processes.items sound.live)

-- ---- with one more

pub distinct_with : (process : ℕ) (xs : List ℕ) → AreDistinct xs → is_among xs process ≡ false → AreDistinct (xs ++ process ∷ [])
distinct_with process xs h none = all_pairs_push (λ x y. (x == y) ≡ false) xs process h (none_among (λ other. other == process) xs none)

pub live_with : (b : BookState) (process : ℕ) (xs : List ℕ) → AreLive b xs → is_live_in b process ≡ true → AreLive b (xs ++ process ∷ [])
live_with b process xs h there = All-push (λ p. is_live_in b p ≡ true) xs process h there

-- those that sleep are live
pub sleepers_live : (b : BookState) (xs : List ℕ) → SleepsSound b xs → AreLive b xs
sleepers_live b xs h = All-weaker (λ p. wakes_in b p ≡ false) (λ p. is_live_in b p ≡ true)
    (λ p e. not_false (is_live_in b p) (neither (is_ready_in b p) (not (is_live_in b p)) e).1) xs h

-- there is room for one more
pub has_room : (b : BookState) (process : ℕ) (xs : List ℕ) → LiveAreFew → AreDistinct xs → AreLive b xs → is_live_in b process ≡ true →
    is_among xs process ≡ false → length xs < 64
has_room b process xs few distinct live there none =
    let most = few b (xs ++ process ∷ []) (distinct_with process xs distinct none) (live_with b process xs live there) in
    omega (arith, most, length-append xs (process ∷ []))

-- one more sleeps
pub one_asleep : (b : BookState) (was now : Watch) (process : ℕ) (pipe : Option ℕ) → WatchSound b was → is_live_in b process ≡ true →
    is_ready_in b process ≡ false → is_among was.lost.processes.items process ≡ false →
    is_among was.sleepers.asleep.items process ≡ false → pipe ≡ pipe_in b process → now.sleepers.asleep.items ≡ was.sleepers.asleep.items ++ process ∷ [] →
    now.sleepers.pipes.items ≡ was.sleepers.pipes.items ++ pipe ∷ [] → now.lost.processes.items ≡ was.lost.processes.items → WatchSound b now
one_asleep b was now process pipe sound there unready unmarked none its asleep pipes lost = record {
  sleepers = asleep_sound b was.sleepers now.sleepers process pipe sound.sleepers (both_no (is_ready_in b process) (not (is_live_in b process)) unready
      (ap not there)) its asleep pipes;
  asleep = subst AreDistinct (sym asleep) (distinct_with process was.sleepers.asleep.items sound.asleep none);
  lost = subst AreDistinct (sym lost) sound.lost;
  live = subst (AreLive b) (sym lost) sound.live;
  unmarked = subst (λ (l : List ℕ). AreUnmarked l now.sleepers.asleep.items) (sym lost) (subst (AreUnmarked was.lost.processes.items) (sym asleep)
      (All-push (λ p. is_among was.lost.processes.items p ≡ false) was.sleepers.asleep.items process sound.unmarked unmarked));
}

flipped : (a b : ℕ) → (a == b) ≡ false → (b == a) ≡ false
flipped a b e = grind (arith, nat_tests)

-- one more is lost, and who does not sleep is not that one
among_with : (lost : List ℕ) (process p : ℕ) → is_among lost p ≡ false → (p == process) ≡ false → is_among (lost ++ process ∷ []) p ≡ false
among_with lost process p e f = list_any-append (λ other. other == p) lost (process ∷ []) ∙
    both_no (is_among lost p) (list_any (λ other. other == p) (process ∷ [])) e (both_no (process == p) false (flipped p process f) refl)

marked_apart : (process : ℕ) (lost asleep : List ℕ) → AreUnmarked lost asleep → AreUnmarked (lost ++ process ∷ []) (without asleep process)
marked_apart process lost asleep h i d l =
    let on = without asleep process in
    among_with lost process (get_or on i d) (All-filter (λ p. not (p == process)) (λ p. is_among lost p ≡ false) asleep h i d l)
    (kept_not (λ p. p == process) asleep i d l)

pub one_lost : (b : BookState) (was now : Watch) (process : ℕ) → WatchSound b was → is_live_in b process ≡ true → is_among was.lost.processes.items process
    ≡ false →
    now.lost.processes.items ≡ was.lost.processes.items ++ process ∷ [] → now.sleepers.asleep.items ≡ without was.sleepers.asleep.items process →
    (was.sleepers.pipes.items ≡ map (pipe_in b) was.sleepers.asleep.items → now.sleepers.pipes.items ≡ map (pipe_in b) now.sleepers.asleep.items) →
    WatchSound b now
one_lost b was now process sound there none lost asleep pipes = record {
  sleepers = record {
    none_wakes = subst (SleepsSound b) (sym asleep)
        (All-filter (λ p. not (p == process)) (λ p. wakes_in b p ≡ false) was.sleepers.asleep.items sound.sleepers.none_wakes);
    pipes = pipes sound.sleepers.pipes;
  };
  asleep = still_distinct (λ p. not (p == process)) was.sleepers.asleep.items now.sleepers.asleep.items asleep sound.asleep;
  lost = subst AreDistinct (sym lost) (distinct_with process was.lost.processes.items sound.lost none);
  live = subst (AreLive b) (sym lost) (live_with b process was.lost.processes.items sound.live there);
  unmarked = subst (λ (l : List ℕ). AreUnmarked l now.sleepers.asleep.items) (sym lost) (subst (AreUnmarked (was.lost.processes.items ++ process ∷ []))
      (sym asleep) (marked_apart process was.lost.processes.items was.sleepers.asleep.items sound.unmarked));
}
