-- The processes that sleep, and those whose connections are lost (own).
use Rattle.std.specs.Prelude.{ℕ, ◌≤◌, ◌&&◌, ◌∷◌, [], ◌++◌, Bool, not, List, length, if◌then◌else◌}
use Rattle.call_types.specs.declared.limits.TheConstants.{PROCESSES_MAX}
use Rattle.record_book.specs.Book.{BookState}
use Rattle.system_lock.specs.System.{is_live_in, is_among, AreDistinct, AreLive, AreUnmarked}
use Rattle.system_lock.specs.Proved.Sleeping.{without}
use Rattle.system_lock.specs.Proved.Sleepers.{SleepersSound, SparesIn}
use Rattle.system_lock.specs.declared.watch.Watch.{Watch}
use Rattle.system_lock.specs.declared.stirred.Stirred.{Stirred}

-- those that sleep are sound and different from one another; so are those that are lost, all of which are live; and none of them sleeps
pub record WatchSound (b : BookState) (watch : Watch) : Type 0 where
  pub sleepers : SleepersSound b watch.sleepers
  pub asleep : AreDistinct watch.sleepers.asleep.items
  pub lost : AreDistinct watch.lost.processes.items
  pub live : AreLive b watch.lost.processes.items
  pub unmarked : AreUnmarked watch.lost.processes.items watch.sleepers.asleep.items

-- they were sound in some book, from which an event led to this one that stirred these
abbrev pub AreLeft : BookState → Stirred → Watch → Type 0
AreLeft b s watch = (was : BookState) × WatchSound was watch × SparesIn was b s

-- whether a process is marked whose connection is lost: it is live, and not marked yet
abbrev pub is_to_mark : BookState → List ℕ → ℕ → Bool
is_to_mark b lost process = is_live_in b process && not (is_among lost process)

-- those that are lost after the connection of a process is
abbrev pub lost_with : BookState → List ℕ → ℕ → List ℕ
lost_with b lost process = if is_to_mark b lost process then lost ++ process ∷ [] else lost

-- and those that sleep on
abbrev pub asleep_without : BookState → List ℕ → List ℕ → ℕ → List ℕ
asleep_without b lost asleep process = if is_to_mark b lost process then without asleep process else asleep

-- different processes that are live are few
abbrev pub LiveAreFew : Type 0
LiveAreFew = (b : BookState) (some : List ℕ) → AreDistinct some → AreLive b some → length some ≤ PROCESSES_MAX
