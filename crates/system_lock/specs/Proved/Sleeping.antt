-- Who sleeps, and who is to be woken (own).
use Rattle.std.specs.Prelude.{◌≡◌, ℕ, ◌==◌, ◌||◌, ◌∷◌, [], ◌++◌, Bool, false, not, List, All, if◌then◌else◌}
use Rattle.std.specs.List.{filter}
use Rattle.record_book.specs.Book.{BookState}
use Rattle.record_book.specs.Refusals.{is_ready_in}
use Rattle.system_lock.specs.System.{is_live_in, is_among}

-- these without a process
abbrev pub without : List ℕ → ℕ → List ℕ
without some process = filter (λ other. not (other == process)) some

-- these with one process more, unless it is among them
abbrev pub with_one : List ℕ → ℕ → List ℕ
with_one some process = if is_among some process then some else some ++ process ∷ []

-- whether a process that sleeps is to be woken: its call is ready, or the process has ended
abbrev pub wakes_in : BookState → ℕ → Bool
wakes_in b process = is_ready_in b process || not (is_live_in b process)

-- every process that sleeps is live, and waits in no call that is ready
abbrev pub SleepsSound : BookState → List ℕ → Type 0
SleepsSound b asleep = All (λ process. wakes_in b process ≡ false) asleep
