-- Why a run that is closed comes to no totals, or is not reported.
use Rattle.std.proofs.Common.{◌≡◌, ◌≤◌, ℕ, List, Option, Some, length}
use Rattle.call_types.specs.declared.act.Record.{Record}
use Rattle.record_book.specs.Book.{BookState}
use Rattle.record_book.specs.Counting.{seats_given}
use Rattle.trace_writer.specs.declared.traced.TraceFault.{TraceFault}
use Rattle.run_core.specs.Proved.Closing.{DiffersFor}
use Rattle.run_core.specs.Receipts.{Held}
use Rattle.run_core.specs.Run.{ClosesFor, IsLeast, fault_of_closing}
use Rattle.run_core.specs.Unreported.{UnreportedFor}
use Rattle.run_core.specs.declared.closing.CloseFault.{CloseFault}
use Rattle.run_core.specs.declared.closing.CloseFault.TheVariants as fault

-- where all shares are there and not all places agree, the run is closed for that
pub closes_for : (b : BookState) (seats : ℕ) (held : List Held) (why : Option TraceFault) (received : List Record) (records : ℕ) (least : Option ℕ)
    (closing : CloseFault)
    → seats ≡ seats_given b → records ≡ length b.history
    → ((place : ℕ) → least ≡ Some place → IsLeast b.history held received place)
    → DiffersFor least why records received closing → ClosesFor b seats held why received closing
closes_for b seats held why received records least fault.NoMemory all are is_least differs = tt
closes_for b seats held why received records least (fault.Missing m) all are is_least differs = absurd differs
closes_for b seats held why received records least (fault.Disagree place) all are is_least differs =
    (all, is_least place differs.0, λ torn. differs.1 (torn.0, rw are torn.1))

-- where no share is missing and not all places agree, that is why the run is not reported
pub unreported_for : (b : BookState) (seats : ℕ) (held : List Held) (why : Option TraceFault) (received : List Record) (records : ℕ) (least : Option ℕ)
    (closing : CloseFault)
    → seats_given b ≤ seats → records ≡ length b.history
    → ((place : ℕ) → least ≡ Some place → IsLeast b.history held received place)
    → DiffersFor least why records received closing → UnreportedFor b seats held why received (fault_of_closing closing)
unreported_for b seats held why received records least fault.NoMemory all are is_least differs = tt
unreported_for b seats held why received records least (fault.Missing m) all are is_least differs = absurd differs
unreported_for b seats held why received records least (fault.Disagree place) all are is_least differs =
    (all, is_least place differs.0, λ torn. differs.1 (torn.0, rw are torn.1))
