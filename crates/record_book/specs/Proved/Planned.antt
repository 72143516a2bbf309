-- What a run asks of an act before it records it (own).
use Rattle.std.specs.Prelude.{◌≡◌, ◌≤◌, ℕ, false, Some, length}
use Rattle.call_types.specs.declared.act.Act.{Act}
use Rattle.posix_model.specs.Proved.Fits.{Fits, IsProper, PutsWithin}
use Rattle.posix_model.specs.Proved.Laws.{Counts}
use Rattle.posix_model.specs.Proved.Sound.{data_of, adds, ended, closes, IsTold}
use Rattle.posix_model.specs.Proved.Whole.{IsWhole}
use Rattle.posix_model.specs.Step.{given, comes_to, stepped}
use Rattle.posix_model.specs.Turns.{took}
use Rattle.posix_model.specs.declared.change.Decided.{Decided}
use Rattle.record_book.specs.RunState.{RunState}
use Rattle.record_book.specs.Refusals.{is_run_full}

-- what was decided is what the act comes to; its change can be made in the world, in which nothing refers to what is gone, and leaves such
-- a world; it takes no more bytes than its call gives; and its record fits into the run
pub record IsPlanned (s : RunState) (actor : ℕ) (act : Act) (d : Decided) : Type 0 where
  pub comes_to_is : comes_to s.limits.bounds s.world actor act ≡ Some d
  pub fits : Fits s.world (given act) d.change
  pub proper : IsProper s.world (given act) d.change
  pub puts : PutsWithin s.limits.bounds.pipe_capacity s.world d.change.files
  pub whole : IsWhole s.world
  pub whole_after : IsWhole (stepped s.world (given act) d).world
  pub counts : Counts s.world (stepped s.world (given act) d).world (adds s.world act) (ended act) (closes act)
  pub told : IsTold s.world act d.outcome d.change.process
  pub few : took s.world (record { actor = actor; act = act; outcome = d.outcome }) ≤ length (data_of s.world actor act)
  pub roomy : is_run_full s actor act ≡ false
