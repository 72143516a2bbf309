-- What is said of the next record (own).
use Rattle.std.specs.Prelude.{◌≡◌, ◌≢◌, ◌+◌, ◌⊎◌, true, false, Option, None, Some}
use Rattle.call_types.specs.declared.act.Act.{Act}
use Rattle.call_types.specs.declared.act.Record.{Record}
use Rattle.call_types.specs.declared.outcome.Outcome.{Outcome}
use Rattle.frame_codec.specs.Decoding.{told_place}
use Rattle.frame_codec.specs.declared.trace.ToldLimits.{ToldLimits}
use Rattle.posix_model.specs.declared.world.World.{World}
use Rattle.posix_model.specs.declared.change.Decided.{Decided}
use Rattle.posix_model.specs.Proved.Fits.{Fits, IsProper, PutsWithin}
use Rattle.posix_model.specs.Proved.Whole.{IsWhole}
use Rattle.posix_model.specs.Step.{given, stepped, outcome_of}
use Rattle.posix_model.specs.History.{empty_world, after}
use Rattle.posix_model.specs.Reserve.{can_end}
use Rattle.audit_core.specs.declared.judge.Judged.{Judged}
use Rattle.audit_core.specs.declared.judge.Judged.TheVariants as judged
use Rattle.audit_core.specs.Verdict.{ended_by}
use Rattle.audit_core.specs.declared.verdict.Ending.TheVariants.{Open}
use Rattle.audit_core.specs.JudgeState.{JudgeState}

-- before the first record
abbrev pub fresh_judge : ToldLimits → JudgeState
fresh_judge told = record { told = told; world = empty_world; place = 0; ending = Open }

-- after what led to this world, at the same place
abbrev pub in_world : JudgeState → World → JudgeState
in_world j w = record { told = j.told; world = w; place = j.place; ending = j.ending }

-- after one record more, which is about this act and led to this world
abbrev pub one_more : JudgeState → Act → World → JudgeState
one_more j act w = record { told = j.told; world = w; place = told_place (j.place + 1); ending = ended_by act }

-- the record is what the model gives, the run can be ended after it, and the world goes on
pub record GoesOn (old new : JudgeState) (r : Record) : Type 0 where
  pub outcome : outcome_of old.told.bounds old.world r.actor r.act ≡ Some r.outcome
  pub ends : can_end old.told.records (after old.told.bounds old.world r) (old.place + 1) ≡ true
  pub new_is : new ≡ one_more old r.act (after old.told.bounds old.world r)

-- the model gives something else or nothing
pub record StopsAt (old new : JudgeState) (r : Record) (expected : Option Outcome) : Type 0 where
  pub outcome : outcome_of old.told.bounds old.world r.actor r.act ≡ expected
  pub differs : expected ≢ Some r.outcome
  pub place_is : new.place ≡ old.place

-- the record is what the model gives, but the run could not be ended after it
pub record EndsNot (old new : JudgeState) (r : Record) (expected : Option Outcome) : Type 0 where
  pub outcome : outcome_of old.told.bounds old.world r.actor r.act ≡ Some r.outcome
  pub ends_not : can_end old.told.records (after old.told.bounds old.world r) (old.place + 1) ≡ false
  pub expected_is : expected ≡ None
  pub place_is : new.place ≡ old.place

-- what is said of a record
abbrev pub Judges : JudgeState → JudgeState → Record → Judged → Type 0
Judges old new r judged.Same = GoesOn old new r
Judges old new r (judged.Differs expected) = StopsAt old new r expected ⊎ EndsNot old new r expected

-- what was decided of an act can be made, in a world in which nothing refers to what is gone, and leaves such a world
pub record CanMake (j : JudgeState) (act : Act) (d : Decided) : Type 0 where
  pub fits : Fits j.world (given act) d.change
  pub proper : IsProper j.world (given act) d.change
  pub puts : PutsWithin j.told.bounds.pipe_capacity j.world d.change.files
  pub whole : IsWhole j.world
  pub whole_after : IsWhole (stepped j.world (given act) d).world
