-- How each act of a script goes, as a run knows it (own).
use Rattle.std.specs.Prelude.{◌≡◌, ℕ, true, false, None, Some, Result, Ok, Err}
use Rattle.call_types.specs.declared.act.Act.{Act}
use Rattle.call_types.specs.declared.act.Act.TheVariants as act
use Rattle.call_types.specs.declared.act.ScriptAct.{ScriptAct}
use Rattle.call_types.specs.declared.act.ScriptAct.TheVariants as script
use Rattle.call_types.specs.declared.call.Call.{Call}
use Rattle.call_types.specs.declared.refusal.Refusal.{Refusal}
use Rattle.posix_model.specs.Step.{outcome_of}
use Rattle.record_book.specs.Seat.{Receipted}
use Rattle.record_book.specs.Refusals.{IsDue, call_refusals, exit_refusals, first_refusal, is_run_ready, opening_refusals, resume_refusals}
use Rattle.record_book.specs.RunState.{RunState, grown, next_of}
use Rattle.script_run.specs.declared.told.ScriptAnswer.{ScriptAnswer}
use Rattle.script_run.specs.declared.told.ScriptAnswer.TheVariants.{Recorded, Still, Refused}

-- one record of this act is made, with the model's outcome, and it is told with its place
pub record Grows (old new : RunState) (actor : ℕ) (act : Act) (told : Receipted) : Type 0 where
  pub outcome : outcome_of old.limits.bounds old.world actor act ≡ Some told.record_is.outcome
  pub actor_is : told.record_is.actor ≡ actor
  pub act_is : told.record_is.act ≡ act
  pub place : told.place ≡ old.counts.records
  pub new_is : new ≡ grown old told.record_is

-- a join or an attach is recorded, or refused with nothing changed
abbrev pub OpeningGoes : RunState → RunState → ℕ → Act → Result Receipted Refusal → Type 0
OpeningGoes old new actor act (Ok told) = (first_refusal (opening_refusals old actor act) ≡ None) × Grows old new actor act told
OpeningGoes old new actor act (Err refusal) = IsDue (first_refusal (opening_refusals old actor act)) refusal × (new ≡ old)

abbrev pub JoinGoes : RunState → RunState → Result Receipted Refusal → Type 0
JoinGoes old new ran = OpeningGoes old new (next_of old) act.Join ran

abbrev pub AttachGoes : RunState → RunState → ℕ → Result Receipted Refusal → Type 0
AttachGoes old new process ran = OpeningGoes old new process act.Attach ran

-- so is an exit, which no want of memory refuses
abbrev pub ExitGoes : RunState → RunState → ℕ → Result Receipted Refusal → Type 0
ExitGoes old new process (Ok told) = (first_refusal (exit_refusals old process) ≡ None) × Grows old new process act.Exit told
ExitGoes old new process (Err refusal) = (first_refusal (exit_refusals old process) ≡ Some refusal) × (new ≡ old)

-- a call is told as recorded, or as refused with nothing changed
abbrev pub CallGoes : RunState → RunState → ℕ → Call → ScriptAnswer → Type 0
CallGoes old new process c (Recorded told) = (first_refusal (call_refusals old process c) ≡ None) × Grows old new process (act.Call c) told
CallGoes old new process c (Refused actor refused refusal) = (actor ≡ process) × (refused ≡ script.Call process c) × IsDue
    (first_refusal (call_refusals old process c)) refusal × (new ≡ old)
CallGoes old new process c other = ⊥

-- a resume is refused with nothing changed: it is due, and where its process would not be refused an exit, its call is ready
pub record ResumeRefused (s : RunState) (process : ℕ) (refusal : Refusal) : Type 0 where
  pub due : IsDue (first_refusal (resume_refusals s process)) refusal
  pub ready : first_refusal (exit_refusals s process) ≡ None → is_run_ready s process ≡ true

-- a resume is recorded; or its process waits in no call that is ready; or it is refused
abbrev pub ResumeGoes : RunState → RunState → ℕ → ScriptAnswer → Type 0
ResumeGoes old new process (Recorded told) = (first_refusal (resume_refusals old process) ≡ None) × (is_run_ready old process ≡ true) × Grows old new process
    act.Resume told
ResumeGoes old new process (Still actor still) = (actor ≡ process) × (still ≡ script.Resume process) × (first_refusal (exit_refusals old process) ≡ None) ×
    (is_run_ready old process ≡ false) × (new ≡ old)
ResumeGoes old new process (Refused actor refused refusal) = (actor ≡ process) × (refused ≡ script.Resume process) × ResumeRefused old process refusal ×
    (new ≡ old)
ResumeGoes old new process other = ⊥

-- what is told of an act of this actor that was recorded or refused
abbrev pub answer_of : ℕ → ScriptAct → Result Receipted Refusal → ScriptAnswer
answer_of actor a (Ok told) = Recorded told
answer_of actor a (Err refusal) = Refused actor a refusal
