-- The record that is told of an act is about it.
use Rattle.std.proofs.Common.{◌≡◌, ℕ, Result, Ok, Err, sym, subst}
use Rattle.call_types.specs.declared.act.ScriptAct.{ScriptAct}
use Rattle.call_types.specs.declared.act.ScriptAct.TheVariants as script
use Rattle.call_types.specs.declared.call.Call.{Call}
use Rattle.call_types.specs.declared.refusal.Refusal.{Refusal}
use Rattle.record_book.specs.Seat.{Receipted}
use Rattle.record_book.specs.RunState.{RunState}
use Rattle.script_run.specs.ToldOf.{IsToldOf}
use Rattle.script_run.specs.Proved.Going.{JoinGoes, AttachGoes, ExitGoes, CallGoes, ResumeGoes, answer_of}
use Rattle.script_run.specs.declared.told.ScriptAnswer.{ScriptAnswer}
use Rattle.script_run.specs.declared.told.ScriptAnswer.TheVariants.{Recorded, Closed, Still, Refused}

pub call_told : (old new : RunState) (process : ℕ) (call : Call) (told : ScriptAnswer) → CallGoes old new process call told →
    IsToldOf (script.Call process call) told
call_told old new process call (Recorded told) goes = (goes.1.actor_is, goes.1.act_is)
call_told old new process call (Closed records) goes = tt
call_told old new process call (Still actor still) goes = tt
call_told old new process call (Refused actor refused refusal) goes = tt

pub resume_told : (old new : RunState) (process : ℕ) (told : ScriptAnswer) → ResumeGoes old new process told → IsToldOf (script.Resume process) told
resume_told old new process (Recorded told) goes = (goes.2.actor_is, goes.2.act_is)
resume_told old new process (Closed records) goes = tt
resume_told old new process (Still actor still) goes = tt
resume_told old new process (Refused actor refused refusal) goes = tt

-- what is told by its result
by_result : (actor : ℕ) (a : ScriptAct) (ran : Result Receipted Refusal) (told : ScriptAnswer) → told ≡ answer_of actor a ran →
    IsToldOf a (answer_of actor a ran) → IsToldOf a told
by_result actor a ran told is own = subst (IsToldOf a) (sym is) own

join_own : (old new : RunState) (actor : ℕ) (ran : Result Receipted Refusal) → JoinGoes old new ran → IsToldOf script.Join (answer_of actor script.Join ran)
join_own old new actor (Ok told) goes = goes.1.act_is
join_own old new actor (Err refusal) goes = tt

pub join_told : (old new : RunState) (actor : ℕ) (ran : Result Receipted Refusal) (told : ScriptAnswer) → JoinGoes old new ran →
    told ≡ answer_of actor script.Join ran → IsToldOf script.Join told
join_told old new actor ran told goes is = by_result actor script.Join ran told is (join_own old new actor ran goes)

attach_own : (old new : RunState) (process : ℕ) (ran : Result Receipted Refusal) → AttachGoes old new process ran →
    IsToldOf (script.Attach process) (answer_of process (script.Attach process) ran)
attach_own old new process (Ok told) goes = (goes.1.actor_is, goes.1.act_is)
attach_own old new process (Err refusal) goes = tt

pub attach_told : (old new : RunState) (process : ℕ) (ran : Result Receipted Refusal) (told : ScriptAnswer) → AttachGoes old new process ran →
    told ≡ answer_of process (script.Attach process) ran → IsToldOf (script.Attach process) told
attach_told old new process ran told goes is = by_result process (script.Attach process) ran told is (attach_own old new process ran goes)

exit_own : (old new : RunState) (process : ℕ) (ran : Result Receipted Refusal) → ExitGoes old new process ran →
    IsToldOf (script.Exit process) (answer_of process (script.Exit process) ran)
exit_own old new process (Ok told) goes = (goes.1.actor_is, goes.1.act_is)
exit_own old new process (Err refusal) goes = tt

pub exit_told : (old new : RunState) (process : ℕ) (ran : Result Receipted Refusal) (told : ScriptAnswer) → ExitGoes old new process ran →
    told ≡ answer_of process (script.Exit process) ran → IsToldOf (script.Exit process) told
exit_told old new process ran told goes is = by_result process (script.Exit process) ran told is (exit_own old new process ran goes)
