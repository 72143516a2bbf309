-- The call of a word is the call of what follows its process.
use Rattle.std.proofs.Common.{◌≡◌, ℕ, List, [], ◌∷◌, Some, Result, Ok, refl, ap}
use Rattle.call_types.specs.CallTable.{open_entry, close_entry, read_entry, write_entry, pread_entry, pwrite_entry, lseek_entry, dup_entry, dup2_entry, link_entry, unlink_entry, fstat_entry}
use Rattle.call_types.specs.declared.call.Call.{Call}
use Rattle.call_types.specs.declared.call.Call.TheVariants as calls
use Rattle.call_types.specs.declared.act.ScriptAct.{ScriptAct}
use Rattle.call_types.specs.declared.act.ScriptAct.TheVariants as acts
use Rattle.script_text.specs.Reading.{◌>>=◌, BadWord}
use Rattle.script_text.specs.ReadingCalls.{entry_at}
use Rattle.script_text.specs.Proved.Ahead.{act_after}

-- a call that was read is an act of the process
of_process : (process : ℕ) (call : Call) (read : Result Call BadWord) → read ≡ Ok call → (read >>= λ call. Ok (acts.Call process call)) ≡ Ok
    (acts.Call process call)
of_process process call read e = ap (λ (r : Result Call BadWord). r >>= λ call. Ok (acts.Call process call)) e

pub open_next : (process : ℕ) (rest : List ℕ) (call : Call) → entry_at open_entry (Some rest) ≡ Ok call →
    act_after process (Some (111 ∷ 112 ∷ 101 ∷ 110 ∷ 32 ∷ rest)) ≡ Ok (acts.Call process call)
open_next process rest call e = of_process process call (entry_at open_entry (Some rest)) e

pub close_next : (process : ℕ) (rest : List ℕ) (call : Call) → entry_at close_entry (Some rest) ≡ Ok call →
    act_after process (Some (99 ∷ 108 ∷ 111 ∷ 115 ∷ 101 ∷ 32 ∷ rest)) ≡ Ok (acts.Call process call)
close_next process rest call e = of_process process call (entry_at close_entry (Some rest)) e

pub read_next : (process : ℕ) (rest : List ℕ) (call : Call) → entry_at read_entry (Some rest) ≡ Ok call →
    act_after process (Some (114 ∷ 101 ∷ 97 ∷ 100 ∷ 32 ∷ rest)) ≡ Ok (acts.Call process call)
read_next process rest call e = of_process process call (entry_at read_entry (Some rest)) e

pub write_next : (process : ℕ) (rest : List ℕ) (call : Call) → entry_at write_entry (Some rest) ≡ Ok call →
    act_after process (Some (119 ∷ 114 ∷ 105 ∷ 116 ∷ 101 ∷ 32 ∷ rest)) ≡ Ok (acts.Call process call)
write_next process rest call e = of_process process call (entry_at write_entry (Some rest)) e

pub pread_next : (process : ℕ) (rest : List ℕ) (call : Call) → entry_at pread_entry (Some rest) ≡ Ok call →
    act_after process (Some (112 ∷ 114 ∷ 101 ∷ 97 ∷ 100 ∷ 32 ∷ rest)) ≡ Ok (acts.Call process call)
pread_next process rest call e = of_process process call (entry_at pread_entry (Some rest)) e

pub pwrite_next : (process : ℕ) (rest : List ℕ) (call : Call) → entry_at pwrite_entry (Some rest) ≡ Ok call →
    act_after process (Some (112 ∷ 119 ∷ 114 ∷ 105 ∷ 116 ∷ 101 ∷ 32 ∷ rest)) ≡ Ok (acts.Call process call)
pwrite_next process rest call e = of_process process call (entry_at pwrite_entry (Some rest)) e

pub lseek_next : (process : ℕ) (rest : List ℕ) (call : Call) → entry_at lseek_entry (Some rest) ≡ Ok call →
    act_after process (Some (108 ∷ 115 ∷ 101 ∷ 101 ∷ 107 ∷ 32 ∷ rest)) ≡ Ok (acts.Call process call)
lseek_next process rest call e = of_process process call (entry_at lseek_entry (Some rest)) e

pub dup_next : (process : ℕ) (rest : List ℕ) (call : Call) → entry_at dup_entry (Some rest) ≡ Ok call → act_after process (Some (100 ∷ 117 ∷ 112 ∷ 32 ∷ rest))
    ≡ Ok (acts.Call process call)
dup_next process rest call e = of_process process call (entry_at dup_entry (Some rest)) e

pub dup2_next : (process : ℕ) (rest : List ℕ) (call : Call) → entry_at dup2_entry (Some rest) ≡ Ok call →
    act_after process (Some (100 ∷ 117 ∷ 112 ∷ 50 ∷ 32 ∷ rest)) ≡ Ok (acts.Call process call)
dup2_next process rest call e = of_process process call (entry_at dup2_entry (Some rest)) e

pub link_next : (process : ℕ) (rest : List ℕ) (call : Call) → entry_at link_entry (Some rest) ≡ Ok call →
    act_after process (Some (108 ∷ 105 ∷ 110 ∷ 107 ∷ 32 ∷ rest)) ≡ Ok (acts.Call process call)
link_next process rest call e = of_process process call (entry_at link_entry (Some rest)) e

pub unlink_next : (process : ℕ) (rest : List ℕ) (call : Call) → entry_at unlink_entry (Some rest) ≡ Ok call →
    act_after process (Some (117 ∷ 110 ∷ 108 ∷ 105 ∷ 110 ∷ 107 ∷ 32 ∷ rest)) ≡ Ok (acts.Call process call)
unlink_next process rest call e = of_process process call (entry_at unlink_entry (Some rest)) e

pub fstat_next : (process : ℕ) (rest : List ℕ) (call : Call) → entry_at fstat_entry (Some rest) ≡ Ok call →
    act_after process (Some (102 ∷ 115 ∷ 116 ∷ 97 ∷ 116 ∷ 32 ∷ rest)) ≡ Ok (acts.Call process call)
fstat_next process rest call e = of_process process call (entry_at fstat_entry (Some rest)) e

pub fork_next : (process : ℕ) → act_after process (Some (102 ∷ 111 ∷ 114 ∷ 107 ∷ [])) ≡ Ok (acts.Call process calls.Fork)
fork_next process = refl

pub pipe_next : (process : ℕ) → act_after process (Some (112 ∷ 105 ∷ 112 ∷ 101 ∷ [])) ≡ Ok (acts.Call process calls.Pipe)
pipe_next process = refl

-- acts that are no calls, after whose word nothing stands
pub attach_next : (process : ℕ) (rest : List ℕ) (act : ScriptAct) → act ≡ acts.Attach process → rest ≡ [] →
    act_after process (Some (97 ∷ 116 ∷ 116 ∷ 97 ∷ 99 ∷ 104 ∷ rest)) ≡ Ok act
attach_next process rest act is end = rw (is, end) refl

pub resume_next : (process : ℕ) (rest : List ℕ) (act : ScriptAct) → act ≡ acts.Resume process → rest ≡ [] →
    act_after process (Some (114 ∷ 101 ∷ 115 ∷ 117 ∷ 109 ∷ 101 ∷ rest)) ≡ Ok act
resume_next process rest act is end = rw (is, end) refl

pub exit_next : (process : ℕ) (rest : List ℕ) (act : ScriptAct) → act ≡ acts.Exit process → rest ≡ [] → act_after process (Some (101 ∷ 120 ∷ 105 ∷ 116 ∷ rest))
    ≡ Ok act
exit_next process rest act is end = rw (is, end) refl
