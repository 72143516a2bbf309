-- What comes before a race: its acts are made one after another, from the empty world on. And the calls of the race itself.
use Rattle.std.specs.Prelude.{◌≡◌, ℕ, List, [], ◌∷◌, ◌++◌, length, Bool, Option, Some, None, Result, Ok, Err, if◌then◌else◌}
use Rattle.slots.specs.Slots.{slot}
use Rattle.process_table.specs.Processes.{is_here}
use Rattle.call_types.specs.declared.act.ScriptAct.{ScriptAct}
use Rattle.call_types.specs.declared.act.ScriptAct.TheVariants as scripts
use Rattle.call_types.specs.declared.act.Act.TheVariants as acts
use Rattle.posix_model.specs.Types.{Act, Outcome, Bounds, Replied}
use Rattle.posix_model.specs.declared.world.World.{World}
use Rattle.posix_model.specs.Step.{step, Stepped}
use Rattle.posix_model.specs.History.{empty_world}
use Rattle.script_text.specs.Reading.{◌>>=◌}
use Rattle.script_text.specs.declared.races.SetupAct.{SetupAct}
use Rattle.script_text.specs.declared.races.RaceCall.{RaceCall}
use Rattle.race_outcomes.specs.declared.lanes.Lane.{Lane}
use Rattle.race_outcomes.specs.declared.setup.ActorsAct.{ActorsAct}
use Rattle.race_outcomes.specs.declared.setup.Setup.{Setup}
use Rattle.race_outcomes.specs.declared.setup.Unready.{Unready}
use Rattle.race_outcomes.specs.declared.setup.Unready.TheVariants as unready
use Rattle.race_outcomes.specs.Lanes.{with_call}

-- ---- the acts before

-- an act of an actor
abbrev pub of_actor : ℕ → Act → ActorsAct
of_actor actor act = record { actor = actor; act = act }

-- whether a process is there and attached
abbrev pub is_attached : World → ℕ → Bool
is_attached w process = is_here (slot w.processes process)

-- who makes an act of a script in a world, and what it is there. A process that is not attached ends by no script, and the closing of the run
-- is nothing that comes before a race
abbrev pub asked_in : World → ScriptAct → Option ActorsAct
asked_in w scripts.Join = Some (of_actor (length w.processes) acts.Join)
asked_in w (scripts.Attach process) = Some (of_actor process acts.Attach)
asked_in w (scripts.Call process call) = Some (of_actor process (acts.Call call))
asked_in w (scripts.Resume process) = Some (of_actor process acts.Resume)
asked_in w (scripts.Exit process) = if is_attached w process then Some (of_actor process acts.Exit) else None
asked_in w scripts.CloseRun = None

-- what was set up after the act of line n, of which this comes: it has to end
abbrev pub ended : Setup → ℕ → ActorsAct → World → Outcome → Result Setup Unready
ended s n asked world (Replied reply) = Ok (record {
  world = world;
  records = s.records ++ record {
    actor = asked.actor;
    act = asked.act;
    outcome =
        Replied reply;
  } ∷ [];
})
ended s n asked world other = Err (unready.Waits n)

-- the same, where it is known whether the rules record the act
abbrev pub recorded : Setup → ℕ → ActorsAct → Option Stepped → Result Setup Unready
recorded s n asked None = Err (unready.Refused n)
recorded s n asked (Some stepped) = ended s n asked stepped.world stepped.outcome

-- what was set up after the act of line n, if it is one
abbrev pub made : Bounds → Setup → ℕ → Option ActorsAct → Result Setup Unready
made bounds s n None = Err (unready.Refused n)
made bounds s n (Some asked) = recorded s n asked (step bounds s.world asked.actor asked.act)

-- what was set up after one more act
abbrev pub one_more : Bounds → Setup → SetupAct → Result Setup Unready
one_more bounds s act = made bounds s act.line (asked_in s.world act.act)

-- what was set up after these acts, one after another, or the first fault
abbrev pub set_up_from : Bounds → Setup → List SetupAct → Result Setup Unready
set_up_from bounds s [] = Ok s
set_up_from bounds s (act ∷ acts) = one_more bounds s act >>= λ next. set_up_from bounds next acts

-- nothing was set up yet
abbrev pub nothing_yet : Setup
nothing_yet = record { world = empty_world; records = [] }

-- what these acts set up, or the first fault
abbrev pub set_up : Bounds → List SetupAct → Result Setup Unready
set_up bounds acts = set_up_from bounds nothing_yet acts

-- what is returned is this, unless memory ran out
abbrev pub Returns : Result Setup Unready → Result Setup Unready → Type 0
Returns this (Err unready.NoMemory) = Unit {0}
Returns this other = this ≡ other

-- ---- the calls of the race

-- the line of the first call of a process that is not attached
abbrev pub absent : World → List RaceCall → Option ℕ
absent w [] = None
absent w (call ∷ calls) = if is_attached w call.process then absent w calls else Some call.line

-- these lanes with the calls too, each in the lane of its process
abbrev pub lanes_from : List Lane → List RaceCall → List Lane
lanes_from lanes [] = lanes
lanes_from lanes (call ∷ calls) = lanes_from (with_call call.process call.call lanes) calls

-- the lanes of the calls
abbrev pub lanes_of : List RaceCall → List Lane
lanes_of calls = lanes_from [] calls
