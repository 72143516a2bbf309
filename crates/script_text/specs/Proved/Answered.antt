-- Answers in their range, and what texts ask for, said row by row (own).
use Rattle.std.specs.Prelude.{◌≡◌, ℕ, ◌<◌, ◌≤◌, ◌^◌, List, [], ◌∷◌, length, map, codes, Option, Some, None, Result, Ok, Err, pos}
use Rattle.call_types.specs.Ranges.{AreBytes}
use Rattle.call_types.specs.declared.limits.TheConstants.{GIVEN_BYTES_MAX}
use Rattle.call_types.specs.declared.call.Call.TheVariants as calls
use Rattle.call_types.specs.declared.act.ScriptAct.TheVariants as acts
use Rattle.call_types.specs.declared.outcome.Outcome.{Outcome}
use Rattle.call_types.specs.declared.outcome.Outcome.TheVariants as outcomes
use Rattle.call_types.specs.declared.outcome.Reply.{Reply}
use Rattle.call_types.specs.declared.outcome.Reply.TheVariants as replies
use Rattle.script_text.specs.declared.races.RaceScript.{RaceScript}
use Rattle.script_text.specs.declared.races.RaceFault.{RaceFault}
use Rattle.script_text.specs.declared.races.RaceFault.TheVariants as faults
use Rattle.script_text.specs.declared.fault.Expected.TheVariants as expect
use Rattle.script_text.specs.Answers.{asked_of}
use Rattle.script_text.specs.Races.{race_script}

-- a reply in its range
abbrev pub FitsReply : Reply → Type 0
FitsReply (replies.Number n) = n < 2 ^ 64
FitsReply (replies.Data bytes) = AreBytes bytes × (length bytes ≤ GIVEN_BYTES_MAX)
FitsReply (replies.Pair first second) = (first < 2 ^ 64) × (second < 2 ^ 64)
FitsReply (replies.Stat stat) = (stat.size < 2 ^ 64) × (stat.links < 2 ^ 64)
FitsReply other = Unit {0}

-- an answer in its range; a call that waits has moved a count of 32 bits
abbrev pub FitsAnswer : Option Outcome → Type 0
FitsAnswer None = Unit {0}
FitsAnswer (Some (outcomes.Reply reply)) = FitsReply reply
FitsAnswer (Some (outcomes.Parked moved)) = moved < 2 ^ 32
FitsAnswer (Some (outcomes.Part moved)) = moved < 2 ^ 32

-- a text behind a call, and what it asks for
pub record AskedRow : Type 0 where
  pub text : List ℕ
  pub asked : Option (Option (List ℕ))

-- a row for each kind of answer, and some that are none
abbrev pub asked_rows : List AskedRow
asked_rows =
    record { text = codes "?"; asked = Some None } ∷
    record { text = codes "-"; asked = Some (Some (codes "-")) } ∷
    record { text = codes "ok"; asked = Some (Some (codes "ok")) } ∷
    record { text = codes "1021"; asked = Some (Some (codes "1021")) } ∷
    record { text = codes "x6869"; asked = Some (Some (codes "x6869")) } ∷
    record { text = codes "61*3"; asked = Some (Some (codes "x616161")) } ∷
    record { text = codes "3 4"; asked = Some (Some (codes "3 4")) } ∷
    record { text = codes "fifo 0 1"; asked = Some (Some (codes "fifo 0 1")) } ∷
    record { text = codes "error EAGAIN"; asked = Some (Some (codes "error EAGAIN")) } ∷
    record { text = codes "waits 5"; asked = Some (Some (codes "waits 5")) } ∷
    record { text = codes ""; asked = None } ∷
    record { text = codes "01"; asked = None } ∷
    record { text = codes "ok "; asked = None } ∷
    record { text = codes "3  4"; asked = None } ∷
    record { text = codes "fifo 0"; asked = None } ∷
    record { text = codes "error EPERM"; asked = None } ∷
    record { text = codes "waits 4294967296"; asked = None } ∷
    record { text = codes "parked 0"; asked = None } ∷ []

-- a script, and the race that it is, or its fault
pub record RaceRow : Type 0 where
  pub text : List ℕ
  pub race : Result RaceScript RaceFault

-- a race, and each of its faults but the one of a script that is too long
abbrev pub race_rows : List RaceRow
race_rows =
    record {
      text = codes "join\n\np0 attach\nrace\n\np0 pipe = 3 4\np0 close 3\np1 read 3 5 = 61*2\np1 dup 3 = ?";
      race =
          Ok (
          record {
            setup = record { line = 1; act = acts.Join } ∷ record { line = 3; act = acts.Attach 0 } ∷ [];
            calls =
                record { line = 6; process = 0; call = calls.Pipe; asked = Some (codes "3 4") } ∷
                record { line = 7; process = 0; call = calls.Close (pos 3); asked = None } ∷
                record { line = 8; process = 1; call = calls.Read (pos 3) 5; asked = Some (codes "x6161") } ∷
                record { line = 9; process = 1; call = calls.Dup (pos 3); asked = None } ∷ [];
          });
    } ∷
    record { text = codes "join\nracing\nrace"; race = Err (faults.BadLine 2 1 expect.ActorOrRace) } ∷
    record { text = codes "p0 race"; race = Err (faults.BadLine 1 4 expect.Act) } ∷
    record { text = codes "race\np0 close x = 3"; race = Err (faults.BadLine 2 10 expect.Descriptor) } ∷
    record { text = codes "race\np0 close 3 = EBADF"; race = Err (faults.BadAnswer 2 14) } ∷
    record { text = codes "race\np0 exit"; race = Err (faults.NoCall 2) } ∷
    record { text = codes "race\nrace"; race = Err (faults.BadLine 2 1 expect.Process) } ∷
    record { text = codes "race\np0"; race = Err (faults.BadLine 2 3 expect.Call) } ∷
    record { text = codes "join\np0 attach"; race = Err faults.NoRace } ∷ []

-- each text asks for what its row says, and each script is the race of its row
pub record RaceRows : Type 0 where
  pub asked : map (λ (row : AskedRow). asked_of row.text) asked_rows ≡ map (λ (row : AskedRow). row.asked) asked_rows
  pub races : map (λ (row : RaceRow). race_script row.text) race_rows ≡ map (λ (row : RaceRow). row.race) race_rows
