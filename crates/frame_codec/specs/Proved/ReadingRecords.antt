-- Reading a record's payload (own).
use Rattle.std.specs.Prelude.{ℕ, ◌==◌, Bool, true, List, [], ◌∷◌}
use Rattle.std.specs.Int.{w32}
use Rattle.call_types.specs.declared.act.TheConstants.{HOUSE}
use Rattle.call_types.specs.declared.act.Act.{Act}
use Rattle.call_types.specs.declared.act.Act.TheVariants as acts
use Rattle.call_types.specs.declared.act.Record.{Record}
use Rattle.call_types.specs.declared.outcome.Outcome.{Outcome}
use Rattle.frame_codec.specs.Proved.Reading.{Reading, lone, as_at, two_at, tested, number_at, Row, tagged_or}
use Rattle.frame_codec.specs.Proved.ReadingRequests.{call_at}
use Rattle.frame_codec.specs.Proved.ReadingAnswers.{outcome_at}

-- the acts that are no calls, by their bytes
abbrev pub act_rows : List (Row Act)
act_rows =
    (1, lone acts.Join)
    ∷ (2, lone acts.Attach)
    ∷ (3, lone acts.Resume)
    ∷ (4, lone acts.Exit)
    ∷ (5, lone acts.CloseRun)
    ∷ []

-- an act: one of these, or a call
unfoldable pub act_at : Reading Act
act_at bytes = tagged_or act_rows (as_at call_at acts.Call) bytes

-- whether an act may have an actor: the closing has its own
abbrev pub may_act : Act → ℕ → Bool
may_act acts.CloseRun actor = actor == HOUSE
may_act other actor = true

-- an actor, and an act that it may do
abbrev pub acted_at : Reading (ℕ × Act)
acted_at bytes = tested (λ p. may_act p.1 p.0) (two_at (number_at w32) act_at) bytes

-- a record, made of its parts
abbrev pub record_from : (ℕ × Act) × Outcome → Record
record_from p = record { actor = p.0.0; act = p.0.1; outcome = p.1 }

-- a record
abbrev pub record_at : Reading Record
record_at bytes = as_at (two_at acted_at outcome_at) record_from bytes
