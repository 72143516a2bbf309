-- What the end of a job is told by: an exit status, and what is written on standard error (own).
use Rattle.std.specs.Prelude.{ℕ, List, [], ◌++◌, codes, decimal}
use Rattle.script_text.specs.Expected.{expected_text}
use Rattle.job_core.specs.declared.job_end.JobEnd.{JobEnd}
use Rattle.job_core.specs.declared.job_end.JobEnd.TheVariants as ended
use Rattle.job_core.specs.declared.job_end.Unfit.{Unfit}
use Rattle.job_core.specs.declared.job_end.Unfit.TheVariants as unfit

-- the exit status of an end
abbrev pub ended_status : JobEnd → ℕ
ended_status ended.Done = 0
ended_status (ended.BadLine line column expected) = 3
ended_status ended.TooLong = 3
ended_status ended.CannotRead = 4
ended_status ended.CannotWrite = 4
ended_status ended.NoMemory = 5
ended_status ended.CannotListen = 4
ended_status ended.TraceFault = 4
ended_status ended.NoThread = 5
ended_status ended.MissingShare = 6
ended_status (ended.Disagree place) = 6
ended_status ended.IllegalTrace = 7
ended_status ended.MalformedTrace = 8
ended_status (ended.Rest bytes) = 0
ended_status (ended.Malformed at) = 8
ended_status (ended.BadRace line why) = 3
ended_status (ended.BadAnswer line column) = 3
ended_status ended.NoRace = 3
ended_status (ended.TooManyStates most) = 9
ended_status ended.NoneAgrees = 1
ended_status ended.NoSuchOutcome = 1
ended_status ended.Incomplete = 1
ended_status ended.NothingJudged = 0
ended_status (ended.CarriageReturn line column) = 3
ended_status (ended.NeedsText line column) = 3
ended_status (ended.BadString line column) = 3

-- why a line of a race cannot stand where it does, and what can (own)
abbrev pub unfit_text : Unfit → List ℕ
unfit_text unfit.NoCall = codes "not a call\nexpected a call of a process, as p0 read 0 5"
unfit_text unfit.Refused = codes "refused\nexpected an act that leaves a record: a join, an attach, or a call or exit of an attached process"
unfit_text unfit.Waits = codes "waits\nexpected a call that comes back before the race"
unfit_text unfit.NotAttached = codes "not attached\nexpected a call of a process that is attached when the race begins"

-- what is written of an end on standard error (own)
abbrev pub ended_text : JobEnd → List ℕ
ended_text ended.Done = []
ended_text (ended.BadLine line column expected) =
    codes "line " ++ (decimal line ++ (codes " column " ++ (decimal column ++ (codes ": not an act\nexpected " ++ (expected_text expected ++ codes "\n")))))
ended_text (ended.CarriageReturn line column) =
    codes "line " ++ (decimal line ++ (codes " column " ++ (decimal column ++ codes ": not an act\nexpected a line without a carriage return at its end\n")))
ended_text (ended.NeedsText line column) =
    codes "line " ++ (decimal line ++ (codes " column " ++
    (decimal column ++ codes ": not an act\nexpected an act; comments and strings are read with --text\n")))
ended_text (ended.BadString line column) =
    codes "line " ++ (decimal line ++ (codes " column " ++
    (decimal column ++ codes ": not an act\nexpected a string of at most 65700 bytes, as \"hi\\n\": bytes from 32 to 126, \\n, \\t, \\r, \\\" and \\\\, and a quote that ends the word\n")))
ended_text ended.TooLong = codes "script too long\nexpected at most 16777216 bytes\n"
ended_text ended.CannotRead = codes "cannot read\n"
ended_text ended.CannotWrite = codes "cannot write\n"
ended_text ended.NoMemory = codes "no memory\n"
ended_text ended.CannotListen = codes "cannot listen\n"
ended_text ended.TraceFault = codes "trace fault\n"
ended_text ended.NoThread = codes "no thread\n"
ended_text ended.MissingShare = codes "missing share\n"
ended_text (ended.Disagree place) = codes "disagree at " ++ (decimal place ++ codes "\n")
ended_text ended.IllegalTrace = []
ended_text ended.MalformedTrace = []
ended_text (ended.Rest bytes) = codes "rest " ++ (decimal bytes ++ codes "\n")
ended_text (ended.Malformed at) = codes "malformed " ++ (decimal at ++ codes "\n")
ended_text (ended.BadRace line why) = codes "line " ++ (decimal line ++ (codes ": " ++ (unfit_text why ++ codes "\n")))
ended_text (ended.BadAnswer line column) =
    codes "line " ++ (decimal line ++ (codes " column " ++
    (decimal column ++ codes ": not an answer\nexpected ? or an answer, as 5, x6869, ok, error EBADF, waits 0 or -\n")))
ended_text ended.NoRace = codes "no race\nexpected a line race after the acts before it\n"
ended_text (ended.TooManyStates most) =
    codes "too many states: more than " ++ (decimal most ++
    (codes "\nexpected at most " ++ (decimal most ++ codes " states; --states takes up to 100000000\n")))
ended_text ended.NoneAgrees = []
ended_text ended.NoSuchOutcome = codes "no such outcome\n"
ended_text ended.Incomplete = codes "not complete\nexpected house close-run as the last record, and nothing after it\n"
ended_text ended.NothingJudged = codes "nothing to judge: the trace has no whole record\n"
