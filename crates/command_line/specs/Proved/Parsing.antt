-- How words are read (own).
use Rattle.std.specs.Prelude.{◌≡◌, ◌≢◌, ◌∷◌, ◌⊎◌, List, [], Option, None, Some, false, true, codes, is_some, ⊤}
use Rattle.clap.specs.Words.{App, Rule, Text, app_of, fault_of, kind_of, rule_of, subcommand_of, subcommand_rows_of}
use Rattle.clap.specs.declared.builder.arg.Arg.{Arg}
use Rattle.clap.specs.declared.builder.command.Command.{Command}
use Rattle.clap.specs.declared.builder.command.Command.TheViews.{out-Command as fields_of}
use Rattle.clap.specs.declared.parser.matches.ArgMatches.{ArgMatches}
use Rattle.clap.specs.declared.error.Error.{Error}
use Rattle.clap.specs.declared.error.kind.ErrorKind.TheVariants as kind
use Rattle.command_line.specs.declared.job.JobFault.{JobFault}
use Rattle.command_line.specs.declared.job.JobFault.TheVariants.{Usage, Shown, NoMemory}
use Rattle.command_line.specs.declared.job.Untold.{Untold}
use Rattle.command_line.specs.declared.job.Untold.TheVariants as untold
use Rattle.command_line.specs.CommandLine.{AsksActsAlone, fdref_app, form_given, Given, IsNoTelling, IsOutOfRange, IsRequest}

-- words that ask for a server
abbrev pub served : List Text
served = codes "serve" ∷ codes "--socket" ∷ codes "s" ∷ codes "--sessions" ∷ codes "2" ∷ codes "--records=5" ∷ codes "--trace=t" ∷ []

-- words that ask for the acts of a trace
abbrev pub shown : List Text
shown = codes "show" ∷ codes "--acts" ∷ codes "t" ∷ []

-- words that ask for objects and for acts
abbrev pub mixed : List Text
mixed = codes "show" ∷ codes "--json" ∷ codes "--acts" ∷ codes "t" ∷ []

-- words that ask whether a trace is complete
abbrev pub completed : List Text
completed = codes "audit" ∷ codes "--complete" ∷ codes "t" ∷ []

-- words that ask for a migration
abbrev pub migrated : List Text
migrated = codes "migrate" ∷ codes "t" ∷ codes "u" ∷ []

-- words that ask for the acts of one order of a race
abbrev pub witnessed : List Text
witnessed = codes "outcomes" ∷ codes "--witness" ∷ codes "3" ∷ codes "--acts" ∷ []

-- each option of a server that has to be given is given
abbrev pub GivesAll : Given → Type 0
GivesAll given = (is_some (given (codes "socket")) ≡ true) × (is_some (given (codes "sessions")) ≡ true)
    × (is_some (given (codes "records")) ≡ true) × (is_some (given (codes "trace")) ≡ true)

-- the file of an audit, or of a trace to be shown, is given
abbrev pub GivesFile : Given → Type 0
GivesFile given = is_some (given (codes "file")) ≡ true

-- both files of a migration are given
abbrev pub GivesBoth : Given → Type 0
GivesBoth given = (is_some (given (codes "in")) ≡ true) × (is_some (given (codes "out")) ≡ true)

-- ---- what a command is made of

-- the arguments have these rules, and none of them is global
abbrev pub HaveRules : List Arg → List Rule → Type 0
HaveRules [] [] = ⊤
HaveRules [] (r ∷ rules) = ⊥
HaveRules (a ∷ args) [] = ⊥
HaveRules (a ∷ args) (r ∷ rules) = (rule_of a ≡ r) × (a.global ≡ false) × HaveRules args rules

-- the commands are these apps, and none of them has a global argument
abbrev pub HaveApps : List Command → List App → Type 0
HaveApps [] [] = ⊤
HaveApps [] (a ∷ apps) = ⊥
HaveApps (c ∷ commands) [] = ⊥
HaveApps (c ∷ commands) (a ∷ apps) = (app_of c ≡ a) × ((fields_of c).has_globals ≡ false) × HaveApps commands apps

-- ---- what the program makes of them

-- the matches are those of the words, which have no fault
pub record IsParse (words : List Text) (m : ArgMatches) : Type 0 where
  pub parsed : fault_of fdref_app words ≡ []
  pub rows : subcommand_rows_of m ≡ subcommand_of fdref_app words

-- the fault says that a number is out of its range, or that memory ran out
abbrev pub RefusesNumber : Option Text → Given → JobFault → Type 0
RefusesNumber name given (Usage e) = IsOutOfRange name given × (kind_of e ≡ kind.ValueValidation)
RefusesNumber name given (Shown e) = ⊥
RefusesNumber name given NoMemory = ⊤

-- the fault says that a number of `outcomes` is out of its range, that acts are asked for without a witness, or that memory ran out
abbrev pub RefusesRace : Given → JobFault → Type 0
RefusesRace given (Usage e) = (IsOutOfRange (Some (codes "outcomes")) given × (kind_of e ≡ kind.ValueValidation))
    ⊎ (AsksActsAlone given × (kind_of e ≡ kind.MissingRequiredArgument))
RefusesRace given (Shown e) = ⊥
RefusesRace given NoMemory = ⊤

-- the fault says that `show` is asked for objects and for another form too, or that memory ran out
abbrev pub RefusesForms : Given → JobFault → Type 0
RefusesForms given (Usage e) = (form_given given ≡ None) × (kind_of e ≡ kind.ArgumentConflict)
RefusesForms given (Shown e) = ⊥
RefusesForms given NoMemory = ⊤

-- what is asked to be told of a race is nothing
abbrev pub IsUntold : Given → Untold → Type 0
IsUntold given (untold.NoOutcome text) = IsNoTelling (given (codes "witness"))
IsUntold given untold.ActsAlone = AsksActsAlone given

-- the fault that an error of the parse is: its error, unless memory ran out
abbrev pub IsFaultOf : Error → JobFault → Type 0
IsFaultOf error (Usage e) = (e ≡ error) × (kind_of error ≢ kind.OutOfMemory) × (IsRequest (kind_of error) → ⊥)
IsFaultOf error (Shown e) = (e ≡ error) × IsRequest (kind_of error)
IsFaultOf error NoMemory = kind_of error ≡ kind.OutOfMemory
