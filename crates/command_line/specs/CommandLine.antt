-- What the words of a command line ask of the program (own).
use Rattle.std.specs.Prelude.{◌≡◌, ◌≤◌, ◌⊎◌, ◌∷◌, ℕ, Bool, List, [], Option, Some, None, true, false, codes, option_map, option_and_then, ⊤, if◌then◌else◌}
use Rattle.std.specs.String.{string_bytes}
use Rattle.std.specs.Str.{bytes_eq}
use Rattle.std.specs.Str.Parse.{IsNumeral, digits_value, without_leading_plus}
use Rattle.clap.specs.Words.{App, IsAmong, Rule, Text, fault_of, first_of, kind_of, new_app, new_rule, subcommand_of, with_rule, with_subcommand}
use Rattle.clap.specs.declared.builder.action.ArgAction.TheVariants.{SetTrue}
use Rattle.clap.specs.declared.error.kind.ErrorKind.{ErrorKind}
use Rattle.clap.specs.declared.error.kind.ErrorKind.TheVariants as kind
use Rattle.call_types.specs.declared.limits.Limits.{Limits}
use Rattle.call_types.specs.declared.limits.TheConstants.{RECORDS_MAX, FILE_SIZE_MAX, PIPE_CAPACITY_MIN, PIPE_CAPACITY_MAX}
use Rattle.command_line.specs.declared.demand.Demand.{Demand}
use Rattle.command_line.specs.declared.demand.Demand.TheVariants as demand
use Rattle.command_line.specs.declared.job.Job.{Job}
use Rattle.command_line.specs.declared.job.Job.TheVariants.{Replay, Serve, Audit, Show, Migrate, Outcomes}
use Rattle.command_line.specs.declared.form.Form.{Form}
use Rattle.command_line.specs.declared.form.Form.TheVariants as form
use Rattle.command_line.specs.declared.spelling.Spelling.{Spelling}
use Rattle.command_line.specs.declared.spelling.Spelling.TheVariants as spelling
use Rattle.command_line.specs.declared.telling.Telling.{Telling}
use Rattle.command_line.specs.declared.telling.Telling.TheVariants as told
use Rattle.command_line.specs.declared.job.JobFault.{JobFault}
use Rattle.command_line.specs.declared.job.JobFault.TheVariants.{Usage, Shown, NoMemory}
use Rattle.command_line.specs.declared.job.TheConstants.{SESSIONS_MAX, STATES_MAX, WITNESS_MAX}

-- ---- what the program takes

-- an option that is named so, and takes one value
abbrev pub option_rule : Text → Rule
option_rule id = record (new_rule id) { long = Some id; value_names = 1 }

-- the same, where it has to be given
abbrev pub required_rule : Text → Rule
required_rule id = record (option_rule id) { required = true }

-- an option that is named so, and takes none
abbrev pub flag_rule : Text → Rule
flag_rule id = record (new_rule id) { long = Some id; action = Some SetTrue }

-- a word that stands by itself and has to be given
abbrev pub word_rule : Text → Rule
word_rule id = record (new_rule id) { value_names = 1; required = true }

-- the file of a trace
abbrev pub file_rule : Rule
file_rule = word_rule (codes "file")

-- the subcommand `replay`, with its three options
abbrev pub replay_app : App
replay_app = with_rule
    (with_rule (with_rule (new_app (codes "replay")) (option_rule (codes "records"))) (option_rule (codes "pipe-capacity")))
    (flag_rule (codes "text"))

-- the subcommand `serve`, with its five options
abbrev pub serve_app : App
serve_app = with_rule
    (with_rule
    (with_rule
    (with_rule (with_rule (new_app (codes "serve")) (required_rule (codes "socket"))) (required_rule (codes "sessions")))
    (required_rule (codes "records")))
    (required_rule (codes "trace")))
    (option_rule (codes "pipe-capacity"))

-- the subcommand `audit`, with its one option and its file
abbrev pub audit_app : App
audit_app = with_rule (with_rule (new_app (codes "audit")) (flag_rule (codes "complete"))) file_rule

-- the subcommand `show`, with its three options and its file
abbrev pub show_app : App
show_app = with_rule
    (with_rule (with_rule (with_rule (new_app (codes "show")) (flag_rule (codes "acts"))) (flag_rule (codes "text"))) (flag_rule (codes "json")))
    file_rule

-- the subcommand `migrate`, with its two files
abbrev pub migrate_app : App
migrate_app = with_rule (with_rule (new_app (codes "migrate")) (word_rule (codes "in"))) (word_rule (codes "out"))

-- the subcommand `outcomes`, with its four options
abbrev pub outcomes_app : App
outcomes_app = with_rule
    (with_rule
    (with_rule (with_rule (new_app (codes "outcomes")) (option_rule (codes "states"))) (option_rule (codes "pipe-capacity")))
    (option_rule (codes "witness")))
    (flag_rule (codes "acts"))

-- the program's settings: it has a version, wants a subcommand, and has none named `help`
abbrev pub bare_app : App
bare_app = record (new_app (codes "fdref")) {
  top = record (new_app (codes "fdref")).top {
    has_version = true;
    propagate_version = true;
    subcommand_required = true;
    disable_help_subcommand = true;
  };
}

-- the whole command line of the program
abbrev pub fdref_app : App
fdref_app = with_subcommand
    (with_subcommand
    (with_subcommand
    (with_subcommand (with_subcommand (with_subcommand bare_app replay_app.top) serve_app.top) audit_app.top)
    show_app.top)
    migrate_app.top)
    outcomes_app.top

-- ---- what the words give

-- the words of a command line, with the program's name before them
abbrev pub line : List Text → List Text
line words = codes "fdref" ∷ words

-- the name of the subcommand that the words give
abbrev pub name_given : List Text → Option Text
name_given words = option_map (λ p. p.0) (subcommand_of fdref_app words)

-- the text that the words give to an option of their subcommand
abbrev pub text_given : List Text → Text → Option Text
text_given words option = option_and_then (λ p. first_of option p.1) (subcommand_of fdref_app words)

-- n is what the text writes in decimal
abbrev pub IsDecimalOf : Text → ℕ → Type 0
IsDecimalOf text n = IsNumeral 10 (without_leading_plus text) × (n ≡ digits_value 10 (without_leading_plus text))

-- n is the number that the text gives, from 1 to the most
abbrev pub IsNumber : ℕ → Option Text → ℕ → Type 0
IsNumber most None n = ⊥
IsNumber most (Some text) n = IsDecimalOf text n × (1 ≤ n) × (n ≤ most)

-- the text is no such number
abbrev pub IsNoNumber : ℕ → Option Text → Type 0
IsNoNumber most text = (n : ℕ) → IsNumber most text n → ⊥

-- n is the number of records of a replay, the default where no text is given
abbrev pub IsRecords : Option Text → ℕ → Type 0
IsRecords None n = n ≡ 10000
IsRecords (Some text) n = IsNumber RECORDS_MAX (Some text) n

-- the text is no number of records of a replay
abbrev pub IsNoRecords : Option Text → Type 0
IsNoRecords text = (n : ℕ) → IsRecords text n → ⊥

-- n is the number of bytes that a pipe holds, the default where no text is given
abbrev pub IsCapacity : Option Text → ℕ → Type 0
IsCapacity None n = n ≡ 1024
IsCapacity (Some text) n = IsDecimalOf text n × (PIPE_CAPACITY_MIN ≤ n) × (n ≤ PIPE_CAPACITY_MAX)

-- the text is no such number
abbrev pub IsNoCapacity : Option Text → Type 0
IsNoCapacity text = (n : ℕ) → IsCapacity text n → ⊥

-- n is the number of positions that are searched, the default where no text is given
abbrev pub IsStates : Option Text → ℕ → Type 0
IsStates None n = n ≡ 300000
IsStates (Some text) n = IsNumber STATES_MAX (Some text) n

-- the text is no such number
abbrev pub IsNoStates : Option Text → Type 0
IsNoStates text = (n : ℕ) → IsStates text n → ⊥

-- n is the number of an outcome that the text gives, from 0
abbrev pub IsOutcome : Text → ℕ → Type 0
IsOutcome text n = IsDecimalOf text n × (n ≤ WITNESS_MAX)

-- what is told where this text is given to `--witness`, with each witness in this form; without witnesses acts are told of none
abbrev pub IsTold : Option Text → Form → Telling → Type 0
IsTold None form.Records telling = telling ≡ told.Outcomes
IsTold None other telling = ⊥
IsTold (Some text) how told.Outcomes = ⊥
IsTold (Some text) how (told.Witness n shape) = IsOutcome text n × (shape ≡ how)
IsTold (Some text) how (told.Witnesses shape) = (text ≡ codes "all") × (shape ≡ how)

-- the text is neither the word `all` nor the number of an outcome
abbrev pub IsNoTelling : Option Text → Type 0
IsNoTelling text = (how : Form) (telling : Telling) → IsTold text how telling → ⊥

-- what is given to each option of a subcommand
abbrev pub Given : Type 0
Given = Text → Option Text

-- an option without a value is used
abbrev pub is_used : Option Text → Bool
is_used None = false
is_used (Some text) = bytes_eq text (codes "true")

-- how a script is spelled: with comments and strings, where that option is used
abbrev pub spelling_of : Option Text → Spelling
spelling_of text = if is_used text then spelling.Text else spelling.Plain

-- limits and spelling are those of a replay that is given so
pub record IsReplay (given : Given) (limits : Limits) (how : Spelling) : Type 0 where
  pub spelling : how ≡ spelling_of (given (codes "text"))
  pub records : IsRecords (given (codes "records")) limits.records
  pub capacity : IsCapacity (given (codes "pipe-capacity")) limits.bounds.pipe_capacity
  pub size : limits.bounds.file_size ≡ FILE_SIZE_MAX

-- path, number of sessions, limits and the trace's file are those of a server that is given so
pub record IsServe (given : Given) (path : Text) (count : ℕ) (limits : Limits) (file : Text) : Type 0 where
  pub socket : given (codes "socket") ≡ Some path
  pub sessions : IsNumber SESSIONS_MAX (given (codes "sessions")) count
  pub records : IsNumber RECORDS_MAX (given (codes "records")) limits.records
  pub capacity : IsCapacity (given (codes "pipe-capacity")) limits.bounds.pipe_capacity
  pub size : limits.bounds.file_size ≡ FILE_SIZE_MAX
  pub trace : given (codes "trace") ≡ Some file

-- the form of witnesses: acts, where that option is used
abbrev pub form_of : Option Text → Form
form_of text = if is_used text then form.Acts else form.Records

-- the form in which a trace is shown, by whether acts, strings and objects are asked for; objects go with neither of the others
abbrev pub shown_form : Bool → Bool → Bool → Option Form
shown_form false false false = Some form.Records
shown_form true false false = Some form.Acts
shown_form false true false = Some form.RecordsInText
shown_form true true false = Some form.ActsInText
shown_form false false true = Some form.Objects
shown_form true false true = None
shown_form false true true = None
shown_form true true true = None

-- the form that is given so, if there is one
abbrev pub form_given : Given → Option Form
form_given given = shown_form (is_used (given (codes "acts"))) (is_used (given (codes "text"))) (is_used (given (codes "json")))

-- what is demanded of a trace that is audited: that it is complete, where that option is used
abbrev pub demand_of : Option Text → Demand
demand_of text = if is_used text then demand.Complete else demand.Legal

-- path and demand are those of a trace that is to be audited
pub record IsAudit (given : Given) (path : Text) (wanted : Demand) : Type 0 where
  pub file : given (codes "file") ≡ Some path
  pub demand : wanted ≡ demand_of (given (codes "complete"))

-- path and form are those of a trace that is to be shown
pub record IsShow (given : Given) (path : Text) (how : Form) : Type 0 where
  pub file : given (codes "file") ≡ Some path
  pub form : form_given given ≡ Some how

-- paths of a trace that is read and of the one that is made, as they are given
pub record IsMigrate (given : Given) (old new : Text) : Type 0 where
  pub from : given (codes "in") ≡ Some old
  pub to : given (codes "out") ≡ Some new

-- what is told is what is given so
abbrev pub IsTelling : Given → Telling → Type 0
IsTelling given telling = IsTold (given (codes "witness")) (form_of (given (codes "acts"))) telling

-- limits, positions and what is told are those of a race that is given so
pub record IsOutcomes (given : Given) (limits : Limits) (most : ℕ) (telling : Telling) : Type 0 where
  pub records : IsRecords None limits.records
  pub capacity : IsCapacity (given (codes "pipe-capacity")) limits.bounds.pipe_capacity
  pub size : limits.bounds.file_size ≡ FILE_SIZE_MAX
  pub states : IsStates (given (codes "states")) most
  pub witness : IsTelling given telling

-- the job is the one that the subcommand of this name asks for
abbrev pub IsJobOf : Option Text → Given → Job → Type 0
IsJobOf name given (Replay limits how) = (name ≡ Some (codes "replay")) × IsReplay given limits how
IsJobOf name given (Serve path count limits file) = (name ≡ Some (codes "serve")) × IsServe given (string_bytes path) count limits (string_bytes file)
IsJobOf name given (Audit path wanted) = (name ≡ Some (codes "audit")) × IsAudit given (string_bytes path) wanted
IsJobOf name given (Show path how) = (name ≡ Some (codes "show")) × IsShow given (string_bytes path) how
IsJobOf name given (Migrate from to) = (name ≡ Some (codes "migrate")) × IsMigrate given (string_bytes from) (string_bytes to)
IsJobOf name given (Outcomes limits most telling) = (name ≡ Some (codes "outcomes")) × IsOutcomes given limits most telling

-- a number that the subcommand of this name is given is out of its range, or a text names no outcome
abbrev pub IsOutOfRange : Option Text → Given → Type 0
IsOutOfRange name given = ((name ≡ Some (codes "replay")) × (IsNoRecords (given (codes "records"))
    ⊎ IsNoCapacity (given (codes "pipe-capacity"))))
    ⊎ (((name ≡ Some (codes "serve")) × (IsNoNumber SESSIONS_MAX (given (codes "sessions"))
    ⊎ (IsNoNumber RECORDS_MAX (given (codes "records"))
    ⊎ IsNoCapacity (given (codes "pipe-capacity")))))
    ⊎ ((name ≡ Some (codes "outcomes")) × (IsNoStates (given (codes "states"))
    ⊎ (IsNoCapacity (given (codes "pipe-capacity"))
    ⊎ IsNoTelling (given (codes "witness"))))))

-- the acts of witnesses are asked for, and no witness is
abbrev pub AsksActsAlone : Given → Type 0
AsksActsAlone given = (given (codes "witness") ≡ None) × (form_of (given (codes "acts")) ≡ form.Acts)

-- the words parse, and ask for the job
pub record Asks (words : List Text) (job : Job) : Type 0 where
  pub parsed : fault_of fdref_app words ≡ []
  pub asked : IsJobOf (name_given words) (text_given words) job

-- help or the version was asked for
abbrev pub IsRequest : ErrorKind → Type 0
IsRequest k = (k ≡ kind.DisplayHelp) ⊎ (k ≡ kind.DisplayVersion)

-- the parse refuses the words by a mistake of this kind
abbrev pub IsMistake : List Text → ErrorKind → Type 0
IsMistake words k = IsAmong k (fault_of fdref_app words) × (IsRequest k → ⊥)

-- the words parse, but a number of theirs is out of its range
abbrev pub IsBadNumber : List Text → ErrorKind → Type 0
IsBadNumber words k = (fault_of fdref_app words ≡ []) × IsOutOfRange (name_given words) (text_given words)
    × (k ≡ kind.ValueValidation)

-- the words parse, but `outcomes` is asked for acts without a witness
abbrev pub LacksWitness : List Text → ErrorKind → Type 0
LacksWitness words k = (fault_of fdref_app words ≡ []) × ((name_given words ≡ Some (codes "outcomes")) × AsksActsAlone (text_given words))
    × (k ≡ kind.MissingRequiredArgument)

-- the words parse, but `show` is asked for objects and for another form too
abbrev pub MixesForms : List Text → ErrorKind → Type 0
MixesForms words k = (fault_of fdref_app words ≡ []) × ((name_given words ≡ Some (codes "show")) × (form_given (text_given words) ≡ None))
    × (k ≡ kind.ArgumentConflict)

-- the words deserve the fault, or memory ran out
abbrev pub Deserves : List Text → JobFault → Type 0
Deserves words (Usage e) = IsMistake words (kind_of e) ⊎ (IsBadNumber words (kind_of e) ⊎ (LacksWitness words (kind_of e) ⊎ MixesForms words (kind_of e)))
Deserves words (Shown e) = IsAmong (kind_of e) (fault_of fdref_app words) × IsRequest (kind_of e)
Deserves words NoMemory = ⊤

-- the fault says that a word is not UTF-8, or that memory ran out
abbrev pub SaysNotText : JobFault → Type 0
SaysNotText (Usage e) = kind_of e ≡ kind.InvalidValue
SaysNotText (Shown e) = ⊥
SaysNotText NoMemory = ⊤

-- the exit status of a fault
abbrev pub status_of : JobFault → ℕ
status_of (Usage e) = 2
status_of (Shown e) = 0
status_of NoMemory = 5
