-- From what `clap` says of a parse to what this program says of its words.
use Rattle.std.proofs.Common.{◌≡◌, ◌∙◌, ◌⊎◌, ◌||◌, ◌&&◌, ℕ, Bool, true, false, not, cond, List, [], ◌∷◌, Option, Some, None, is_some, refl, sym, ap, ap₂, subst, arith, slice_index, inl, inr, codes, option_map, option_and_then}
use Rattle.std.specs.Prelude.{Box, IfOk, IsOkAnd, Result, Ok, Err, ◌++◌, ⊤}
use Rattle.std.specs.List.{list_any}
use Rattle.std.specs.Box.{box_value}
use Rattle.std.specs.Option.{option_map_or}
use Rattle.std.specs.declared.alloc.AllocError.{AllocError}
use Rattle.clap.specs.Faults.{check_fault, entered_fault, level_fault}
use Rattle.clap.specs.Kinds.{check_kinds}
use Rattle.clap.specs.Simple.{App, Shape, argument_words, built, built_leaf, entered, filled, help_rule, inherited, label_of, marked_built, names_of, rows_at, version_rule, with_index, with_leaf_noted}
use Rattle.clap.specs.Takes.{is_given}
use Rattle.clap.specs.Walk.{Row, Rule, Text, answers_to, nothing_held, rows_after, rows_of, stop_after}
use Rattle.clap.specs.Words.{AddsArg, AddsInTurn, AddsSubcommand, app_of, fault_of, first_of, first_value, found_of, kind_of, rule_of, with_rule, with_subcommand, subcommand_name_of, subcommand_of, subcommand_rows, subcommand_rows_of, HasKind, IsAmong}
use Rattle.clap.specs.declared.builder.arg.Arg.{Arg}
use Rattle.clap.specs.declared.builder.command.Command.{Command}
use Rattle.clap.specs.declared.builder.command.Command.TheViews.{out-Command as fields_of}
use Rattle.clap.specs.declared.parser.matches.ArgMatches.{ArgMatches}
use Rattle.clap.specs.declared.parser.matches.ArgMatches.TheViews.{out-ArgMatches, out-SubCommand}
use Rattle.clap.specs.declared.parser.matches.SubCommand.{SubCommand}
use Rattle.clap.specs.declared.parser.matches.ValueSource.TheVariants.{CommandLine}
use Rattle.clap.specs.declared.error.Error.{Error}
use Rattle.clap.specs.declared.error.kind.ErrorKind.TheVariants as kind
use Rattle.clap.proofs.WalkLemmas.{first_value-rows}
use Rattle.command_line.specs.CommandLine.{Asks, AsksActsAlone, Deserves, Given, IsJobOf, IsMistake, IsOutOfRange, IsRequest, audit_app, fdref_app, file_rule, form_given, flag_rule, migrate_app, name_given, option_rule, outcomes_app, replay_app, required_rule, serve_app, show_app, text_given, word_rule}
use Rattle.command_line.specs.Proved.Parsing.{GivesAll, GivesBoth, GivesFile, HaveApps, HaveRules, IsFaultOf, IsParse, RefusesForms, RefusesNumber, RefusesRace}
use Rattle.command_line.specs.declared.job.Job.{Job}
use Rattle.command_line.specs.declared.job.JobFault.{JobFault}
use Rattle.command_line.specs.declared.job.JobFault.TheVariants.{Usage, Shown, NoMemory}
use Rattle.command_line.proofs.RequiredOptions.{Each, Filled, Fills, given_has, level_filled, replaced}

-- an error of the parse is a fault that the words deserve
pub deserved : (words : List Text) (e : Error) (fault : JobFault) → HasKind (fault_of fdref_app words) e → IsFaultOf e fault → Deserves words fault
deserved words e (Usage x) (inl memory) h = absurd (h.1 memory)
deserved words e (Usage x) (inr among) h =
    inl (subst (λ (y : Error). IsMistake words (kind_of y)) (sym h.0) (among, h.2))
deserved words e (Shown x) (inl memory) (same, inl help) = let bad : kind.DisplayHelp ≡ kind.OutOfMemory = sym help ∙ memory in cc
deserved words e (Shown x) (inl memory) (same, inr version) = let bad : kind.DisplayVersion ≡ kind.OutOfMemory = sym version ∙ memory in cc
deserved words e (Shown x) (inr among) (same, request) =
    subst (λ (y : Error). IsAmong (kind_of y) (fault_of fdref_app words) × IsRequest (kind_of y)) (sym same) (among, request)
deserved words e NoMemory among h = tt

-- ---- what the rows of the matches say

-- the name of a subcommand, by its rows
name_by_rows : {Z : Type 0} (o : Option (Box SubCommand Z))
    → option_map (λ p. p.0) (subcommand_rows o) ≡ option_map (λ b. (out-SubCommand (box_value b)).name.now) o
name_by_rows None = refl
name_by_rows (Some b) = refl

-- an option of a subcommand, by the subcommand's rows
first_by_rows : (id : Text) (o : Option (Text × List Row)) (rows : List Row) → option_map (λ p. p.1) o ≡ Some rows
    → option_and_then (λ p. first_of id p.1) o ≡ first_of id rows
first_by_rows id None rows e = cc
first_by_rows id (Some p) rows e = let same : p.1 ≡ rows = cc in ap (first_of id) same

-- what the subcommand's own matches say of an option
given_is : (words : List Text) (m inner : ArgMatches) → IsParse words m
    → option_map (λ p. p.1) (subcommand_rows_of m) ≡ Some (rows_of (found_of inner))
    → (id : Text) → first_value (found_of inner) id ≡ text_given words id
given_is words m inner parse rows id =
    first_value-rows (found_of inner) id
    ∙ sym (first_by_rows id (subcommand_rows_of m) (rows_of (found_of inner)) rows)
    ∙ ap (option_and_then (λ (p : Text × List Row). first_of id p.1)) parse.rows

name_is : (words : List Text) (m : ArgMatches) → IsParse words m → subcommand_name_of m ≡ name_given words
name_is words m parse =
    sym (name_by_rows (out-ArgMatches m).subcommand) ∙ ap (option_map (λ (p : Text × List Row). p.0)) parse.rows

-- what holds of the name and of the matches of the subcommand holds of the words
of_words : (P : Option Text → Given → Type 0) (words : List Text) (m inner : ArgMatches) (name : Text) → IsParse words m
    → subcommand_name_of m ≡ Some name → option_map (λ p. p.1) (subcommand_rows_of m) ≡ Some (rows_of (found_of inner))
    → P (Some name) (first_value (found_of inner)) → P (name_given words) (text_given words)
of_words P words m inner name parse named rows h =
    let same : first_value (found_of inner) ≡ text_given words = λ i id. given_is words m inner parse rows id i in
    subst (λ (n : Option Text). P n (text_given words)) (sym named ∙ name_is words m parse)
    (subst (λ (given : Given). P (Some name) given) same h)

pub asked : (words : List Text) (m inner : ArgMatches) (name : Text) (job : Job) → IsParse words m
    → subcommand_name_of m ≡ Some name → option_map (λ p. p.1) (subcommand_rows_of m) ≡ Some (rows_of (found_of inner))
    → IsJobOf (Some name) (first_value (found_of inner)) job → Asks words job
asked words m inner name job parse named rows h = record {
  parsed = parse.parsed;
  asked = of_words (λ n given. IsJobOf n given job) words m inner name parse named rows h;
}

pub refused : (words : List Text) (m inner : ArgMatches) (name : Text) (fault : JobFault) → IsParse words m
    → subcommand_name_of m ≡ Some name → option_map (λ p. p.1) (subcommand_rows_of m) ≡ Some (rows_of (found_of inner))
    → RefusesNumber (Some name) (first_value (found_of inner)) fault → Deserves words fault
refused words m inner name (Usage e) parse named rows h =
    inr (inl (parse.parsed, of_words IsOutOfRange words m inner name parse named rows h.0, h.1))
refused words m inner name (Shown e) parse named rows h = absurd h
refused words m inner name NoMemory parse named rows h = tt

-- what `outcomes` refuses
pub refused_race : (words : List Text) (m inner : ArgMatches) (fault : JobFault) → IsParse words m
    → subcommand_name_of m ≡ Some (codes "outcomes") → option_map (λ p. p.1) (subcommand_rows_of m) ≡ Some (rows_of (found_of inner))
    → RefusesRace (first_value (found_of inner)) fault → Deserves words fault
refused_race words m inner (Usage e) parse named rows (inl h) = refused words m inner (codes "outcomes") (Usage e) parse named rows h
refused_race words m inner (Usage e) parse named rows (inr h) =
    inr (inr (inl (
      parse.parsed,
      of_words (λ n given. (n ≡ Some (codes "outcomes")) × AsksActsAlone given) words m inner (codes "outcomes") parse named rows
          (refl, h.0),
      h.1,
    )))
refused_race words m inner (Shown e) parse named rows h = absurd h
refused_race words m inner NoMemory parse named rows h = tt

-- what `show` refuses
pub refused_show : (words : List Text) (m inner : ArgMatches) (fault : JobFault) → IsParse words m
    → subcommand_name_of m ≡ Some (codes "show") → option_map (λ p. p.1) (subcommand_rows_of m) ≡ Some (rows_of (found_of inner))
    → RefusesForms (first_value (found_of inner)) fault → Deserves words fault
refused_show words m inner (Usage e) parse named rows h =
    inr (inr (inr (
      parse.parsed,
      of_words (λ n given. (n ≡ Some (codes "show")) × (form_given given ≡ None)) words m inner (codes "show") parse named rows
          (refl, h.0),
      h.1,
    )))
refused_show words m inner (Shown e) parse named rows h = absurd h
refused_show words m inner NoMemory parse named rows h = tt

-- ---- what words without a fault give

-- the command line and its subcommands, as `clap` builds them
abbrev whole : App
whole = built fdref_app

abbrev above : Shape
above = with_leaf_noted (marked_built fdref_app.top)

abbrev replay_shape : Shape
replay_shape = built_leaf (inherited above replay_app.top)

abbrev serve_shape : Shape
serve_shape = built_leaf (inherited above serve_app.top)

abbrev audit_shape : Shape
audit_shape = built_leaf (inherited above audit_app.top)

abbrev show_shape : Shape
show_shape = built_leaf (inherited above show_app.top)

abbrev migrate_shape : Shape
migrate_shape = built_leaf (inherited above migrate_app.top)

abbrev outcomes_shape : Shape
outcomes_shape = built_leaf (inherited above outcomes_app.top)

-- ---- each use leaves a value

-- a required option wants a value
required_fills : (id : Text) → Fills (with_index 1 (filled (required_rule id)))
required_fills id again [] rows e f = cc
required_fills id again (v ∷ vs) rows e f = replaced id _ CommandLine v vs rows f

-- and so does one that need not be given
option_fills : (id : Text) → Fills (with_index 1 (filled (option_rule id)))
option_fills id again [] rows e f = cc
option_fills id again (v ∷ vs) rows e f = replaced id _ CommandLine v vs rows f

-- and so does a word that stands by itself, at whichever place
word_fills : (place : ℕ) (id : Text) → Fills (with_index place (filled (word_rule id)))
word_fills place id again [] rows e f = cc
word_fills place id again (v ∷ vs) rows e f = replaced id _ CommandLine v vs rows f

file_fills : Fills (with_index 1 (filled file_rule))
file_fills = word_fills 1 (codes "file")

-- an option that takes none has one that stands for its use
flag_fills : (id : Text) → Fills (with_index 1 (filled (flag_rule id)))
flag_fills id again [] rows e f = replaced id _ CommandLine (codes "true") [] rows f
flag_fills id again (v ∷ vs) rows e f = replaced id _ CommandLine v vs rows f

-- the flags that building adds take none
added_fill : Each (with_index 1 (filled help_rule) ∷ with_index 1 (filled version_rule) ∷ [])
added_fill = ((λ again values rows e f. f), ((λ again values rows e f. f), tt))

serve_fills : Each serve_shape.rules
serve_fills = (
  required_fills (codes "socket"),
  (
    required_fills (codes "sessions"),
    (required_fills (codes "records"), (required_fills (codes "trace"), (option_fills (codes "pipe-capacity"), added_fill))),
  ),
)

audit_fills : Each audit_shape.rules
audit_fills = (flag_fills (codes "complete"), (file_fills, added_fill))

show_fills : Each show_shape.rules
show_fills = (flag_fills (codes "acts"), (flag_fills (codes "text"), (flag_fills (codes "json"), (file_fills, added_fill))))

migrate_fills : Each migrate_shape.rules
migrate_fills = (word_fills 1 (codes "in"), (word_fills 2 (codes "out"), added_fill))

-- ---- what is required is given

-- a level without a fault enters a subcommand, if it wants one
wanted : (rows : List Row) (has : Bool) → check_fault whole.top rows has ≡ [] → has ≡ true
wanted rows true e = refl
wanted rows false e = cc

-- each argument that is required has a value
abbrev HasEach : List Rule → List Row → Type 0
HasEach [] rows = ⊤
HasEach (a ∷ rest) rows = (a.required ≡ true → is_some (first_of a.id rows) ≡ true) × HasEach rest rows

abbrev is_missing : List Row → Rule → Bool
is_missing rows a = a.required && not (is_given a.id rows)

none_missing : (rules : List Rule) (rows : List Row) → Filled rows → list_any (is_missing rows) rules ≡ false → HasEach rules rows
none_missing [] rows f e = tt
none_missing (a ∷ rest) rows f e = go a.required (is_given a.id rows) refl (none_missing rest rows f) e
  where
    go : (required given : Bool) → is_given a.id rows ≡ given → (list_any (is_missing rows) rest ≡ false → HasEach rest rows)
        → (required && not given) || list_any (is_missing rows) rest ≡ false → (required ≡ true → is_some (first_of a.id rows) ≡ true) × HasEach rest rows
    go true true is rec e = ((λ _. given_has a.id rows f is), rec e)
    go true false is rec e = cc
    go false given is rec e = ((λ bad. cc), rec e)

passes : (b : Bool) → check_kinds false false b ≡ [] → b ≡ false
passes true e = cc
passes false e = refl

serve_gives : (words : List Text) → level_fault serve_shape [] nothing_held words false [] ≡ []
    → GivesAll (λ id. first_of id (rows_after serve_shape.rules [] words))
serve_gives words e =
    let rows = rows_after serve_shape.rules [] words in
    let level = level_filled serve_shape serve_fills [] words false [] e in
    let all = none_missing serve_shape.rules rows level.0 (passes _ level.2) in
    (all.0 refl, all.1.0 refl, all.1.1.0 refl, all.1.1.1.0 refl)

audit_gives : (words : List Text) → level_fault audit_shape [] nothing_held words false [] ≡ []
    → GivesFile (λ id. first_of id (rows_after audit_shape.rules [] words))
audit_gives words e =
    let rows = rows_after audit_shape.rules [] words in
    let level = level_filled audit_shape audit_fills [] words false [] e in
    (none_missing audit_shape.rules rows level.0 (passes _ level.2)).1.0 refl

show_gives : (words : List Text) → level_fault show_shape [] nothing_held words false [] ≡ []
    → GivesFile (λ id. first_of id (rows_after show_shape.rules [] words))
show_gives words e =
    let rows = rows_after show_shape.rules [] words in
    let level = level_filled show_shape show_fills [] words false [] e in
    (none_missing show_shape.rules rows level.0 (passes _ level.2)).1.1.1.0 refl

migrate_gives : (words : List Text) → level_fault migrate_shape [] nothing_held words false [] ≡ []
    → GivesBoth (λ id. first_of id (rows_after migrate_shape.rules [] words))
migrate_gives words e =
    let rows = rows_after migrate_shape.rules [] words in
    let level = level_filled migrate_shape migrate_fills [] words false [] e in
    let all = none_missing migrate_shape.rules rows level.0 (passes _ level.2) in
    (all.0 refl, all.1.0 refl)

-- ---- the name of a subcommand

-- texts that differ at a place are two
differ : (a b : Text) (i m n : ℕ) → slice_index a i ≡ m → slice_index b i ≡ n → (m ≡ n → ⊥) → a ≡ b → ⊥
differ a b i m n at_a at_b apart e = apart (sym at_a ∙ ap (λ (t : Text). slice_index t i) e ∙ at_b)

-- the names of the subcommands
abbrev IsName : Text → Type 0
IsName name = (name ≡ codes "replay") ⊎ ((name ≡ codes "serve") ⊎
    ((name ≡ codes "audit") ⊎ ((name ≡ codes "show") ⊎ ((name ≡ codes "migrate") ⊎ (name ≡ codes "outcomes")))))

-- what is required of the subcommand of this name is given
record Has (name : Text) (given : Given) : Type 0 where
  serve : name ≡ codes "serve" → GivesAll given
  audit : name ≡ codes "audit" → GivesFile given
  show : name ≡ codes "show" → GivesFile given
  migrate : name ≡ codes "migrate" → GivesBoth given

-- the matches name one of the subcommands, with each argument that it requires
abbrev Fits : Option (Text × List Row) → Type 0
Fits None = ⊥
Fits (Some p) = IsName p.0 × Has p.0 (λ id. first_of id p.1)

replay_has : (given : Given) → Has (codes "replay") given
replay_has given = record {
  serve = λ e. absurd (differ (codes "replay") (codes "serve") 0 114 115 refl refl (λ n. omega (arith, n)) e);
  audit = λ e. absurd (differ (codes "replay") (codes "audit") 0 114 97 refl refl (λ n. omega (arith, n)) e);
  show = λ e. absurd (differ (codes "replay") (codes "show") 0 114 115 refl refl (λ n. omega (arith, n)) e);
  migrate = λ e. absurd (differ (codes "replay") (codes "migrate") 0 114 109 refl refl (λ n. omega (arith, n)) e);
}

serve_has : (given : Given) → GivesAll given → Has (codes "serve") given
serve_has given all = record {
  serve = λ e. all;
  audit = λ e. absurd (differ (codes "serve") (codes "audit") 0 115 97 refl refl (λ n. omega (arith, n)) e);
  show = λ e. absurd (differ (codes "serve") (codes "show") 1 101 104 refl refl (λ n. omega (arith, n)) e);
  migrate = λ e. absurd (differ (codes "serve") (codes "migrate") 0 115 109 refl refl (λ n. omega (arith, n)) e);
}

audit_has : (given : Given) → GivesFile given → Has (codes "audit") given
audit_has given file = record {
  serve = λ e. absurd (differ (codes "audit") (codes "serve") 0 97 115 refl refl (λ n. omega (arith, n)) e);
  audit = λ e. file;
  show = λ e. absurd (differ (codes "audit") (codes "show") 0 97 115 refl refl (λ n. omega (arith, n)) e);
  migrate = λ e. absurd (differ (codes "audit") (codes "migrate") 0 97 109 refl refl (λ n. omega (arith, n)) e);
}

show_has : (given : Given) → GivesFile given → Has (codes "show") given
show_has given file = record {
  serve = λ e. absurd (differ (codes "show") (codes "serve") 1 104 101 refl refl (λ n. omega (arith, n)) e);
  audit = λ e. absurd (differ (codes "show") (codes "audit") 0 115 97 refl refl (λ n. omega (arith, n)) e);
  show = λ e. file;
  migrate = λ e. absurd (differ (codes "show") (codes "migrate") 0 115 109 refl refl (λ n. omega (arith, n)) e);
}

migrate_has : (given : Given) → GivesBoth given → Has (codes "migrate") given
migrate_has given both = record {
  serve = λ e. absurd (differ (codes "migrate") (codes "serve") 0 109 115 refl refl (λ n. omega (arith, n)) e);
  audit = λ e. absurd (differ (codes "migrate") (codes "audit") 0 109 97 refl refl (λ n. omega (arith, n)) e);
  show = λ e. absurd (differ (codes "migrate") (codes "show") 0 109 115 refl refl (λ n. omega (arith, n)) e);
  migrate = λ e. both;
}

outcomes_has : (given : Given) → Has (codes "outcomes") given
outcomes_has given = record {
  serve = λ e. absurd (differ (codes "outcomes") (codes "serve") 0 111 115 refl refl (λ n. omega (arith, n)) e);
  audit = λ e. absurd (differ (codes "outcomes") (codes "audit") 0 111 97 refl refl (λ n. omega (arith, n)) e);
  show = λ e. absurd (differ (codes "outcomes") (codes "show") 0 111 115 refl refl (λ n. omega (arith, n)) e);
  migrate = λ e. absurd (differ (codes "outcomes") (codes "migrate") 0 111 109 refl refl (λ n. omega (arith, n)) e);
}

abbrev met : Bool → Bool → Bool → Bool → Bool → Bool → Option Shape
met a b c d e f =
    cond a (Some replay_shape)
    (cond b (Some serve_shape) (cond c (Some audit_shape) (cond d (Some show_shape) (cond e (Some migrate_shape) (cond f (Some outcomes_shape) None)))))

entered_fits : (stop : Option (Text × List Text)) → entered_fault whole stop ≡ [] → is_some (entered whole stop) ≡ true → Fits (entered whole stop)
entered_fits None e some = cc
entered_fits (Some p) e some =
    go (answers_to p.0 (label_of replay_shape)) (answers_to p.0 (label_of serve_shape)) (answers_to p.0 (label_of audit_shape))
    (answers_to p.0 (label_of show_shape)) (answers_to p.0 (label_of migrate_shape)) (answers_to p.0 (label_of outcomes_shape)) e some
  where
    go : (a b c d m o : Bool) → option_map_or (λ s. level_fault s [] nothing_held p.1 false []) (met a b c d m o) [] ≡ []
        → is_some (option_map (λ s. rows_at s p.1) (met a b c d m o)) ≡ true → Fits (option_map (λ s. rows_at s p.1) (met a b c d m o))
    go true b c d m o e some = (inl refl, replay_has _)
    go false true c d m o e some = (inr (inl refl), serve_has _ (serve_gives p.1 e))
    go false false true d m o e some = (inr (inr (inl refl)), audit_has _ (audit_gives p.1 e))
    go false false false true m o e some = (inr (inr (inr (inl refl))), show_has _ (show_gives p.1 e))
    go false false false false true o e some = (inr (inr (inr (inr (inl refl)))), migrate_has _ (migrate_gives p.1 e))
    go false false false false false true e some = (inr (inr (inr (inr (inr refl)))), outcomes_has _)
    go false false false false false false e some = cc

fits : (words : List Text) → fault_of fdref_app words ≡ [] → Fits (subcommand_of fdref_app words)
fits words e =
    let rest = argument_words fdref_app words in
    let stop = stop_after whole.top.rules (names_of whole) rest in
    let level = level_filled whole.top added_fill (names_of whole) rest
    (is_some (entered whole stop)) (entered_fault whole stop) e in
    entered_fits stop level.1 (wanted (rows_after whole.top.rules (names_of whole) rest) (is_some (entered whole stop)) level.2)

-- what is found where the words name a subcommand
abbrev FitsAt : Option Text → Given → Type 0
FitsAt None given = ⊥
FitsAt (Some name) given = IsName name × Has name given

fits_at : (o : Option (Text × List Row)) → Fits o → FitsAt (option_map (λ p. p.0) o) (λ id. option_and_then (λ p. first_of id p.1) o)
fits_at None h = absurd h
fits_at (Some p) h = h

-- the words name one of the subcommands, and its matches have each argument that it requires
found_at : (words : List Text) (m : ArgMatches) → IsParse words m → FitsAt (subcommand_name_of m) (text_given words)
found_at words m parse =
    subst (λ (n : Option Text). FitsAt n (text_given words)) (sym (name_is words m parse))
    (fits_at (subcommand_of fdref_app words) (fits words parse.parsed))

-- the matches name one of the subcommands
abbrev pub IsNamed : Option Text → Type 0
IsNamed None = ⊥
IsNamed (Some name) = IsName name

pub named : (words : List Text) (m : ArgMatches) → IsParse words m → IsNamed (subcommand_name_of m)
named words m parse = go (subcommand_name_of m) (found_at words m parse)
  where
    go : (o : Option Text) → FitsAt o (text_given words) → IsNamed o
    go None h = h
    go (Some name) h = h.0

-- it is none of them, so there is no such name
pub none_named : (name : Option Text) → IsNamed name → (name ≡ Some (codes "replay") → ⊥) → (name ≡ Some (codes "serve") → ⊥) →
    (name ≡ Some (codes "audit") → ⊥)
    → (name ≡ Some (codes "show") → ⊥) → (name ≡ Some (codes "migrate") → ⊥) → (name ≡ Some (codes "outcomes") → ⊥) → ⊥
none_named None h replay serve audit show migrate outcomes = h
none_named (Some name) (inl e) replay serve audit show migrate outcomes = replay (ap Some e)
none_named (Some name) (inr (inl e)) replay serve audit show migrate outcomes = serve (ap Some e)
none_named (Some name) (inr (inr (inl e))) replay serve audit show migrate outcomes = audit (ap Some e)
none_named (Some name) (inr (inr (inr (inl e)))) replay serve audit show migrate outcomes = show (ap Some e)
none_named (Some name) (inr (inr (inr (inr (inl e))))) replay serve audit show migrate outcomes = migrate (ap Some e)
none_named (Some name) (inr (inr (inr (inr (inr e))))) replay serve audit show migrate outcomes = outcomes (ap Some e)

-- and the matches of that subcommand have each argument that it requires
has : (words : List Text) (m inner : ArgMatches) (name : Text) → IsParse words m → subcommand_name_of m ≡ Some name
    → option_map (λ p. p.1) (subcommand_rows_of m) ≡ Some (rows_of (found_of inner)) → Has name (first_value (found_of inner))
has words m inner name parse is rows =
    let same : first_value (found_of inner) ≡ text_given words = λ i id. given_is words m inner parse rows id i in
    subst (λ (given : Given). Has name given) (sym same) (subst (λ (n : Option Text). FitsAt n (text_given words)) is (found_at words m parse)).1

pub serve_given : (words : List Text) (m inner : ArgMatches) → IsParse words m → subcommand_name_of m ≡ Some (codes "serve")
    → option_map (λ p. p.1) (subcommand_rows_of m) ≡ Some (rows_of (found_of inner)) → GivesAll (first_value (found_of inner))
serve_given words m inner parse is rows = (has words m inner (codes "serve") parse is rows).serve refl

pub audit_given : (words : List Text) (m inner : ArgMatches) → IsParse words m → subcommand_name_of m ≡ Some (codes "audit")
    → option_map (λ p. p.1) (subcommand_rows_of m) ≡ Some (rows_of (found_of inner)) → GivesFile (first_value (found_of inner))
audit_given words m inner parse is rows = (has words m inner (codes "audit") parse is rows).audit refl

pub show_given : (words : List Text) (m inner : ArgMatches) → IsParse words m → subcommand_name_of m ≡ Some (codes "show")
    → option_map (λ p. p.1) (subcommand_rows_of m) ≡ Some (rows_of (found_of inner)) → GivesFile (first_value (found_of inner))
show_given words m inner parse is rows = (has words m inner (codes "show") parse is rows).show refl

pub migrate_given : (words : List Text) (m inner : ArgMatches) → IsParse words m → subcommand_name_of m ≡ Some (codes "migrate")
    → option_map (λ p. p.1) (subcommand_rows_of m) ≡ Some (rows_of (found_of inner)) → GivesBoth (first_value (found_of inner))
migrate_given words m inner parse is rows = (has words m inner (codes "migrate") parse is rows).migrate refl

-- ---- a command with one option more

added_app : (old new : Command) (a : Arg) (app : App) (r : Rule) → AddsArg old a new → a.global ≡ false → app_of old ≡ app → rule_of a ≡ r
    → app_of new ≡ with_rule app r
added_app old new a app r added local e f = added.shape local ∙ ap₂ with_rule e f

added_local : (old new : Command) (a : Arg) → AddsArg old a new → a.global ≡ false → (fields_of old).has_globals ≡ false
    → (fields_of new).has_globals ≡ false
added_local old new a added local e = added.globals ∙ ap₂ (λ x y. x || y) e local

-- ---- a command with a list of options more

abbrev with_rules : App → List Rule → App
with_rules app [] = app
with_rules app (r ∷ rules) = with_rules (with_rule app r) rules

pub all_added_app : (args : List Arg) (rules : List Rule) (old new : Command) (app : App) → HaveRules args rules → AddsInTurn AddsArg old args new →
    app_of old ≡ app
    → app_of new ≡ with_rules app rules
all_added_app [] [] old new app have same e = ap app_of (sym same) ∙ e
all_added_app [] (r ∷ rules) old new app have same e = absurd have
all_added_app (a ∷ args) [] old new app have added e = absurd have
all_added_app (a ∷ args) (r ∷ rules) old new app have added e =
    all_added_app args rules added.0 new (with_rule app r) have.2 added.2 (added_app old added.0 a app r added.1 have.1 e have.0)

pub all_added_local : (args : List Arg) (rules : List Rule) (old new : Command) → HaveRules args rules → AddsInTurn AddsArg old args new →
    (fields_of old).has_globals ≡ false
    → (fields_of new).has_globals ≡ false
all_added_local [] [] old new have same e = ap (λ (c : Command). (fields_of c).has_globals) (sym same) ∙ e
all_added_local [] (r ∷ rules) old new have same e = absurd have
all_added_local (a ∷ args) [] old new have added e = absurd have
all_added_local (a ∷ args) (r ∷ rules) old new have added e =
    all_added_local args rules added.0 new have.2 added.2 (added_local old added.0 a added.1 have.1 e)

-- ---- a command with one subcommand more

subcommand_app : (old sub new : Command) (app below : App) → AddsSubcommand old sub new → (fields_of sub).has_globals ≡ false → app_of old ≡ app →
    app_of sub ≡ below
    → app_of new ≡ with_subcommand app below.top
subcommand_app old sub new app below added local e f = added.shape local ∙ ap₂ with_subcommand e (ap (λ (a : App). a.top) f)

subcommand_local : (old sub new : Command) → AddsSubcommand old sub new → (fields_of sub).has_globals ≡ false → (fields_of old).has_globals ≡ false
    → (fields_of new).has_globals ≡ false
subcommand_local old sub new added local e = added.globals ∙ ap₂ (λ x y. x || y) e local

-- ---- a command with a list of subcommands more

abbrev with_subcommands : App → List App → App
with_subcommands app [] = app
with_subcommands app (a ∷ apps) = with_subcommands (with_subcommand app a.top) apps

pub all_subcommands_app : (commands : List Command) (apps : List App) (old new : Command) (app : App) → HaveApps commands apps →
    AddsInTurn AddsSubcommand old commands new → app_of old ≡ app
    → app_of new ≡ with_subcommands app apps
all_subcommands_app [] [] old new app have same e = ap app_of (sym same) ∙ e
all_subcommands_app [] (a ∷ apps) old new app have same e = absurd have
all_subcommands_app (c ∷ commands) [] old new app have added e = absurd have
all_subcommands_app (c ∷ commands) (a ∷ apps) old new app have added e =
    all_subcommands_app commands apps added.0 new (with_subcommand app a.top) have.2 added.2 (subcommand_app old c added.0 app a added.1 have.1 e have.0)

pub all_subcommands_local : (commands : List Command) (apps : List App) (old new : Command) → HaveApps commands apps →
    AddsInTurn AddsSubcommand old commands new → (fields_of old).has_globals ≡ false
    → (fields_of new).has_globals ≡ false
all_subcommands_local [] [] old new have same e = ap (λ (c : Command). (fields_of c).has_globals) (sym same) ∙ e
all_subcommands_local [] (a ∷ apps) old new have same e = absurd have
all_subcommands_local (c ∷ commands) [] old new have added e = absurd have
all_subcommands_local (c ∷ commands) (a ∷ apps) old new have added e =
    all_subcommands_local commands apps added.0 new have.2 added.2 (subcommand_local old c added.0 added.1 have.1 e)

-- ---- a list with one subcommand more

have_one_more : (commands : List Command) (apps : List App) (c : Command) (a : App) → HaveApps commands apps → app_of c ≡ a → (fields_of c).has_globals ≡ false
    → HaveApps (commands ++ c ∷ []) (apps ++ a ∷ [])
have_one_more [] [] c a have is local = (is, local, tt)
have_one_more [] (b ∷ apps) c a have is local = absurd have
have_one_more (d ∷ commands) [] c a have is local = absurd have
have_one_more (d ∷ commands) (b ∷ apps) c a have is local = (have.0, have.1, have_one_more commands apps c a have.2 is local)

pub have_made : (made : Result Command AllocError) (old new : List Command) (apps : List App) (a : App) → IsOkAnd made (λ c. new ≡ old ++ c ∷ []) →
    IfOk made (λ c. app_of c ≡ a)
    → IfOk made (λ c. (fields_of c).has_globals ≡ false) → HaveApps old apps → HaveApps new (apps ++ a ∷ [])
have_made (Ok c) old new apps a pushed is local have = subst (λ l. HaveApps l (apps ++ a ∷ [])) (sym pushed) (have_one_more old apps c a have is local)
have_made (Err e) old new apps a pushed is local have = absurd pushed
