-- Reading the script of a race line by line.
use Rattle.std.proofs.Common.{◌≡◌, ℕ, ◌+◌, Bool, true, false, cond, List, Result, Ok, Err, refl, sym, ap, ◌∙◌, append_assoc}
use Rattle.std.proofs.lemmas.List.{append-nil}
use Rattle.std.specs.Str.{bytes_eq}
use Rattle.std.specs.Prelude.{codes}
use Rattle.script_text.specs.declared.races.SetupAct.{SetupAct}
use Rattle.script_text.specs.declared.races.RaceCall.{RaceCall}
use Rattle.script_text.specs.declared.races.RaceScript.{RaceScript}
use Rattle.script_text.specs.declared.races.RaceFault.{RaceFault}
use Rattle.script_text.specs.declared.races.RaceFault.TheVariants as faults
use Rattle.script_text.specs.Reading.{◌>>=◌, Unread, cut}
use Rattle.script_text.specs.ReadingScripts.{left_lines}
use Rattle.script_text.specs.Races.{followed, line_calls, lines_calls, line_setup, race_of, with_setup, lines_race, RaceFails}
use Rattle.script_text.proofs.Scripts.{lines_of, first_line}

-- a fault is that of a further reading which fails where the first does
pub fails_too : {A B : Type 0} (fault : RaceFault) (r : Result A RaceFault) (s : Result B RaceFault) → (r ≡ Err fault → s ≡ Err fault) → RaceFails fault r →
    RaceFails fault s
fails_too faults.NoMemory r s h e = tt
fails_too (faults.BadLine line column expected) r s h e = h e
fails_too faults.NoRace r s h e = h e
fails_too (faults.NoCall line) r s h e = h e
fails_too (faults.BadAnswer line column) r s h e = h e
fails_too faults.TooLong r s h e = h e

-- ---- the calls

call_lines : (n : ℕ) (bytes line : List ℕ) (after : Unread) → (line, after) ≡ cut 10 bytes →
    lines_calls n (lines_of bytes) ≡ (line_calls n line >>= λ calls. followed calls (lines_calls (n + 1) (left_lines after)))
call_lines n bytes line after e =
    ap (lines_calls n) (first_line bytes) ∙ ap (λ (p : List ℕ × Unread). line_calls n p.0 >>= λ calls. followed calls (lines_calls (n + 1) (left_lines p.1)))
    (sym e)

followed_on : {A : Type 0} (xs : List A) (line after : Result (List A) RaceFault) → followed xs (line >>= λ ys. followed ys after) ≡
    (followed xs line >>= λ all. followed all after)
followed_on xs (Err fault) after = refl
followed_on xs (Ok ys) (Err fault) = refl
followed_on {A} xs (Ok ys) (Ok zs) = ap (λ (all : List A). Ok all) (sym (append_assoc xs ys zs))

one_line : (before : List RaceCall) (n : ℕ) (bytes line : List ℕ) (after : Unread) → (line, after) ≡ cut 10 bytes
    → followed before (lines_calls n (lines_of bytes)) ≡ (followed before (line_calls n line) >>= λ all. followed all (lines_calls (n + 1) (left_lines after)))
one_line before n bytes line after e = ap (followed before) (call_lines n bytes line after e) ∙
    followed_on before (line_calls n line) (lines_calls (n + 1) (left_lines after))

-- the calls of a line stand after those before
pub next_calls : (before now : List RaceCall) (n : ℕ) (bytes line : List ℕ) (after : Unread) → (line, after) ≡ cut 10 bytes →
    followed before (line_calls n line) ≡ Ok now
    → followed before (lines_calls n (lines_of bytes)) ≡ followed now (lines_calls (n + 1) (left_lines after))
next_calls before now n bytes line after e is =
    one_line before n bytes line after e ∙ ap (λ (r : Result (List RaceCall) RaceFault). r >>= λ all. followed all (lines_calls (n + 1) (left_lines after))) is

-- the fault of a line is that of all
pub calls_fail : (fault : RaceFault) (before : List RaceCall) (n : ℕ) (bytes line : List ℕ) (after : Unread) → (line, after) ≡ cut 10 bytes →
    RaceFails fault (followed before (line_calls n line))
    → RaceFails fault (followed before (lines_calls n (lines_of bytes)))
calls_fail fault before n bytes line after e h =
    fails_too fault (followed before (line_calls n line)) (followed before (lines_calls n (lines_of bytes)))
    (λ (is : followed before (line_calls n line) ≡ Err fault). one_line before n bytes line after e ∙
    ap (λ (r : Result (List RaceCall) RaceFault). r >>= λ all. followed all (lines_calls (n + 1) (left_lines after))) is) h

-- ---- the lines before

setup_on : (xs : List SetupAct) (line : Result (List SetupAct) RaceFault) (after : Result RaceScript RaceFault)
    → with_setup xs (line >>= λ ys. with_setup ys after) ≡ (followed xs line >>= λ all. with_setup all after)
setup_on xs (Err fault) after = refl
setup_on xs (Ok ys) (Err fault) = refl
setup_on xs (Ok ys) (Ok race) = ap (λ (all : List SetupAct). Ok (record { setup = all; calls = race.calls })) (sym (append_assoc xs ys race.setup))

-- a line that is not race, and those after it
abbrev act_first : ℕ → List ℕ → Unread → Result RaceScript RaceFault
act_first n line after = line_setup n line >>= λ acts. with_setup acts (lines_race (n + 1) (left_lines after))

-- a line, and those after it
abbrev line_first : ℕ → List ℕ → Unread → Result RaceScript RaceFault
line_first n line after = cond (bytes_eq line (codes "race")) (race_of (lines_calls (n + 1) (left_lines after))) (act_first n line after)

race_lines : (n : ℕ) (bytes line : List ℕ) (after : Unread) → (line, after) ≡ cut 10 bytes → lines_race n (lines_of bytes) ≡ line_first n line after
race_lines n bytes line after e = ap (lines_race n) (first_line bytes) ∙ ap (λ (p : List ℕ × Unread). line_first n p.0 p.1) (sym e)

no_race : (n : ℕ) (bytes line : List ℕ) (after : Unread) → (line, after) ≡ cut 10 bytes → bytes_eq line (codes "race") ≡ false →
    lines_race n (lines_of bytes) ≡ act_first n line after
no_race n bytes line after e other = race_lines n bytes line after e ∙
    ap (λ (b : Bool). cond b (race_of (lines_calls (n + 1) (left_lines after))) (act_first n line after)) other

other_line : (before : List SetupAct) (n : ℕ) (bytes line : List ℕ) (after : Unread) → (line, after) ≡ cut 10 bytes → bytes_eq line (codes "race") ≡ false
    → with_setup before (lines_race n (lines_of bytes)) ≡ (followed before (line_setup n line) >>= λ all. with_setup all
    (lines_race (n + 1) (left_lines after)))
other_line before n bytes line after e other = ap (with_setup before) (no_race n bytes line after e other) ∙
    setup_on before (line_setup n line) (lines_race (n + 1) (left_lines after))

-- the acts of a line stand after those before
pub next_acts : (before now : List SetupAct) (n : ℕ) (bytes line : List ℕ) (after : Unread) → (line, after) ≡ cut 10 bytes →
    bytes_eq line (codes "race") ≡ false → followed before (line_setup n line) ≡ Ok now
    → with_setup before (lines_race n (lines_of bytes)) ≡ with_setup now (lines_race (n + 1) (left_lines after))
next_acts before now n bytes line after e other is =
    other_line before n bytes line after e other ∙ ap (λ (r : Result (List SetupAct) RaceFault). r >>= λ all. with_setup all
    (lines_race (n + 1) (left_lines after))) is

-- the fault of a line is that of all
pub acts_fail : (fault : RaceFault) (before : List SetupAct) (n : ℕ) (bytes line : List ℕ) (after : Unread) → (line, after) ≡ cut 10 bytes →
    bytes_eq line (codes "race") ≡ false → RaceFails fault (followed before (line_setup n line))
    → RaceFails fault (with_setup before (lines_race n (lines_of bytes)))
acts_fail fault before n bytes line after e other h =
    fails_too fault (followed before (line_setup n line)) (with_setup before (lines_race n (lines_of bytes)))
    (λ (is : followed before (line_setup n line) ≡ Err fault). other_line before n bytes line after e other ∙
    ap (λ (r : Result (List SetupAct) RaceFault). r >>= λ all. with_setup all (lines_race (n + 1) (left_lines after))) is) h

race_line : (before : List SetupAct) (n : ℕ) (bytes line : List ℕ) (after : Unread) → (line, after) ≡ cut 10 bytes → bytes_eq line (codes "race") ≡ true
    → with_setup before (lines_race n (lines_of bytes)) ≡ with_setup before (race_of (lines_calls (n + 1) (left_lines after)))
race_line before n bytes line after e here =
    ap (with_setup before) (race_lines n bytes line after e) ∙
    ap (λ (b : Bool). with_setup before (cond b (race_of (lines_calls (n + 1) (left_lines after))) (act_first n line after))) here

-- after the line race come the calls
pub race_here : (before : List SetupAct) (calls : List RaceCall) (n : ℕ) (bytes line : List ℕ) (after : Unread) → (line, after) ≡ cut 10 bytes →
    bytes_eq line (codes "race") ≡ true
    → lines_calls (n + 1) (left_lines after) ≡ Ok calls → with_setup before (lines_race n (lines_of bytes)) ≡ Ok (record { setup = before; calls = calls })
race_here before calls n bytes line after e here is =
    race_line before n bytes line after e here
    ∙ ap (λ (r : Result (List RaceCall) RaceFault). with_setup before (race_of r)) is
    ∙ ap (λ (acts : List SetupAct). Ok (record { setup = acts; calls = calls })) (append-nil before)

-- and their fault is that of all
pub race_fails : (fault : RaceFault) (before : List SetupAct) (n : ℕ) (bytes line : List ℕ) (after : Unread) → (line, after) ≡ cut 10 bytes →
    bytes_eq line (codes "race") ≡ true
    → RaceFails fault (lines_calls (n + 1) (left_lines after)) → RaceFails fault (with_setup before (lines_race n (lines_of bytes)))
race_fails fault before n bytes line after e here h =
    fails_too fault (lines_calls (n + 1) (left_lines after)) (with_setup before (lines_race n (lines_of bytes)))
    (λ (is : lines_calls (n + 1) (left_lines after) ≡ Err fault). race_line before n bytes line after e here ∙
    ap (λ (r : Result (List RaceCall) RaceFault). with_setup before (race_of r)) is) h
