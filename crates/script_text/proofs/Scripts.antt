-- Reading a script line by line.
use Rattle.std.proofs.Common.{◌≡◌, ℕ, ◌+◌, ◌≤◌, ◌<◌, Bor, Bool, true, false, cond, eqb, List, [], ◌∷◌, length, Option, Some, None, Result, Ok, Err, refl, sym, ap, ◌∙◌, arith}
use Rattle.std.specs.Option.{option_copied, IfSome}
use Rattle.std.specs.List.{slice_split, onto_first}
use Rattle.std.proofs.lemmas.Bool.{eqb-true}
use Rattle.call_types.specs.declared.act.ScriptAct.{ScriptAct}
use Rattle.script_text.specs.declared.fault.ScriptFault.{ScriptFault}
use Rattle.script_text.specs.declared.fault.ScriptFault.TheVariants as faults
use Rattle.script_text.specs.Reading.{◌>>=◌, Unread, cut, onto}
use Rattle.script_text.specs.ReadingScripts.{numbered, line_acts, lines_acts, followed, left_lines, left_size}
use Rattle.script_text.specs.ReadingCalls.{BadColumn, reading}
use Rattle.script_text.specs.ReadingResults.{ScriptFails}

-- the lines of a script
abbrev pub lines_of : List ℕ → List (List ℕ)
lines_of bytes = slice_split (λ c. eqb c 10) bytes

either : (b : Bool) (c : ℕ) (cs : List ℕ) → lines_of cs ≡ (cut 10 cs).0 ∷ left_lines (cut 10 cs).1
    → cond b ([] ∷ lines_of cs) (onto_first c (lines_of cs)) ≡ (let parts : List ℕ × Unread = cond b ([], Some cs) (onto c (cut 10 cs)) in
    parts.0 ∷ left_lines parts.1)
either true c cs h = refl
either false c cs h = ap (onto_first c) h

-- a script is its first line, and the lines after it
pub first_line : (bytes : List ℕ) → lines_of bytes ≡ (cut 10 bytes).0 ∷ left_lines (cut 10 bytes).1
first_line [] = refl
first_line (c ∷ cs) = either (eqb c 10) c cs (first_line cs)

followed_none : (read : Result (List ScriptAct) ScriptFault) → followed [] read ≡ read
followed_none (Ok others) = refl
followed_none (Err fault) = refl

at_first : (n : ℕ) (bytes line : List ℕ) (after : Unread) → (line, after) ≡ cut 10 bytes →
    lines_acts n (lines_of bytes) ≡ (line_acts n line >>= λ acts. followed acts (lines_acts (n + 1) (left_lines after)))
at_first n bytes line after e =
    ap (lines_acts n) (first_line bytes) ∙ ap (λ (p : List ℕ × Unread). line_acts n p.0 >>= λ acts. followed acts (lines_acts (n + 1) (left_lines p.1))) (sym e)

-- an empty line has no act
pub empty_line : (n : ℕ) (bytes line : List ℕ) (after : Unread) → (line, after) ≡ cut 10 bytes → eqb (length line) 0 ≡ true →
    lines_acts n (lines_of bytes) ≡ lines_acts (n + 1) (left_lines after)
empty_line n bytes [] after e none = at_first n bytes [] after e ∙ followed_none (lines_acts (n + 1) (left_lines after))
empty_line n bytes (c ∷ cs) after e none = absurd (omega (arith, eqb-true (length (c ∷ cs)) 0 none))

full_line : (n : ℕ) (line : List ℕ) → eqb (length line) 0 ≡ false → line_acts n line ≡ numbered n (reading line)
full_line n [] some = absurd cc
full_line n (c ∷ cs) some = refl

-- a line that is not empty has its act, before those of the lines after it
pub act_first : (n : ℕ) (bytes line : List ℕ) (after : Unread) (act : ScriptAct) → (line, after) ≡ cut 10 bytes → eqb (length line) 0 ≡ false →
    numbered n (reading line) ≡ Ok (act ∷ [])
    → lines_acts n (lines_of bytes) ≡ followed (act ∷ []) (lines_acts (n + 1) (left_lines after))
act_first n bytes line after act e some is =
    at_first n bytes line after e ∙ ap (λ (r : Result (List ScriptAct) ScriptFault). r >>= λ acts. followed acts (lines_acts (n + 1) (left_lines after)))
    (full_line n line some ∙ is)

fault_first : (fault : ScriptFault) (n : ℕ) (bytes line : List ℕ) (after : Unread) → (line, after) ≡ cut 10 bytes → eqb (length line) 0 ≡ false →
    numbered n (reading line) ≡ Err fault → lines_acts n (lines_of bytes) ≡ Err fault
fault_first fault n bytes line after e some is =
    at_first n bytes line after e ∙ ap (λ (r : Result (List ScriptAct) ScriptFault). r >>= λ acts. followed acts (lines_acts (n + 1) (left_lines after)))
    (full_line n line some ∙ is)

-- its fault is that of all lines
pub fails : (fault : ScriptFault) (n : ℕ) (bytes line : List ℕ) (after : Unread) → (line, after) ≡ cut 10 bytes → eqb (length line) 0 ≡ false →
    ScriptFails fault (numbered n (reading line)) → ScriptFails fault (lines_acts n (lines_of bytes))
fails faults.NoMemory n bytes line after e some is = tt
fails (faults.BadLine l c x) n bytes line after e some is = fault_first (faults.BadLine l c x) n bytes line after e some is
fails faults.TooLong n bytes line after e some is = fault_first faults.TooLong n bytes line after e some is

-- what is left falls
pub size_falls : (o : Option (Bor (List ℕ))) (n : ℕ) → IfSome o (λ rest. length rest.now < n) → left_size (option_copied o) ≤ n
size_falls None n h = omega arith
size_falls (Some rest) n h = omega arith

-- the line of an act is read as it
pub act_read : (n : ℕ) (read : Result ScriptAct BadColumn) (act : ScriptAct) → numbered n read ≡ Ok (act ∷ []) → read ≡ Ok act
act_read n (Ok found) act e = let is : found ≡ act = cc in ap (λ (a : ScriptAct). Ok a) is
act_read n (Err bad) act e = absurd cc
