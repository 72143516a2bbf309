-- Lines that are copied, where the line of a script is the line in which its act is written (own).
use Rattle.std.specs.Prelude.{◌≡◌, ℕ, ◌-◌, ◌==◌, Bool, false, List, [], ◌∷◌, ◌++◌, length, codes, decimal, Option, Some, None}
use Rattle.std.specs.List.{slice_get}
use Rattle.call_types.specs.CallTable.{FieldKind, a_name, a_payload, Values, parts}
use Rattle.call_types.specs.declared.act.Act.{Act}
use Rattle.call_types.specs.declared.act.Act.TheVariants as acts
use Rattle.call_types.specs.declared.outcome.Outcome.{Outcome}
use Rattle.script_text.specs.Reading.{byte_of}
use Rattle.script_text.specs.Spellings.{SpellsData}
use Rattle.script_text.specs.Lines.{data_word, outcome_text}

-- whether this is a *
abbrev pub is_star : Option ℕ → Bool
is_star None = false
is_star (Some c) = c == byte_of (codes "*")

-- whether a * stands at this place from the end of a line, where 1 is the last byte
abbrev pub has_star : ℕ → List ℕ → Bool
has_star place line = is_star (slice_get line (length line - place))

-- however a line ends in this data, the data stands there as it is written
abbrev pub EndsAsWritten : List ℕ → List ℕ → Type 0
EndsAsWritten line bytes = (front word : List ℕ) → line ≡ front ++ word → SpellsData bytes word → word ≡ data_word bytes

-- a line of these fields has one spelling: none is a name, and data is the last and stands there as it is written
abbrev pub FieldsAsWritten : List ℕ → (ks : List FieldKind) → Values ks → Type 0
FieldsAsWritten line [] vs = Unit {0}
FieldsAsWritten line (a_name ∷ ks) vs = ⊥
FieldsAsWritten line (a_payload ∷ []) vs = EndsAsWritten line vs.0
FieldsAsWritten line (a_payload ∷ k ∷ ks) vs = ⊥
FieldsAsWritten line (other ∷ ks) vs = FieldsAsWritten line ks vs.1

-- a line that asks for this act of a process stands in the line of its record as it is
abbrev pub IsAsWritten : List ℕ → Act → Type 0
IsAsWritten line (acts.Call call) = FieldsAsWritten line (parts call).entry.fields (parts call).values
IsAsWritten line acts.Attach = Unit {0}
IsAsWritten line acts.Resume = Unit {0}
IsAsWritten line acts.Exit = Unit {0}
IsAsWritten line other = ⊥

-- the line of a record, by the line of the script that asked for it
abbrev pub copied_line : ℕ → List ℕ → Outcome → List ℕ
copied_line place line outcome = decimal place ++ codes " " ++ line ++ codes " = " ++ outcome_text outcome ++ codes "\n"
