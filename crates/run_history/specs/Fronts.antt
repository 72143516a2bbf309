-- Fronts of a history (own).
use Rattle.std.specs.Prelude.{◌<◌, List, length}
use mathlib.Core.List.{IsPrefix}
use Rattle.call_types.specs.declared.act.Record.{Record}

-- the second has the records of the first, and more after them
abbrev pub GoesOn : List Record → List Record → Type 0
GoesOn first second = IsPrefix first second × (length first < length second)

-- every history that begins with the second begins with the first
abbrev pub Grows : List Record → List Record → Type 0
Grows first second = (h : List Record) → IsPrefix second h → IsPrefix first h

-- that is so of every history that begins so
abbrev pub Since : List Record → (List Record → Type 0) → Type 0
Since front holds = (h : List Record) → IsPrefix front h → holds h
