-- A call is made of its parts.
use Rattle.std.specs.Prelude.{◌≡◌, List, [], ◌∷◌}
use Rattle.call_types.specs.declared.call.Call.{Call}
use Rattle.call_types.specs.CallTable.{FieldKind, Values, Makes, Entry, of, parts}

-- the call that it makes
abbrev pub made : (ks : List FieldKind) → Makes ks → Values ks → Call
made [] make vs = make
made (k ∷ ks) make vs = made ks (make vs.0) vs.1

-- an entry makes the calls that have it in their parts
abbrev pub Parted : Entry → Type 0
Parted e = (vs : Values e.fields) → parts (made e.fields e.make vs) ≡ of e vs
