-- What a reader of payloads gives is the value that the payload spells, or that it spells none.
use Rattle.std.proofs.Common.{◌≡◌, ℕ, List, Option, Some, None, Result, Ok, Err, sym, ap, ◌∙◌}
use Rattle.call_types.specs.Ranges.{AreBytes}
use Rattle.frame_codec.specs.declared.fault.PayloadFault.{PayloadFault}
use Rattle.frame_codec.specs.declared.fault.PayloadFault.TheVariants as faults
use Rattle.frame_codec.specs.Proved.Reading.{Reading, Gives, payload_at}
use Rattle.frame_codec.specs.Frames.{GivesValue}
use Rattle.frame_codec.proofs.Steps.{Reads, payload_again, payload_takes}

abbrev pub Spelled : {A : Type 0} → (A → List ℕ) → (A → Type 0) → A → List ℕ → Type 0
Spelled text Fits value payload = Fits value × (payload ≡ text value)

none_some : {A : Type 0} (o : Option A) (x : A) → o ≡ None → o ≡ Some x → ⊥
none_some o x e f = absurd (let t = sym e ∙ f in cc)

-- a payload of which nothing is read spells nothing
pub spells_none : {A : Type 0} (text : A → List ℕ) (Fits : A → Type 0) (read : Reading A) → Reads text Fits read
    → (payload : List ℕ) → payload_at read payload ≡ None → (value : A) → Spelled text Fits value payload → ⊥
spells_none text Fits read r payload e = λ value spelled. none_some (payload_at read payload) value e (ap (payload_at read) spelled.1 ∙
    payload_again text Fits read r value spelled.0)

pub gives_value : {A : Type 0} (text : A → List ℕ) (Fits : A → Type 0) (read : Reading A) → Reads text Fits read
    → (result : Result A PayloadFault) (payload : List ℕ) → AreBytes payload → Gives (λ (x : A). x) result (payload_at read payload) →
    GivesValue (Spelled text Fits) result payload
gives_value text Fits read r (Ok value) payload h e = payload_takes text Fits read r payload value h e
gives_value text Fits read r (Err faults.Malformed) payload h e = spells_none text Fits read r payload e
gives_value text Fits read r (Err faults.NoMemory) payload h e = tt
