-- Writing the frame of a value, which may have none (own).
use Rattle.std.specs.Prelude.{◌≡◌, ℕ, List, ◌++◌, Result, Ok, Err}
use Rattle.call_types.specs.Writing.{KeepsFront}
use Rattle.frame_codec.specs.declared.fault.EncodeFault.{EncodeFault}
use Rattle.frame_codec.specs.declared.fault.EncodeFault.TheVariants as faults
use Rattle.frame_codec.specs.Frames.{IsFrame, HasNoFrame}

-- the value's frame stands after the old bytes; or it has no frame, and nothing was written; or memory ran out for the frame that it has, and the old bytes are still the front
abbrev pub Encodes : {A B : Type 0} → (A → List ℕ → Type 0) → ℕ → A → List ℕ → Result B EncodeFault → List ℕ → List ℕ → Type 0
Encodes Spells most value text (Ok done) old new = (new ≡ old ++ text) × IsFrame Spells most value text
Encodes Spells most value text (Err faults.Unspellable) old new = (new ≡ old) × HasNoFrame Spells most value
Encodes Spells most value text (Err faults.NoMemory) old new = KeepsFront old new × IsFrame Spells most value text
