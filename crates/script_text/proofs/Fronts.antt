-- The bytes before a failed write are still the front.
use Rattle.std.proofs.Common.{◌≡◌, ℕ, List, [], ◌++◌, sym, ap, ◌∙◌, append_assoc}
use Rattle.std.proofs.lemmas.List.{append-nil}
use Rattle.call_types.specs.Writing.{KeepsFront}

-- nothing was written
pub keeps : (old new : List ℕ) → new ≡ old → KeepsFront old new
keeps old new e = record { added = []; is = e ∙ sym (append-nil old) }

-- what was written before the failed write stands between
pub keeps_after : (old text mid new : List ℕ) → mid ≡ old ++ text → KeepsFront mid new → KeepsFront old new
keeps_after old text mid new e k = record { added = text ++ k.added; is = k.is ∙ ap (λ (front : List ℕ). front ++ k.added) e ∙ append_assoc old text k.added }
