-- Values that a list takes.
use Rattle.std.proofs.Common.{◌≡◌, Bool, true, List, [], ◌∷◌, ◌++◌, sym, ap, ◌∙◌, append_assoc}
use Rattle.std.proofs.lemmas.List.{append-nil}
use Rattle.frame_codec.specs.Taking.{TakesEach}

-- each value is put at the end
abbrev Puts : {T V : Type 0} → (T → List V) → T → T → V → Bool → Type 0
Puts items old new value more = (items new ≡ items old ++ value ∷ []) × (more ≡ true)

all_put : {T V : Type 0} (old new : T) (values : List V) (items : T → List V) → TakesEach (Puts items) old new values → items new ≡ items old ++ values
all_put old new [] items e = ap items e ∙ sym (append-nil (items old))
all_put {V = V} old new (value ∷ values) items h =
    all_put h.0 new values items h.2 ∙ ap (λ (front : List V). front ++ values) h.1.0 ∙ append_assoc (items old) (value ∷ []) values

-- a list that was empty has the values that it took
pub gathered : {T V : Type 0} (old new : T) (values : List V) (items : T → List V) → items old ≡ [] → TakesEach (Puts items) old new values → items new ≡ values
gathered {V = V} old new values items none h = all_put old new values items h ∙ ap (λ (front : List V). front ++ values) none
