-- Lanes with one call more.
use Rattle.std.proofs.Common.{◌≡◌, ◌∙◌, ◌<◌, ◌++◌, ◌==◌, ℕ, List, [], ◌∷◌, true, false, Some, zero, suc, map, set, if◌then◌else◌, refl, ap, sym, subst, arith}
use Rattle.std.specs.List.{slice_get}
use Rattle.std.specs.Option.{option_map}
use Rattle.std.proofs.lemmas.Option.{slice_get-map, slice_get_within}
use Rattle.std.proofs.lemmas.List.{length-map}
use Rattle.posix_model.specs.Types.{Call}
use Rattle.race_outcomes.specs.declared.lanes.Lane.{Lane}
use Rattle.race_outcomes.specs.Orders.{AreApart}
use Rattle.race_outcomes.specs.Lanes.{AreOfDifferent, IsFirstOf, longer, with_call}
use Rattle.race_outcomes.proofs.PlaceLemmas.{some_there, same_some, apart_push}

-- the first lane of the process gets it
with_call_at : (actor : ℕ) (call : Call) (lanes : List Lane) (place : ℕ) (lane : Lane) → slice_get lanes place ≡ Some lane → (lane.actor == actor) ≡ true →
    ((k : ℕ) (other : Lane) → k < place → slice_get lanes k ≡ Some other → (other.actor == actor) ≡ false) → with_call actor call lanes ≡ set lanes place
    (longer lane call)
with_call_at actor call [] place lane at is first = absurd (grind (arith, at))
with_call_at actor call (x ∷ xs) zero lane at is first =
    let same : x ≡ lane = same_some (Some x) x lane refl at in
    ap (λ b. if b then longer x call ∷ xs else x ∷ with_call actor call xs) (ap (λ l. l.actor == actor) same ∙ is) ∙ ap (λ l. longer l call ∷ xs) same
with_call_at actor call (x ∷ xs) (suc place) lane at is first =
    ap (λ b. if b then longer x call ∷ xs else x ∷ with_call actor call xs) (first 0 x (omega arith) refl)
    ∙ ap (λ ls. x ∷ ls) (with_call_at actor call xs place lane at is (λ k other less there. first (suc k) other (omega (arith, less)) there))

-- where there is none, it begins one
pub with_call_new : (actor : ℕ) (call : Call) (lanes : List Lane) → ((k : ℕ) (other : Lane) → slice_get lanes k ≡ Some other → (other.actor == actor) ≡ false) →
    with_call actor call lanes ≡ lanes ++ record { actor = actor; calls = call ∷ [] } ∷ []
with_call_new actor call [] none = refl
with_call_new actor call (x ∷ xs) none =
    ap (λ b. if b then longer x call ∷ xs else x ∷ with_call actor call xs) (none 0 x refl)
    ∙ ap (λ ls. x ∷ ls) (with_call_new actor call xs (λ k other there. none (suc k) other there))

pub with_call_there : (actor : ℕ) (call : Call) (lanes : List Lane) (place : ℕ) (is : IsFirstOf actor lanes place) →
    with_call actor call lanes ≡ set lanes place (longer is.lane call)
with_call_there actor call lanes place is = with_call_at actor call lanes place is.lane is.stands is.is is.first

-- another lane of the same process leaves the processes as they were
actors_stay : (lanes : List Lane) (place : ℕ) (old new : Lane) → slice_get lanes place ≡ Some old → new.actor ≡ old.actor →
    map (λ l. l.actor) (set lanes place new) ≡ map (λ l. l.actor) lanes
actors_stay [] place old new at same = absurd (grind (arith, at))
actors_stay (x ∷ xs) zero old new at same = ap (λ n. n ∷ map (λ l. l.actor) xs) (same ∙ sym (ap (λ l. l.actor) (same_some (Some x) x old refl at)))
actors_stay (x ∷ xs) (suc place) old new at same = ap (λ ns. x.actor ∷ ns) (actors_stay xs place old new at same)

pub still_different : (lanes : List Lane) (place : ℕ) (old new : Lane) → slice_get lanes place ≡ Some old → new.actor ≡ old.actor → AreOfDifferent lanes →
    AreOfDifferent (set lanes place new)
still_different lanes place old new at same apart = subst (λ ns. AreApart ns) (sym (actors_stay lanes place old new at same)) apart

actors_push : (lanes : List Lane) (lane : Lane) → map (λ l. l.actor) (lanes ++ lane ∷ []) ≡ map (λ l. l.actor) lanes ++ lane.actor ∷ []
actors_push [] lane = refl
actors_push (x ∷ xs) lane = ap (λ ns. x.actor ∷ ns) (actors_push xs lane)

pub one_more_different : (lanes : List Lane) (lane : Lane) → ((k : ℕ) (other : Lane) → slice_get lanes k ≡ Some other → (other.actor == lane.actor) ≡ false) →
    AreOfDifferent lanes → AreOfDifferent (lanes ++ lane ∷ [])
one_more_different lanes lane none apart = subst (λ ns. AreApart ns) (sym (actors_push lanes lane)) (apart_push (map (λ l. l.actor) lanes) lane.actor (λ k at.
    let here : (l : _) × (slice_get lanes k ≡ Some l) =
    some_there lanes k (subst (λ n. k < n) (length-map lanes (λ l. l.actor)) (slice_get_within (map (λ l. l.actor) lanes) k lane.actor at)) in
    let same : here.0.actor ≡ lane.actor = same_some (slice_get (map (λ l. l.actor) lanes) k) here.0.actor lane.actor (slice_get-map (λ l. l.actor) lanes k ∙
    ap (option_map (λ l. l.actor)) here.1) at in
    grind (arith, same, none k here.0 here.1)) apart)
