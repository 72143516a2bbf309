-- The records of orders of moves.
use Rattle.std.proofs.Common.{◌≡◌, ◌∙◌, ◌++◌, ◌∷◌, [], List, ℕ, Bool, Option, None, Some, length, refl, ap, sym, subst, arith}
use Rattle.std.specs.List.{slice_get}
use Rattle.std.specs.Option.{option_map, option_map_or, option_to_list}
use Rattle.slots.specs.Slots.{slot}
use Rattle.posix_model.specs.Types.{Act, Outcome, Record, Bounds}
use Rattle.posix_model.specs.declared.world.World.{World}
use Rattle.posix_model.specs.Step.{is_parked, step, Stepped, outcome_of}
use Rattle.posix_model.specs.History.{empty_world, after, world_of, legal, world_from, legal_from}
use Rattle.race_outcomes.specs.declared.lanes.Lane.{Lane}
use Rattle.race_outcomes.specs.declared.position.Position.{Position}
use Rattle.race_outcomes.specs.Moves.{next_at, going, going_by, moved, move_on, move}
use Rattle.race_outcomes.specs.Orders.{Leads}
use Rattle.race_outcomes.specs.Outcomes.{start_of}
use Rattle.race_outcomes.specs.Witnesses.{recorded_as, record_on, record_of, records_along, IsWitness}
use Rattle.race_outcomes.proofs.PlaceLemmas.{same_some}
use Rattle.race_outcomes.proofs.HistoryLemmas.{legal_append}

-- a move has this record, which the model gives
record HasRecord (bounds : Bounds) (w : World) (o : Option Record) (to : World) : Type 0 where
  one : Record
  is : o ≡ Some one
  gives : outcome_of bounds w one.actor one.act ≡ Some one.outcome
  leads : after bounds w one ≡ to

stepped_record : (bounds : Bounds) (w : World) (actor : ℕ) (told : List (List Outcome)) (number : ℕ) (row : List Outcome) (resumes : Bool) (act : Act)
    (s : Option Stepped) (to : Position) → step bounds w actor act ≡ s → option_map (moved told number row) (option_map (going resumes act) s) ≡ Some to →
    HasRecord bounds w (option_map (recorded_as actor) (option_map (going resumes act) s)) to.world
stepped_record bounds w actor told number row resumes act None to is goes = absurd (grind (arith, goes))
stepped_record bounds w actor told number row resumes act (Some s) to is goes = record {
  one = recorded_as actor (going resumes act s);
  is = refl;
  gives = ap (λ o. option_map (λ (x : Stepped). x.outcome) o) is;
  leads = ap (λ o. option_map_or (λ (x : Stepped). x.world) o w) is ∙
      ap (λ (p : Position). p.world) (same_some (Some (moved told number row (going resumes act s))) (moved told number row (going resumes act s)) to refl
      goes);
}

going_record : (bounds : Bounds) (w : World) (actor : ℕ) (told : List (List Outcome)) (number : ℕ) (row : List Outcome) (resumes : Bool) (act : Option Act)
    (to : Position) → option_map (moved told number row) (going_by bounds w actor resumes act) ≡ Some to →
    HasRecord bounds w (option_map (recorded_as actor) (going_by bounds w actor resumes act)) to.world
going_record bounds w actor told number row resumes None to goes = absurd (grind (arith, goes))
going_record bounds w actor told number row resumes (Some act) to goes = stepped_record bounds w actor told number row resumes act
    (step bounds w actor act) to refl goes

on_record : (bounds : Bounds) (from : Position) (number : ℕ) (lane : Option Lane) (row : Option (List Outcome)) (to : Position) →
    move_on bounds from number lane row ≡ Some to → HasRecord bounds from.world (record_on bounds from.world lane row) to.world
on_record bounds from number None row to goes = absurd (grind (arith, goes))
on_record bounds from number (Some lane) None to goes = absurd (grind (arith, goes))
on_record bounds from number (Some lane) (Some row) to goes =
    let waits : Bool = is_parked (slot from.world.processes lane.actor) in
    going_record bounds from.world lane.actor from.told number row waits (next_at waits lane (length row)) to goes

-- one more move in front
more : (bounds : Bounds) (w between : World) (one : Record) (n : ℕ) (ns : List ℕ) (end : World) (rs : List Record) →
    outcome_of bounds w one.actor one.act ≡ Some one.outcome → after bounds w one ≡ between → IsWitness bounds between ns end rs →
    IsWitness bounds w (n ∷ ns) end (one ∷ rs)
more bounds w between one n ns end rs gives leads after_it = record {
  each = omega (arith, after_it.each);
  is_legal = (gives, subst (λ x. legal_from bounds x rs) (sym leads) after_it.is_legal);
  leads = ap (λ x. world_from bounds x rs) leads ∙ after_it.leads;
}

witness : (bounds : Bounds) (lanes : List Lane) (from end : Position) (order : List ℕ) → Leads (move bounds lanes) from order end →
    IsWitness bounds from.world order end.world (records_along bounds lanes from order)
witness bounds lanes from end [] same = record { each = refl; is_legal = tt; leads = ap (λ (p : Position). p.world) same }
witness bounds lanes from end (n ∷ ns) leads =
    let has : HasRecord bounds from.world (record_of bounds lanes from n) leads.0.world = on_record bounds from n (slice_get lanes n)
    (slice_get from.told n) leads.0 leads.1 in
    let rest = records_along bounds lanes leads.0 ns in
    let is : records_along bounds lanes from (n ∷ ns) ≡ has.one ∷ rest =
    ap (λ o. option_to_list o ++ option_map_or (λ to. records_along bounds lanes to ns) (move bounds lanes from n) []) has.is ∙
    ap (λ o. has.one ∷ option_map_or (λ to. records_along bounds lanes to ns) o []) leads.1 in
    subst (λ rs. IsWitness bounds from.world (n ∷ ns) end.world rs) (sym is)
    (more bounds from.world leads.0.world has.one n ns end.world rest has.gives has.leads (witness bounds lanes leads.0 end ns leads.2))

-- the records of an order from where a race begins
pub witness_of : (bounds : Bounds) (lanes : List Lane) (w : World) (order : List ℕ) (rs : List Record) →
    rs ≡ records_along bounds lanes (start_of lanes w) order → (end : Position) → Leads (move bounds lanes) (start_of lanes w) order end →
    IsWitness bounds w order end.world rs
witness_of bounds lanes w order rs is end leads = subst (λ x. IsWitness bounds w order end.world x) (sym is)
    (witness bounds lanes (start_of lanes w) end order leads)

-- the same, after a history that leads to its world
pub witness_after : (bounds : Bounds) (lanes : List Lane) (w : World) (order : List ℕ) (rs : List Record) →
    rs ≡ records_along bounds lanes (start_of lanes w) order → (end : Position) (history : List Record) →
    Leads (move bounds lanes) (start_of lanes w) order end → legal bounds history → world_of bounds history ≡ w → legal bounds (history ++ rs)
witness_after bounds lanes w order rs is end history leads first there = legal_append bounds empty_world history rs first
    (subst (λ x. legal_from bounds x rs) (sym there) (witness_of bounds lanes w order rs is end leads).is_legal)
