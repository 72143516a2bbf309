-- What was set up is a history with its world.
use Rattle.std.proofs.Common.{◌≡◌, ◌∙◌, ◌++◌, ◌∷◌, [], List, ℕ, Option, None, Some, Result, Ok, Err, ◌≤◌, length, drop, refl, ap, sym, subst, arith}
use Rattle.std.specs.Option.{option_map, option_map_or}
use Rattle.std.proofs.lemmas.List.{at_drop_all}
use Rattle.posix_model.specs.Types.{Outcome, Record, Bounds, Replied, ParkedAt, Part}
use Rattle.posix_model.specs.declared.world.World.{World}
use Rattle.posix_model.specs.Step.{step, Stepped}
use Rattle.posix_model.specs.History.{empty_world, world_of, legal}
use Rattle.script_text.specs.Reading.{◌>>=◌}
use Rattle.script_text.specs.declared.races.SetupAct.{SetupAct}
use Rattle.race_outcomes.specs.declared.setup.ActorsAct.{ActorsAct}
use Rattle.race_outcomes.specs.declared.setup.Setup.{Setup}
use Rattle.race_outcomes.specs.declared.setup.Unready.{Unready}
use Rattle.race_outcomes.specs.Setups.{asked_in, ended, recorded, made, one_more, set_up_from, set_up, nothing_yet}
use Rattle.race_outcomes.proofs.HistoryLemmas.{legal_append, world_append}

-- the records are a history, and the world is what it leads to
pub record IsRun (bounds : Bounds) (s : Setup) : Type 0 where
  pub is_legal : legal bounds s.records
  pub leads : s.world ≡ world_of bounds s.records

same_ok : (r : Result Setup Unready) (x y : Setup) → r ≡ Ok x → r ≡ Ok y → x ≡ y
same_ok r x y first second = grind (arith, first, second)

-- one record more
one_record : (bounds : Bounds) (s : Setup) (r : Record) (world : World) → step bounds s.world r.actor r.act ≡ Some
    (record { world = world; outcome = r.outcome }) → IsRun bounds s → IsRun bounds (record { world = world; records = s.records ++ r ∷ [] })
one_record bounds s r world is run =
    let there : step bounds (world_of bounds s.records) r.actor r.act ≡ Some (record { world = world; outcome = r.outcome }) =
    subst (λ w. step bounds w r.actor r.act ≡ Some (record { world = world; outcome = r.outcome })) run.leads is in
    record {
      is_legal = legal_append bounds empty_world s.records (r ∷ []) run.is_legal (ap (option_map (λ (x : Stepped). x.outcome)) there, tt);
      leads = sym (world_append bounds empty_world s.records (r ∷ []) ∙ ap (λ o. option_map_or (λ (x : Stepped). x.world) o (world_of bounds s.records)) there);
    }

ended_run : (bounds : Bounds) (s : Setup) (n : ℕ) (asked : ActorsAct) (world : World) (outcome : Outcome) (t : Setup) →
    step bounds s.world asked.actor asked.act ≡ Some (record { world = world; outcome = outcome }) → ended s n asked world outcome ≡ Ok t → IsRun bounds s →
    IsRun bounds t
ended_run bounds s n asked world (Replied reply) t is gives run =
    let r : Record = record { actor = asked.actor; act = asked.act; outcome = Replied reply } in
    subst (λ x. IsRun bounds x) (same_ok (ended s n asked world (Replied reply)) (record { world = world; records = s.records ++ r ∷ [] }) t refl gives)
    (one_record bounds s r world is run)
ended_run bounds s n asked world (ParkedAt moved) t is gives run = absurd (grind (arith, gives))
ended_run bounds s n asked world (Part moved) t is gives run = absurd (grind (arith, gives))

recorded_run : (bounds : Bounds) (s : Setup) (n : ℕ) (asked : ActorsAct) (o : Option Stepped) (t : Setup) → step bounds s.world asked.actor asked.act ≡ o →
    recorded s n asked o ≡ Ok t → IsRun bounds s → IsRun bounds t
recorded_run bounds s n asked None t is gives run = absurd (grind (arith, gives))
recorded_run bounds s n asked (Some stepped) t is gives run = ended_run bounds s n asked stepped.world stepped.outcome t is gives run

made_run : (bounds : Bounds) (s : Setup) (n : ℕ) (asked : Option ActorsAct) (t : Setup) → made bounds s n asked ≡ Ok t → IsRun bounds s → IsRun bounds t
made_run bounds s n None t gives run = absurd (grind (arith, gives))
made_run bounds s n (Some asked) t gives run = recorded_run bounds s n asked (step bounds s.world asked.actor asked.act) t refl gives run

goes_on : (r : Result Setup Unready) (f : Setup → Result Setup Unready) (t : Setup) → (r >>= f) ≡ Ok t → (next : Setup) × (r ≡ Ok next) × (f next ≡ Ok t)
goes_on (Ok next) f t gives = (next, refl, gives)
goes_on (Err fault) f t gives = absurd (grind (arith, gives))

run_from : (bounds : Bounds) (s : Setup) (acts : List SetupAct) (t : Setup) → set_up_from bounds s acts ≡ Ok t → IsRun bounds s → IsRun bounds t
run_from bounds s [] t gives run = subst (λ x. IsRun bounds x) (same_ok (Ok s) s t refl gives) run
run_from bounds s (act ∷ acts) t gives run =
    let parts = goes_on (one_more bounds s act) (λ next. set_up_from bounds next acts) t gives in
    run_from bounds parts.0 acts t parts.2 (made_run bounds s act.line (asked_in s.world act.act) parts.0 parts.1 run)

set_up_run : (bounds : Bounds) (acts : List SetupAct) (t : Setup) → set_up bounds acts ≡ Ok t → IsRun bounds t
set_up_run bounds acts t gives = run_from bounds nothing_yet acts t gives (record { is_legal = tt; leads = refl })

-- when no act is left, what was set up is a history with its world
pub run_after_all : (bounds : Bounds) (acts : List SetupAct) (s : Setup) (done : ℕ) → length acts ≤ done →
    set_up_from bounds s (drop done acts) ≡ set_up bounds acts → IsRun bounds s
run_after_all bounds acts s done all is = set_up_run bounds acts s (sym is ∙ at_drop_all (λ rest. set_up_from bounds s rest) acts done all)
