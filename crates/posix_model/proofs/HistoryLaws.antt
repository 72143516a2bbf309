-- What holds of every step, and so in every world of a history.
use Rattle.std.proofs.Common.{◌≡◌, ℕ, List, [], ◌∷◌, ◌++◌, Option, None, Some, refl, sym, subst}
use Rattle.std.specs.Option.{option_map_or}
use Rattle.std.proofs.lemmas.List.Elements.{All-nil}
use Rattle.posix_model.specs.Types.{Act, Record, Bounds, World}
use Rattle.posix_model.specs.Proved.Whole.{IsWhole}
use Rattle.posix_model.specs.Kept.{IsThere}
use Rattle.posix_model.specs.Proved.Numbers.{NumbersRise}
use Rattle.posix_model.specs.Sweep.{sweep}
use Rattle.posix_model.specs.Change.{changed}
use Rattle.posix_model.specs.Step.{Stepped, given, step}
use Rattle.posix_model.specs.History.{empty_world, after, world_from, world_of}
use Rattle.posix_model.specs.Proved.Laws.{HistorySettles, StepRaisesNumbers, StepKeepsWhole, HistoryIsWhole, HistoryRaisesNumbers}
use Rattle.posix_model.proofs.ChangeLaws.{Goes, goes_nowhere, goes_twice}
use Rattle.posix_model.proofs.EditLaws.{change_goes}
use Rattle.posix_model.proofs.SweepLaws.{step_parts, step_settles}
use Rattle.posix_model.proofs.SweepWhole.{sweep_goes}
use Rattle.posix_model.proofs.SoundActs.{acts_are_sound}

-- what holds of a world, and of the world of each step from it, holds after any act
pub stepped_or_not : (Has : World → Type 0) (w : World) (e : Option Stepped) → Has w → ((s : Stepped) → e ≡ Some s → Has s.world) →
    Has (option_map_or (λ s. s.world) e w)
stepped_or_not Has w None here all = here
stepped_or_not Has w (Some s) here all = all s refl

settles_from : (bounds : Bounds) (w : World) (rs : List Record) → sweep w ≡ w → sweep (world_from bounds w rs) ≡ world_from bounds w rs
settles_from bounds w [] settled = settled
settles_from bounds w (r ∷ rs) settled =
    settles_from bounds (after bounds w r) rs (stepped_or_not (λ v. sweep v ≡ v) w (step bounds w r.actor r.act) settled
    (λ s h. step_settles bounds w r.actor r.act s h))

pub history_settles : HistorySettles
history_settles bounds h = settles_from bounds empty_world h refl

step_goes : (bounds : Bounds) (w : World) (actor : ℕ) (act : Act) (s : Stepped) → IsWhole w → step bounds w actor act ≡ Some s → Goes w s.world
step_goes bounds w actor act s whole h =
    step_parts (λ t. Goes w t.world) bounds w actor act s
    (λ d is.
    let v = changed w (given act) d.change in
    let g = change_goes w (given act) d.change whole ((acts_are_sound bounds w actor act d is).fits whole) in
    goes_twice w v (sweep v) g (sweep_goes v g.whole)) h

pub step_raises_numbers : StepRaisesNumbers
step_raises_numbers bounds w actor act s whole h = (step_goes bounds w actor act s whole h).rises

pub step_keeps_whole : StepKeepsWhole
step_keeps_whole bounds w actor act s whole h = (step_goes bounds w actor act s whole h).whole

pub empty_whole : IsWhole empty_world
empty_whole = record {
  names = All-nil (λ entry. IsThere empty_world.files entry.1);
  descriptions = λ n d h. cc;
  fifos = λ n x h. cc;
  ends = λ n d h. cc;
  apart = λ f g x y p h. cc;
  pipes = λ n d h. cc;
  processes = λ n p h. cc;
  waits = λ n p h. cc;
  tables = λ n p h. cc;
}

goes_from : (bounds : Bounds) (w : World) (rs : List Record) → IsWhole w → Goes w (world_from bounds w rs)
goes_from bounds w [] whole = goes_nowhere w whole
goes_from bounds w (r ∷ rs) whole =
    let first = stepped_or_not (Goes w) w (step bounds w r.actor r.act) (goes_nowhere w whole) (λ s h. step_goes bounds w r.actor r.act s whole h) in
    goes_twice w (after bounds w r) (world_from bounds (after bounds w r) rs) first (goes_from bounds (after bounds w r) rs first.whole)

pub history_is_whole : HistoryIsWhole
history_is_whole bounds h = (goes_from bounds empty_world h empty_whole).whole

-- the world of a longer history is the one that its end leads to
world_further : (bounds : Bounds) (w : World) (h more : List Record) → world_from bounds w (h ++ more) ≡ world_from bounds (world_from bounds w h) more
world_further bounds w [] more = refl
world_further bounds w (r ∷ rs) more = world_further bounds (after bounds w r) rs more

pub history_raises_numbers : HistoryRaisesNumbers
history_raises_numbers bounds h more =
    subst (NumbersRise (world_of bounds h)) (sym (world_further bounds empty_world h more))
    (goes_from bounds (world_of bounds h) more (history_is_whole bounds h)).rises
