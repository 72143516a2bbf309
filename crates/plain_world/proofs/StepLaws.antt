-- What holds of steps, by what their acts come to; and what of histories follows from it.
use Rattle.std.proofs.Common.{◌≡◌, ◌∙◌, ℕ, true, false, List, [], ◌∷◌, ◌++◌, Option, None, Some, length, refl, ap, sym, subst, eqb, ◌≤◌, ◌<◌, arith}
use Rattle.std.specs.Option.{option_map, is_none, is_some}
use Rattle.std.proofs.lemmas.Grind.{common_steps}
use Rattle.std.proofs.lemmas.List.Quantifiers.{position-Some}
use Rattle.std.proofs.lemmas.List.Sums.{fails_before_first}
use Rattle.std.specs.List.{position_or_len}
use Rattle.plain_world.specs.Proved.Types.{Record, Bounds, World, Decided, EAGAIN, Replied, Error}
use Rattle.call_types.specs.declared.act.Act.TheVariants as act
use Rattle.slots.specs.Slots.{slot}
use Rattle.posix_model.specs.Change.{changed}
use Rattle.posix_model.specs.Pages.{decided_by}
use Rattle.posix_model.specs.Join.{join}
use Rattle.posix_model.specs.Sweep.{is_referred, sweep}
use Rattle.posix_model.specs.Step.{given, Stepped, stepped, step}
use Rattle.posix_model.specs.Proved.Sound.{data_of, ActsAreSound}
use Rattle.posix_model.specs.Proved.Laws.{HistorySettles, SweepLeaves}
use Rattle.posix_model.specs.History.{empty_world, after, world_of, world_from, legal_from}
use Rattle.posix_model.specs.Turns.{took}
use Rattle.plain_world.specs.Proved.Laws.{RefusedStepKeepsWorld, RefusedNextKeepsWorld, Joins, JoinAdds, FullJoinRefused, LowestIsLeast, NoLowestIsFull, OffsetsAreApart, OffsetsStayApart, TakesFew, LegalIsAnswered, AnsweredIsLegal}
use Rattle.posix_model.proofs.SweepLaws.{step_parts}
use Rattle.plain_world.proofs.PageLemmas.{where_may}
use Rattle.plain_world.proofs.ChangeLemmas.{offset_stays}
use Rattle.plain_world.proofs.SlotLemmas.{stood}

pub refused_step_keeps_world : ActsAreSound → RefusedStepKeepsWorld
refused_step_keeps_world sound bounds w actor act s error other settled h told =
    step_parts (λ t. t.outcome ≡ Replied (Error error) → t.world ≡ w) bounds w actor act s
    (λ d is refused. ap (λ c. sweep (changed w (given act) c)) ((sound bounds w actor act d is).refusal other error refused) ∙ settled) h told

pub refused_next_keeps_world : ActsAreSound → HistorySettles → RefusedNextKeepsWorld
refused_next_keeps_world sound settles bounds h actor act s error other = refused_step_keeps_world sound bounds (world_of bounds h) actor act s error other
    (settles bounds h)

-- what a join that is a step comes to
join_step : (Has : Stepped → Type 0) (bounds : Bounds) (w : World) (actor : ℕ) (s : Stepped) → Has (stepped w [] (decided_by (join w))) →
    step bounds w actor act.Join ≡ Some s → Has s
join_step Has bounds w actor s has h =
    step_parts Has bounds w actor act.Join s (λ d is. subst (λ (x : Decided). Has (stepped w [] x))
    (where_may (eqb actor (length w.processes)) (decided_by (join w)) d is) has) h

pub join_adds : JoinAdds
join_adds bounds w actor s room h = join_step (Joins w) bounds w actor s (rw room (record { number = refl; processes = refl })) h

pub full_join_refused : FullJoinRefused
full_join_refused bounds w actor s full h = join_step (λ t. t ≡ record { world = sweep w; outcome = Replied (Error EAGAIN) }) bounds w actor s (rw full refl) h

pub offsets_are_apart : ActsAreSound → OffsetsAreApart
offsets_are_apart sound bounds w actor act d n is other below = offset_stays w (given act) d.change n below
    (λ moved. other ((sound bounds w actor act d is).own n moved))

pub offsets_stay_apart : ActsAreSound → SweepLeaves → OffsetsStayApart
offsets_stay_apart sound leaves bounds w actor act s n description h other below there =
    step_parts (λ t. slot t.world.descriptions n ≡ Some description → slot w.descriptions n ≡ Some description) bounds w actor act s
    (λ d is left.
    let v = changed w (given act) d.change in
    let was = stood (is_referred v.processes n) (slot v.descriptions n) description (sym ((leaves v).descriptions n) ∙ left) in
    sym (offsets_are_apart sound bounds w actor act d n is other below) ∙ was) h there

pub takes_few : ActsAreSound → TakesFew
takes_few sound bounds w actor act s h =
    step_parts (λ t. took w (record { actor = actor; act = act; outcome = t.outcome }) ≤ length (data_of w actor act)) bounds w actor act s
    (λ d is. (sound bounds w actor act d is).few) h

free_slot : {T : Type 0} (x : Option T) → is_none x ≡ true → x ≡ None
free_slot None e = refl
free_slot (Some x) e = cc

full_slot : {T : Type 0} (x : Option T) → is_none x ≡ false → is_some x ≡ true
full_slot None e = cc
full_slot (Some x) e = refl

pub lowest_is_least : LowestIsLeast
lowest_is_least slots n h =
    let first = position-Some is_none slots n None h in
    record { within = first.0; free = free_slot (slot slots n) first.1; before = λ m below. full_slot (slot slots m) (first.2 m below) }

pub no_lowest_is_full : NoLowestIsFull
no_lowest_is_full slots m h below =
    let past : m < position_or_len is_none slots = grind (arith, common_steps) in
    full_slot (slot slots m) (fails_before_first is_none slots m None past)

-- the same from a world on
abbrev AnsweredFrom : Bounds → World → List Record → Record → Type 0
AnsweredFrom bounds w before r = option_map (λ s. s.outcome) (step bounds (world_from bounds w before) r.actor r.act) ≡ Some r.outcome

each_from : (bounds : Bounds) (w : World) (before rest : List Record) (r : Record) → legal_from bounds w (before ++ r ∷ rest) → AnsweredFrom bounds w before r
each_from bounds w [] rest r is_legal = is_legal.0
each_from bounds w (x ∷ before) rest r is_legal = each_from bounds (after bounds w x) before rest r is_legal.1

only_from : (bounds : Bounds) (w : World) (h : List Record) → ((before rest : List Record) (r : Record) → h ≡ before ++ r ∷ rest →
    AnsweredFrom bounds w before r) → legal_from bounds w h
only_from bounds w [] each = tt
only_from bounds w (x ∷ h) each = (each [] h x refl, only_from bounds (after bounds w x) h (λ before rest r is. each (x ∷ before) rest r (ap (λ l. x ∷ l) is)))

pub legal_is_answered : LegalIsAnswered
legal_is_answered bounds before rest r is_legal = each_from bounds empty_world before rest r is_legal

pub answered_is_legal : AnsweredIsLegal
answered_is_legal bounds h each = only_from bounds empty_world h each
