-- What a judge needs to know of an act before it makes it, and what one record more does to what was judged.
use Rattle.std.proofs.Common.{◌≡◌, ℕ, ◌+◌, ◌≤◌, ◌<◌, ◌^◌, Bool, true, false, cond, leb, List, [], ◌∷◌, ◌++◌, Option, Some, length, refl, sym, ap, subst, arith, length-append}
use Rattle.std.proofs.lemmas.List.{append-nil}
use Rattle.std.specs.Option.{option_map}
use Rattle.slots.specs.Slots.{live}
use Rattle.call_types.specs.declared.limits.TheConstants.{OFFSET_MAX}
use Rattle.call_types.specs.declared.limits.Bounds.{Bounds}
use Rattle.call_types.specs.declared.act.Act.{Act}
use Rattle.call_types.specs.declared.act.Record.{Record}
use Rattle.frame_codec.specs.Decoding.{told_place}
use Rattle.frame_codec.specs.declared.trace.ToldLimits.{ToldLimits}
use Rattle.posix_model.specs.declared.change.Decided.{Decided}
use Rattle.posix_model.specs.declared.world.World.{World}
use Rattle.posix_model.specs.Proved.Whole.{IsWhole}
use Rattle.posix_model.specs.Step.{given, comes_to, stepped, step, outcome_of}
use Rattle.posix_model.specs.Proved.Sound.{ActsAreSound}
use Rattle.posix_model.specs.Proved.Laws.{StepKeepsWhole}
use Rattle.posix_model.specs.History.{after, world_from, legal_from, empty_world}
use Rattle.posix_model.specs.Reserve.{has_reserve, can_end, CanEndFrom}
use Rattle.audit_core.specs.JudgeState.{JudgeState, HasJudged, JudgesNext}
use Rattle.audit_core.specs.Verdict.{ended_by, ending_from}
use Rattle.audit_core.specs.declared.verdict.Ending.{Ending}
use Rattle.audit_core.specs.declared.verdict.Ending.TheVariants.{Open}
use Rattle.audit_core.specs.Proved.Judging.{CanMake, GoesOn, fresh_judge}
use Rattle.audit_core.specs.declared.judging.Judging.{Judging}
use Rattle.frame_codec.specs.Taking.{TakesEach}

-- what an act comes to can be made
pub can_make : ActsAreSound → StepKeepsWhole → (j : JudgeState) (actor : ℕ) (act : Act) (d : Decided) → IsWhole j.world → j.told.bounds.file_size ≤ OFFSET_MAX →
    comes_to j.told.bounds j.world actor act ≡ Some d → CanMake j act d
can_make sound keeps j actor act d whole small is =
    let stands = sound j.told.bounds j.world actor act d is in
    let s = stepped j.world (given act) d in
    let steps : step j.told.bounds j.world actor act ≡ Some s = ap (option_map (stepped j.world (given act))) is in
    record {
      fits = stands.fits whole;
      proper = stands.proper small;
      puts = stands.puts;
      whole = whole;
      whole_after = keeps j.told.bounds j.world actor act s whole steps;
    }

-- the records that a run keeps free, counted one after another
pub reserve_is : (w : World) (most place count closing : ℕ) → count ≡ live w.processes → closing ≡ cond w.closed 0 1 →
    leb (((place + 1) + count) + closing) most ≡ has_reserve most w (place + 1)
reserve_is w most place count closing counted closes = ap (λ (n : ℕ). leb n most) (sum w.closed place count (live w.processes) closing counted closes)
  where
    sum : (closed : Bool) (place count all closing : ℕ) → count ≡ all → closing ≡ cond closed 0 1 →
        ((place + 1) + count) + closing ≡ (place + 1) + cond closed all (all + 1)
    sum true place count all closing counted closes = omega (arith, counted, closes)
    sum false place count all closing counted closes = omega (arith, counted, closes)

world_from-push : (bounds : Bounds) (w : World) (h : List Record) (r : Record) → world_from bounds w (h ++ r ∷ []) ≡ after bounds (world_from bounds w h) r
world_from-push bounds w [] r = refl
world_from-push bounds w (x ∷ h) r = world_from-push bounds (after bounds w x) h r

legal_from-push : (bounds : Bounds) (w : World) (h : List Record) (r : Record) → legal_from bounds w h → outcome_of bounds (world_from bounds w h) r.actor r.act
    ≡ Some r.outcome → legal_from bounds w (h ++ r ∷ [])
legal_from-push bounds w [] r is_legal e = (e, tt)
legal_from-push bounds w (x ∷ h) r is_legal e = (is_legal.0, legal_from-push bounds (after bounds w x) h r is_legal.1 e)

-- a run that can be ended after each record, and after one more, of so many
ends_from-push : (bounds : Bounds) (most : Option ℕ) (w : World) (len : ℕ) (h : List Record) (r : Record) (all : ℕ) → CanEndFrom bounds most w len h →
    all ≡ (len + length h) + 1
    → can_end most (after bounds (world_from bounds w h) r) all ≡ true → CanEndFrom bounds most w len (h ++ r ∷ [])
ends_from-push bounds most w len [] r all ends is e = let one : all ≡ len + 1 = omega (arith, is) in
    (subst (λ (n : ℕ). can_end most (after bounds w r) n ≡ true) one e, tt)
ends_from-push bounds most w len (x ∷ h) r all ends is e =
    (ends.0, ends_from-push bounds most (after bounds w x) (len + 1) h r all ends.1 (omega (arith, is)) e)

push_front : (xs : List Record) (x : Record) (ys : List Record) → xs ++ x ∷ ys ≡ (xs ++ x ∷ []) ++ ys
push_front [] x ys = refl
push_front (y ∷ xs) x ys = ap (λ l. y ∷ l) (push_front xs x ys)

place_more : (place len : ℕ) → place ≡ told_place len → told_place (place + 1) ≡ told_place (len + 1)
place_more place len e = omega (arith, e)

-- a place that can be told is told
pub place_told : (place len : ℕ) → place ≡ told_place len → len < 2 ^ 64 → place ≡ len
place_told place len e few = omega (arith, e, few)

-- records end with the last of them
ending_from-push : (e : Ending) (h : List Record) (r : Record) → ending_from e (h ++ r ∷ []) ≡ ended_by r.act
ending_from-push e [] r = refl
ending_from-push e (x ∷ h) r = ending_from-push (ended_by x.act) h r

-- what the model gives is judged with what was before it
pub judged_more : (told : ToldLimits) (h : List Record) (r : Record) (a b : JudgeState) → length h < 2 ^ 64 → HasJudged told h a → GoesOn a b r →
    HasJudged told (h ++ r ∷ []) b
judged_more told h r a b few judged on =
    let outcome : outcome_of told.bounds (world_from told.bounds empty_world h) r.actor r.act ≡ Some r.outcome =
    rw (judged.told_is, judged.world) at on.outcome in
    let place : told_place (a.place + 1) ≡ told_place (length (h ++ r ∷ [])) = rw (length-append h (r ∷ [])) (place_more a.place (length h) judged.place) in
    let all : a.place + 1 ≡ (0 + length h) + 1 = let same = place_told a.place (length h) judged.place few in omega (arith, same) in
    let ends : can_end told.records (after told.bounds (world_from told.bounds empty_world h) r) (a.place + 1) ≡ true =
    rw (judged.told_is, judged.world) at on.ends in
    record {
      is_legal = record {
        is_legal = legal_from-push told.bounds empty_world h r judged.is_legal.is_legal outcome;
        ends = ends_from-push told.bounds told.records empty_world 0 h r (a.place + 1) judged.is_legal.ends all ends;
      };
      told_is = rw on.new_is judged.told_is;
      world = rw (on.new_is, judged.told_is, judged.world) (sym (world_from-push told.bounds empty_world h r));
      place = rw on.new_is place;
      ending = rw on.new_is (sym (ending_from-push Open h r));
    }

-- what a judge does with each record that it is handed
abbrev pub takes : Judging → Judging → Record → Bool → Type 0
takes old new r more = JudgesNext old.judge new.judge r new.expected more

-- all records after which it wanted more are judged after those before them
pub all_judged : (told : ToldLimits) (h values : List Record) (old new : Judging) → TakesEach takes old new values → HasJudged told h old.judge →
    length (h ++ values) < 2 ^ 64
    → HasJudged told (h ++ values) new.judge
all_judged told h [] old new same judged few = rw (append-nil h, same) judged
all_judged told h (r ∷ values) old new each judged few =
    let all = push_front h r values in
    let now = each.1 told h judged (omega (arith, few, length-append h (r ∷ values))) in
    rw all (all_judged told (h ++ r ∷ []) values each.0 new each.2 now (rw all at few))

-- at first nothing is judged
pub none_judged : (told : ToldLimits) → HasJudged told [] (fresh_judge told)
none_judged told = record { is_legal = record { is_legal = tt; ends = tt }; told_is = refl; world = refl; place = refl; ending = refl }
