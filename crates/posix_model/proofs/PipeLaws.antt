-- The law of the bytes, along a history.
use Rattle.std.proofs.Common.{◌≡◌, ◌∙◌, ℕ, ◌<◌, ◌≤◌, true, cond, List, [], ◌∷◌, ◌++◌, Option, None, Some, length, take, drop, refl, ap, sym, subst}
use Rattle.std.specs.Option.{option_map, option_map_or}
use Rattle.std.proofs.lemmas.List.{append_assoc, take_all}
use Rattle.slots.specs.Slots.{slot}
use Rattle.process_table.specs.Processes.{parked_of}
use Rattle.call_types.specs.declared.act.Act.TheVariants as act
use Rattle.posix_model.specs.Types.{Act, Bounds, World, Record, Parked, FileEdit, Decided, PIPE_BUF}
use Rattle.posix_model.specs.Change.{changed}
use Rattle.posix_model.specs.Sweep.{sweep}
use Rattle.posix_model.specs.Step.{Stepped, stepped, step, comes_to, given}
use Rattle.posix_model.specs.History.{empty_world, after, world_from, world_of, legal_from, legal}
use Rattle.posix_model.specs.Turns.{Turn, turn, took, took_in, total}
use Rattle.posix_model.specs.Given.{data_given}
use Rattle.posix_model.specs.PipeRecord.{TurnOn, turn_with, act_on, turn_on, is_on, put_in, got_in, put_by, got_by, joined_from, put, IsUnbroken}
use Rattle.posix_model.specs.Proved.PipeLaws.{BytesOfPipe, SmallWritesUnbroken}
use Rattle.posix_model.specs.declared.change.FileEdit.TheVariants as on_files
use Rattle.posix_model.proofs.Flows.{Flows, PipeFits, edit_put, change_flows, keeps_flows, keeps_same, flows_twice, there_not_gone}
use Rattle.posix_model.specs.Proved.Whole.{IsWhole}
use Rattle.posix_model.specs.Proved.Sound.{ActsAreSound}
use Rattle.posix_model.specs.Proved.Fits.{FilesFit}
use Rattle.posix_model.specs.Proved.Laws.{StepKeepsWhole}
use Rattle.posix_model.specs.Proved.Waiting.{EachWaitsWell, StepKeepsWaits}
use Rattle.posix_model.proofs.SlotLaws.{there_below}
use Rattle.posix_model.proofs.HistoryLaws.{empty_whole}
use Rattle.posix_model.proofs.Moving.{TakesAll}
use Rattle.posix_model.proofs.MovingCalls.{new_turn_on, next_turn_on, resumed_on, owes_of, TellsOn, act_tells}

-- what every world of a history keeps: nothing refers to what is gone, and each call waits well
pub record Kept (w : World) : Type 0 where
  pub whole : IsWhole w
  pub waits : EachWaitsWell w

-- what fits speaks of pipes that are there
pipe_fits : (w : World) (e : FileEdit) → FilesFit w e → PipeFits w.pipes e
pipe_fits w (on_files.Put pipe source count) fits = there_below w.pipes pipe fits
pipe_fits w (on_files.Take pipe count) fits = there_below w.pipes pipe fits
pipe_fits w other fits = tt

-- a step moves what its record tells
record Moves (w : World) (x : Option TurnOn) (s : Stepped) : Type 0 where
  flows : (q : ℕ) → Flows w.pipes s.world.pipes q (option_map_or (put_in q s.outcome) x []) (option_map_or (got_in q s.outcome) x [])
  whole : (t : TurnOn) → x ≡ Some t → (q : ℕ) → is_on q t.on ≡ true → TakesAll t.turn (total s.outcome)

moves : (w : World) (bytes : List ℕ) (x : Option TurnOn) (d : Decided) → PipeFits w.pipes d.change.files → TellsOn w bytes x d → Moves w x (stepped w bytes d)
moves w bytes None d fits h = record {
  flows = λ q. subst (λ p. Flows w.pipes (sweep (changed w bytes d.change)).pipes q p []) (h.put q)
      (subst (λ g. Flows w.pipes (sweep (changed w bytes d.change)).pipes q (edit_put w bytes q d.change.files) g) (h.got q)
      (change_flows w bytes d.change q fits));
  whole = λ t e. cc;
}
moves w bytes (Some t) d fits h = record {
  flows = λ q. subst (λ p. Flows w.pipes (sweep (changed w bytes d.change)).pipes q p (got_in q d.outcome t)) (h.put q)
      (subst (λ g. Flows w.pipes (sweep (changed w bytes d.change)).pipes q (edit_put w bytes q d.change.files) g) (h.got q)
      (change_flows w bytes d.change q fits));
  whole = λ u e. let same : t ≡ u = cc in subst (λ (y : TurnOn). (q : ℕ) → is_on q y.on ≡ true → TakesAll y.turn (total d.outcome)) same h.whole;
}

step_moves : ActsAreSound → (bounds : Bounds) (w : World) (actor : ℕ) (a : Act) (s : Stepped) → Kept w → step bounds w actor a ≡ Some s →
    Moves w (turn_on w actor a) s
step_moves sound bounds w actor a s kept h = at (comes_to bounds w actor a) refl h
  where
    at : (x : Option Decided) → comes_to bounds w actor a ≡ x → option_map (stepped w (given a)) x ≡ Some s → Moves w (turn_on w actor a) s
    at None e k = cc
    at (Some d) e k =
        let is : stepped w (given a) d ≡ s = cc in
        let fits = (sound bounds w actor a d e).fits kept.whole in
        subst (Moves w (turn_on w actor a)) is (moves w (given a) (turn_on w actor a) d (pipe_fits w d.change.files fits.files)
        (act_tells bounds w actor a d kept.waits e))

-- the same of a legal record
record_moves : ActsAreSound → (bounds : Bounds) (w : World) (r : Record) → Kept w → option_map (λ s. s.outcome) (step bounds w r.actor r.act) ≡ Some r.outcome →
    Moves w (turn_on w r.actor r.act) (record { world = after bounds w r; outcome = r.outcome })
record_moves sound bounds w r kept h = at (step bounds w r.actor r.act) refl h
  where
    at : (x : Option Stepped) → step bounds w r.actor r.act ≡ x → option_map (λ s. s.outcome) x ≡ Some r.outcome →
        Moves w (turn_on w r.actor r.act) (record { world = option_map_or (λ s. s.world) (step bounds w r.actor r.act) w; outcome = r.outcome })
    at None e k = cc
    at (Some s) e k =
        let told : s.outcome ≡ r.outcome = cc in
        subst (λ x. Moves w (turn_on w r.actor r.act) (record { world = option_map_or (λ s. s.world) x w; outcome = r.outcome })) (sym e)
        (subst (λ o. Moves w (turn_on w r.actor r.act) (record { world = s.world; outcome = o })) told (step_moves sound bounds w r.actor r.act s kept e))

-- the world after a record keeps all that
record_keeps : StepKeepsWhole → StepKeepsWaits → (bounds : Bounds) (w : World) (r : Record) → Kept w → option_map (λ s. s.outcome) (step bounds w r.actor r.act)
    ≡ Some r.outcome → Kept (after bounds w r)
record_keeps keeps waits bounds w r kept h = at (step bounds w r.actor r.act) refl h
  where
    at : (x : Option Stepped) → step bounds w r.actor r.act ≡ x → option_map (λ s. s.outcome) x ≡ Some r.outcome →
        Kept (option_map_or (λ s. s.world) (step bounds w r.actor r.act) w)
    at None e k = cc
    at (Some s) e k =
        subst (λ x. Kept (option_map_or (λ s. s.world) x w)) (sym e)
        (record { whole = keeps bounds w r.actor r.act s kept.whole e; waits = waits bounds w r.actor r.act s kept.waits e })

history_flows : ActsAreSound → StepKeepsWhole → StepKeepsWaits → (bounds : Bounds) (w : World) (h : List Record) (q : ℕ) → Kept w → legal_from bounds w h →
    Flows w.pipes (world_from bounds w h).pipes q (joined_from (put_by q) bounds w h) (joined_from (got_by q) bounds w h)
history_flows sound keeps waits bounds w [] q kept is_legal = keeps_flows w.pipes w.pipes q (keeps_same w.pipes q)
history_flows sound keeps waits bounds w (r ∷ rs) q kept is_legal =
    let m = record_moves sound bounds w r kept is_legal.0 in
    let v = after bounds w r in
    flows_twice w.pipes v.pipes (world_from bounds v rs).pipes q (put_by q w r) (got_by q w r) (joined_from (put_by q) bounds v rs)
    (joined_from (got_by q) bounds v rs)
    (m.flows q) (history_flows sound keeps waits bounds v rs q (record_keeps keeps waits bounds w r kept is_legal.0) is_legal.1)

empty_kept : Kept empty_world
empty_kept = record { whole = empty_whole; waits = λ p parked h. cc }

pub bytes_of_pipe : ActsAreSound → StepKeepsWhole → StepKeepsWaits → BytesOfPipe
bytes_of_pipe sound keeps waits bounds h is_legal q there = (history_flows sound keeps waits bounds empty_world h q empty_kept is_legal).bytes
    (there_not_gone (world_of bounds h).pipes q there)

-- a turn has moved nothing before where its data is small
begun : (w : World) (actor : ℕ) (a : Act) (t : TurnOn) → Kept w → turn_on w actor a ≡ Some t → length (data_given t.turn.call) ≤ PIPE_BUF → t.turn.moved ≡ 0
begun w actor (act.Call c) t kept h small = let same : new_turn_on w actor c ≡ t = cc in ap (λ (x : TurnOn). x.turn.moved) (sym same)
begun w actor act.Resume t kept h small = at (parked_of (slot w.processes actor)) refl (resumed_on w actor (parked_of (slot w.processes actor)) ∙ h)
  where
    at : (x : Option Parked) → parked_of (slot w.processes actor) ≡ x → option_map (next_turn_on w actor) x ≡ Some t → t.turn.moved ≡ 0
    at None e k = cc
    at (Some p) e k =
        let same : next_turn_on w actor p ≡ t = cc in
        ap (λ (x : TurnOn). x.turn.moved) (sym same) ∙ owes_of p.call p.moved (kept.waits actor p e).moved
        (subst (λ (x : TurnOn). length (data_given x.turn.call) ≤ PIPE_BUF) (sym same) small)
begun w actor act.Join t kept h small = cc
begun w actor act.Attach t kept h small = cc
begun w actor act.Exit t kept h small = cc
begun w actor act.CloseRun t kept h small = cc

-- the bytes that an act took are those of its turn
same_turn : (w : World) (actor : ℕ) (a : Act) (now : ℕ) → option_map_or (took_in now) (turn w actor a) 0 ≡ option_map_or (λ (t : TurnOn). took_in now t.turn)
    (turn_on w actor a) 0
same_turn w actor a now = at (turn w actor a)
  where
    at : (x : Option Turn) → option_map_or (took_in now) x 0 ≡ option_map_or (λ (t : TurnOn). took_in now t.turn) (option_map (turn_with (act_on w actor a)) x)
        0
    at None = refl
    at (Some t) = refl

-- a small write that moved any put its data
small_put : ActsAreSound → (bounds : Bounds) (w : World) (r : Record) (t : TurnOn) (q : ℕ) → Kept w → option_map (λ s. s.outcome) (step bounds w r.actor r.act)
    ≡ Some r.outcome →
    turn_on w r.actor r.act ≡ Some t → is_on q t.on ≡ true → length (data_given t.turn.call) ≤ PIPE_BUF → 0 < took w r → put_by q w r ≡ data_given t.turn.call
small_put sound bounds w r t q kept is here on small some =
    let now = total r.outcome in
    let new = data_given t.turn.call in
    let t_took : took w r ≡ took_in now t.turn = same_turn w r.actor r.act now ∙ ap (λ x. option_map_or (λ (y : TurnOn). took_in now y.turn) x 0) here in
    let t_put : put_by q w r ≡ put_in q r.outcome t = ap (λ x. option_map_or (put_in q r.outcome) x []) here in
    let t_on : put_in q r.outcome t ≡ take (took_in now t.turn) (drop t.turn.moved new) =
    ap (λ b. cond b (take (took_in now t.turn) (drop t.turn.moved new)) []) on in
    let all = (record_moves sound bounds w r kept is).whole t here q on small (subst (λ (n : ℕ). 0 < n) t_took some) in
    let start = begun w r.actor r.act t kept here small in
    t_put ∙ (t_on ∙ (ap (λ n. take (took_in now t.turn) (drop n new)) start ∙ take_all (took_in now t.turn) new all))

small_from : ActsAreSound → StepKeepsWhole → StepKeepsWaits → (bounds : Bounds) (w : World) (before rest : List Record) (r : Record) (t : TurnOn) (q : ℕ) →
    Kept w → legal_from bounds w (before ++ r ∷ rest) →
    turn_on (world_from bounds w before) r.actor r.act ≡ Some t → is_on q t.on ≡ true → length (data_given t.turn.call) ≤ PIPE_BUF →
    0 < took (world_from bounds w before) r →
    IsUnbroken (data_given t.turn.call) (put_by q (world_from bounds w before) r) (joined_from (put_by q) bounds w before)
    (joined_from (put_by q) bounds w (before ++ r ∷ rest))
small_from sound keeps waits bounds w [] rest r t q kept is_legal here on small some =
    let one = small_put sound bounds w r t q kept is_legal.0 here on small some in
    record {
      is_one = one;
      rest = joined_from (put_by q) bounds (after bounds w r) rest;
      whole = ap (λ l. l ++ joined_from (put_by q) bounds (after bounds w r) rest) one;
    }
small_from sound keeps waits bounds w (x ∷ before) rest r t q kept is_legal here on small some =
    let s = small_from sound keeps waits bounds (after bounds w x) before rest r t q (record_keeps keeps waits bounds w x kept is_legal.0) is_legal.1 here on
    small some in
    record {
      is_one = s.is_one;
      rest = s.rest;
      whole = ap (λ l. put_by q w x ++ l) s.whole ∙
          sym (append_assoc (put_by q w x) (joined_from (put_by q) bounds (after bounds w x) before) (data_given t.turn.call ++ s.rest));
    }

pub small_writes_unbroken : ActsAreSound → StepKeepsWhole → StepKeepsWaits → SmallWritesUnbroken
small_writes_unbroken sound keeps waits bounds h is_legal before rest r t q same here on small some =
    let P : List Record → Type 0 = λ h. IsUnbroken (data_given t.turn.call) (put_by q (world_of bounds before) r) (put bounds before q) (put bounds h q) in
    subst P same (small_from sound keeps waits bounds empty_world before rest r t q empty_kept (subst (legal bounds) (sym same) is_legal) here on small some)
