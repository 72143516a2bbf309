-- A book with one more record counts it.
use Rattle.std.proofs.Common.{◌≡◌, ◌∙◌, ℕ, ◌+◌, ◌≤◌, ◌<◌, ◌||◌, Bool, true, false, cond, List, [], ◌∷◌, ◌++◌, Option, None, Some, length, refl, ap, sym, arith, length-append}
use Rattle.std.specs.Option.{option_map, option_map_or}
use Rattle.call_types.specs.declared.limits.Bounds.{Bounds}
use Rattle.call_types.specs.declared.limits.TheConstants.{GIVEN_BYTES_MAX}
use Rattle.call_types.specs.declared.act.Act.{Act}
use Rattle.call_types.specs.declared.act.Record.{Record}
use Rattle.call_types.specs.declared.outcome.Outcome.{Outcome}
use Rattle.slots.specs.Slots.{live}
use Rattle.posix_model.specs.Step.{Stepped, step}
use Rattle.posix_model.specs.Proved.Sound.{closes}
use Rattle.posix_model.specs.Proved.Laws.{StepPlansProcesses}
use Rattle.posix_model.specs.History.{empty_world, after_act, legal, world_of}
use Rattle.posix_model.specs.Proved.PipeLaws.{BytesOfPipe, SmallWritesUnbroken}
use Rattle.posix_model.specs.Turns.{took, gave}
use Rattle.posix_model.specs.declared.world.World.{World}
use Rattle.byte_ledger.specs.Counted.{Counted, TalliesState, counted_more}
use Rattle.byte_ledger.specs.declared.tallies.Sums.{Sums}
use Rattle.record_book.specs.Seat.{Receipted}
use Rattle.record_book.specs.Book.{BookState, world_now, Appends}
use Rattle.posix_model.specs.Reserve.{exits_left}
use Rattle.record_book.specs.Counting.{seats_of, seats_in, seats_given, only_records, counted_in, CountsOf}
use Rattle.record_book.specs.Proved.Counted.{IsCounted}
use Rattle.record_book.specs.Exits.{exit_record, closing_record, receipts_from}
use Rattle.record_book.specs.Ends.{told_more}
use Rattle.record_book.specs.Proved.Leaving.{IsOrphansExit, IsShutBy}
use Rattle.record_book.proofs.HistoryLemmas.{world_from-push, bytes_in-push, bytes_out-push}

seats_in-push : (h : List Record) (r : Record) → seats_in (h ++ r ∷ []) ≡ seats_in h + seats_of r.act
seats_in-push [] r = omega arith
seats_in-push (x ∷ h) r = omega (arith, seats_in-push h r)

-- whether a run is closed, as a number
abbrev pub closed_as : BookState → ℕ
closed_as b = cond (world_now b).closed 1 0

at_most_one : (b : Bool) → cond b 1 0 ≤ 1
at_most_one true = omega arith
at_most_one false = omega arith

pub closed_at_most : (b : BookState) → closed_as b ≤ 1
closed_at_most b = at_most_one (world_now b).closed

-- a book with one record more, which was counted
pub record IsMore (old new : BookState) (t t' : TalliesState) (r : Record) (bytes_in bytes_out : ℕ) : Type 0 where
  pub limits : new.limits ≡ old.limits
  pub history : new.history ≡ old.history ++ r ∷ []
  pub in_is : bytes_in ≡ took (world_now old) r
  pub out_is : bytes_out ≡ gave (world_now old) r
  pub few_in : bytes_in ≤ GIVEN_BYTES_MAX
  pub few_out : bytes_out ≤ GIVEN_BYTES_MAX
  pub counted : t'.counted ≡ counted_more bytes_in bytes_out t.counted
  pub opened : t'.opened ≡ t.opened + seats_of r.act
  pub closing : closed_as new + seats_of r.act ≤ closed_as old + 1

pub counts_on : (old new : BookState) (t t' : TalliesState) (house after : Option Counted) (r : Record) (bytes_in bytes_out : ℕ)
    → IsCounted old t house → IsMore old new t t' r bytes_in bytes_out → after ≡ option_map (λ receipts. only_records (length receipts)) new.house →
    IsCounted new t' after
counts_on old new t t' house after r bytes_in bytes_out is more house_is =
    let bounds = old.limits.bounds in
    let count : length new.history ≡ length old.history + 1 = ap length more.history ∙ length-append old.history (r ∷ []) in
    let pushed : seats_in new.history ≡ seats_in old.history + seats_of r.act = ap seats_in more.history ∙ seats_in-push old.history r in
    let seats : seats_given new ≡ seats_given old + seats_of r.act = omega (arith, pushed) in
    let counted : counted_in new ≡ counted_more bytes_in bytes_out (counted_in old) =
    rw (
      more.history,
      more.limits,
      bytes_in-push bounds old.history r,
      bytes_out-push bounds old.history r,
      more.in_is,
      more.out_is,
      length-append old.history (r ∷ []),
    ) refl in
    let in_more : t'.counted.bytes_in ≡ t.counted.bytes_in + bytes_in = ap (λ c. c.bytes_in) more.counted in
    let out_more : t'.counted.bytes_out ≡ t.counted.bytes_out + bytes_out = ap (λ c. c.bytes_out) more.counted in
    record {
      counted = more.counted ∙ ap (counted_more bytes_in bytes_out) is.counted ∙ sym counted;
      opened = more.opened ∙ ap (λ n. n + seats_of r.act) is.opened ∙ sym seats;
      house_is = house_is;
      few_seats = omega (arith, seats, count, more.closing, is.few_seats);
      few_in = omega (arith, in_more, more.few_in, is.few_in, count);
      few_out = omega (arith, out_more, more.few_out, is.few_out, count);
    }

some_step : StepPlansProcesses → (bounds : Bounds) (w : World) (actor : ℕ) (a : Act) (o : Outcome) (s : Option Stepped) → step bounds w actor a ≡ s →
    option_map (λ s. s.outcome) s ≡ Some o
    → (option_map_or (λ s. s.world) s w).closed ≡ (closes a || w.closed)
some_step planned bounds w actor a o None is e = cc
some_step planned bounds w actor a o (Some s) is e = (planned bounds w actor a s is).closed

-- whether a run is closed after one more record
pub closed_after : StepPlansProcesses → (old new : BookState) (actor : ℕ) (a : Act) (receipt : Receipted) → Appends old new actor a receipt →
    (world_now new).closed ≡ (closes a || (world_now old).closed)
closed_after planned old new actor a receipt is =
    let bounds = old.limits.bounds in
    let w = world_now old in
    let r = receipt.record_is in
    let next : world_of old.limits.bounds (old.history ++ r ∷ []) ≡ after_act bounds w actor a =
    world_from-push bounds empty_world old.history r ∙ ap (λ n. after_act bounds w n r.act) is.actor_is ∙ ap (λ x. after_act bounds w actor x) is.act_is in
    let now : world_now new ≡ after_act bounds w actor a = rw (is.history, is.limits) next in
    ap (λ (v : World). v.closed) now ∙ some_step planned bounds w actor a r.outcome (step bounds w actor a) refl is.outcome

-- the same, of an act that does not close the run
pub counts_appended : StepPlansProcesses → (old new : BookState) (t t' : TalliesState) (house : Option Counted) (actor : ℕ) (a : Act) (receipt : Receipted)
    (bytes_in bytes_out : ℕ)
    → IsCounted old t house → Appends old new actor a receipt → closes a ≡ false → seats_of a ≤ 1
    → bytes_in ≡ took (world_now old) receipt.record_is → bytes_out ≡ gave (world_now old) receipt.record_is → bytes_in ≤ GIVEN_BYTES_MAX →
    bytes_out ≤ GIVEN_BYTES_MAX
    → t'.counted ≡ counted_more bytes_in bytes_out t.counted → t'.opened ≡ t.opened + seats_of a → IsCounted new t' house
counts_appended planned old new t t' house actor a receipt bytes_in bytes_out is appends stays one in_is out_is few_in few_out counted opened =
    let same : (world_now new).closed ≡ (world_now old).closed = closed_after planned old new actor a receipt appends ∙
    ap (λ b. b || (world_now old).closed) stays in
    let flag : closed_as new ≡ closed_as old = ap (λ b. cond b 1 0) same in
    let seats : seats_of receipt.record_is.act ≡ seats_of a = ap seats_of appends.act_is in
    counts_on old new t t' house house receipt.record_is bytes_in bytes_out is (record {
      limits = appends.limits;
      history = appends.history;
      in_is = in_is;
      out_is = out_is;
      few_in = few_in;
      few_out = few_out;
      counted = counted;
      opened = opened ∙ ap (λ n. t.opened + n) (sym seats);
      closing = omega (arith, flag, seats, one);
    }) (is.house_is ∙ ap (λ h. option_map (λ receipts. only_records (length receipts)) h) (sym appends.house))

-- a run that is open keeps a record for its closing
one_left : (closed : Bool) (n : ℕ) → 1 ≤ cond closed n (n + 1) + cond closed 1 0
one_left true n = omega arith
one_left false n = omega arith

-- before one more record there are shares for fewer than a million seats
pub few_opened : StepPlansProcesses → (old new : BookState) (t : TalliesState) (house : Option Counted) (actor : ℕ) (a : Act) (receipt : Receipted) →
    IsCounted old t house
    → Appends old new actor a receipt → closes a ≡ false → length new.history + exits_left (world_now new) ≤ 1000000 → t.opened < 1000000
few_opened planned old new t house actor a receipt is appends stays short =
    let same : (world_now new).closed ≡ (world_now old).closed = closed_after planned old new actor a receipt appends ∙
    ap (λ b. b || (world_now old).closed) stays in
    let flag : closed_as new ≡ closed_as old = ap (λ b. cond b 1 0) same in
    let count : length new.history ≡ length old.history + 1 = ap length appends.history ∙ length-append old.history (receipt.record_is ∷ []) in
    omega (arith, is.opened, is.few_seats, flag, count, short, one_left (world_now new).closed (live (world_now new).processes))

same_shares : (a b : Counted) → Some a ≡ Some b → a ≡ b
same_shares a b e = cc

-- the shares of the house count one receipt more
pub house_more : (place : ℕ) (r : Record) (house : Option (List Receipted)) (s t : Counted) →
    Some s ≡ option_map (λ receipts. only_records (length receipts)) house → t ≡ counted_more 0 0 s
    → Some t ≡ option_map (λ receipts. only_records (length receipts)) (told_more place (r ∷ []) house)
house_more place r None s t is more = cc
house_more place r (Some rs) s t is more =
    let same : s ≡ only_records (length rs) = same_shares s _ is in
    let count : length (rs ++ receipts_from place (r ∷ [])) ≡ length rs + 1 = length-append rs (receipts_from place (r ∷ [])) in
    ap Some (more ∙ ap (counted_more 0 0) same ∙ ap only_records (sym count))

-- an orphan's exit is counted by the shares of the house
pub counts_orphan : (old new : BookState) (t t' : TalliesState) (p : ℕ) (s s' : Counted) → IsCounted old t (Some s) → IsOrphansExit old new p
    → t' ≡ record t { counted = counted_more 0 0 t.counted } → s' ≡ counted_more 0 0 s → IsCounted new t' (Some s')
counts_orphan old new t t' p s s' is e tallied shared =
    let flag : closed_as new ≡ closed_as old = ap (λ b. cond b 1 0) e.closed in
    counts_on old new t t' (Some s) (Some s') (exit_record p) 0 0 is (record {
      limits = e.limits;
      history = e.history;
      in_is = refl;
      out_is = refl;
      few_in = omega arith;
      few_out = omega arith;
      counted = ap (λ x. x.counted) tallied;
      opened = let same : t'.opened ≡ t.opened = ap (λ x. x.opened) tallied in omega (arith, same);
      closing = omega (arith, flag);
    }) (house_more (length old.history) (exit_record p) old.house s s' is.house_is shared ∙ ap (λ h. option_map (λ receipts. only_records (length receipts)) h)
    (sym e.house))

-- so is the closing, after which the house has none any more
pub counts_closing : (old new : BookState) (t t' : TalliesState) (s : Counted) (receipts : List Receipted) → IsCounted old t (Some s) →
    IsShutBy old new receipts
    → t' ≡ record t { counted = counted_more 0 0 t.counted } → IsCounted new t' None
counts_closing old new t t' s receipts is e tallied =
    let flag : closed_as new ≤ 1 = closed_at_most new in
    counts_on old new t t' (Some s) None closing_record 0 0 is (record {
      limits = e.limits;
      history = e.history;
      in_is = refl;
      out_is = refl;
      few_in = omega arith;
      few_out = omega arith;
      counted = ap (λ x. x.counted) tallied;
      opened = let same : t'.opened ≡ t.opened = ap (λ x. x.opened) tallied in omega (arith, same);
      closing = omega (arith, flag);
    }) (ap (λ h. option_map (λ receipts. only_records (length receipts)) h) (sym e.given_away))

-- the house's seat counts a record for each receipt
pub house_counts : (old new : BookState) (s t : Counted) (receipts : List Receipted) (tallies : TalliesState) → IsCounted old tallies (Some s) →
    IsShutBy old new receipts → t ≡ counted_more 0 0 s → t ≡ only_records (length receipts)
house_counts old new s t receipts tallies is e more =
    let all : Some t ≡ option_map (λ rs. only_records (length rs)) (told_more (length old.history) (closing_record ∷ []) old.house) =
    house_more (length old.history) closing_record old.house s t is.house_is more in
    same_shares t _ (all ∙ ap (λ h. option_map (λ rs. only_records (length rs)) h) (sym e.receipts_are))

-- the sums of the tallies are those of a run, of which the laws of pipes hold
pub counts_of : BytesOfPipe → SmallWritesUnbroken → (b : BookState) (t : TalliesState) (house : Option Counted) (sums : Sums) → IsCounted b t house
    → legal b.limits.bounds b.history → length b.history + exits_left (world_now b) ≤ b.limits.records
    → sums.records ≡ t.counted.records → sums.bytes_in ≡ t.counted.bytes_in → sums.bytes_out ≡ t.counted.bytes_out → CountsOf b sums
counts_of bytes small b t house sums is run reserve records_are in_are out_are = record {
  records = records_are ∙ ap (λ c. c.records) is.counted;
  bytes_in = in_are ∙ ap (λ c. c.bytes_in) is.counted;
  bytes_out = out_are ∙ ap (λ c. c.bytes_out) is.counted;
  is_legal = run;
  pipes = bytes b.limits.bounds b.history run;
  small_writes = small b.limits.bounds b.history run;
  reserve = reserve;
}
