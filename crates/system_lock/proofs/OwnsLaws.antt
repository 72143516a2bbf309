-- What a seat owns in a history it owns in each that goes on from there, and with each record of its own it owns one more.
use Rattle.std.proofs.Common.{◌≡◌, ◌∙◌, ◌<◌, ◌+◌, ℕ, ap, refl, sym, subst, arith, List, [], ◌∷◌, ◌++◌, append-nil, append_assoc, length-append, length, get_or, take, sum_by, Option, None, Some, Result, Ok, Err, All, AllPairs}
use Rattle.std.proofs.lemmas.List.Elements.{All-head, All-tail, All-get_or, All-weaker, All-push}
use Rattle.std.proofs.lemmas.List.Quantifiers.{all_pairs_push}
use Rattle.std.proofs.lemmas.List.Sums.{fold_push, sum_by-cons, sum_by_push}
use Rattle.std.proofs.Math.Seq.{take-append_seam}
use mathlib.Core.List.{IsPrefix}
use Rattle.call_types.specs.declared.act.Act.{Act}
use Rattle.call_types.specs.declared.act.Act.TheVariants as act
use Rattle.call_types.specs.declared.act.Record.{Record}
use Rattle.call_types.specs.declared.call.Call.{Call}
use Rattle.call_types.specs.declared.limits.Limits.{Limits}
use Rattle.call_types.specs.declared.refusal.Refusal.{Refusal}
use Rattle.byte_ledger.specs.Counted.{Counted, counted_more}
use Rattle.posix_model.specs.Types.{Bounds}
use Rattle.posix_model.specs.History.{world_of}
use Rattle.posix_model.specs.Turns.{took, gave}
use Rattle.record_book.specs.Seat.{Receipted, SeatState}
use Rattle.record_book.specs.Book.{BookState, Receives, Records}
use Rattle.record_book.specs.Counting.{given_by}
use Rattle.run_history.specs.Fronts.{Grows}
use Rattle.system_lock.specs.Owns.{StandsIn, taken_in, counted_of, seen_with, OwnsIn, OwnsUnder}
use Rattle.system_lock.specs.declared.kernel.Why.{Why}
use Rattle.system_lock.specs.declared.kernel.Why.TheVariants as why
use Rattle.system_lock.specs.declared.acts.Tried.TheVariants as tried
use Rattle.system_lock.specs.Proved.Events.{CallsIn, ExitsIn, TriesIn}

-- ---- a history that goes on

pub itself_begins : (h : List Record) → IsPrefix h h
itself_begins h = ([], append-nil h)

begins_on : (a b c : List Record) → IsPrefix a b → IsPrefix b c → IsPrefix a c
begins_on a b c p q = (p.0 ++ q.0, sym (append_assoc a p.0 q.0) ∙ ap (λ (l : List Record). l ++ q.0) p.1 ∙ q.1)

stands_on : (f h : List Record) (r : Receipted) → IsPrefix f h → StandsIn f r → StandsIn h r
stands_on f h r p s = record { before = s.before; place_is = s.place_is; begins = begins_on (s.before ++ r.record_is ∷ []) f h s.begins p }

-- the records before the place of a receipt
before_is : (h : List Record) (r : Receipted) → (s : StandsIn h r) → take r.place h ≡ s.before
before_is h r s =
    ap (λ (n : ℕ). take n h) (sym s.place_is) ∙
    (ap (take (length s.before)) (sym s.begins.1 ∙ append_assoc s.before (r.record_is ∷ []) s.begins.0) ∙ take-append_seam s.before (r.record_is ∷ s.begins.0))

taken_on : (bounds : Bounds) (f h : List Record) (r : Receipted) → IsPrefix f h → StandsIn f r → taken_in bounds h r ≡ taken_in bounds f r
unfolding stands_on
taken_on bounds f h r p s = ap (λ (l : List Record). took (world_of bounds l) r.record_is) (before_is h r (stands_on f h r p s) ∙ sym (before_is f r s))

sums_on : (bounds : Bounds) (f h : List Record) (rs : List Receipted) → IsPrefix f h → All (StandsIn f) rs →
    sum_by (taken_in bounds h) rs ≡ sum_by (taken_in bounds f) rs
sums_on bounds f h [] p all = refl
sums_on bounds f h (r ∷ rs) p all =
    let one = taken_on bounds f h r p (All-head (StandsIn f) r rs all) in
    let rest = sums_on bounds f h rs p (All-tail (StandsIn f) r rs all) in
    let more = sum_by-cons (taken_in bounds h) r rs in
    let known = sum_by-cons (taken_in bounds f) r rs in
    omega (arith, one, rest, more, known)

counts_on : (bounds : Bounds) (f h : List Record) (rs : List Receipted) → IsPrefix f h → All (StandsIn f) rs → counted_of bounds h rs ≡ counted_of bounds f rs
counts_on bounds f h rs p all = ap (λ (n : ℕ). record { records = length rs; bytes_in = n; bytes_out = sum_by given_by rs }) (sums_on bounds f h rs p all)

owns_on : (bounds : Bounds) (f h : List Record) (s : SeatState) → IsPrefix f h → OwnsIn bounds f s → OwnsIn bounds h s
owns_on bounds f h s p own = record {
  actors = own.actors;
  stand = All-weaker (StandsIn f) (StandsIn h) (λ r. stands_on f h r p) s.receipts own.stand;
  ascend = own.ascend;
  seen = own.seen;
  counts = own.counts ∙ sym (counts_on bounds f h s.receipts p own.stand);
}

pub owns_since : (limits : Option Limits) (f h : List Record) (s : SeatState) → IsPrefix f h → OwnsUnder limits f s → OwnsUnder limits h s
owns_since None f h s p own = tt
owns_since (Some l) f h s p own = owns_on l.bounds f h s p own

pub owns_grown : (limits : Option Limits) (f h : List Record) (s : SeatState) → Grows f h → OwnsUnder limits f s → OwnsUnder limits h s
owns_grown limits f h s grows own = owns_since limits f h s (grows h (itself_begins h)) own

-- ---- one record more

same_counts : (a b c x y z : ℕ) → a ≡ x → b ≡ y → c ≡ z → (let l : Counted = record { records = a; bytes_in = b; bytes_out = c } in l) ≡ record {
  records = x;
  bytes_in = y;
  bytes_out = z;
}
same_counts a b c x y z p q r = rw p (rw q (rw r refl))

-- the receipt of the record that comes next stands there
next_stands : (h : List Record) (r : Receipted) → r.place ≡ length h → StandsIn (h ++ r.record_is ∷ []) r
next_stands h r place = record { before = h; place_is = sym place; begins = itself_begins (h ++ r.record_is ∷ []) }

-- a receipt whose record stands in a history has a place there
stands_before : (h : List Record) (r : Receipted) → StandsIn h r → r.place < length h
stands_before h r s =
    let whole = length-append (s.before ++ r.record_is ∷ []) s.begins.0 in
    let first = length-append s.before (r.record_is ∷ []) in
    let at = s.place_is in
    let all = ap length s.begins.1 in
    omega (arith, whole, first, at, all)

-- the receipt of the record that comes next is the last
abbrev Later : Receipted → Receipted → Type 0
Later x y = x.place < y.place

ascends : (h : List Record) (rs : List Receipted) (r : Receipted) → r.place ≡ length h → All (StandsIn h) rs → AllPairs Later rs → AllPairs Later (rs ++ r ∷ [])
ascends h rs r place stand ascend =
    all_pairs_push Later rs r ascend
    (λ k d lt. let before = stands_before h (get_or rs k d) (All-get_or (StandsIn h) rs k d lt stand) in omega (arith, place, before))

one_more : (bounds : Bounds) (h : List Record) (s t : SeatState) (r : Receipted) → r.place ≡ length h → r.record_is.actor ≡ s.pid → Receives s t r
    → t.counted ≡ counted_more (took (world_of bounds h) r.record_is) (gave (world_of bounds h) r.record_is) s.counted
    → OwnsIn bounds h s → OwnsIn bounds (h ++ r.record_is ∷ []) t
unfolding next_stands
one_more bounds h s t r place actor receives counts own =
    let on = h ++ r.record_is ∷ [] in
    let goes : IsPrefix h on = (r.record_is ∷ [], refl) in
    let stands = next_stands h r place in
    let before = sums_on bounds h on s.receipts goes own.stand in
    let now : taken_in bounds on r ≡ took (world_of bounds h) r.record_is = ap (λ (l : List Record). took (world_of bounds l) r.record_is)
    (before_is on r stands) in
    let taken = sum_by_push (taken_in bounds on) s.receipts r in
    let given = sum_by_push given_by s.receipts r in
    let longer = length-append s.receipts (r ∷ []) in
    let receipts = receives.receipts in
    record {
      actors = subst (λ (pid : ℕ). All (λ (x : Receipted). x.record_is.actor ≡ pid) t.receipts) (sym receives.pid)
          (subst (All (λ (x : Receipted). x.record_is.actor ≡ s.pid)) (sym receipts)
          (All-push (λ (x : Receipted). x.record_is.actor ≡ s.pid) s.receipts r own.actors actor));
      stand = subst (All (StandsIn on)) (sym receipts)
          (All-push (StandsIn on) s.receipts r (All-weaker (StandsIn h) (StandsIn on) (λ x. stands_on h on x goes) s.receipts own.stand) stands);
      ascend = subst (AllPairs Later) (sym receipts) (ascends h s.receipts r place own.stand own.ascend);
      seen = receives.seen ∙ (sym (fold_push (λ (seen : ℕ) (x : Receipted). x.place + 1) 0 s.receipts r) ∙ ap seen_with (sym receipts));
      counts = counts ∙
          (ap (counted_more (took (world_of bounds h) r.record_is) (gave (world_of bounds h) r.record_is)) own.counts ∙
          (same_counts _ _ _ _ _ _ (omega (arith, longer)) (omega (arith, before, now, taken)) (omega (arith, given)) ∙
          ap (counted_of bounds on) (sym receipts)));
    }

pub owns_recorded : (limits : Option Limits) (old new : BookState) (s t : SeatState) (a : Act) (r : Receipted) → limits ≡ Some old.limits →
    OwnsUnder limits old.history s → Records old new s t a r → OwnsUnder limits new.history t
owns_recorded limits old new s t a r is own h =
    let known : OwnsIn old.limits.bounds old.history s = subst (λ (l : Option Limits). OwnsUnder l old.history s) is own in
    let more = one_more old.limits.bounds old.history s t r h.appends.place h.appends.actor_is h.receives h.counts known in
    subst (λ (l : Option Limits). OwnsUnder l new.history t) (sym is) (subst (λ (l : List Record). OwnsIn old.limits.bounds l t) (sym h.appends.history) more)

-- ---- the events under the lock

-- nothing was recorded
owns_still : (limits : Option Limits) (old new : BookState) (s t : SeatState) → new ≡ old → t ≡ s → OwnsUnder limits old.history s →
    OwnsUnder limits new.history t
owns_still limits old new s t same kept own = subst (λ (b : BookState). OwnsUnder limits b.history t) (sym same)
    (subst (OwnsUnder limits old.history) (sym kept) own)

pub owns_called : (limits : Option Limits) (old new : BookState) (s t : SeatState) (asked : Call) (told : Result Receipted Refusal) → limits ≡ Some old.limits →
    OwnsUnder limits old.history s → CallsIn old new s t asked told → OwnsUnder limits new.history t
owns_called limits old new s t asked (Ok r) is own h = owns_recorded limits old new s t (act.Call asked) r is own h
owns_called limits old new s t asked (Err refusal) is own h = owns_still limits old new s t h.0 h.1 own

pub owns_ended : (limits : Option Limits) (old new : BookState) (s t : SeatState) (reason : Why) → limits ≡ Some old.limits → OwnsUnder limits old.history s →
    ExitsIn old new s t reason → OwnsUnder limits new.history t
owns_ended limits old new s t why.Foreign is own h = owns_still limits old new s t h.0 h.1 own
owns_ended limits old new s t why.HungUp is own h = owns_recorded limits old new s t act.Exit h.0 is own h.1
owns_ended limits old new s t why.NoMemory is own h = owns_recorded limits old new s t act.Exit h.0 is own h.1
owns_ended limits old new s t why.RunFull is own h = owns_recorded limits old new s t act.Exit h.0 is own h.1
owns_ended limits old new s t why.Lost is own h = owns_recorded limits old new s t act.Exit h.0 is own h.1

pub owns_resumed : (limits : Option Limits) (old new : BookState) (s t : SeatState) (r : Receipted) → limits ≡ Some old.limits →
    OwnsUnder limits old.history s → TriesIn old new s (tried.Resumed t r) → OwnsUnder limits new.history t
owns_resumed limits old new s t r is own h = owns_recorded limits old new s t act.Resume r is own h.1
