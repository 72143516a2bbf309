-- Answers, one after another, are a conversation.
use Rattle.std.proofs.Common.{◌≡◌, ℕ, inl, inr, List, [], ◌∷◌, ◌++◌, Option, Ok, refl, sym, ◌∙◌, ap, subst}
use Rattle.std.proofs.lemmas.List.{append-nil}
use Rattle.call_types.specs.declared.refusal.Refusal.{Refusal}
use Rattle.call_types.specs.declared.refusal.Refusal.TheVariants as refusal
use Rattle.call_types.specs.declared.request.Request.{Request}
use Rattle.call_types.specs.declared.request.Request.TheVariants as request
use Rattle.record_book.specs.Seat.{Receipted, SeatState}
use Rattle.record_book.specs.declared.opening.Opened.TheVariants as opened
use Rattle.system_lock.specs.Kernel.{AsksForASeat, IsWanting, IsError, OpensFor}
use Rattle.system_lock.specs.Proved.Reasons.{OpensBy}
use Rattle.session_core.specs.declared.told.Told.{Told}
use Rattle.session_core.specs.declared.told.Told.TheVariants as told
use Rattle.session_core.specs.declared.stage.Stage.TheVariants as stage
use Rattle.session_core.specs.declared.stage.LeaveCause.{LeaveCause}
use Rattle.session_core.specs.declared.stage.Over.TheVariants as over
use Rattle.session_core.specs.declared.stage.Standing.TheVariants as standing
use Rattle.session_core.specs.Answers.{answers_text, receipts_of}
use Rattle.session_core.specs.OutputState.{OutputState}
use Rattle.session_core.specs.Proved.Output.{Holds, Puts}
use Rattle.session_core.specs.Talk.{IsRecordOf, Talked, IsUnopened, Converses}
use Rattle.session_core.specs.Served.{IsGranted}
use Rattle.session_core.specs.Proved.Turns.{IsUntoldOpening, PutsFirst, WhyRefused, PutsGivenUp, TakesUp, LeavesBy}
use Rattle.session_core.proofs.WaitLemmas.{talked_converses, wanting}

-- ---- openings

-- the one receipt of a process that is opened
first_of : (next : Request) (seat : SeatState) (receipt : Receipted) → OpensFor next seat receipt → (seat.receipts ≡ receipt ∷ []) × IsRecordOf next receipt
first_of request.Join seat receipt h = (ap (λ (s : SeatState). s.receipts) h.seat_is, h.act_is)
first_of (request.Attach process) seat receipt h = (ap (λ (s : SeatState). s.receipts) h.seat_is, (h.act_is, h.actor_is))
first_of (request.Call call) seat receipt h = absurd h

-- an opening and its receipt are a conversation
first_talk : (next : Request) (handled : List Request) (old new : OutputState) (receipt : Receipted) → IsRecordOf next receipt → handled ≡ [] →
    old.answers ≡ [] → Puts old new (told.Recorded receipt)
    → Talked (handled ++ next ∷ []) new.answers
first_talk next handled old new receipt record_of none empty put = record {
  opening = next;
  opened = told.Recorded receipt ∷ [];
  calls = [];
  requests_are = ap (λ (l : List Request). l ++ next ∷ []) none;
  answers_are = put.answers ∙ ap (λ (l : List Told). l ++ told.Recorded receipt ∷ []) empty;
  opens = record { receipt = receipt; is = refl; record_of = record_of };
  are_calls = tt;
}

first_receipts : (old new : OutputState) (receipt : Receipted) → old.answers ≡ [] → Puts old new (told.Recorded receipt) →
    receipts_of new.answers ≡ receipt ∷ []
first_receipts old new receipt empty put = ap receipts_of (put.answers ∙ ap (λ (l : List Told). l ++ told.Recorded receipt ∷ []) empty)

same_first : (a b : Receipted) (receipts : List Receipted) → receipts ≡ a ∷ [] → receipts ≡ b ∷ [] → a ≡ b
same_first a b receipts h k = cc

pub seated : (admission : Unit {0}) (next : Request) (seat : SeatState) (receipts : List Receipted) (old new : OutputState) → receipts ≡ seat.receipts →
    OpensBy next (Ok (opened.Seated seat)) → PutsFirst receipts old new
    → TakesUp (stage.Opening admission) next old new (standing.Ready (stage.Ready seat))
seated admission next seat receipts old new same_list h put_list base handled holds talking =
    let put = subst (λ (l : List Receipted). PutsFirst l old new) same_list put_list in
    let first = first_of next seat h.0 h.1 in
    let same : h.0 ≡ put.receipt = same_first h.0 put.receipt seat.receipts first.0 put.is in
    let record_of = subst (IsRecordOf next) same first.1 in (
      put.puts.holds base holds,
      (
        first_talk next handled old new put.receipt record_of talking.0 talking.1 put.puts,
        put.is ∙ sym (first_receipts old new put.receipt talking.1 put.puts),
        subst IsGranted (sym first.0) h.2,
      ),
    )

pub unseated : (admission : Unit {0}) (next : Request) (seat : SeatState) (receipts : List Receipted) (old new : OutputState) → receipts ≡ seat.receipts →
    OpensBy next (Ok (opened.Refused seat)) → PutsFirst receipts old new
    → TakesUp (stage.Opening admission) next old new (standing.Over (over.Refused seat))
unseated admission next seat receipts old new same_list h put_list base handled holds talking =
    let put = subst (λ (l : List Receipted). PutsFirst l old new) same_list put_list in
    let first = first_of next seat h.0 h.1 in
    let same : h.0 ≡ put.receipt = same_first h.0 put.receipt seat.receipts first.0 put.is in
    let record_of = subst (IsRecordOf next) same first.1 in (
      put.puts.holds base holds,
      record {
        receipt = put.receipt;
        receipts = put.is;
        answers_are = put.puts.answers ∙ ap (λ (l : List Told). l ++ told.Recorded put.receipt ∷ []) talking.1;
        is_error = subst (λ (r : Receipted). IsError r.record_is.outcome) same h.2;
      },
      first_talk next handled old new put.receipt record_of talking.0 talking.1 put.puts,
    )

none_after : {A : Type 0} (xs ys : List A) → xs ++ ys ≡ [] → ys ≡ []
none_after [] ys e = e
none_after (x ∷ xs) ys e = absurd cc

-- nothing was answered, and nothing is to be written
pub record IsFresh (base : Option (List ℕ)) (o : OutputState) : Type 0 where
  pub holds : Holds base o
  pub answers : o.answers ≡ []
  pub unsent : o.unsent ≡ []

still_fresh : (base : Option (List ℕ)) (old new : OutputState) → new ≡ old → Holds base old → old.answers ≡ [] → IsFresh base new
still_fresh base old new e holds empty = subst (IsFresh base) (sym e) (record {
  holds = holds;
  answers = empty;
  unsent = none_after holds.text old.unsent (holds.is ∙ ap answers_text empty);
})

-- what would have been answered
untold_talk : (next : Request) (handled : List Request) (receipt : Receipted) → IsRecordOf next receipt → handled ≡ [] →
    Converses (handled ++ next ∷ []) (told.Recorded receipt ∷ [])
untold_talk next handled receipt record_of none = talked_converses (handled ++ next ∷ []) (told.Recorded receipt ∷ []) (record {
  opening = next;
  opened = told.Recorded receipt ∷ [];
  calls = [];
  requests_are = ap (λ (l : List Request). l ++ next ∷ []) none;
  answers_are = refl;
  opens = record { receipt = receipt; is = refl; record_of = record_of };
  are_calls = tt;
})

untold_opening : (base : Option (List ℕ)) (next : Request) (handled : List Request) (old new : OutputState) (seat : SeatState) (receipt : Receipted) →
    OpensFor next seat receipt → new ≡ old → Holds base old → handled ≡ [] → old.answers ≡ []
    → IsUntoldOpening base (handled ++ next ∷ []) new seat.receipts receipt
untold_opening base next handled old new seat receipt h e holds none empty =
    let fresh = still_fresh base old new e holds empty in
    let first = first_of next seat receipt h in
    record { holds = fresh.holds; answers = fresh.answers; unsent = fresh.unsent; one = first.0; with_it = untold_talk next handled receipt first.1 none }

pub opening_untold : (admission : Unit {0}) (next : Request) (seat : SeatState) (old new : OutputState) → OpensBy next (Ok (opened.Seated seat)) → new ≡ old →
    TakesUp (stage.Opening admission) next old new (standing.Over (over.OpeningUntold seat))
opening_untold admission next seat old new h e base handled holds talking =
    (h.0, untold_opening base next handled old new seat h.0 h.1 e holds talking.0 talking.1, h.2)

pub refusal_untold : (admission : Unit {0}) (next : Request) (seat : SeatState) (old new : OutputState) → OpensBy next (Ok (opened.Refused seat)) → new ≡ old →
    TakesUp (stage.Opening admission) next old new (standing.Over (over.RefusalUntold seat))
refusal_untold admission next seat old new h e base handled holds talking =
    (h.0, untold_opening base next handled old new seat h.0 h.1 e holds talking.0 talking.1, h.2)

-- ---- openings that are not recorded

is_unopened : (next : Request) (handled : List Request) (old new : OutputState) (refusal : Refusal) → AsksForASeat next → IsWanting refusal → handled ≡ [] →
    old.answers ≡ [] → Puts old new (told.Refused refusal) → IsUnopened (handled ++ next ∷ []) new.answers refusal
is_unopened next handled old new refusal is_opening wants none empty put = record {
  opening = next;
  requests_are = ap (λ (l : List Request). l ++ next ∷ []) none;
  is_opening = is_opening;
  answers_are = put.answers ∙ ap (λ (l : List Told). l ++ told.Refused refusal ∷ []) empty;
  wants = wants;
}

no_receipts : (next : Request) (handled : List Request) (answers : List Told) (refusal : Refusal) → IsUnopened (handled ++ next ∷ []) answers refusal →
    receipts_of answers ≡ []
no_receipts next handled answers refusal h = ap receipts_of h.answers_are

refused_by : (admission : Unit {0}) (base : Option (List ℕ)) (next : Request) (handled : List Request) (o : OutputState) (refusal : Refusal)
    (found : LeaveCause) → WhyRefused refusal found → Holds base o → IsUnopened (handled ++ next ∷ []) o.answers refusal
    → LeavesBy base handled next o (stage.Opening admission) found
refused_by admission base next handled o refusal.NoMemory found e holds h = subst (LeavesBy base handled next o (stage.Opening admission)) (sym e) (
  holds,
  no_receipts next handled o.answers refusal.NoMemory h,
  record { handled = handled ++ next ∷ []; later = []; requests_are = sym (append-nil (handled ++ next ∷ [])); is = inr (inr (refusal.NoMemory, h)) },
)
refused_by admission base next handled o refusal.RunFull found e holds h =
    subst (LeavesBy base handled next o (stage.Opening admission)) (sym e) (holds, no_receipts next handled o.answers refusal.RunFull h, h)
refused_by admission base next handled o refusal.Waiting found e holds h = absurd e
refused_by admission base next handled o refusal.NotHere found e holds h = absurd e
refused_by admission base next handled o (refusal.Foreign seen len) found e holds h = absurd e

pub unopened : (admission back : Unit {0}) (next : Request) (old new : OutputState) (refusal : Refusal) (found : LeaveCause) → AsksForASeat next →
    PutsGivenUp old new refusal found → TakesUp (stage.Opening admission) next old new (standing.Over (over.Leaves (stage.Opening back) found))
unopened admission back next old new refusal found is_opening (inl h) base handled holds talking =
    refused_by back base next handled new refusal found h.0 (h.1.holds base holds)
    (is_unopened next handled old new refusal is_opening (wanting refusal found h.0) talking.0 talking.1 h.1)
unopened admission back next old new refusal found is_opening (inr h) base handled holds talking =
    let fresh = still_fresh base old new h.1 holds talking.1 in
    subst (LeavesBy base handled next new (stage.Opening back)) (sym h.0) (
      fresh.holds,
      ap receipts_of fresh.answers,
      record { handled = []; later = handled ++ next ∷ []; requests_are = refl; is = inl (inl (refl, fresh.answers)) },
    )
