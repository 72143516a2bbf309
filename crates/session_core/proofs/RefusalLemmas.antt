-- Each refusal among the answers is what the kernel said of the request that it answers.
use Rattle.std.proofs.Common.{◌≡◌, ℕ, ◌⊎◌, inl, inr, List, [], ◌∷◌, ◌++◌, Option, None, Some, refl, sym, ◌∙◌, ap, subst}
use Rattle.std.proofs.lemmas.List.{append_assoc}
use Rattle.call_types.specs.declared.call.Call.{Call}
use Rattle.call_types.specs.declared.refusal.Refusal.{Refusal}
use Rattle.call_types.specs.declared.refusal.Refusal.TheVariants as refusal
use Rattle.call_types.specs.declared.request.Request.{Request}
use Rattle.call_types.specs.declared.request.Request.TheVariants as request
use Rattle.record_book.specs.Seat.{Receipted, SeatState}
use Rattle.system_lock.specs.Kernel.{AsksForASeat, EndsBy, Says}
use Rattle.system_lock.specs.declared.kernel.Why.{Why}
use Rattle.system_lock.specs.declared.kernel.Why.TheVariants as ended_why
use Rattle.session_core.specs.declared.told.Told.{Told}
use Rattle.session_core.specs.declared.told.Told.TheVariants as told
use Rattle.session_core.specs.Proved.Closing.{with_last}
use Rattle.session_core.specs.OutputState.{OutputState}
use Rattle.session_core.specs.Proved.Output.{Puts}
use Rattle.session_core.specs.Stages.{Stage, Turn}
use Rattle.session_core.specs.declared.stage.Stage.TheVariants as stage
use Rattle.session_core.specs.declared.stage.LeaveCause.{LeaveCause}
use Rattle.session_core.specs.declared.stage.Over.TheVariants as over
use Rattle.session_core.specs.declared.stage.Standing.TheVariants as standing
use Rattle.session_core.specs.Proved.Turns.{IsTalking, IsWaitingAt, PutsFirst, PutsGivenUp, TellsWhy, TurnSays}
use Rattle.session_core.specs.Refusals.{AreSaid, EndTold, NextRefused, OpeningRefused, RefusalSaid}
use Rattle.session_core.proofs.ListLemmas.{same_head, same_tail}

-- ---- one answer more

-- a list that is cut before some item is cut before its last one, or before one of the others
abbrev Cut : List Told → Told → List Told → Told → Type 0
Cut xs last before one = ((xs ≡ before) × (last ≡ one)) ⊎ ((rest : List Told) × (xs ≡ before ++ one ∷ rest))

cut_more : (x b : Told) (xs before : List Told) (last one : Told) → x ≡ b → Cut xs last before one → Cut (x ∷ xs) last (b ∷ before) one
cut_more x b xs before last one e (inl h) = let same = h.0 in inl (cc, h.1)
cut_more x b xs before last one e (inr h) = let same = h.1 in inr (h.0, cc)

cut_at : (xs before later : List Told) (last one : Told) → xs ++ last ∷ [] ≡ before ++ one ∷ later → Cut xs last before one
cut_at [] [] later last one e = inl (refl, cc)
cut_at [] (b ∷ []) later last one e = absurd cc
cut_at [] (b ∷ (c ∷ before)) later last one e = absurd cc
cut_at (x ∷ xs) [] later last one e = inr (xs, cc)
cut_at (x ∷ xs) (b ∷ before) later last one e =
    cut_more x b xs before last one (same_head x b (xs ++ last ∷ []) (before ++ one ∷ later) e)
    (cut_at xs before later last one (same_tail x b (xs ++ last ∷ []) (before ++ one ∷ later) e))

-- if it is a refusal, it was said
abbrev pub OneSaid : (List Told → Refusal → Type 0) → List Told → Told → Type 0
OneSaid Said before (told.Recorded receipt) = Unit {0}
OneSaid Said before (told.Refused so) = Said before so

of_cut : (Said : List Told → Refusal → Type 0) (answers before : List Told) (one : Told) (so : Refusal) → AreSaid Said answers → OneSaid Said answers one →
    Cut answers one before (told.Refused so) → Said before so
of_cut Said answers before one so are said (inl h) = subst (OneSaid Said before) h.1 (subst (λ (l : List Told). OneSaid Said l one) h.0 said)
of_cut Said answers before one so are said (inr h) = are before so h.0 h.1

one_more : (Said : List Told → Refusal → Type 0) (answers : List Told) (one : Told) → AreSaid Said answers → OneSaid Said answers one →
    AreSaid Said (answers ++ one ∷ [])
one_more Said answers one are said before so later e = of_cut Said answers before one so are said (cut_at answers before later one (told.Refused so) e)

none_said : (Said : List Told → Refusal → Type 0) → AreSaid Said []
none_said Said [] so later e = absurd cc
none_said Said (b ∷ before) so later e = absurd cc

pub empty_said : (Said : List Told → Refusal → Type 0) (answers : List Told) → answers ≡ [] → AreSaid Said answers
empty_said Said answers empty = subst (AreSaid Said) (sym empty) (none_said Said)

pub kept_said : (Said : List Told → Refusal → Type 0) (old new : List Told) → new ≡ old → AreSaid Said old → AreSaid Said new
kept_said Said old new same are = subst (AreSaid Said) (sym same) are

pub same_said : (Said : List Told → Refusal → Type 0) (old new : OutputState) → new ≡ old → AreSaid Said old.answers → AreSaid Said new.answers
same_said Said old new same are = subst (λ (o : OutputState). AreSaid Said o.answers) (sym same) are

pub unput_said : (Said : List Told → Refusal → Type 0) (old new : OutputState) → new ≡ old → old.answers ≡ [] → AreSaid Said new.answers
unput_said Said old new same empty = same_said Said old new same (empty_said Said old.answers empty)

pub put_said : (Said : List Told → Refusal → Type 0) (old new : OutputState) (one : Told) → Puts old new one → AreSaid Said old.answers →
    OneSaid Said old.answers one → AreSaid Said new.answers
put_said Said old new one put are said = kept_said Said (old.answers ++ one ∷ []) new.answers put.answers (one_more Said old.answers one are said)

-- ---- more requests

-- of these requests and more
pub wider : (says : Says) (requests more : List Request) (answers : List Told)
    → AreSaid (RefusalSaid says requests) answers → AreSaid (RefusalSaid says (requests ++ more)) answers
wider says requests more answers are before so later e =
    let h = are before so later e in
    record {
      earlier = h.earlier;
      next = h.next;
      later = h.later ++ more;
      requests_are = ap (λ (l : List Request). l ++ more) h.requests_are ∙ append_assoc h.earlier (h.next ∷ h.later) more;
      is = h.is;
    }

last_said : (says : Says) (earlier : List Request) (next : Request) (before : List Told)
    (so : Refusal) → NextRefused says earlier before next so → RefusalSaid says (earlier ++ next ∷ []) before so
last_said says earlier next before so is = record { earlier = earlier; next = next; later = []; requests_are = refl; is = is }

-- ---- openings

pub first_said : (Said : List Told → Refusal → Type 0) (receipts : List Receipted) (old new : OutputState) → PutsFirst receipts old new → old.answers ≡ [] →
    AreSaid Said new.answers
first_said Said receipts old new put empty = put_said Said old new (told.Recorded put.receipt) put.puts (empty_said Said old.answers empty) tt

-- an answer that memory ran out for, or that a kernel gave
given_up_put : (Said : List Told → Refusal → Type 0) (old new : OutputState) (so : Refusal) (found : LeaveCause) → PutsGivenUp old new so found →
    AreSaid Said old.answers → Said old.answers so → AreSaid Said new.answers
given_up_put Said old new so found (inl put) are said = put_said Said old new (told.Refused so) put.1 are said
given_up_put Said old new so found (inr none) are said = same_said Said old new none.1 are

is_refused : (says : Says) (earlier : List Request) (before : List Told) (next : Request)
    (so : Refusal) → AsksForASeat next → OpeningRefused says.not_opened earlier before next so → NextRefused says earlier before next so
is_refused says earlier before request.Join so opens h = h
is_refused says earlier before (request.Attach process) so opens h = h
is_refused says earlier before (request.Call call) so opens h = absurd opens

pub opening_refused : (says : Says) (handled : List Request) (next : Request)
    (so : Refusal) (old new : OutputState) (found : LeaveCause) → AsksForASeat next → says.not_opened next so → PutsGivenUp old new so found → handled ≡ [] →
    old.answers ≡ []
    → AreSaid (RefusalSaid says (handled ++ next ∷ [])) new.answers
opening_refused says handled next so old new found opens said put none empty =
    given_up_put (RefusalSaid says (handled ++ next ∷ [])) old new so found put (empty_said (RefusalSaid says (handled ++ next ∷ [])) old.answers empty)
    (last_said says handled next old.answers so (is_refused says handled old.answers next so opens (record { first = none; unanswered = empty; said = said })))

-- ---- calls

pub call_refused : (says : Says) (handled : List Request) (seat : SeatState) (call : Call)
    (so : Refusal) (old new : OutputState) → IsTalking handled old.answers (stage.Ready seat) → says.refused seat call so → Puts old new (told.Refused so)
    → AreSaid (RefusalSaid says handled) old.answers → AreSaid (RefusalSaid says (handled ++ request.Call call ∷ [])) new.answers
call_refused says handled seat call so old new talking said put are =
    put_said (RefusalSaid says (handled ++ request.Call call ∷ [])) old new (told.Refused so) put (wider says handled (request.Call call ∷ []) old.answers are)
    (last_said says handled (request.Call call) old.answers so (inl (record { seat = seat; talked = talking.0; receipts = talking.1; said = said })))

end_put : (says : Says) (base : Option (List ℕ)) (handled : List Request) (call : Call)
    (seat spent : SeatState) (old new : OutputState) (so : Refusal) (found : LeaveCause) → PutsGivenUp old new so found →
    EndTold (λ (reason : Why). EndsBy seat spent reason × says.ended seat spent reason) so
    → IsWaitingAt base handled call seat old → AreSaid (RefusalSaid says (handled ++ request.Call call ∷ [])) old.answers →
    AreSaid (RefusalSaid says (handled ++ request.Call call ∷ [])) new.answers
end_put says base handled call seat spent old new so found put said w are =
    given_up_put (RefusalSaid says (handled ++ request.Call call ∷ [])) old new so found put are
    (last_said says handled (request.Call call) old.answers so
    (inr (record { seat = seat; spent = spent; waits = w.waits; receipts = w.receipts; said = said })))

-- the process of the seat ended in the call that it waited in
pub ended_refused : (says : Says) (base : Option (List ℕ)) (handled : List Request)
    (call : Call) (seat spent : SeatState) (reason : Why) (old new : OutputState) (found : Turn) → TellsWhy spent reason old new found →
    EndsBy seat spent reason → says.ended seat spent reason
    → IsWaitingAt base handled call seat old → AreSaid (RefusalSaid says (handled ++ request.Call call ∷ [])) old.answers →
    AreSaid (RefusalSaid says (handled ++ request.Call call ∷ [])) new.answers
ended_refused says base handled call seat spent ended_why.NoMemory old new (standing.Over (over.Ended held why)) tells ends said w are =
    end_put says base handled call seat spent old new refusal.NoMemory why tells.0 (ends, said) w are
ended_refused says base handled call seat spent ended_why.RunFull old new (standing.Over (over.Ended held why)) tells ends said w are =
    end_put says base handled call seat spent old new refusal.RunFull why tells.0 (ends, said) w are
ended_refused says base handled call seat spent ended_why.Lost old new (standing.GivenUp held) tells ends said w are =
    same_said (RefusalSaid says (handled ++ request.Call call ∷ [])) old new tells.0 are
ended_refused says base handled call seat spent ended_why.Foreign old new (standing.Over (over.Foreign held)) tells ends said w are =
    same_said (RefusalSaid says (handled ++ request.Call call ∷ [])) old new tells.0 are
ended_refused says base handled call seat spent reason old new found tells ends said w are = absurd tells

-- ---- requests

-- the same stage and the same request
pub same_turn : (Said : List Request → List Told → Refusal → Type 0) (at other : Stage) (next same : Request)
    (old new : OutputState) → at ≡ other → next ≡ same → TurnSays Said other (same ∷ []) old new → TurnSays Said at (next ∷ []) old new
same_turn Said at other next same old new e k says =
    subst (λ (s : Stage). TurnSays Said s (next ∷ []) old new) (sym e) (subst (λ (r : Request). TurnSays Said other (r ∷ []) old new) (sym k) says)

-- ---- the session is left

pub with_last_said : (Said : List Told → Refusal → Type 0) (answers : List Told) (last : Option Receipted) → AreSaid Said answers →
    AreSaid Said (with_last answers last)
with_last_said Said answers None are = are
with_last_said Said answers (Some receipt) are = one_more Said answers (told.Recorded receipt) are tt
