-- A desk: what is taken up there, and where its session stands.
use Rattle.std.proofs.Common.{◌≡◌, ℕ, suc, ◌-◌, arith, inl, inr, List, [], ◌∷◌, ◌++◌, Option, None, Some, length, refl, sym, ◌∙◌, ap, subst}
use Rattle.std.proofs.lemmas.List.{append-nil, append_assoc}
use Rattle.rtrb.specs.Ring.{SameConsumer}
use Rattle.call_types.specs.declared.act.Record.{Record}
use Rattle.call_types.specs.declared.request.Request.{Request}
use Rattle.call_types.specs.declared.request.Request.TheVariants as request
use Rattle.record_book.specs.Seat.{SeatState}
use Rattle.session_core.specs.declared.told.Told.{Told}
use Rattle.session_core.specs.Stages.{Stage, Standing, Over, Turn, LeftSession}
use Rattle.session_core.specs.declared.stage.LeaveCause.{LeaveCause}
use Rattle.session_core.specs.declared.stage.LeaveCause.TheVariants as why
use Rattle.session_core.specs.declared.stage.Over.TheVariants as over
use Rattle.session_core.specs.declared.stage.Stage.TheVariants as stage
use Rattle.session_core.specs.declared.stage.Standing.TheVariants as standing
use Rattle.session_core.specs.OutputState.{OutputState}
use Rattle.session_core.specs.Proved.Output.{FailsToSend, SendsAll, fresh_output}
use Rattle.session_core.specs.Proved.Turns.{IsTalking, HasReceipts, TakesUp, TurnBy, WaitsOnce, TurnSays, WaitSays}
use Rattle.session_core.specs.Talk.{Converses}
use Rattle.session_core.specs.Refusals.{AreSaid, RefusalSaid}
use Rattle.session_core.specs.Proved.Saying.{IsReadingEnd, OverSaid, TurnSaid}
use Rattle.session_core.specs.Proved.Desk.{HasLeft, IsAtRest, IsEnding, IsGivenUpIn, IsOverAfter, IsReady, IsRingOf, IsShut, IsWaitingIn, LeftBy, SentIfReady, StandsThere, TurnStands}
use Rattle.session_core.specs.Answering.{TakingEnd}
use Rattle.session_core.proofs.CallLemmas.{converses, has_receipts}
use Rattle.session_core.proofs.OutputLemmas.{holds_fresh}
use Rattle.session_core.proofs.RefusalLemmas.{empty_said, kept_said, wider}
use Rattle.system_lock.specs.Kernel.{Says}

-- ---- the ring

pub ring_kept : (named : Option TakingEnd) (c d : TakingEnd) → IsRingOf named c → SameConsumer c d → IsRingOf named d
ring_kept None c d h k = absurd h
ring_kept (Some first) c d h k = ((k.0.0 ∙ h.0.0, k.0.1 ∙ h.0.1, k.0.2 ∙ h.0.2, k.0.3 ∙ h.0.3), k.1 ∙ h.1)

pub same_on : (a b c : TakingEnd) → SameConsumer a b → SameConsumer b c → SameConsumer a c
same_on a b c h k = ((k.0.0 ∙ h.0.0, k.0.1 ∙ h.0.1, k.0.2 ∙ h.0.2, k.0.3 ∙ h.0.3), k.1 ∙ h.1)

-- ---- one turn

-- what came of the last of these requests
turned : (says : Says) (base : Option (List ℕ)) (handled : List Request) (next : Request) (o : OutputState) (found : Turn)
    → TurnBy base handled next o found → AreSaid (RefusalSaid says (handled ++ next ∷ [])) o.answers → TurnSaid says found
    → TurnStands says base (handled ++ next ∷ []) o found
turned says base handled next o (standing.Ready at) by refusals said = record { holds = by.0; talking = by.1; said = refusals }
turned says base handled next o (standing.Waits seat) by refusals said =
    record { handled = handled; call = by.0; taken_are = ap (λ (r : Request). handled ++ r ∷ []) by.1; waits = by.2; said = refusals }
turned says base handled next o (standing.GivenUp seat) by refusals said = record { is = by; said = refusals; end_said = said }
turned says base handled next o (standing.Over found) by refusals said =
    record { is = inl (record { handled = handled; next = next; taken_are = refl; is = by }); said = refusals; over_said = said }

-- a request more was taken up
pub one_taken : (says : Says) (base : Option (List ℕ)) (taken : List Request) (next : Request) (at : Stage) (old new : OutputState) (found : Turn)
    → IsReady says base taken old at → TakesUp at next old new found → TurnSays (RefusalSaid says) at (next ∷ []) old new → TurnSaid says found
    → TurnStands says base (taken ++ next ∷ []) new found
one_taken says base taken next at old new found ready takes refusals said =
    turned says base taken next new found (takes base taken ready.holds ready.talking) (refusals base taken ready.holds ready.talking ready.said) said

-- a call that waited has gone on, or has ended
pub waited : (says : Says) (base : Option (List ℕ)) (taken : List Request) (seat : SeatState) (old new : OutputState) (found : Turn)
    → IsWaitingIn says base taken old seat → WaitsOnce seat old new found → WaitSays (RefusalSaid says) seat old new → TurnSaid says found
    → TurnStands says base taken new found
waited says base taken seat old new found w waits refusals said =
    let first = subst (λ (l : List Request). AreSaid (RefusalSaid says l) old.answers) w.taken_are w.said in
    subst (λ (l : List Request). TurnStands says base l new found) (sym w.taken_are)
    (turned says base w.handled (request.Call w.call) new found (waits base w.handled w.call w.waits) (refusals base w.handled w.call w.waits first) said)

-- all answers are written
pub sent_all : (says : Says) (base : Option (List ℕ)) (taken : List Request) (old new : OutputState) (at : Stage)
    → SendsAll old new → IsReady says base taken old at → IsReady says base taken new at
sent_all says base taken old new at sends ready = record {
  holds = sends.flushes.holds base ready.holds;
  talking = subst (λ (l : List Told). IsTalking taken l at) (sym sends.flushes.answers) ready.talking;
  said = kept_said (RefusalSaid says taken) old.answers new.answers sends.flushes.answers ready.said;
}

-- the writer failed
pub not_sent : (says : Says) (base : Option (List ℕ)) (taken : List Request) (old new : OutputState) (at : Stage)
    → FailsToSend old new → IsReady says base taken old at → IsOverAfter says base taken new (over.Unwritten at)
not_sent says base taken old new at fails ready = record {
  is =
      inr (
        fails.breaks base ready.holds,
        subst (HasReceipts at) (sym fails.answers) (has_receipts taken old.answers at ready.talking),
        subst (Converses taken) (sym fails.answers) (converses taken old.answers at ready.talking),
      );
  said = kept_said (RefusalSaid says taken) old.answers new.answers fails.answers ready.said;
  over_said = tt;
}

-- ---- where a session stands

pub has_left : (says : Says) (was_shut : IsShut) (base : Option (List ℕ)) (taken : List Request) (old new : OutputState) (found : Over) (left : LeftSession)
    → IsOverAfter says base taken old found → (OverSaid says found → LeftBy says old found new left) → was_shut new.sink.contents →
    HasLeft says was_shut base taken new left
has_left says was_shut base taken old new found left is leaves shut =
    record { old = old; found = found; over = is; left_by = leaves is.over_said; shut = shut }

-- where no call waits, and all answers are written if a request may be taken up
pub at_rest : (o : OutputState) (at : Standing) → ((seat : SeatState) → at ≡ standing.Waits seat → ⊥) → SentIfReady o at → IsAtRest o at
at_rest o (standing.Ready at) waits sent = sent
at_rest o (standing.Waits seat) waits sent = absurd (waits seat refl)
at_rest o (standing.GivenUp seat) waits sent = tt
at_rest o (standing.Over left) waits sent = tt

-- a session at which nothing was taken up
pub fresh_stands : (says : Says) (base : Option (List ℕ)) (taken : List Request) (o : OutputState) (admission : Unit {0})
    → taken ≡ [] → o ≡ fresh_output base → IsReady says base taken o (stage.Opening admission)
fresh_stands says base taken o admission none e =
    let at : Stage = stage.Opening admission in
    let fresh : IsReady says base [] (fresh_output base) at =
    record { holds = holds_fresh base; talking = (refl, refl); said = empty_said (RefusalSaid says []) [] refl } in
    subst (λ (l : List Request). IsReady says base l o at) (sym none) (subst (λ (x : OutputState). IsReady says base [] x at) (sym e) fresh)

-- ---- how it ends

-- the requests that are left stay, with one taken
pub rest_taken : (taken more ahead rest : List Request) (next : Request) → more ≡ taken ++ next ∷ [] → ahead ≡ next ∷ rest → more ++ rest ≡ taken ++ ahead
rest_taken taken more ahead rest next e f = ap (λ l. l ++ rest) e ∙ append_assoc taken (next ∷ []) rest ∙ ap (λ l. taken ++ l) (sym f)

pub one_less : (count : ℕ) (ahead rest : List Request) (next : Request) → ahead ≡ next ∷ rest → length ahead ≡ count → length rest ≡ count - 1
one_less count ahead rest next e left = let more : length ahead ≡ suc (length rest) = ap length e in omega (arith, more, left)

none_left : (rest : List Request) → length rest ≡ 0 → rest ≡ []
none_left [] e = refl
none_left (one ∷ more) e = absurd cc

-- no kernel said so
reading_said : (says : Says) (at : Stage) (cause : LeaveCause) → IsReadingEnd cause → OverSaid says (over.Leaves at cause)
reading_said says at why.Closed h = tt
reading_said says at why.ReadFault h = tt
reading_said says at why.Malformed h = tt
reading_said says at why.RunFull h = absurd h
reading_said says at why.NoMemory h = tt
reading_said says at why.Ahead h = tt

-- all are answered
pub ends_after_all : (says : Says) (base : Option (List ℕ)) (taken rest sent : List Request) (cause : LeaveCause) (at : Stage) (old new : OutputState)
    (left : LeftSession)
    → taken ++ rest ≡ sent → length rest ≡ 0 → IsReady says base taken old at → IsReadingEnd cause
    → (OverSaid says (over.Leaves at cause) → LeftBy says old (over.Leaves at cause) new left) → IsEnding says base sent cause new left
ends_after_all says base taken rest sent cause at old new left e none ready reading leaves =
    let all : taken ≡ sent = sym (append-nil taken) ∙ ap (λ (l : List Request). taken ++ l) (sym (none_left rest none)) ∙ e in
    record {
      old = old;
      found = over.Leaves at cause;
      ends = inr (inl (record {
        at = at;
        is = refl;
        holds = ready.holds;
        talking =
            subst (λ (l : List Request). IsTalking l old.answers at) all ready.talking;
      }));
      said = subst (λ (l : List Request). AreSaid (RefusalSaid says l) old.answers) all ready.said;
      left_by = leaves (reading_said says at cause reading);
    }

-- the last that was taken is given up
pub ends_given_up : (says : Says) (base : Option (List ℕ)) (taken rest sent : List Request) (cause : LeaveCause) (seat : SeatState) (old new : OutputState)
    (left : LeftSession)
    → taken ++ rest ≡ sent → IsGivenUpIn says base taken old seat → IsReadingEnd cause
    → (OverSaid says (over.GivenUp seat cause) → LeftBy says old (over.GivenUp seat cause) new left) → IsEnding says base sent cause new left
ends_given_up says base taken rest sent cause seat old new left e lost reading leaves = record {
  old = old;
  found = over.GivenUp seat cause;
  ends = inr (inr (record { taken = taken; later = rest; seat = seat; sent_are = sym e; found_is = refl; is = lost.is }));
  said = subst (λ (l : List Request). AreSaid (RefusalSaid says l) old.answers) e (wider says taken rest old.answers lost.said);
  left_by = leaves (lost.end_said, reading);
}

-- it was left before
pub ends_early : (says : Says) (was_shut : IsShut) (base : Option (List ℕ)) (taken rest sent : List Request) (cause : LeaveCause) (o : OutputState)
    (left : LeftSession)
    → taken ++ rest ≡ sent → HasLeft says was_shut base taken o left → IsEnding says base sent cause o left
ends_early says was_shut base taken rest sent cause o left e h = record {
  old = h.old;
  found = h.found;
  ends = inl (record { taken = taken; later = rest; sent_are = sym e; is = h.over.is });
  said = subst (λ (l : List Request). AreSaid (RefusalSaid says l) h.old.answers) e (wider says taken rest h.old.answers h.over.said);
  left_by = h.left_by;
}

-- a desk has where its session stands
pub there : (front : List Record) (says : List Record → Says) (was_shut : IsShut) (base : Option (List ℕ)) (taken : List Request) (o : OutputState)
    (place : Option Standing)
    → StandsThere front says was_shut base taken o place → place ≡ None → ⊥
there front says was_shut base taken o None stands is = stands
there front says was_shut base taken o (Some standing) stands is = absurd cc
