-- A pump that is over.
use Rattle.std.proofs.Common.{◌≡◌, ℕ, ◌≤◌, List, [], Option, Some, arith, refl, sym, ◌∙◌, ap, subst}
use Rattle.std.proofs.lemmas.List.{append-nil}
use Rattle.std.proofs.KnownBytes.{Consumes-nil}
use Rattle.rtrb.specs.Ring.{sent, producer_capacity, SameProducer}
use Rattle.logged_streams.specs.Streams.{LoggedReaderState, fresh_log}
use Rattle.logged_streams.specs.declared.stream_log.TheConstants.{INTERRUPTIONS_MAX}
use Rattle.request_pump.specs.Bells.{BellState}
use Rattle.request_pump.specs.Pump.{PushingEnd, PushedBy, PumpedState, Pumps, Rings}
use Rattle.request_pump.specs.Proved.Pumping.{PumpsAll, IsRung}
use Rattle.request_pump.specs.Pushes.{PushState, none_back}
use Rattle.request_pump.specs.declared.pump.TheConstants.{READS_MAX}
use Rattle.request_pump.specs.declared.pumped.PumpEnd.{PumpEnd}
use Rattle.request_pump.specs.declared.pumped.PumpEnd.TheVariants as end

-- what a pump has come to
abbrev pub over : LoggedReaderState → PushingEnd → PushState → PumpEnd → BellState → PumpedState
over reader producer pushes found rings = record { pump = record { reader = reader; producer = producer; pushes = pushes; end_is = found }; rings = rings }

all_pumped : (first after : PushingEnd) (from to : LoggedReaderState) (pushes : PushState) (found : PumpEnd) (before bell : BellState) →
    SameProducer first after → PumpsAll (producer_capacity after) from to (sent first) (sent after) found
    → IsRung before bell pushes to.log.moved (Some found) → to.log.calls ≤ READS_MAX → to.log.interruptions ≤ INTERRUPTIONS_MAX →
    Pumps from.remaining first (record { reader = to; producer = after; pushes = pushes; end_is = found })
all_pumped first after from to pushes found before bell same h rung calls few = record {
  input = h.input;
  consumes = h.consumes;
  few_reads = calls;
  few_interrupted = few;
  met = h.met;
  pushed = subst (λ (capacity : ℕ). PushedBy capacity h.input (sent first) (sent after) found) same.1 h.pushed;
  given_back = rung.in_a_row;
}

pub pumps : (base : Option (List ℕ)) (ring first after : PushingEnd) (from to : LoggedReaderState) (pushes : PushState) (found : PumpEnd)
    (before bell : BellState) (s : PumpedState) → from.remaining ≡ base → first ≡ ring → SameProducer first after
    → PumpsAll (producer_capacity after) from to (sent first) (sent after) found → IsRung before bell pushes to.log.moved (Some found) →
    to.log.calls ≤ READS_MAX → to.log.interruptions ≤ INTERRUPTIONS_MAX → s ≡ over to after pushes found bell → Pumps base ring s.pump
pumps base ring first after from to pushes found before bell s e f same h rung calls few is =
    subst (λ (p : PumpedState). Pumps base ring p.pump) (sym is)
    (subst (λ (b : Option (List ℕ)). Pumps b ring (over to after pushes found bell).pump) e
    (subst (λ (r : PushingEnd). Pumps from.remaining r (over to after pushes found bell).pump) f
    (all_pumped first after from to pushes found before bell same h rung calls few)))

pub rings : (base before bell : BellState) (to : LoggedReaderState) (after : PushingEnd) (pushes : PushState) (found : PumpEnd) (s : PumpedState) →
    before ≡ base → IsRung before bell pushes to.log.moved (Some found) → s ≡ over to after pushes found bell
    → Rings base s.rings s.pump
rings base before bell to after pushes found s e rung is =
    subst (λ (p : PumpedState). Rings base p.rings p.pump) (sym is)
    (subst (λ (b : BellState). Rings b bell (over to after pushes found bell).pump) e (record { rooms = rung.rooms; pieces = rung.pieces }))

unread_pumps : (base : Option (List ℕ)) (ring : PushingEnd) →
    Pumps base ring (record { reader = record { remaining = base; log = fresh_log }; producer = ring; pushes = none_back; end_is = end.NoMemory })
unread_pumps base ring = record {
  input = [];
  consumes = Consumes-nil base;
  few_reads = omega arith;
  few_interrupted = omega arith;
  met = refl;
  pushed = record { requests = []; begins = record { text = []; rest = []; is = refl; frames = refl }; is = sym (append-nil (sent ring)) };
  given_back = refl;
}

-- nothing was read
pub unread : (base : Option (List ℕ)) (ring first : PushingEnd) (from : LoggedReaderState) (pushes : PushState) (bell : BellState) (s : PumpedState) →
    from ≡ record { remaining = base; log = fresh_log } → first ≡ ring → pushes ≡ none_back
    → s ≡ over from first pushes end.NoMemory bell → Pumps base ring s.pump
unread base ring first from pushes bell s e f none is =
    let same : (over from first pushes end.NoMemory bell).pump ≡ record {
      reader = record { remaining = base; log = fresh_log };
      producer = ring;
      pushes =
          none_back;
      end_is = end.NoMemory;
    } =
    ap (λ (r : LoggedReaderState). (over r first pushes end.NoMemory bell).pump) e
    ∙ ap (λ (r : PushingEnd). (over (record { remaining = base; log = fresh_log }) r pushes end.NoMemory bell).pump) f
    ∙ ap (λ (p : PushState). (over (record { remaining = base; log = fresh_log }) ring p end.NoMemory bell).pump) none
    in subst (Pumps base ring) (sym (ap (λ (p : PumpedState). p.pump) is ∙ same)) (unread_pumps base ring)
