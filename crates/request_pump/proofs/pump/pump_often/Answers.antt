use Rattle.std.proofs.Common.{rules, ◌<◌, ℕ, arith, inr, ap, subst, sym}
use Rattle.logged_streams.specs.Streams.{LogState}
use Rattle.request_pump.proofs.ReadLemmas as laws
use Rattle.request_pump.proofs.RingLemmas as rings
use Rattle.request_pump.proofs.pump.pump_often.Goals as goal

pub loop-turn-init : goal.loop-turn-init
loop-turn-init g c = record {
  room = c.requires.room;
  few = laws.few_first c.args.source.now.log c.requires.unread;
  sound = laws.none_failed_first c.args.source.now.log c.requires.unread;
  calls = ap (λ (log : LogState). log.calls) c.requires.unread;
  ring = search rules;
  pumped = laws.pumped_none _ _ _ c.requires.unfed;
  moved = omega (arith, ap (λ (log : LogState). log.moved) c.requires.unread);
  rung = rings.none_rung _ _ _ c.requires.unpushed (ap (λ (log : LogState). log.moved) c.requires.unread);
}

pub returns-in-Some-clause-pumps : goal.returns-in-Some-clause-pumps
returns-in-Some-clause-pumps g c = laws.pumped_all _ _ _ _ _ _ _ _ _ _ c.loop-turn.invariant.pumped c.in-Some.ensures.pumps

pub loop-turn-preserved : goal.loop-turn-preserved
loop-turn-preserved g c = record {
  room = subst (λ (n : ℕ). 0 < n) (sym c.pump_on.ensures.long) c.loop-turn.invariant.room;
  few = c.in-None.ensures.pumps.may.0;
  sound = c.in-None.ensures.pumps.may.1;
  calls = laws.counted_more _ c.loop-turn._turn _ (omega arith) c.loop-turn.invariant.calls c.in-None.ensures.pumps.calls;
  ring = search rules;
  pumped = laws.pumped_more _ _ _ _ _ _ _ _ _ c.loop-turn.invariant.pumped c.in-None.ensures.pumps;
  moved = omega (arith, c.loop-turn.invariant.moved, c.in-None.ensures.rings.few);
  rung = c.in-None.ensures.rings.rings _ c.loop-turn.invariant.rung;
}

pub returns-clause-pumps : goal.returns-clause-pumps
returns-clause-pumps g c = laws.pumped_enough c.cuts_do_not_matter.ensures.requests _ _ _ _ _ _ c.loop-turn.invariant.pumped
    (inr (omega (arith, c.loop-turn.invariant.calls)))
