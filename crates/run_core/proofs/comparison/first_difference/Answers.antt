use Rattle.std.proofs.Common.{◌≤◌, ◌≡◌, map, length, Option, IfSome, arith, rules, inl, inr, subst, sym}
use Rattle.std.specs.Arc.{arc_value}
use Rattle.std.proofs.lemmas.Bool.{cases_lt}
use Rattle.std.proofs.lemmas.List.{length-map}
use Rattle.std.proofs.lemmas.Option.{slice_get_past}
use Rattle.call_types.specs.declared.act.Record.{Record}
use Rattle.run_core.specs.Judged.{FlagsDecide}
use Rattle.run_core.proofs.ReceiptLemmas.{received_past}
use Rattle.run_core.proofs.comparison.first_difference.Goals as goal

-- no place so far differs, and both lists have ended
pub returns-clause-same : goal.returns-clause-same
returns-clause-same g c = λ p below.
    let most : (c.counts-records.result.records ≤ c.max-place-end.result) × (length c.args.received.now ≤ c.max-place-end.result) = search rules in
    let long : length (map arc_value c.args.received.now) ≡ length c.args.received.now = length-map c.args.received.now arc_value in
    elim (cases_lt p c.max-place-end.result) [
      | inl before ↦ c.loop-place.invariant.0 p (omega (arith, before))
      | inr past ↦ received_past _ _ _ c.max-place-end.result p c.counts-records.ensures.records most.0 (rw long most.1) past
    ]

pub returns-clause-decided : goal.returns-clause-decided
returns-clause-decided g c = λ p below.
    let most : length c.args.received.now ≤ c.max-place-end.result = search rules in
    let long : length (map arc_value c.args.received.now) ≡ length c.args.received.now = length-map c.args.received.now arc_value in
    elim (cases_lt p c.max-place-end.result) [
      | inl before ↦ c.loop-place.invariant.1 p (omega (arith, before))
      | inr past ↦ subst (λ (o : Option Record). IfSome o FlagsDecide)
          (sym (slice_get_past (map arc_value c.args.received.now) p (omega (arith, long, most, past)))) tt
    ]
