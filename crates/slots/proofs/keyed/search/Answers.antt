use Rattle.std.proofs.Common.{◌∙◌, refl, ap, inl, inr, arith, length}
use Rattle.slab.proofs.SlabLemmas.{Contains-cons, Contains-cons_cases, Contains-entries}
use Rattle.slots.proofs.KeyLaws.{found_nowhere}
use Rattle.slots.proofs.keyed.search.Goals as goal

pub loop-key-init : goal.loop-key-init
loop-key-init g c =
    let left = c.into_iter-key-iterator.ensures.into_iter_gives ∙ c.iter-key-items.ensures.rest in (
      tt,
      tt,
      λ key entry stands number. rw left ((Contains-entries c.args.entries.now key entry).1 stands),
      λ key entry there. (Contains-entries c.args.entries.now key entry).0 (rw left at there),
    )

pub returns-then-entry-number-clause-there : goal.returns-then-entry-number-clause-there
returns-then-entry-number-clause-there g c =
    let first = c.in-Some.ensures.steps in
    record {
      entry = c.in-Some.entry.now;
      there = c.loop-key.invariant.3 c.in-Some.key c.in-Some.entry.now (rw first (0, omega arith, refl));
      number =
          c.if-entry-number.true;
    }

pub loop-key-preserved : goal.loop-key-preserved
loop-key-preserved g c =
    let first = c.in-Some.ensures.steps in (
      tt,
      tt,
      λ key entry stands number. elim (Contains-cons_cases _ _ _ (rw first at (c.loop-key.invariant.2 key entry stands number))) [
        | inl same ↦ absurd (c.if-entry-number.false (ap (λ e. e.1.number) same ∙ number))
        | inr rest ↦ rest
      ],
      λ key entry there. c.loop-key.invariant.3 key entry (rw first (Contains-cons _ _ _ there)),
    )

pub returns-clause-gone : goal.returns-clause-gone
returns-clause-gone g c =
    let over = c.in-None.ensures.steps.0 in
    found_nowhere c.args.entries.now.slots c.args.number (λ key entry stands number. let left = c.loop-key.invariant.2 key entry stands number in let none =
    ap length over in omega (arith, left.1, none))
