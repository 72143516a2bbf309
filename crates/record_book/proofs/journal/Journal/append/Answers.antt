use Rattle.std.proofs.Common.{◌≡◌, ◌+◌, ◌∙◌, cond, None, Some, refl, sym, ap, subst, arith, length}
use Rattle.std.specs.Arc.{arc_value}
use Rattle.std.specs.Option.{option_map}
use Rattle.call_types.specs.declared.act.Record.{Record}
use Rattle.slots.specs.Slots.{live}
use Rattle.posix_model.specs.Step.{given, stepped}
use Rattle.posix_model.specs.Proved.Sound.{ended_by, adds, ended, closes}
use Rattle.record_book.specs.RunState.{RunState}
use Rattle.record_book.specs.Book.{run_of}
use Rattle.record_book.specs.Exits.{closing_record}
use Rattle.record_book.specs.Proved.Planned.{IsPlanned}
use Rattle.record_book.specs.Proved.Prepared.{prepared_for}
use Rattle.record_book.proofs.GrowLemmas.{journal_grows, journal_stays, closed_same}
use Rattle.record_book.proofs.ExitLemmas.{exits_changed, prepared_count, house_grows}
use Rattle.record_book.proofs.journal.Journal.append.Goals as goal

pub shared_at-requires : goal.shared_at-requires
shared_at-requires c =
    let s = run_of c.args.self.now in
    let planned = c.requires.planned in
    let a = c.args.act in
    record {
      short =
          c.records_are_short.ensures s.limits.bounds s.world c.args.actor a (stepped s.world (given a) c.args.decided) planned.whole
          (ap (option_map (stepped s.world (given a))) planned.comes_to_is) c.act_is_short.ensures;
    }

pub append-requires : goal.append-requires
append-requires c =
    let planned = subst (λ (s : RunState). IsPlanned s c.args.actor c.args.act c.args.decided) (sym c.self.invariant.run)
    (rw (← c.self.view_is) at c.requires.planned) in
    record { planned = rw (c.deref.ensures, c.in_ok-made.ensures.item) planned }

pub invariant_of-self-2 : goal.invariant_of-self-2
invariant_of-self-2 c =
    let b = c.self.inside in
    let w = b.progress.world in
    let d = c.args.decided in
    let r : Record = record { actor = c.args.actor; act = c.args.act; outcome = d.outcome } in
    let planned : IsPlanned b.progress r.actor r.act d =
    subst (λ (s : RunState). IsPlanned s r.actor r.act d) (sym c.self.invariant.run) (rw (← c.self.view_is) at c.requires.planned) in
    let item_is : arc_value c.in_ok-made.made.item ≡ r = c.in_ok-made.ensures.item in
    let next = (stepped w (given r.act) d).world in
    let none : ended_by d.change.process ≡ 0 = planned.told.ended ∙ c.requires.ends in
    let prepared_is : c.in_ok-prepared.prepared ≡ prepared_for (length w.processes) d.change.process = c.in_ok-prepared.ensures.prepared in
    journal_grows b _ r d c.self.invariant (record {
      planned = planned;
      outcome = refl;
      records = rw item_is at c.push.ensures;
      progress = rw (c.deref.ensures, item_is) at c.in_ok-moved.ensures.grows;
      exits = rw (c.keep_exit.ensures, prepared_is, c.in_ok-prepared.ensures.exits, c.self.invariant.exits)
          (sym (exits_changed w (given r.act) d.change none));
      closing =
          c.in_ok-prepared.ensures.house.closing ∙ c.self.invariant.closing ∙
          ap (λ b. cond b None (Some closing_record)) (sym (closed_same w next (ended r.act) (adds w r.act) (closes r.act) planned.counts c.requires.closes));
      house =
          let grown = house_grows b.house _ (live w.processes) (adds w r.act) c.in_ok-prepared.prepared c.in_ok-prepared.ensures.house c.self.invariant.house
          c.in_ok-prepared.ensures.house_room (sym planned.told.planned ∙
          rw prepared_is (prepared_count (length w.processes) d.change.process)) in
          let living : live next.processes ≡ live w.processes + adds w r.act = omega (arith, planned.counts.living, c.requires.ends) in
          rw living grown;
    })

pub invariant_of-self : goal.invariant_of-self
invariant_of-self c = journal_stays c.self.inside _ c.self.invariant (record {
  progress = refl;
  history = refl;
  exits = c.prepare_exit.ensures.exits;
  house = c.prepare_exit.ensures.house;
})

pub invariant_of-self-in_err-moved : goal.invariant_of-self-in_err-moved
invariant_of-self-in_err-moved c = journal_stays c.self.inside _ c.self.invariant (record {
  progress = c.in_err-moved.ensures.err;
  history = refl;
  exits = c.in_ok-prepared.ensures.exits;
  house = c.in_ok-prepared.ensures.house;
})
