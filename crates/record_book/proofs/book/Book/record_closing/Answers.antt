use Rattle.std.proofs.Common.{◌≡◌, ◌∙◌, Some, refl, ap, sym}
use Rattle.byte_ledger.specs.declared.tallies.Sums.{Sums}
use Rattle.record_book.specs.RunState.{RunState}
use Rattle.record_book.proofs.CountLemmas.{counts_closing, house_counts}
use Rattle.record_book.proofs.OwnLemmas.{own_quiet}
use Rattle.record_book.proofs.book.Book.record_closing.Goals as goal

pub invariant_of-self : goal.invariant_of-self
invariant_of-self g c =
    let has : c.self.inside.house ≡ Some c.in-Some.shares = sym c.take.ensures.value ∙ c.in-Some.is in
    rw c.take.ensures.after
    (counts_closing c.self.inside.journal c.append_closing-receipts.new.self c.self.inside.tallies c.count.new.self c.in-Some.shares
    c.append_closing-receipts.result.items (rw has at c.self.invariant)
    c.append_closing-receipts.ensures.shut c.count.ensures.tallies)

pub returns : goal.returns
returns g c =
    let has : c.self.inside.house ≡ Some c.in-Some.shares = sym c.take.ensures.value ∙ c.in-Some.is in
    let shut = c.append_closing-receipts.ensures.shut in
    rw (← c.self.view_is) (record {
      limits = shut.limits;
      is_traced = shut.is_traced;
      history = shut.history;
      pid = refl;
      seen = ap (λ (x : Sums). x.records) (c.sums.ensures ∙ ap (λ (s : RunState). s.counts) c.progress.ensures);
      receipts = shut.receipts_are;
      counts = house_counts c.self.inside.journal c.append_closing-receipts.new.self c.in-Some.shares c.count.new.shares c.append_closing-receipts.result.items
          c.self.inside.tallies (rw has at c.self.invariant) shut
          c.count.ensures.shares;
      given_away = shut.given_away;
    })

-- the seat of the house counts its receipts
pub invariant_of-result : goal.invariant_of-result
invariant_of-result g c =
    let has : c.self.inside.house ≡ Some c.in-Some.shares = sym c.take.ensures.value ∙ c.in-Some.is in
    let receipts = c.append_closing-receipts.result.items in
    let counts = house_counts c.self.inside.journal c.append_closing-receipts.new.self c.in-Some.shares c.count.new.shares receipts c.self.inside.tallies
    (rw has at c.self.invariant) c.append_closing-receipts.ensures.shut
    c.count.ensures.shares in
    own_quiet receipts c.count.new.shares counts c.append_closing-receipts.ensures.quiet
