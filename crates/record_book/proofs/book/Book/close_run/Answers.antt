use Rattle.std.proofs.Common.{◌≡◌, ◌∙◌, false, [], ◌∷◌, ap, sym}
use Rattle.record_book.specs.RunState.{RunState}
use Rattle.record_book.specs.Book.{world_now}
use Rattle.record_book.specs.Exits.{closing_record}
use Rattle.record_book.proofs.ExitLemmas.{ends_as_one}
use Rattle.record_book.proofs.book.Book.close_run.Goals as goal

pub returns-clause-closes : goal.returns-clause-closes
returns-clause-closes g c =
    let is_it : c.is_closed.result ≡ (world_now c.args.self.now).closed = c.is_closed.ensures ∙ ap (λ (s : RunState). s.world.closed) c.progress.ensures in
    let stays_open : (world_now c.args.self.now).closed ≡ false = sym is_it ∙ c.if-is_closed.false in (
      stays_open,
      ends_as_one c.args.self.now c.end_orphans.new.self c.record_closing-house.new.self (closing_record ∷ []) c.record_closing-house.result
          c.end_orphans.ensures c.record_closing-house.ensures,
    )
