-- What was given back and rung, a piece and a read more.
use Rattle.std.proofs.Common.{◌≡◌, ℕ, None, Some, arith, sym, ◌∙◌, ap}
use Rattle.request_pump.specs.Bells.{BellState, more_by}
use Rattle.request_pump.specs.Proved.Pushing.{AsksAsGivenBack}
use Rattle.request_pump.specs.Proved.Pumping.{IsRung, RingsPiece}
use Rattle.request_pump.specs.Pushes.{PushState, none_back}
use Rattle.request_pump.specs.declared.pumped.PumpEnd.TheVariants as end

-- ---- a piece more

pub given_back : (old new : PushState) (before after : BellState) → AsksAsGivenBack old new before after → new.in_a_row ≡ 2 →
    RingsPiece before after old new (Some end.Ahead)
given_back old new before after asks twice base reads h = record {
  in_a_row = twice;
  rooms = asks.rooms base.rooms h.rooms;
  pieces = asks.pieces ∙ h.pieces ∙
      ap (more_by base.pieces) (omega arith);
}

-- ---- all reads

pub none_rung : (bell : BellState) (pushes : PushState) (moved : ℕ) → pushes ≡ none_back → moved ≡ 0 → IsRung bell bell pushes moved None
none_rung bell pushes moved none unread = record {
  in_a_row = ap (λ (p : PushState). p.in_a_row) none;
  rooms = ap (λ (p : PushState). more_by bell.rooms p.requests) (sym none);
  pieces = ap (more_by bell.pieces) (sym unread);
}
