use Rattle.std.proofs.Common.{◌≡◌, ◌<◌, false, length, map, rules}
use Rattle.std.specs.Arc.{arc_value}
use Rattle.std.proofs.lemmas.List.{map-append}
use Rattle.call_types.specs.declared.limits.TheConstants.{RECORDS_MAX}
use Rattle.trace_writer.proofs.TraceLemmas.{writes_kept}
use Rattle.trace_writer.proofs.tracer.Tracer.keep.Goals as goal

pub invariant_of-self-2 : goal.invariant_of-self-2
invariant_of-self-2 g c =
    let whole : c.self.inside.is_torn ≡ false = search rules in
    let few : length (map arc_value c.self.inside.kept.items) < RECORDS_MAX = rw (← c.self.view_is) at c.requires in
    rw (c.push_reserved.ensures.items, c.reserve.ensures.items, map-append)
    (writes_kept _ _ _ _ _ _ _ _ _ _ _ _ _ _ c.self.invariant whole few (rw (← c.deref-told.ensures) c.make_frame-self-inside.ensures))
