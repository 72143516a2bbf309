use Rattle.std.proofs.Common.{◌≡◌, ◌+◌, ℕ, List, None, true, length, ap, subst, arith, rules, ◌∙◌}
use Rattle.logged_streams.specs.Streams.{WritesFront}
use Rattle.trace_writer.proofs.TraceLemmas.{writes_few, flushed, broken}
use Rattle.trace_writer.proofs.tracer.Tracer.flush.Goals as goal

pub overflow_add-self : goal.overflow_add-self
overflow_add-self g c =
    let none : c.self.inside.fault ≡ None = search rules in
    let front = subst (λ (l : List ℕ). WritesFront (g.S.Sink.contents c.self.inside.sink) (g.S.Sink.contents c.write_all-count.new.sink) l
    c.write_all-count.result.0) c.as_slice.ensures.value c.write_all-count.ensures.front in
    let few = writes_few _ _ _ _ _ _ _ _ _ _ _ _ _ c.self.invariant none front in omega (arith, few)

pub invariant_of-self : goal.invariant_of-self
invariant_of-self g c =
    let none : c.self.inside.fault ≡ None = search rules in
    let front = subst (λ (l : List ℕ). WritesFront (g.S.Sink.contents c.self.inside.sink) (g.S.Sink.contents c.write_all-count.new.sink) l
    c.write_all-count.result.0) c.as_slice.ensures.value c.write_all-count.ensures.front in
    let failed : g.S.Sink.failures c.write_all-count.new.sink ≡ g.S.Sink.failures c.self.inside.sink + 1 = search rules in
    rw c.clear.ensures.items (broken _ _ _ _ _ _ _ _ _ _ _ _ _ _ _ c.self.invariant none front failed)

pub invariant_of-self-else-is_err : goal.invariant_of-self-else-is_err
invariant_of-self-else-is_err g c =
    let none : c.self.inside.fault ≡ None = search rules in
    let front = subst (λ (l : List ℕ). WritesFront (g.S.Sink.contents c.self.inside.sink) (g.S.Sink.contents c.write_all-count.new.sink) l
    c.write_all-count.result.0) c.as_slice.ensures.value c.write_all-count.ensures.front in
    let whole : (c.write_all-count.result.0 ≡ length c.as_slice.result.now) ×
    (g.S.Sink.failures c.write_all-count.new.sink ≡ g.S.Sink.failures c.self.inside.sink) × (g.S.Sink.is_sound c.write_all-count.new.sink ≡ true) =
    search rules in
    rw c.clear.ensures.items (flushed _ _ _ _ _ _ _ _ _ _ _ _ _ _ _ c.self.invariant none front (whole.0 ∙ ap length c.as_slice.ensures.value) whole.1 whole.2)
