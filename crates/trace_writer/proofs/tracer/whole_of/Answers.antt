use Rattle.std.proofs.Common.{◌≡◌, ◌∙◌, map, sym, rules, None}
use Rattle.std.specs.Arc.{arc_value}
use Rattle.std.proofs.lemmas.List.{length-map}
use Rattle.trace_writer.proofs.TraceLemmas.{whole_when_all}
use Rattle.trace_writer.proofs.tracer.whole_of.Goals as goal

pub returns-then-is_none : goal.returns-then-is_none
returns-then-is_none c told all =
    let none : c.args.fault ≡ None = search rules in
    sym (whole_when_all told (map arc_value c.args.kept.now) c.args.written (all none) ∙ length-map c.args.kept.now arc_value)
