use Rattle.std.proofs.Common.{◌≡◌, ◌∙◌, sym, ap, drop, take, List, ℕ}
use Rattle.std.proofs.lemmas.List.{take-append-drop}
use Rattle.std.specs.Cmp.Lexicographic.{same_text}
use Rattle.trace_writer.proofs.MigrationLemmas.{header_taken, not_false}
use Rattle.trace_writer.proofs.migration.after_header.Goals as goal

pub returns-clause-takes : goal.returns-clause-takes
returns-clause-takes c =
    let same : c.split_at-2.result.0.now ≡ take c.min-count.result c.split_at.result.1.now =
    same_text _ _ (sym (not_false _ (sym c.ne.ensures ∙ c.if-ne.false))) in
    header_taken c.args.met c.min-count.result c.args.piece.now c.split_at.result.1.now c.split_at-2.result.0.now c.split_at-2.result.1.now c.requires
    (c.split_at.ensures.back ∙ ap (λ (x : List ℕ). drop c.args.met x) c.as_slice.ensures) c.min-count.ensures
    (rw (c.split_at-2.ensures.front, c.split_at-2.ensures.back) (sym (take-append-drop c.min-count.result c.args.piece.now)))
    c.split_at-2.ensures.front_len same
