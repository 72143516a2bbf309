use Rattle.std.proofs.Common.{List, ℕ, sym, rules, of_calls}
use Rattle.std.proofs.lemmas.Fn.{always_returns_same}
use Rattle.std.specs.Ordering.{nat_cmp, is_gt}
use Rattle.std.specs.Cmp.Lexicographic.{slice_cmp}
use Rattle.name_table.specs.Proved.Places.{IsNamed}
use Rattle.name_table.proofs.NameLaws.{partitioned, prefix_parted}
use Rattle.name_table.proofs.NameTable.rank_of.Goals as goal

pub returns-clause-rank : goal.returns-clause-rank
returns-clause-rank c =
    let name = c.args.name.now in
    let facts = c.partition_point.ensures in
    let named : IsNamed c.deref.result.now = rw c.deref.ensures.value c.self.invariant in
    let by_name = facts.partitioned (λ e. is_gt (slice_cmp nat_cmp name e.0)) (always_returns_same _ _ _ (λ a r f k. search (rules, of_calls)))
    (partitioned name c.deref.result.now named) in
    rw (← c.self.view_is, ← c.deref.ensures.value) (sym
    (prefix_parted (λ (e : List ℕ × ℕ). is_gt (slice_cmp nat_cmp name e.0)) c.deref.result.now c.partition_point.result facts.bound by_name))
