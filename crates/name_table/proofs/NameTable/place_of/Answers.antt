use Rattle.std.proofs.Common.{◌≡◌, ◌∙◌, List, ℕ, false, length, get_or, rules, arith, subst}
use Rattle.std.specs.Ordering.{nat_cmp, is_eq}
use Rattle.std.specs.Cmp.Lexicographic.{slice_cmp}
use Rattle.name_table.specs.Proved.Places.{rank_of}
use Rattle.name_table.proofs.NameLaws.{place_missing, one_default}
use Rattle.name_table.proofs.NameTable.place_of.Goals as goal

pub returns-then-rank-len : goal.returns-then-rank-len
returns-then-rank-len c =
    let name = c.args.name.now in
    let es = c.self.inside.entries.items in
    let rank : c.rank_of-rank.result ≡ rank_of name es = search rules in
    let end : c.rank_of-rank.result ≡ length es = search rules in
    rw (← c.self.view_is) (place_missing name es c.self.invariant (λ d within. absurd (omega (arith, rank, end, within))))

pub returns-else-is_name_of : goal.returns-else-is_name_of
returns-else-is_name_of c =
    let name = c.args.name.now in
    let es = c.self.inside.entries.items in
    let rank : c.rank_of-rank.result ≡ rank_of name es = search rules in
    let entry = c.index.result.now in
    let untied : is_eq (slice_cmp nat_cmp name entry.0) ≡ false = search rules in
    let at : entry ≡ get_or es (rank_of name es) entry = subst (λ r. entry ≡ get_or es r entry) rank c.index.ensures in
    rw (← c.self.view_is) (place_missing name es c.self.invariant (λ d within.
    subst (λ (e : List ℕ × ℕ). is_eq (slice_cmp nat_cmp name e.0) ≡ false) (at ∙ one_default es (rank_of name es) entry d within) untied))
