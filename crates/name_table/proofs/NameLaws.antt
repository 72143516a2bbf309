-- Where a name stands among the entries.
use Rattle.std.proofs.Common.{◌≡◌, ◌∙◌, ℕ, zero, suc, ◌+◌, ◌≤◌, ◌<◌, Bool, true, false, cond, not, ◌&&◌, T, List, [], ◌∷◌, None, Some, length, get_or, refl, ap, sym, subst, arith}
use Rattle.std.specs.Prelude.{insert, count_by, ◌==◌}
use Rattle.std.proofs.lemmas.List.Sums.{sum_by-cons}
use Rattle.std.specs.List.{remove, prefix_len}
use Rattle.std.specs.List.Sorted.{IsPartitionedBy, IsPartitionPoint}
use Rattle.std.specs.Ordering.{nat_cmp, is_gt, is_eq, is_lt, eq_by_cmp, ordering_reverse}
use Rattle.std.specs.Cmp.Lexicographic.{slice_cmp}
use Rattle.std.specs.FinMap.Entries.{by_order, below_all, is_sorted, is_sorted-put, is_sorted-where_key}
use Rattle.std.specs.declared.cmp.Ordering.{Ordering}
use Rattle.std.specs.declared.cmp.Ordering.TheVariants.{Less, Equal, Greater}
use Rattle.std.proofs.lemmas.Cmp.{nat_list_cmp_total}
use Rattle.call_types.specs.Names.{Entries, file_of, with_name, without_name}
use Rattle.name_table.specs.Proved.Places.{rank_of, IsNamed}

-- how a name stands to another
abbrev to : List ℕ → List ℕ → Ordering
to = slice_cmp nat_cmp

first : (a b : Bool) → T (a && b) → T a
first true b h = tt
first false b h = h

second : (a b : Bool) → T (a && b) → T b
second true b h = h
second false b h = absurd h

is_less : (o : Ordering) → T (is_lt o) → o ≡ Less
is_less Less h = refl
is_less Equal h = absurd h
is_less Greater h = absurd h

-- within a list no default counts
pub one_default : (es : Entries) (k : ℕ) (d f : List ℕ × ℕ) → k < length es → get_or es k d ≡ get_or es k f
one_default [] k d f within = absurd (omega arith)
one_default (x ∷ xs) zero d f within = refl
one_default (x ∷ xs) (suc k) d f within = one_default xs k d f (omega arith)

-- a list of which no entry stands before a name or at it
abbrev After : List ℕ → Entries → Type 0
After name es = T (below_all to name es)

-- a name that ties with another stands before the same
after_tied : (name other : List ℕ) (es : Entries) → to name other ≡ Equal → After other es → After name es
after_tied name other [] tie h = tt
after_tied name other (e ∷ es) tie h =
    let less = is_less (to other e.0) (first (is_lt (to other e.0)) (below_all to other es) h) in
    rw (nat_list_cmp_total.congr name other e.0 tie ∙ less) (after_tied name other es tie (second (is_lt (to other e.0)) (below_all to other es) h))

-- and one that stands before another before all that this stands before
after_less : (name other : List ℕ) (es : Entries) → to name other ≡ Less → After other es → After name es
after_less name other [] before h = tt
after_less name other (e ∷ es) before h =
    let less = is_less (to other e.0) (first (is_lt (to other e.0)) (below_all to other es) h) in
    rw (nat_list_cmp_total.trans name other e.0 before less) (after_less name other es before (second (is_lt (to other e.0)) (below_all to other es) h))

-- a name before all entries is not there, and taking it away changes nothing
not_after : (name : List ℕ) (es : Entries) → After name es → (file_of name es ≡ None) × (without_name name es ≡ es)
not_after name [] h = (refl, refl)
not_after name (e ∷ es) h =
    let less = is_less (to name e.0) (first (is_lt (to name e.0)) (below_all to name es) h) in
    let rest = not_after name es (second (is_lt (to name e.0)) (below_all to name es) h) in
    (rw less rest.0, rw less (ap (λ l. e ∷ l) rest.1))

-- an entry after the first stands after it
entry_after : (name : List ℕ) (es : Entries) (k : ℕ) (d : List ℕ × ℕ) → After name es → k < length es → to name (get_or es k d).0 ≡ Less
entry_after name [] k d h within = absurd (omega arith)
entry_after name (e ∷ es) zero d h within = is_less (to name e.0) (first (is_lt (to name e.0)) (below_all to name es) h)
entry_after name (e ∷ es) (suc k) d h within = entry_after name es k d (second (is_lt (to name e.0)) (below_all to name es) h) (omega arith)

-- of two names in this order, the later stands after the earlier
turned : (name other : List ℕ) (o : Ordering) → to name other ≡ o → to other name ≡ ordering_reverse o
turned name other o h = nat_list_cmp_total.antisymm other name ∙ ap ordering_reverse h

-- what stands in order without its first
rest_named : (e : List ℕ × ℕ) (es : Entries) → IsNamed (e ∷ es) → After e.0 es × IsNamed es
rest_named e es h = (first (below_all to e.0 es) (is_sorted to es) h, second (below_all to e.0 es) (is_sorted to es) h)

-- a name that stands past an entry is greater
past : (e : List ℕ × ℕ) (es : Entries) (name : List ℕ) (k : ℕ) → IsNamed (e ∷ es) → k < length es → to name (get_or es k e).0 ≡ Equal → to name e.0 ≡ Greater
past e es name k h within tie =
    let other = (get_or es k e).0 in
    nat_list_cmp_total.congr name other e.0 tie ∙ turned e.0 other Less (entry_after e.0 es k e (rest_named e es h).0 within)

-- the names before another stand in front
pub partitioned : (name : List ℕ) (es : Entries) → IsNamed es → IsPartitionedBy (λ e. is_gt (to name e.0)) es
partitioned name [] h i j d le within passes = absurd (omega arith)
partitioned name (e ∷ es) h zero zero d le within passes = passes
partitioned name (e ∷ es) h zero (suc j) d le within passes = earlier (to name (get_or es j d).0) refl passes
  where
    other : List ℕ
    other = (get_or es j d).0

    earlier : (o : Ordering) → to name other ≡ o → is_gt o ≡ true → is_gt (to name e.0) ≡ true
    earlier Less is g = cc
    earlier Equal is g = cc
    earlier Greater is g =
        let later : to e.0 name ≡ Less = nat_list_cmp_total.trans e.0 other name (entry_after e.0 es j d (rest_named e es h).0 (omega (arith, within)))
        (turned name other Greater is) in
        ap is_gt (turned e.0 name Less later)
partitioned name (e ∷ es) h (suc i) zero d le within passes = absurd (omega arith)
partitioned name (e ∷ es) h (suc i) (suc j) d le within passes = partitioned name es (rest_named e es h).1 i j d (omega arith) (omega (arith, within)) passes

-- where a list is parted by a test, so many pass it in front
pub prefix_parted : {X : Type 0} (p : X → Bool) (xs : List X) (i : ℕ) → i ≤ length xs → IsPartitionPoint (λ y. p y ≡ true) (λ y. p y ≡ false) xs i →
    prefix_len p xs ≡ i
prefix_parted p [] i within parted = omega (arith, within)
prefix_parted p (x ∷ xs) zero within parted = let fails : p x ≡ false = parted.1 0 x (omega arith) (omega arith) in rw fails refl
prefix_parted p (x ∷ xs) (suc i) within parted =
    let passes : p x ≡ true = parted.0 0 x (omega arith) (omega arith) in
    let rest : prefix_len p xs ≡ i = prefix_parted p xs i (omega (arith, within)) (
      λ k d low high. parted.0 (suc k) d (omega arith) (omega arith),
      λ k d low high. parted.1 (suc k) d (omega arith) (omega (arith, high)),
    ) in
    rw passes (omega (arith, rest))

-- the entry that a name ties with is the one that is found, and the one that goes
pub place_found : (name : List ℕ) (es : Entries) (at : ℕ) (d : List ℕ × ℕ) → IsNamed es → at < length es → to name (get_or es at d).0 ≡ Equal →
    (file_of name es ≡ Some (get_or es at d).1) × (remove es at ≡ without_name name es)
place_found name [] at d h within tie = absurd (omega arith)
place_found name (e ∷ es) zero d h within tie =
    let rest = not_after name es (after_tied name e.0 es tie (rest_named e es h).0) in
    (rw tie refl, rw tie (sym rest.1))
place_found name (e ∷ es) (suc k) d h within tie =
    let greater = past e es name k h (omega arith) (subst (λ (x : List ℕ × ℕ). to name x.0 ≡ Equal) (one_default es k d e (omega arith)) tie) in
    let rest = place_found name es k d (rest_named e es h).1 (omega arith) tie in
    (rw greater rest.0, rw greater (ap (λ l. e ∷ l) rest.1))

-- a name is not there, and taking it away changes nothing
abbrev pub Missing : List ℕ → Entries → Type 0
Missing name es = (file_of name es ≡ None) × (without_name name es ≡ es)

-- no entry at its rank ties with a name
abbrev pub Untied : List ℕ → Entries → Type 0
Untied name es = (d : List ℕ × ℕ) → rank_of name es < length es → is_eq (to name (get_or es (rank_of name es) d).0) ≡ false

missing : (name : List ℕ) (e : List ℕ × ℕ) (es : Entries) → IsNamed (e ∷ es) → Untied name (e ∷ es) →
    (rank_of name (e ∷ es) ≡ suc (rank_of name es) → Missing name es) →
    (o : Ordering) → to name e.0 ≡ o → Missing name (e ∷ es)
missing name e es h none rest Less is = not_after name (e ∷ es) (rw is (after_less name e.0 es is (rest_named e es h).0))
missing name e es h none rest Equal is =
    let at : rank_of name (e ∷ es) ≡ 0 = rw is refl in
    let no : is_eq (to name e.0) ≡ false = subst (λ r. r < length (e ∷ es) → is_eq (to name (get_or (e ∷ es) r e).0) ≡ false) at (none e) (omega arith) in
    let yes_it_is : is_eq (to name e.0) ≡ true = ap is_eq is in
    cc
missing name e es h none rest Greater is =
    let at : rank_of name (e ∷ es) ≡ 1 + rank_of name es = rw is refl in
    let gone = rest (omega (arith, at)) in
    (rw is gone.0, rw is (ap (λ l. e ∷ l) gone.1))

-- so it is not there
pub place_missing : (name : List ℕ) (es : Entries) → IsNamed es → Untied name es → Missing name es
place_missing name [] h none = (refl, refl)
place_missing name (e ∷ es) h none =
    missing name e es h none
    (λ next. place_missing name es (rest_named e es h).1 (λ d within. subst (λ r. r < length (e ∷ es) → is_eq (to name (get_or (e ∷ es) r d).0) ≡ false) next
    (none d) (omega (arith, within))))
    (to name e.0) refl

-- a new name goes in at its rank
pub inserted_at_rank : (name : List ℕ) (file : ℕ) (es : Entries) → file_of name es ≡ None → insert es (rank_of name es) (name, file) ≡ with_name name file es
inserted_at_rank name file [] new = refl
inserted_at_rank name file (e ∷ es) new =
    elim (to name e.0) as (λ o. cond (is_eq o) (Some e.1) (file_of name es) ≡ None →
    insert (e ∷ es) (cond (is_gt o) (1 + rank_of name es) 0) (name, file) ≡
    by_order o ((name, file) ∷ e ∷ es) ((e.0, file) ∷ es) (e ∷ with_name name file es)) [
      | Less ↦ λ _. refl
      | Equal ↦ λ there. cc
      | Greater ↦ λ after.
          let next : 1 + rank_of name es ≡ suc (rank_of name es) = omega arith in
          rw next (ap (λ l. e ∷ l) (inserted_at_rank name file es after))
    ] new

-- and the names still stand in order
pub added_named : (name : List ℕ) (file : ℕ) (es : Entries) → IsNamed es → file_of name es ≡ None → IsNamed (insert es (rank_of name es) (name, file))
added_named name file es named new = subst IsNamed (sym (inserted_at_rank name file es new)) (is_sorted-put to nat_list_cmp_total name file es named)

-- as they do where a name is taken out
pub removed_named : (name : List ℕ) (es : Entries) → IsNamed es → IsNamed (without_name name es)
removed_named name es named = is_sorted-where_key to (λ other. not (eq_by_cmp to name other)) es named

-- a file has one name less where an entry of it is taken out
pub links_removed : (es : Entries) (at f : ℕ) (d : List ℕ × ℕ) → at < length es → count_by (λ e. e.1 == f) (remove es at) + cond ((get_or es at d).1 == f) 1 0
    ≡ count_by (λ e. e.1 == f) es
links_removed [] at f d within = absurd (omega arith)
links_removed (e ∷ es) zero f d within = omega (arith, sum_by-cons (λ x. cond (x.1 == f) 1 0) e es)
links_removed (e ∷ es) (suc k) f d within =
    omega (arith, links_removed es k f d (omega arith), sum_by-cons (λ x. cond (x.1 == f) 1 0) e es, sum_by-cons (λ x. cond (x.1 == f) 1 0) e (remove es k))
