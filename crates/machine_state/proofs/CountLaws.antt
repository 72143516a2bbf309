use Rattle.std.proofs.Common.{◌≡◌, ℕ, zero, suc, ◌+◌, ◌*◌, ◌≤◌, ◌<◌, ◌∙◌, Bool, true, not, cond, List, [], ◌∷◌, ◌++◌, Option, None, Some, length, set, refl, ap, sym, false, arith}
use Rattle.std.specs.Prelude.{is_some, ◌==◌}
use Rattle.std.specs.List.{count_by}
use Rattle.std.proofs.lemmas.List.Sums.{sum_by-set, sum_by-append, sum_by-cons}
use Rattle.std.specs.Ordering.{nat_cmp, is_eq, eq_by_cmp}
use Rattle.std.specs.Cmp.Lexicographic.{slice_cmp}
use Rattle.std.specs.FinMap.Entries.{by_order}
use Rattle.std.specs.declared.cmp.Ordering.TheVariants.{Less, Equal, Greater}
use Rattle.call_types.specs.declared.limits.TheConstants.{OPEN_MAX}
use Rattle.slots.specs.Slots.{slot, live, edited}
use Rattle.call_types.specs.Names.{Entries, file_of, with_name, without_name}
use Rattle.posix_model.specs.Counts.{links, refers, refs, refs_of, holds, holders, is_file}
use Rattle.process_table.specs.Processes.{with_entry, table_of}
use Rattle.posix_model.specs.Proved.Whole.{EachThere, StaysOpen}
use Rattle.machine_state.specs.Proved.Types.{Process, Description, Target}
use Rattle.machine_state.specs.Proved.Targets.{file_of_target}
use Rattle.call_types.specs.declared.description.Target.TheVariants as target
use Rattle.machine_state.proofs.SlotLaws.{one, there_below}

-- what one entry of a table adds to the references: new count + what stood there = old count + what stands there
pub refs_entry : (ps : List (Option Process)) (p fd : ℕ) (entry : Option ℕ) (d : ℕ) → fd < length (table_of (slot ps p)) →
    refs (edited p (with_entry fd entry) ps) d + one (refers d (slot (table_of (slot ps p)) fd)) ≡ refs ps d + one (refers d entry)
refs_entry [] p fd entry d within = absurd (omega arith)
refs_entry (None ∷ ps) zero fd entry d within = absurd (omega arith)
refs_entry (Some process ∷ ps) zero fd entry d within =
    omega (
      arith,
      sum_by-set (λ x. one (refers d x)) process.table fd entry None within,
      sum_by-cons (refs_of d) (Some process) ps,
      sum_by-cons (refs_of d) (Some (with_entry fd entry process)) ps,
    )
refs_entry (x ∷ ps) (suc p) fd entry d within =
    omega (arith, refs_entry ps p fd entry d within, sum_by-cons (refs_of d) x ps, sum_by-cons (refs_of d) x (edited p (with_entry fd entry) ps))

-- what the descriptors of a new process add to the references
pub refs_added : (ps : List (Option Process)) (process : Process) (d : ℕ) → refs (ps ++ Some process ∷ []) d ≡ refs ps d + count_by (refers d) process.table
refs_added ps process d = omega (arith, sum_by-append (refs_of d) ps (Some process ∷ []))

-- what a process does without its descriptors is no matter to the references
pub refs_same : (ps : List (Option Process)) (p : ℕ) (f : Process → Process) (d : ℕ) → ((x : Process) → (f x).table ≡ x.table) →
    refs (edited p f ps) d ≡ refs ps d
refs_same [] p f d same = refl
refs_same (None ∷ ps) zero f d same = refl
refs_same (Some x ∷ ps) zero f d same =
    let alike : refs_of d (Some (f x)) ≡ refs_of d (Some x) = ap (λ table. count_by (refers d) table) (same x) in
    omega (arith, alike, sum_by-cons (refs_of d) (Some x) ps, sum_by-cons (refs_of d) (Some (f x)) ps)
refs_same (x ∷ ps) (suc p) f d same = omega (arith, refs_same ps p f d same, sum_by-cons (refs_of d) x ps, sum_by-cons (refs_of d) x (edited p f ps))

-- and neither is a process that goes and has none
pub refs_without : (ps : List (Option Process)) (p d : ℕ) → refs_of d (slot ps p) ≡ 0 → refs (set ps p None) d ≡ refs ps d
refs_without [] p d bare = refl
refs_without (x ∷ ps) zero d bare = omega (arith, bare, sum_by-cons (refs_of d) x ps, sum_by-cons (refs_of d) None ps)
refs_without (x ∷ ps) (suc p) d bare = omega (arith, refs_without ps p d bare, sum_by-cons (refs_of d) x ps, sum_by-cons (refs_of d) x (set ps p None))

-- a count is at most how many there are
pub count_most : {X : Type 0} (p : X → Bool) (xs : List X) → count_by p xs ≤ length xs
count_most p [] = omega arith
count_most p (x ∷ xs) = omega (arith, count_most p xs, sum_by-cons (λ x. one (p x)) x xs, at_most_one (p x))
  where
    at_most_one : (b : Bool) → one b ≤ 1
    at_most_one true = omega arith
    at_most_one false = omega arith

-- no description has more references than there are descriptors
pub refs_most : (ps : List (Option Process)) (d : ℕ) → EachThere (λ process. length process.table ≡ OPEN_MAX) ps → refs ps d ≤ 32 * live ps
refs_most [] d tables = omega arith
refs_most (None ∷ ps) d tables =
    let rest = refs_most ps d (λ n x is. tables (suc n) x is) in
    omega (arith, rest, sum_by-cons (refs_of d) None ps, sum_by-cons (λ (x : Option Process). one (is_some x)) None ps)
refs_most (Some process ∷ ps) d tables =
    let rest = refs_most ps d (λ n x is. tables (suc n) x is) in
    let all : length process.table ≡ 32 = tables 0 process refl in
    omega (
      arith,
      rest,
      all,
      count_most (refers d) process.table,
      sum_by-cons (refs_of d) (Some process) ps,
      sum_by-cons (λ (x : Option Process). one (is_some x)) (Some process) ps,
    )

-- no file has more holders than there are live descriptions
pub holders_most : (ds : List (Option Description)) (f : ℕ) → holders ds f ≤ live ds
holders_most [] f = omega arith
holders_most (x ∷ ds) f = omega (
  arith,
  holders_most ds f,
  sum_by-cons (λ x. one (holds f x)) x ds,
  sum_by-cons (λ (x : Option Description). one (is_some x)) x ds,
  here x,
)
  where
    at_most_one : (b : Bool) → one b ≤ 1
    at_most_one true = omega arith
    at_most_one false = omega arith

    here : (x : Option Description) → one (holds f x) ≤ one (is_some x)
    here None = omega arith
    here (Some d) = at_most_one (is_file f d.target)

-- a target is the file that it holds
pub refers_target : (f : ℕ) (t : Target) → refers f (file_of_target t) ≡ is_file f t
refers_target f (target.Regular file) = refl
refers_target f other = refl

-- a count of descriptions, where one goes, is added or moves
module _ (t : Option Description → Bool) (none : t None ≡ false) where
  nothing : one (t None) ≡ 0
  nothing = ap one none

  pub count_gone : (ds : List (Option Description)) (n : ℕ) (d : Description) → slot ds n ≡ Some d → count_by t (set ds n None) + one (t (Some d))
      ≡ count_by t ds
  count_gone ds n d is =
      let was : one (t (slot ds n)) ≡ one (t (Some d)) = ap (λ x. one (t x)) is in
      omega (arith, nothing, was, sum_by-set (λ x. one (t x)) ds n None None (there_below ds n (ap is_some is)))

  pub count_added : (ds : List (Option Description)) (d : Description) → count_by t (ds ++ Some d ∷ []) ≡ count_by t ds + one (t (Some d))
  count_added ds d = omega (arith, sum_by-append (λ x. one (t x)) ds (Some d ∷ []))

  pub count_edited : (ds : List (Option Description)) (n : ℕ) (f : Description → Description) → ((d : Description) → t (Some (f d)) ≡ t (Some d)) →
      count_by t (edited n f ds) ≡ count_by t ds
  count_edited [] n f same = refl
  count_edited (None ∷ ds) zero f same = refl
  count_edited (Some d ∷ ds) zero f same =
      let as_was : one (t (Some (f d))) ≡ one (t (Some d)) = ap one (same d) in
      omega (arith, as_was, sum_by-cons (λ x. one (t x)) (Some d) ds, sum_by-cons (λ x. one (t x)) (Some (f d)) ds)
  count_edited (x ∷ ds) (suc n) f same = omega (
    arith,
    count_edited ds n f same,
    sum_by-cons (λ x. one (t x)) x ds,
    sum_by-cons (λ x. one (t x)) x (edited n f ds),
  )

  pub count_live : (ds : List (Option Description)) → count_by t ds ≤ live ds
  count_live [] = omega arith
  count_live (x ∷ ds) = omega (arith, count_live ds, sum_by-cons (λ x. one (t x)) x ds, sum_by-cons (λ (x : Option Description). one (is_some x)) x ds, here x)
    where
      at_most_one : (b : Bool) → one b ≤ 1
      at_most_one true = omega arith
      at_most_one false = omega arith

      here : (x : Option Description) → one (t x) ≤ one (is_some x)
      here None = omega (arith, nothing)
      here (Some d) = at_most_one (t (Some d))

  pub count_there : (ds : List (Option Description)) (n : ℕ) (d : Description) → slot ds n ≡ Some d → t (Some d) ≡ true → 0 < count_by t ds
  count_there ds n d is counts =
      let once : one (t (Some d)) ≡ 1 = ap one counts in
      omega (arith, once, count_gone ds n d is)

-- what a description that goes takes from the holders of a file
pub holders_gone : (ds : List (Option Description)) (n : ℕ) (d : Description) (f : ℕ) → slot ds n ≡ Some d →
    holders (set ds n None) f + one (refers f (file_of_target d.target)) ≡ holders ds f
holders_gone ds n d f is =
    let was : one (holds f (slot ds n)) ≡ one (refers f (file_of_target d.target)) = ap (λ x. one (holds f x)) is ∙ ap one (sym (refers_target f d.target)) in
    omega (arith, was, sum_by-set (λ x. one (holds f x)) ds n None None (there_below ds n (ap is_some is)))

-- what a new description adds to the holders of a file
pub holders_added : (ds : List (Option Description)) (d : Description) (f : ℕ) → holders (ds ++ Some d ∷ []) f ≡ holders ds f + one
    (refers f (file_of_target d.target))
holders_added ds d f =
    let same : one (holds f (Some d)) ≡ one (refers f (file_of_target d.target)) = ap one (sym (refers_target f d.target)) in
    omega (arith, same, sum_by-append (λ x. one (holds f x)) ds (Some d ∷ []))

-- an offset and flags are no matter to the holders of a file
pub holders_same : (ds : List (Option Description)) (n : ℕ) (edit : Description → Description) → StaysOpen edit → (f : ℕ) →
    holders (edited n edit ds) f ≡ holders ds f
holders_same ds n edit stays f = count_edited (holds f) refl ds n edit (λ d. ap (is_file f) (stays.target d))

-- what a new name adds to the links of a file
pub links_added : (name : List ℕ) (file f : ℕ) (es : Entries) → file_of name es ≡ None → links (with_name name file es) f ≡ links es f + one (file == f)
links_added name file f [] new = refl
links_added name file f (e ∷ es) new =
    elim (slice_cmp nat_cmp name e.0) as (λ o. cond (is_eq o) (Some e.1) (file_of name es) ≡ None →
    links (by_order o ((name, file) ∷ e ∷ es) ((e.0, file) ∷ es) (e ∷ with_name name file es)) f ≡ links (e ∷ es) f + one (file == f)) [
      | Less ↦ λ _. omega (arith, sum_by-cons (λ x. one (x.1 == f)) (name, file) (e ∷ es))
      | Equal ↦ λ there. cc
      | Greater ↦ λ after. omega (
        arith,
        links_added name file f es after,
        sum_by-cons (λ x. one (x.1 == f)) e es,
        sum_by-cons (λ x. one (x.1 == f)) e (with_name name file es),
      )
    ] new

-- a new name makes the names one longer
pub names_longer : (name : List ℕ) (file : ℕ) (es : Entries) → file_of name es ≡ None → length (with_name name file es) ≡ length es + 1
names_longer name file [] new = refl
names_longer name file (e ∷ es) new =
    elim (slice_cmp nat_cmp name e.0) as (λ o. cond (is_eq o) (Some e.1) (file_of name es) ≡ None →
    length (by_order o ((name, file) ∷ e ∷ es) ((e.0, file) ∷ es) (e ∷ with_name name file es)) ≡ length (e ∷ es) + 1) [
      | Less ↦ λ _. omega arith
      | Equal ↦ λ there. cc
      | Greater ↦ λ after. omega (arith, names_longer name file es after)
    ] new

-- without a name there are no more
pub names_shorter : (name : List ℕ) (es : Entries) → length (without_name name es) ≤ length es
names_shorter name [] = omega arith
names_shorter name (e ∷ es) =
    let rest = names_shorter name es in
    elim (not (eq_by_cmp (slice_cmp nat_cmp) name e.0)) as (λ b. length (cond b (e ∷ without_name name es) (without_name name es)) ≤ length (e ∷ es)) [
      | true ↦ omega (arith, rest)
      | false ↦ omega (arith, rest)
    ]

-- how many are live after one is set, added or edited
pub live_set : {T : Type 0} (xs : List (Option T)) (n : ℕ) (x : T) (y : Option T) → slot xs n ≡ Some x → live (set xs n y) + 1 ≡ live xs + one (is_some y)
live_set {T} xs n x y is =
    let was : one (is_some (slot xs n)) ≡ 1 = ap (λ x. one (is_some x)) is in
    omega (arith, was, sum_by-set (λ (x : Option T). one (is_some x)) xs n y None (there_below xs n (ap is_some is)))

pub live_added : {T : Type 0} (xs : List (Option T)) (x : T) → live (xs ++ Some x ∷ []) ≡ live xs + 1
live_added {T} xs x = omega (arith, sum_by-append (λ (x : Option T). one (is_some x)) xs (Some x ∷ []))

pub live_edited : {T : Type 0} (xs : List (Option T)) (n : ℕ) (f : T → T) → live (edited n f xs) ≡ live xs
live_edited [] n f = refl
live_edited {T} (None ∷ xs) zero f = refl
live_edited {T} (Some x ∷ xs) zero f = omega (
  arith,
  sum_by-cons (λ (x : Option T). one (is_some x)) (Some x) xs,
  sum_by-cons (λ (x : Option T). one (is_some x)) (Some (f x)) xs,
)
live_edited {T} (x ∷ xs) (suc n) f = omega (
  arith,
  live_edited xs n f,
  sum_by-cons (λ (x : Option T). one (is_some x)) x xs,
  sum_by-cons (λ (x : Option T). one (is_some x)) x (edited n f xs),
)

pub live_without : {T : Type 0} (xs : List (Option T)) (n : ℕ) → live (set xs n None) ≤ live xs
live_without [] n = omega arith
live_without {T} (x ∷ xs) zero =
    let none : Option T = None in
    omega (arith, sum_by-cons (λ (x : Option T). one (is_some x)) x xs, sum_by-cons (λ (x : Option T). one (is_some x)) none xs)
live_without {T} (x ∷ xs) (suc n) =
    let none : Option T = None in
    omega (arith, live_without xs n, sum_by-cons (λ (x : Option T). one (is_some x)) x xs, sum_by-cons (λ (x : Option T). one (is_some x)) x (set xs n none))
