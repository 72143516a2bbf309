-- Names that are put and taken away, as lists of entries.
use Rattle.std.proofs.Common.{◌≡◌, ◌≢◌, ◌∙◌, ℕ, ◌+◌, ◌≤◌, Bool, true, false, not, cond, List, [], ◌∷◌, None, Some, length, refl, ap, sym, arith}
use Rattle.std.proofs.lemmas.Cmp.{nat_list_cmp_total}
use Rattle.std.specs.FinMap.{slice_cmp-IsAntisymmetric, nat_cmp-IsAntisymmetric}
use Rattle.std.specs.FinMap.Entries.{find-where_key}
use Rattle.std.specs.Option.{is_some}
use Rattle.std.specs.Ordering.{nat_cmp, is_eq, eq_by_cmp, ordering_reverse}
use Rattle.std.specs.declared.cmp.Ordering.{Ordering}
use Rattle.std.specs.declared.cmp.Ordering.TheVariants.{Less, Equal, Greater}
use Rattle.std.specs.Cmp.Lexicographic.{slice_cmp}
use Rattle.call_types.specs.Names.{Entries, file_of, without_name}

-- a value is equal to itself in a total order
pub ties : (name : List ℕ) → eq_by_cmp (slice_cmp nat_cmp) name name ≡ true
ties name = at (slice_cmp nat_cmp name name) (nat_list_cmp_total.antisymm name name)
  where
    at : (o : Ordering) → o ≡ ordering_reverse o → is_eq o ≡ true
    at Less h = cc
    at Equal h = refl
    at Greater h = cc

-- two names of other bytes do not tie
pub apart : (a b : List ℕ) → a ≢ b → eq_by_cmp (slice_cmp nat_cmp) a b ≡ false
apart a b other = by (slice_cmp nat_cmp a b) refl
  where
    by : (o : Ordering) → slice_cmp nat_cmp a b ≡ o → is_eq o ≡ false
    by Less h = refl
    by Equal h = absurd (other (slice_cmp-IsAntisymmetric nat_cmp-IsAntisymmetric a b h))
    by Greater h = refl

-- what a name that is taken away leaves
pub left_file : (name other : List ℕ) (es : Entries) → file_of other (without_name name es) ≡ cond (not (eq_by_cmp (slice_cmp nat_cmp) name other))
    (file_of other es) None
left_file name other es =
    find-where_key (slice_cmp nat_cmp) (λ x. not (eq_by_cmp (slice_cmp nat_cmp) name x)) other
    (λ x tie. let same : other ≡ x = slice_cmp-IsAntisymmetric nat_cmp-IsAntisymmetric other x tie in ap (λ y. not (eq_by_cmp (slice_cmp nat_cmp) name y))
    (sym same)) es

-- it leads nowhere
pub gone_name : (name : List ℕ) (es : Entries) → file_of name (without_name name es) ≡ None
gone_name name es = left_file name name es ∙ rw (ties name) refl

-- every other name leads where it led
pub other_name : (name other : List ℕ) (es : Entries) → name ≢ other → file_of other (without_name name es) ≡ file_of other es
other_name name other es differs = left_file name other es ∙ rw (apart name other differs) refl

-- a name that leads nowhere leads nowhere then
pub still_none : (name other : List ℕ) (es : Entries) → file_of other es ≡ None → file_of other (without_name name es) ≡ None
still_none name other es none = left_file name other es ∙ at (not (eq_by_cmp (slice_cmp nat_cmp) name other))
  where
    at : (b : Bool) → cond b (file_of other es) None ≡ None
    at true = none
    at false = refl

-- where it is not there, nothing is taken away
pub nothing_without : (name : List ℕ) (es : Entries) → file_of name es ≡ None → without_name name es ≡ es
nothing_without name [] none = refl
nothing_without name (e ∷ es) none =
    elim (eq_by_cmp (slice_cmp nat_cmp) name e.0) as (λ b. cond b (Some e.1) (file_of name es) ≡ None →
    cond (not b) (e ∷ without_name name es) (without_name name es) ≡ e ∷ es) [
      | true ↦ λ h. cc
      | false ↦ λ h. ap (λ l. e ∷ l) (nothing_without name es h)
    ] none

pub no_more_names : (name : List ℕ) (es : Entries) → length (without_name name es) ≤ length es
no_more_names name [] = omega arith
no_more_names name (e ∷ es) =
    let rest = no_more_names name es in
    elim (not (eq_by_cmp (slice_cmp nat_cmp) name e.0)) as (λ b. length (cond b (e ∷ without_name name es) (without_name name es)) ≤ length (e ∷ es)) [
      | true ↦ omega (arith, rest)
      | false ↦ omega (arith, rest)
    ]

-- where it is there, there is one name less at least
pub one_fewer : (name : List ℕ) (es : Entries) → is_some (file_of name es) ≡ true → length (without_name name es) + 1 ≤ length es
one_fewer name [] there = cc
one_fewer name (e ∷ es) there =
    elim (eq_by_cmp (slice_cmp nat_cmp) name e.0) as (λ b. is_some (cond b (Some e.1) (file_of name es)) ≡ true →
    length (cond (not b) (e ∷ without_name name es) (without_name name es)) + 1 ≤ length (e ∷ es)) [
      | true ↦ λ h. omega (arith, no_more_names name es)
      | false ↦ λ h. omega (arith, one_fewer name es h)
    ] there
