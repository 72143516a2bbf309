-- The first fault of lists in a row.
use Rattle.std.proofs.Common.{◌≡◌, Bool, true, false, cond, List, [], ◌∷◌, ◌++◌, Some, refl}
use Rattle.std.specs.Option.{option_or}
use Rattle.call_types.specs.declared.errno.Errno.{Errno}
use Rattle.posix_model.specs.Pages.{first_fault}

-- of two lists it is the first of the one, or else of the other
pub first_of_both : (xs ys : List (Bool × Errno)) → first_fault (xs ++ ys) ≡ option_or (first_fault xs) (first_fault ys)
first_of_both [] ys = refl
first_of_both (x ∷ xs) ys =
    elim x.0 as (λ b. cond b (Some x.1) (first_fault (xs ++ ys)) ≡ option_or (cond b (Some x.1) (first_fault xs)) (first_fault ys)) [
      | true ↦ refl
      | false ↦ first_of_both xs ys
    ]

-- the same of four
pub first_of_four : (ks ls ms ns : List (Bool × Errno)) →
    option_or (first_fault ks) (option_or (first_fault ls) (option_or (first_fault ms) (first_fault ns))) ≡ first_fault (ks ++ (ls ++ (ms ++ ns)))
first_of_four ks ls ms ns = rw (first_of_both ks (ls ++ (ms ++ ns)), first_of_both ls (ms ++ ns), first_of_both ms ns) refl
