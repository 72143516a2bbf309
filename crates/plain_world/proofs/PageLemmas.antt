-- What holds of each refusal, and of the effect where there is no fault, holds of a call on a descriptor.
use Rattle.std.proofs.Common.{◌≡◌, Bool, true, false, cond, List, [], ◌∷◌, ◌++◌, Option, None, Some, refl, sym, subst}
use Rattle.plain_world.specs.Proved.Types.{Errno, OpenDescriptor, Decided, EBADF}
use Rattle.posix_model.specs.Pages.{Page, first_fault, refused, on_open}
use Rattle.posix_model.proofs.PageLaws.{page_has}

pub open_free_has : (Has : Decided → Type 0) (o : Option OpenDescriptor) (page : OpenDescriptor → Page) → ((error : Errno) → Has (refused error)) →
    ((x : OpenDescriptor) → o ≡ Some x → first_fault (page x).faults ≡ None → Has (page x).effect) → Has (on_open o page)
open_free_has Has None page refuses all = refuses EBADF
open_free_has Has (Some o) page refuses all = page_has Has (page o) refuses (all o refl)

pub on_open_has : (Has : Decided → Type 0) (o : Option OpenDescriptor) (page : OpenDescriptor → Page) → ((error : Errno) → Has (refused error)) →
    ((x : OpenDescriptor) → o ≡ Some x → Has (page x).effect) → Has (on_open o page)
on_open_has Has o page refuses all = open_free_has Has o page refuses (λ x is _. all x is)

-- the same of a descriptor that is open
pub opened_has : (Has : Decided → Type 0) (o : Option OpenDescriptor) (x : OpenDescriptor) (page : OpenDescriptor → Page) → o ≡ Some x →
    ((error : Errno) → Has (refused error)) →
    (first_fault (page x).faults ≡ None → Has (page x).effect) → Has (on_open o page)
opened_has Has o x page is refuses all = subst (λ o. Has (on_open o page)) (sym is) (page_has Has (page x) refuses all)

-- of two lists of faults in a row without one, the second has none
pub no_fault_after : (xs ys : List (Bool × Errno)) → first_fault (xs ++ ys) ≡ None → first_fault ys ≡ None
no_fault_after [] ys h = h
no_fault_after (x ∷ xs) ys h = no_fault_after xs ys (rest x.0 x.1 h)
  where
    rest : (b : Bool) (error : Errno) → cond b (Some error) (first_fault (xs ++ ys)) ≡ None → first_fault (xs ++ ys) ≡ None
    rest true error h = cc
    rest false error h = h

-- what an act comes to where it may be made
pub where_may : (b : Bool) (x d : Decided) → cond b (Some x) None ≡ Some d → x ≡ d
where_may true x d is = cc
where_may false x d is = cc
