-- What holds of each refusal, and of the effect where there is no fault, holds of a page.
use Rattle.std.proofs.Common.{◌≡◌, Bool, true, false, cond, List, [], ◌∷◌, Option, None, Some, refl, sym, ◌⊎◌, inl, inr}
use Rattle.posix_model.specs.Types.{Errno, OpenDescriptor, Decided, EBADF}
use Rattle.posix_model.specs.Pages.{Page, first_fault, unless, refused, decided_by, on_open}

unless_has : (Has : Decided → Type 0) (fault : Option Errno) (effect : Decided) → ((error : Errno) → Has (refused error)) → (fault ≡ None → Has effect) →
    Has (unless fault effect)
unless_has Has None effect refuses all = all refl
unless_has Has (Some error) effect refuses all = refuses error

pub page_has : (Has : Decided → Type 0) (page : Page) → ((error : Errno) → Has (refused error)) → (first_fault page.faults ≡ None → Has page.effect) →
    Has (decided_by page)
page_has Has page refuses all = unless_has Has (first_fault page.faults) page.effect refuses all

-- the same of a call on a descriptor
pub on_open_has : (Has : Decided → Type 0) (o : Option OpenDescriptor) (page : OpenDescriptor → Page) → ((error : Errno) → Has (refused error)) →
    ((x : OpenDescriptor) → o ≡ Some x → first_fault (page x).faults ≡ None → Has (page x).effect) → Has (on_open o page)
on_open_has Has None page refuses all = refuses EBADF
on_open_has Has (Some o) page refuses all = page_has Has (page o) refuses (all o refl)

pub if_has : (Has : Decided → Type 0) (b : Bool) (d e : Decided) → (b ≡ true → Has d) → (b ≡ false → Has e) → Has (cond b d e)
if_has Has true d e h k = h refl
if_has Has false d e h k = k refl

-- a condition is that of one of these faults
abbrev pub IsOf : List (Bool × Errno) → Bool → Type 0
IsOf [] b = ⊥
IsOf (fault ∷ faults) b = (fault.0 ≡ b) ⊎ IsOf faults b

-- where there is no fault, no condition of one holds
pub unmet : (faults : List (Bool × Errno)) → first_fault faults ≡ None → (b : Bool) → IsOf faults b → b ≡ false
unmet [] h b of = absurd of
unmet (fault ∷ faults) h b of = by_first fault.0 fault.1 (unmet faults) h of
  where
    by_first : (a : Bool) (error : Errno) → (first_fault faults ≡ None → (b : Bool) → IsOf faults b → b ≡ false) → cond a (Some error) (first_fault faults)
        ≡ None → (a ≡ b) ⊎ IsOf faults b → b ≡ false
    by_first true error rest h of = cc
    by_first false error rest h (inl is) = sym is
    by_first false error rest h (inr of) = rest h b of
