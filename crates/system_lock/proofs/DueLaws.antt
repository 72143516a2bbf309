-- What is known of a process where no refusal of its resume is due; and want of memory is told only there, and of a call that is ready.
use Rattle.std.specs.Prelude.{◌≡◌, ℕ, Bool, true, false, ◌∷◌, [], None, refl}
use Rattle.call_types.specs.declared.refusal.Refusal.{Refusal}
use Rattle.call_types.specs.declared.refusal.Refusal.TheVariants.{NoMemory, RunFull, NotHere, Foreign}
use Rattle.record_book.specs.Seat.{SeatState}
use Rattle.record_book.specs.Book.{BookState}
use Rattle.record_book.specs.Refusals.{first_refusal, IsDue, exit_refusal, resume_refusal, ResumeRefused, is_ready_in}

none_of : (other absent full : Bool) (seen len : ℕ) → IsDue (first_refusal ((other, Foreign seen len) ∷ (absent, NotHere) ∷ (full, RunFull) ∷ [])) NoMemory →
    first_refusal ((other, Foreign seen len) ∷ (absent, NotHere) ∷ (full, RunFull) ∷ []) ≡ None
none_of true absent full seen len is = absurd (let e : NoMemory ≡ Foreign seen len = is in cc)
none_of false true full seen len is = absurd (let e : NoMemory ≡ NotHere = is in cc)
none_of false false true seen len is = absurd (let e : NoMemory ≡ RunFull = is in cc)
none_of false false false seen len is = refl

-- where a resume is not refused, an exit would not be, and the process is there
none_fewer : (other absent full : Bool) (foreign : Refusal) → first_refusal ((other, foreign) ∷ (absent, NotHere) ∷ (full, RunFull) ∷ []) ≡ None →
    (first_refusal ((other, foreign) ∷ (absent, NotHere) ∷ []) ≡ None) × (absent ≡ false)
none_fewer true absent full foreign is = absurd cc
none_fewer false true full foreign is = absurd cc
none_fewer false false full foreign is = (refl, refl)

pub memory_due : (b : BookState) (s : SeatState) → ResumeRefused b s NoMemory → (resume_refusal b s ≡ None) × (is_ready_in b s.pid ≡ true)
memory_due b s refused =
    let none : resume_refusal b s ≡ None = none_of _ _ _ _ _ refused.due in
    let free : exit_refusal b s ≡ None = (none_fewer _ _ _ _ none).0 in
    (none, refused.ready free)
