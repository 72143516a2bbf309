-- What is told of acts in a row.
use Rattle.std.proofs.Common.{List, [], ◌∷◌, ◌++◌, refl, ap, sym, subst, ◌∙◌, append_assoc, append-nil}
use Rattle.call_types.specs.declared.act.ScriptAct.{ScriptAct}
use Rattle.record_book.specs.Book.{BookState}
use Rattle.script_run.specs.Runs.{Seats, Tells, RunTells, GoesOn}
use Rattle.script_run.specs.declared.told.ScriptAnswer.{ScriptAnswer}

-- a run goes on by one act
run_more : (old mid new : BookState) (seats between after : Seats) (acts : List ScriptAct) (told next : List ScriptAnswer) (a : ScriptAct) →
    RunTells old mid seats between acts told → Tells mid new between after a next → RunTells old new seats after (acts ++ a ∷ []) (told ++ next)
run_more old mid new seats between after [] told next a run tells =
    let P : BookState → Type 0 = λ b. Tells b new seats after a next in
    let Q : Seats → Type 0 = λ s. Tells mid new s after a next in (
      new,
      after,
      next,
      [],
      ap (λ l. l ++ next) run.0 ∙ sym (append-nil next),
      subst P run.1.book (subst Q run.1.seats_are tells),
      (refl, record { book = refl; seats_are = refl }),
    )
run_more old mid new seats between after (x ∷ acts) told next a run tells = (
  run.0,
  run.1,
  run.2,
  run.3 ++ next,
  ap (λ l. l ++ next) run.4 ∙ append_assoc run.2 run.3 next,
  run.5,
  run_more run.0 mid new run.1 between after acts run.3 next a run.6 tells,
)

-- what is told of an act goes on from whatever was told before
pub goes_on : (old new : BookState) (seats after : Seats) (a : ScriptAct) (told : ScriptAnswer) → Tells old new seats after a (told ∷ []) →
    GoesOn old new seats after a told
goes_on old new seats after a told tells = λ first opened acts before runs. run_more first old new opened seats after acts before (told ∷ []) a runs tells
