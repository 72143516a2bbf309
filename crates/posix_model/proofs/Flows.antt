-- What flows through the pipes of a world.
use Rattle.std.proofs.Common.{◌≡◌, ◌∙◌, ℕ, zero, suc, ◌<◌, Bool, true, false, cond, List, [], ◌∷◌, ◌++◌, Option, None, Some, length, take, drop, refl, ap, sym, subst, arith, eqb, eqb-true}
use Rattle.std.specs.Option.{is_some, is_none}
use Rattle.std.proofs.lemmas.List.{append-nil, append_assoc, take-append-drop}
use Rattle.std.proofs.lemmas.Bool.Decides.{nat_tests}
use Rattle.slots.specs.Slots.{slot, edited, kept, kept_from}
use Rattle.posix_model.specs.Types.{World, Change, FileEdit, ProcessEdit, TableEdit}
use Rattle.posix_model.specs.Descriptors.{pipe_bytes}
use Rattle.posix_model.specs.Pipes.{with_pipe_for, pipe_of_fifo, fifo_at}
use Rattle.posix_model.specs.Change.{after_those, bytes_from, with_files, with_processes, with_table, changed}
use Rattle.posix_model.specs.Sweep.{sweep, is_open, is_referred}
use Rattle.posix_model.specs.declared.change.FileEdit.TheVariants as on_files
use Rattle.posix_model.specs.declared.change.ProcessEdit.TheVariants as on_process
use Rattle.posix_model.specs.declared.change.TableEdit.TheVariants as on_table

abbrev pub Pipes : Type 0
Pipes = List (Option (List ℕ))

-- whether a pipe is gone; one that was not made yet is not
abbrev pub is_gone : Pipes → ℕ → Bool
is_gone [] n = false
is_gone (x ∷ xs) zero = is_none x
is_gone (x ∷ xs) (suc n) = is_gone xs n

pub there_not_gone : (xs : Pipes) (n : ℕ) → is_some (slot xs n) ≡ true → is_gone xs n ≡ false
there_not_gone [] n h = cc
there_not_gone (None ∷ xs) zero h = cc
there_not_gone (Some x ∷ xs) zero h = refl
there_not_gone (x ∷ xs) (suc n) h = there_not_gone xs n h

-- what a pipe holds
abbrev pub held : Pipes → ℕ → List ℕ
held pipes n = pipe_bytes (slot pipes n)

-- a pipe that is not gone after was not gone before, and what it held, with what was put, is what was got, with what it holds
pub record Flows (xs ys : Pipes) (q : ℕ) (put got : List ℕ) : Type 0 where
  pub stays : is_gone ys q ≡ false → is_gone xs q ≡ false
  pub bytes : is_gone ys q ≡ false → held xs q ++ put ≡ got ++ held ys q

-- nothing flows
pub record Keeps (xs ys : Pipes) (q : ℕ) : Type 0 where
  pub stays : is_gone ys q ≡ false → is_gone xs q ≡ false
  pub same : is_gone ys q ≡ false → held xs q ≡ held ys q

pub keeps_flows : (xs ys : Pipes) (q : ℕ) → Keeps xs ys q → Flows xs ys q [] []
keeps_flows xs ys q k = record { stays = k.stays; bytes = λ h. append-nil (held xs q) ∙ k.same h }

flows_keeps : (xs ys zs : Pipes) (q : ℕ) (put got : List ℕ) → Flows xs ys q put got → Keeps ys zs q → Flows xs zs q put got
flows_keeps xs ys zs q put got f k = record { stays = λ h. f.stays (k.stays h); bytes = λ h. f.bytes (k.stays h) ∙ ap (λ l. got ++ l) (k.same h) }

pub flows_twice : (xs ys zs : Pipes) (q : ℕ) (p g p' g' : List ℕ) → Flows xs ys q p g → Flows ys zs q p' g' → Flows xs zs q (p ++ p') (g ++ g')
flows_twice xs ys zs q p g p' g' f k = record {
  stays = λ h. f.stays (k.stays h);
  bytes = λ h. sym (append_assoc (held xs q) p p') ∙
      (ap (λ l. l ++ p') (f.bytes (k.stays h)) ∙ (append_assoc g (held ys q) p' ∙ (ap (λ l. g ++ l) (k.bytes h) ∙ sym (append_assoc g g' (held zs q)))));
}

pub keeps_same : (xs : Pipes) (q : ℕ) → Keeps xs xs q
keeps_same xs q = record { stays = λ h. h; same = λ h. refl }

keeps_push : (xs : Pipes) (q : ℕ) → Keeps xs (xs ++ Some [] ∷ []) q
keeps_push [] zero = record { stays = λ h. refl; same = λ h. refl }
keeps_push [] (suc q) = record { stays = λ h. refl; same = λ h. refl }
keeps_push (x ∷ xs) zero = record { stays = λ h. h; same = λ h. refl }
keeps_push (x ∷ xs) (suc q) = let k = keeps_push xs q in record { stays = k.stays; same = k.same }

keeps_made : (o : Option ℕ) (xs : Pipes) (q : ℕ) → Keeps xs (with_pipe_for o xs) q
keeps_made None xs q = keeps_push xs q
keeps_made (Some p) xs q = keeps_same xs q

keeps_swept : (keeps : ℕ → Bool) (m : ℕ) (xs : Pipes) (q : ℕ) → Keeps xs (kept_from keeps m xs) q
keeps_swept keeps m [] q = keeps_same [] q
keeps_swept keeps m (x ∷ xs) zero = at (keeps m)
  where
    at : (b : Bool) → Keeps (x ∷ xs) (cond b x None ∷ kept_from keeps (suc m) xs) 0
    at true = record { stays = λ h. h; same = λ h. refl }
    at false = record { stays = λ h. cc; same = λ h. cc }
keeps_swept keeps m (x ∷ xs) (suc q) = let k = keeps_swept keeps (suc m) xs q in record { stays = k.stays; same = k.same }

-- the pipe that is edited
flows_here : (f : List ℕ → List ℕ) (xs : Pipes) (m : ℕ) (put got : List ℕ) → m < length xs →
    ((b : List ℕ) → slot xs m ≡ Some b → b ++ put ≡ got ++ f b) → Flows xs (edited m f xs) m put got
flows_here f [] m put got below same = absurd (omega arith)
flows_here f (None ∷ xs) zero put got below same = record { stays = λ h. h; bytes = λ h. cc }
flows_here f (Some b ∷ xs) zero put got below same = record { stays = λ h. refl; bytes = λ h. same b refl }
flows_here f (x ∷ xs) (suc m) put got below same = let k = flows_here f xs m put got (omega arith) same in record { stays = k.stays; bytes = k.bytes }

-- another one
keeps_other : (f : List ℕ → List ℕ) (xs : Pipes) (m q : ℕ) → eqb m q ≡ false → Keeps xs (edited m f xs) q
keeps_other f [] m q h = keeps_same [] q
keeps_other f (x ∷ xs) zero zero h = cc
keeps_other f (x ∷ xs) zero (suc q) h = record { stays = λ h. h; same = λ h. refl }
keeps_other f (x ∷ xs) (suc m) zero h = record { stays = λ h. h; same = λ h. refl }
keeps_other f (x ∷ xs) (suc m) (suc q) h = let k = keeps_other f xs m q (grind (arith, nat_tests)) in record { stays = k.stays; same = k.same }

flows_edited : (f : List ℕ → List ℕ) (xs : Pipes) (m q : ℕ) (put got : List ℕ) → m < length xs →
    ((b : List ℕ) → slot xs m ≡ Some b → b ++ put ≡ got ++ f b) → Flows xs (edited m f xs) q (cond (eqb m q) put []) (cond (eqb m q) got [])
flows_edited f xs m q put got below same =
    elim (eqb m q) as (λ b. eqb m q ≡ b → Flows xs (edited m f xs) q (cond b put []) (cond b got [])) [
      | true ↦ λ e. subst (λ (n : ℕ). Flows xs (edited m f xs) n put got) (eqb-true m q e) (flows_here f xs m put got below same)
      | false ↦ λ e. keeps_flows xs (edited m f xs) q (keeps_other f xs m q e)
    ] refl

-- what an edit of files puts into a pipe, where the act gives these bytes
abbrev pub edit_put : World → List ℕ → ℕ → FileEdit → List ℕ
edit_put w bytes q (on_files.Put pipe source count) = cond (eqb pipe q) (take count (bytes_from w bytes source)) []
edit_put w bytes q other = []

-- what it gets from it
abbrev pub edit_got : World → ℕ → FileEdit → List ℕ
edit_got w q (on_files.Take pipe count) = cond (eqb pipe q) (take count (held w.pipes pipe)) []
edit_got w q other = []

-- an edit of files speaks of a pipe that was made
abbrev pub PipeFits : Pipes → FileEdit → Type 0
PipeFits pipes (on_files.Put pipe source count) = pipe < length pipes
PipeFits pipes (on_files.Take pipe count) = pipe < length pipes
PipeFits pipes other = Unit {0}

taken_off : (count : ℕ) (x : Option (List ℕ)) (b : List ℕ) → x ≡ Some b → b ++ [] ≡ take count (pipe_bytes x) ++ drop count b
taken_off count None b h = cc
taken_off count (Some c) b h = let e : c ≡ b = cc in append-nil b ∙ (sym (take-append-drop count b) ∙ ap (λ l. take count l ++ drop count b) (sym e))

pub cond_same : {A : Type 0} (b : Bool) (x : A) → cond b x x ≡ x
cond_same true x = refl
cond_same false x = refl

abbrev nil : List ℕ
nil = []

none_put : (b : Bool) → cond b nil nil ≡ nil
none_put b = cond_same b nil

edit_flows : (w : World) (bytes : List ℕ) (e : FileEdit) (q : ℕ) → PipeFits w.pipes e → Flows w.pipes (with_files w bytes e).pipes q (edit_put w bytes q e)
    (edit_got w q e)
edit_flows w bytes (on_files.Put pipe source count) q fits =
    let new = take count (bytes_from w bytes source) in
    subst (λ g. Flows w.pipes (edited pipe (after_those new) w.pipes) q (cond (eqb pipe q) new []) g) (none_put (eqb pipe q))
    (flows_edited (after_those new) w.pipes pipe q new [] fits (λ b h. refl))
edit_flows w bytes (on_files.Take pipe count) q fits =
    subst (λ p. Flows w.pipes (edited pipe (drop count) w.pipes) q p (cond (eqb pipe q) (take count (held w.pipes pipe)) [])) (none_put (eqb pipe q))
    (flows_edited (drop count) w.pipes pipe q [] (take count (held w.pipes pipe)) fits (λ b h. taken_off count (slot w.pipes pipe) b h))
edit_flows w bytes other q fits = keeps_flows w.pipes w.pipes q (keeps_same w.pipes q)

-- an edit of processes leaves pipes and files
processes_leave : (w : World) (e : ProcessEdit) → (with_processes w e).pipes ≡ w.pipes
processes_leave w on_process.Nothing = refl
processes_leave w other = refl

-- an edit of descriptors makes pipes that are empty, at most
table_keeps : (w : World) (e : TableEdit) (q : ℕ) → Keeps w.pipes (with_table w e).pipes q
table_keeps w (on_table.OpenPair process reading writing) q = keeps_push w.pipes q
table_keeps w (on_table.OpenEnd process fd file description) q = keeps_made (pipe_of_fifo (fifo_at (slot w.files file))) w.pipes q
table_keeps w other q = keeps_same w.pipes q

sweep_keeps : (w : World) (q : ℕ) → Keeps w.pipes (sweep w).pipes q
sweep_keeps w q = keeps_swept (is_open (kept (is_referred w.processes) w.descriptions)) 0 w.pipes q

-- only the edit of files moves bytes
pub change_flows : (w : World) (bytes : List ℕ) (c : Change) (q : ℕ) → PipeFits w.pipes c.files →
    Flows w.pipes (sweep (changed w bytes c)).pipes q (edit_put w bytes q c.files) (edit_got w q c.files)
change_flows w bytes c q fits =
    let v = with_files w bytes c.files in
    let u = with_processes v c.process in
    let p = edit_put w bytes q c.files in
    let g = edit_got w q c.files in
    let f = subst (λ l. Flows w.pipes l q p g) (sym (processes_leave v c.process)) (edit_flows w bytes c.files q fits) in
    let made = flows_keeps w.pipes u.pipes (with_table u c.table).pipes q p g f (table_keeps u c.table q) in
    flows_keeps w.pipes (with_table u c.table).pipes (sweep (changed w bytes c)).pipes q p g made (sweep_keeps (changed w bytes c) q)
