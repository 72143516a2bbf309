-- Changes of pipes and of FIFOs use no number again and leave nothing that refers to what is gone.
use Rattle.std.proofs.Common.{◌≡◌, ◌∙◌, ℕ, zero, suc, ◌<◌, Bool, true, List, [], ◌∷◌, ◌++◌, Option, None, Some, length, set, get_or, refl, ap, sym, subst, arith, ◌⊎◌, inl, inr, eqb, eq-eqb, eqb-true}
use Rattle.std.specs.Option.{option_map, is_some}
use Rattle.slots.specs.Slots.{slot}
use Rattle.posix_model.specs.Types.{World, Description, Mode, Target, File, Fifo}
use Rattle.posix_model.specs.Counts.{is_pipe, is_file}
use Rattle.posix_model.specs.Proved.Whole.{EachThere, is_fifo, is_regular_file, TargetIsThere, PipeIsThere, IsItsFifo, IsOnItsPipe, PipesApart, IsWhole}
use Rattle.posix_model.specs.Kept.{IsThere}
use Rattle.posix_model.specs.Pipes.{fifo_at, pipe_of_fifo, pipe_between, with_pipe_for, opened_once, opened_file, with_opening, with_pipe}
use Rattle.posix_model.specs.Change.{end_of, with_description, with_table}
use Rattle.posix_model.specs.Proved.Fits.{CanOpenEnd}
use Rattle.posix_model.specs.declared.world.File.TheVariants as file
use Rattle.call_types.specs.declared.description.Target.TheVariants as target
use Rattle.call_types.specs.declared.description.Mode.TheVariants as mode
use Rattle.posix_model.specs.declared.change.TableEdit.TheVariants as on_table
use Rattle.posix_model.proofs.SlotLaws.{there_below, Adds, adds_same, adds_push, pushed_there, stays_as_is, each_set}
use Rattle.posix_model.proofs.ChangeLaws.{Goes, goes_twice, FilesAdd, files_set, HasPipe, pipe_there, pipe_in, PipesStay, on_stays, opened_goes}

-- the pipe of a FIFO stays where pipes are added
fifo_pipe_stays : (pipes more : List (Option (List ℕ))) → Adds pipes more → (x : File) → PipeIsThere pipes x → PipeIsThere more x
fifo_pipe_stays pipes more add (file.Regular bytes) there = tt
fifo_pipe_stays pipes more add (file.Fifo fifo) there = λ p h. add.there p (there p h)

-- and so does what a description refers to
target_goes : (files later : List (Option File)) (pipes more : List (Option (List ℕ))) → FilesAdd files later → Adds pipes more → (t : Target) →
    TargetIsThere files pipes t → TargetIsThere later more t
target_goes files later pipes more a b (target.Regular f) h = a.regular f h
target_goes files later pipes more a b (target.Pipe p) h = b.there p h
target_goes files later pipes more a b (target.Fifo f p) h = (a.fifo f h.0, b.there p h.1)

files_same : (files : List (Option File)) → FilesAdd files files
files_same files = record { adds = adds_same files; regular = λ n h. h; fifo = λ n h. h; kinds = stays_as_is (λ f. is_fifo (Some f)) files }

-- files and pipes of a world are others, of which none went
contents_go : (w : World) (files : List (Option File)) (pipes : List (Option (List ℕ))) → IsWhole w → FilesAdd w.files files → Adds w.pipes pipes →
    EachThere (PipeIsThere pipes) files →
    EachThere (λ d. IsItsFifo files d.target) w.descriptions → PipesApart files → PipesStay w.files files → Goes w (record w { files = files; pipes = pipes })
contents_go w files pipes whole more added fifos ends apart stay = record {
  rises = record {
    files = more.adds.rises;
    pipes = added.rises;
    descriptions = (adds_same w.descriptions).rises;
    processes = (adds_same w.processes).rises;
    kinds = more.kinds;
    targets = stays_as_is (λ d. d.target) w.descriptions;
    modes = stays_as_is (λ d. d.mode) w.descriptions;
  };
  whole = record {
    names = λ k d below. more.adds.there (get_or w.names k d).1 (whole.names k d below);
    descriptions = λ n d h. target_goes w.files files w.pipes pipes more added d.target (whole.descriptions n d h);
    fifos = fifos;
    ends = ends;
    apart = apart;
    pipes = λ n d h. on_stays w.files files stay d.target (whole.pipes n d h);
    processes = whole.processes;
    waits = whole.waits;
    tables = whole.tables;
  };
}

-- pipes are added, or hold other bytes
pub pipes_go : (w : World) (pipes : List (Option (List ℕ))) → IsWhole w → Adds w.pipes pipes → Goes w (record w { pipes = pipes })
pipes_go w pipes whole added =
    let more = contents_go w w.files pipes whole (files_same w.files) added (λ n x h. fifo_pipe_stays w.pipes pipes added x (whole.fifos n x h)) whole.ends
    whole.apart (λ f p h. h) in
    record {
      rises = record {
        files = more.rises.files;
        pipes = more.rises.pipes;
        descriptions = more.rises.descriptions;
        processes = more.rises.processes;
        kinds =
            more.rises.kinds;
        targets = more.rises.targets;
        modes = more.rises.modes;
      };
      whole = record {
        names = more.whole.names;
        descriptions = more.whole.descriptions;
        fifos = more.whole.fifos;
        ends = more.whole.ends;
        apart = more.whole.apart;
        pipes = more.whole.pipes;
        processes = more.whole.processes;
        waits = more.whole.waits;
        tables = more.whole.tables;
      };
    }

-- a pipe of a FIFO is below the next one
below_next : (w : World) (g p : ℕ) → IsWhole w → HasPipe w.files g p → p < length w.pipes
below_next w g p whole h = there_below w.pipes p (pipe_there w.pipes w.files whole.fifos g p h)

-- and so is the pipe that a description refers to
target_below : (files : List (Option File)) (pipes : List (Option (List ℕ))) (t : Target) (p : ℕ) → TargetIsThere files pipes t → is_pipe p t ≡ true →
    p < length pipes
target_below files pipes (target.Regular f) p there is = cc
target_below files pipes (target.Pipe q) p there is = let same = eqb-true q p is in there_below pipes p (subst (IsThere pipes) same there)
target_below files pipes (target.Fifo f q) p there is = let same = eqb-true q p is in there_below pipes p (subst (IsThere pipes) same there.1)

-- two ends of the next pipe are opened
pub pair_goes : (w : World) (process reading writing : ℕ) → IsWhole w → Goes w (with_table w (on_table.OpenPair process reading writing))
pair_goes w process reading writing whole =
    let p = length w.pipes in
    let u = with_pipe w in
    let first = pipes_go w (w.pipes ++ Some [] ∷ []) whole (adds_push w.pipes (Some [])) in
    let there : IsThere u.pipes p = pushed_there w.pipes [] in
    let its : IsItsFifo w.files (target.Pipe p) = λ g x q h k is.
    let same : p ≡ q = eqb-true p q is in let below = below_next w g q whole (record { fifo = x; stands = h; its_pipe = k }) in
    absurd (omega (arith, same, below)) in
    let v = with_description u process reading (end_of p mode.Read) in
    let last = with_description v process writing (end_of p mode.Write) in
    let second = opened_goes u process reading (end_of p mode.Read) first.whole there its tt in
    let third = opened_goes v process writing (end_of p mode.Write) second.whole there its tt in
    goes_twice w u last first (goes_twice u v last second third)

-- a file of which an end is opened is of its kind
opened_kind : (P : Option File → Bool) (mode : Mode) (q : ℕ) → ((x y : Fifo) → P (Some (file.Fifo x)) ≡ P (Some (file.Fifo y))) → (x : Option File) →
    P (option_map (opened_file mode q) x) ≡ P x
opened_kind P mode q same None = refl
opened_kind P mode q same (Some (file.Regular bytes)) = refl
opened_kind P mode q same (Some (file.Fifo x)) = same (opened_once mode q x) x

-- and has the pipe that it was opened on
opened_pipe : (mode : Mode) (q : ℕ) (x : Fifo) → (opened_once mode q x).pipe ≡ Some q
opened_pipe mode.Read q x = refl
opened_pipe mode.Write q x = refl
opened_pipe mode.ReadWrite q x = refl

same_number : (n : ℕ) → eqb n n ≡ true
same_number n = eq-eqb n n refl

-- which is the only FIFO that may have a pipe that it had not
opened_has : (xs : List (Option File)) (f q : ℕ) (mode : Mode) (g p : ℕ) → HasPipe (set xs f (option_map (opened_file mode q) (slot xs f))) g p →
    HasPipe xs g p ⊎ ((g ≡ f) × (p ≡ q))
opened_has [] f q mode g p h = inl h
opened_has (None ∷ xs) zero q mode zero p h = let e : None ≡ Some (file.Fifo h.fifo) = h.stands in cc
opened_has (Some (file.Regular bytes) ∷ xs) zero q mode zero p h = let e : Some (file.Regular bytes) ≡ Some (file.Fifo h.fifo) = h.stands in cc
opened_has (Some (file.Fifo y) ∷ xs) zero q mode zero p h =
    let e : Some (file.Fifo (opened_once mode q y)) ≡ Some (file.Fifo h.fifo) = h.stands in
    let same : opened_once mode q y ≡ h.fifo = cc in
    let pipes : Some q ≡ Some p = sym (opened_pipe mode q y) ∙ (ap (λ (x : Fifo). x.pipe) same ∙ h.its_pipe) in
    let is : q ≡ p = cc in
    inr (refl, sym is)
opened_has (z ∷ xs) zero q mode (suc g) p h = inl (record { fifo = h.fifo; stands = h.stands; its_pipe = h.its_pipe })
opened_has (z ∷ xs) (suc f) q mode zero p h = inl (record { fifo = h.fifo; stands = h.stands; its_pipe = h.its_pipe })
opened_has (z ∷ xs) (suc f) q mode (suc g) p h = further (opened_has xs f q mode g p (record { fifo = h.fifo; stands = h.stands; its_pipe = h.its_pipe }))
  where
    further : HasPipe xs g p ⊎ ((g ≡ f) × (p ≡ q)) → HasPipe (z ∷ xs) (suc g) p ⊎ ((suc g ≡ suc f) × (p ≡ q))
    further (inl old) = inl (record { fifo = old.fifo; stands = old.stands; its_pipe = old.its_pipe })
    further (inr new) = inr (ap suc new.0, new.1)

-- the other FIFOs keep their pipes, and so does it where it is opened on its own
opened_stay : (xs : List (Option File)) (f q : ℕ) (mode : Mode) → ((p : ℕ) → pipe_in (slot xs f) ≡ Some p → q ≡ p) →
    PipesStay xs (set xs f (option_map (opened_file mode q) (slot xs f)))
opened_stay [] f q mode same g p h = h
opened_stay (None ∷ xs) zero q mode same zero p h = cc
opened_stay (Some (file.Regular bytes) ∷ xs) zero q mode same zero p h = cc
opened_stay (Some (file.Fifo x) ∷ xs) zero q mode same zero p h = opened_pipe mode q x ∙ ap Some (same p h)
opened_stay (z ∷ xs) zero q mode same (suc g) p h = h
opened_stay (z ∷ xs) (suc f) q mode same zero p h = h
opened_stay (z ∷ xs) (suc f) q mode same (suc g) p h = opened_stay xs f q mode same g p h

-- and it has that pipe then
opened_on : (xs : List (Option File)) (f q : ℕ) (mode : Mode) → is_fifo (slot xs f) ≡ true →
    pipe_in (slot (set xs f (option_map (opened_file mode q) (slot xs f))) f) ≡ Some q
opened_on [] f q mode h = cc
opened_on (None ∷ xs) zero q mode h = cc
opened_on (Some (file.Regular bytes) ∷ xs) zero q mode h = cc
opened_on (Some (file.Fifo x) ∷ xs) zero q mode h = opened_pipe mode q x
opened_on (z ∷ xs) (suc f) q mode h = opened_on xs f q mode h

-- an end of a FIFO is opened on a pipe that is its own, or that neither a FIFO nor a description has
record OpensOn (w : World) (f q : ℕ) (pipes : List (Option (List ℕ))) : Type 0 where
  added : Adds w.pipes pipes
  there : IsThere pipes q
  own : (g : ℕ) → HasPipe w.files g q → g ≡ f
  same : (p : ℕ) → pipe_in (slot w.files f) ≡ Some p → q ≡ p
  ends : (n : ℕ) (d : Description) → slot w.descriptions n ≡ Some d → is_pipe q d.target ≡ true → is_file f d.target ≡ true

-- the files after it
abbrev files_opened : World → ℕ → ℕ → Mode → List (Option File)
files_opened w f q mode = set w.files f (option_map (opened_file mode q) (slot w.files f))

-- what it leaves, with its end
record Opening (w : World) (f q : ℕ) (mode : Mode) (pipes : List (Option (List ℕ))) : Type 0 where
  goes : Goes w (record w { files = files_opened w f q mode; pipes = pipes })
  there : TargetIsThere (files_opened w f q mode) pipes (target.Fifo f q)
  its : IsItsFifo (files_opened w f q mode) (target.Fifo f q)
  on : IsOnItsPipe (files_opened w f q mode) (target.Fifo f q)

opening_on : (w : World) (f q : ℕ) (mode : Mode) (pipes : List (Option (List ℕ))) → IsWhole w → is_fifo (slot w.files f) ≡ true → OpensOn w f q pipes →
    Opening w f q mode pipes
opening_on w f q mode pipes whole fifo on =
    let old = slot w.files f in
    let new = option_map (opened_file mode q) old in
    let more = files_set w.files f new (opened_kind is_some mode q (λ _ _. refl) old) (opened_kind is_regular_file mode q (λ _ _. refl) old)
    (opened_kind is_fifo mode q (λ _ _. refl) old) in
    record {
      goes = contents_go w (files_opened w f q mode) pipes whole more on.added
          (each_set (PipeIsThere pipes) w.files f new (λ n x h. fifo_pipe_stays w.pipes pipes on.added x (whole.fifos n x h)) (λ x h. opened_there old x h))
          (λ n d h g x p k i is. by_end n d h g p is (opened_has w.files f q mode g p (record { fifo = x; stands = k; its_pipe = i })))
          (λ a b x y p h k i j. by_both a b p (opened_has w.files f q mode a p (record { fifo = x; stands = h; its_pipe = i }))
          (opened_has w.files f q mode b p (record { fifo = y; stands = k; its_pipe = j })))
          (opened_stay w.files f q mode on.same);
      on = opened_on w.files f q mode fifo;
      there = (more.fifo f fifo, on.there);
      its = λ g x p k i is. by_own g p (eqb-true q p is) (opened_has w.files f q mode g p (record { fifo = x; stands = k; its_pipe = i }));
    }
  where
    opened_there : (old : Option File) (x : File) → option_map (opened_file mode q) old ≡ Some x → PipeIsThere pipes x
    opened_there None x h = cc
    opened_there (Some (file.Regular bytes)) x h = let same : file.Regular bytes ≡ x = cc in subst (PipeIsThere pipes) same tt
    opened_there (Some (file.Fifo y)) x h =
        let same : file.Fifo (opened_once mode q y) ≡ x = cc in
        subst (PipeIsThere pipes) same (λ p k. let is : Some q ≡ Some p = sym (opened_pipe mode q y) ∙ k in let e : q ≡ p = cc in
        subst (IsThere pipes) e on.there)

    by_end : (n : ℕ) (d : Description) → slot w.descriptions n ≡ Some d → (g p : ℕ) → is_pipe p d.target ≡ true → HasPipe w.files g p ⊎ ((g ≡ f) × (p ≡ q)) →
        is_file g d.target ≡ true
    by_end n d h g p is (inl old) = whole.ends n d h g old.fifo p old.stands old.its_pipe is
    by_end n d h g p is (inr new) = ap (λ m. is_file m d.target) new.0 ∙ on.ends n d h (ap (λ m. is_pipe m d.target) (sym new.1) ∙ is)

    by_own : (g p : ℕ) → q ≡ p → HasPipe w.files g p ⊎ ((g ≡ f) × (p ≡ q)) → eqb f g ≡ true
    by_own g p same (inl old) =
        let e : g ≡ f = on.own g (record { fifo = old.fifo; stands = old.stands; its_pipe = old.its_pipe ∙ ap Some (sym same) }) in
        ap (eqb f) e ∙ same_number f
    by_own g p same (inr new) = ap (eqb f) new.0 ∙ same_number f

    by_both : (a b p : ℕ) → HasPipe w.files a p ⊎ ((a ≡ f) × (p ≡ q)) → HasPipe w.files b p ⊎ ((b ≡ f) × (p ≡ q)) → a ≡ b
    by_both a b p (inl x) (inl y) = whole.apart a b x.fifo y.fifo p x.stands y.stands x.its_pipe y.its_pipe
    by_both a b p (inl x) (inr y) = on.own a (record { fifo = x.fifo; stands = x.stands; its_pipe = x.its_pipe ∙ ap Some y.1 }) ∙ sym y.0
    by_both a b p (inr x) (inl y) = x.0 ∙ sym (on.own b (record { fifo = y.fifo; stands = y.stands; its_pipe = y.its_pipe ∙ ap Some x.1 }))
    by_both a b p (inr x) (inr y) = x.0 ∙ sym y.0

-- on its own pipe
opens_own : (w : World) (f q : ℕ) → IsWhole w → HasPipe w.files f q → OpensOn w f q w.pipes
opens_own w f q whole has = record {
  added = adds_same w.pipes;
  there = pipe_there w.pipes w.files whole.fifos f q has;
  own = λ g other. whole.apart g f other.fifo has.fifo q other.stands has.stands other.its_pipe has.its_pipe;
  same = λ p h. let is : Some q ≡ Some p = sym has.its_pipe ∙ (ap pipe_in (sym has.stands) ∙ h) in cc;
  ends = λ n d h is. whole.ends n d h f has.fifo q has.stands has.its_pipe is;
}

-- on the next one
opens_next : (w : World) (f : ℕ) → IsWhole w → pipe_in (slot w.files f) ≡ None → OpensOn w f (length w.pipes) (w.pipes ++ Some [] ∷ [])
opens_next w f whole none = record {
  added = adds_push w.pipes (Some []);
  there = pushed_there w.pipes [];
  own = λ g other. let below = below_next w g (length w.pipes) whole other in absurd (omega (arith, below));
  same = λ p h. let bad : ◌≡◌ {A = Option ℕ} None (Some p) = sym none ∙ h in cc;
  ends = λ n d h is. let below = target_below w.files w.pipes d.target (length w.pipes) (whole.descriptions n d h) is in absurd (omega (arith, below));
}

-- on the pipe between its ends
opens_between : (w : World) (f : ℕ) (old : Option File) → slot w.files f ≡ old → is_fifo old ≡ true → IsWhole w →
    OpensOn w f (pipe_between w (fifo_at old)) (with_pipe_for (pipe_of_fifo (fifo_at old)) w.pipes)
opens_between w f None e fifo whole = cc
opens_between w f (Some (file.Regular bytes)) e fifo whole = cc
opens_between w f (Some (file.Fifo x)) e fifo whole = by_pipe x.pipe refl
  where
    by_pipe : (p : Option ℕ) → x.pipe ≡ p → OpensOn w f (pipe_between w (Some x)) (with_pipe_for x.pipe w.pipes)
    by_pipe None h = rw h (opens_next w f whole (ap pipe_in e ∙ h))
    by_pipe (Some q) h = rw h (opens_own w f q whole (record { fifo = x; stands = e; its_pipe = h }))

-- a new description of an end of a FIFO
pub end_goes : (w : World) (process fd f : ℕ) (d : Description) → IsWhole w → CanOpenEnd w process fd f d →
    Goes w (with_table w (on_table.OpenEnd process fd f d))
end_goes w process fd f d whole can =
    let q = pipe_between w (fifo_at (slot w.files f)) in
    let pipes = with_pipe_for (pipe_of_fifo (fifo_at (slot w.files f))) w.pipes in
    let u = with_opening w f d.mode in
    let on = opening_on w f q d.mode pipes whole can.there (opens_between w f (slot w.files f) refl can.there whole) in
    let there = subst (TargetIsThere u.files u.pipes) (sym can.target_is) on.there in
    let its = subst (IsItsFifo u.files) (sym can.target_is) on.its in
    let on_it = subst (IsOnItsPipe u.files) (sym can.target_is) on.on in
    goes_twice w u (with_description u process fd d) on.goes (opened_goes u process fd d on.goes.whole there its on_it)
