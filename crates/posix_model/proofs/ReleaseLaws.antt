use Rattle.std.proofs.Common.{◌≡◌, ◌≢◌, ℕ, zero, suc, ◌+◌, ◌<◌, ◌∙◌, Bool, true, false, ◌&&◌, cond, List, [], ◌∷◌, Option, None, Some, map, set, refl, ap, sym, subst, arith, ◌⊎◌, inl, inr, eq-eqb, eqb-true, ltb}
use Rattle.std.specs.Prelude.{is_some, ◌==◌}
use Rattle.std.specs.List.{count_by}
use Rattle.std.proofs.lemmas.List.Sums.{sum_by-cons}
use Rattle.std.proofs.lemmas.Bool.{ltb-true, lt-ltb}
use Rattle.slots.specs.Slots.{slot, kept, kept_from}
use Rattle.call_types.specs.Names.{Entries}
use Rattle.posix_model.specs.Counts.{links, refs, holds, holders, reads, readers, writes, writers, is_file, is_pipe}
use Rattle.posix_model.specs.Sweep.{is_referred, is_open, is_wanted, open_pipe, without_gone_pipe, sweep}
use Rattle.posix_model.specs.Types.{World, Description, Target, File, Fifo}
use Rattle.call_types.specs.declared.description.Target.TheVariants as target
use Rattle.posix_model.specs.declared.world.File.TheVariants as file
use Rattle.posix_model.proofs.SweepLaws.{one, LeavesThere, sweep_leaves, sweep_leaves_there, slot_mapped, still_there}
use Rattle.posix_model.specs.Proved.Released.{released_descriptions, pipes_after, fifos_after, files_after, SweptIsSettled, SweepReleases, SettledStays, NamesRelease, SweepCounts, released_file}
use Rattle.posix_model.specs.Proved.Whole.{IsItsFifo}
use Rattle.posix_model.proofs.SlotLaws.{kept_all, kept_at, map_all, map_at}

-- equal or not
pub same_or_not : (m n : ℕ) → ((m ≡ n) × ((m == n) ≡ true)) ⊎ ((m ≢ n) × ((m == n) ≡ false))
same_or_not m n = elim (m == n) as (λ b. (m == n) ≡ b → ((m ≡ n) × (b ≡ true)) ⊎ ((m ≢ n) × (b ≡ false))) [
  | true ↦ λ e. inl (eqb-true m n e, refl)
  | false ↦ λ e. inr (λ same. let bad : true ≡ false = sym (eq-eqb m n same) ∙ e in cc, refl)
] refl

-- what of a count is left where one place may be emptied
count_left : {T : Type 0} (t : Option T → Bool) (b : Bool) (xs : List (Option T)) (n : ℕ) → t None ≡ false → t (slot xs n) ≡ false →
    count_by t (cond b xs (set xs n None)) ≡ count_by t xs
count_left {T} t true xs n none h = refl
count_left {T} t false xs n none h = emptied xs n h
  where
    nothing : one (t None) ≡ 0
    nothing = rw none refl

    emptied : (xs : List (Option T)) (n : ℕ) → t (slot xs n) ≡ false → count_by t (set xs n None) ≡ count_by t xs
    emptied [] n h = refl
    emptied (x ∷ xs) zero h =
        let was : one (t x) ≡ 0 = rw h refl in
        omega (arith, nothing, was, sum_by-cons (λ x. one (t x)) x xs, sum_by-cons (λ x. one (t x)) None xs)
    emptied (x ∷ xs) (suc n) h = omega (arith, emptied xs n h, sum_by-cons (λ x. one (t x)) x xs, sum_by-cons (λ x. one (t x)) x (set xs n None))

-- the counts of what is not the target's stay
pub record CountsStay (ds es : List (Option Description)) (t : Target) : Type 0 where
  pub ends : (p : ℕ) → is_pipe p t ≡ false → readers es p + writers es p ≡ readers ds p + writers ds p
  pub holders : (f : ℕ) → is_file f t ≡ false → holders es f ≡ holders ds f

counts_stay : (ds : List (Option Description)) (n : ℕ) (d : Description) (b : Bool) → slot ds n ≡ Some d → CountsStay ds (cond b ds (set ds n None)) d.target
counts_stay ds n d b h = record {
  ends = λ p other.
      let no_reader : reads p (slot ds n) ≡ false = rw (h, other) refl in
      let no_writer : writes p (slot ds n) ≡ false = rw (h, other) refl in
      omega (arith, count_left (reads p) b ds n refl no_reader, count_left (writes p) b ds n refl no_writer);
  holders = λ f other.
      let no_holder : holds f (slot ds n) ≡ false = rw (h, other) refl in
      count_left (holds f) b ds n refl no_holder;
}

pub other_number : (m n : ℕ) → m ≢ n → (n == m) ≡ false
other_number m n apart = elim (same_or_not n m) [
  | inl same ↦ absurd (apart (sym same.0))
  | inr other ↦ other.1
]

-- the pipes
pipes_swept : {T : Type 0} (ds es : List (Option Description)) (pipes : List (Option T)) (t : Target) → CountsStay ds es t →
    ((n : ℕ) → is_some (slot pipes n) ≡ true → 0 < readers ds n + writers ds n) → kept (is_open es) pipes ≡ pipes_after es pipes t
pipes_swept ds es pipes (target.Regular f) stay full =
    kept_all (is_open es) pipes (λ m there. lt-ltb 0 (readers es m + writers es m) (omega (arith, stay.ends m refl, full m there)))
pipes_swept ds es pipes (target.Pipe p) stay full =
    kept_at (is_open es) pipes p (λ m other there. lt-ltb 0 (readers es m + writers es m) (omega (arith, stay.ends m (other_number m p other), full m there)))
pipes_swept ds es pipes (target.Fifo f p) stay full =
    kept_at (is_open es) pipes p (λ m other there. lt-ltb 0 (readers es m + writers es m) (omega (arith, stay.ends m (other_number m p other), full m there)))

-- a FIFO knows its pipe still
abbrev pipe_in : Option File → Option ℕ
pipe_in None = None
pipe_in (Some (file.Regular bytes)) = None
pipe_in (Some (file.Fifo fifo)) = fifo.pipe

knows_still : (ds es : List (Option Description)) (y : Option File) → ((x : Fifo) (p : ℕ) → y ≡ Some (file.Fifo x) → x.pipe ≡ Some p → is_open ds p ≡ true →
    is_open es p ≡ true) →
    without_gone_pipe ds y ≡ y → without_gone_pipe es y ≡ y
knows_still ds es None h same = refl
knows_still ds es (Some (file.Regular bytes)) h same = refl
knows_still ds es (Some (file.Fifo fifo)) h same = ap (λ pipe. Some (file.Fifo (record fifo { pipe = pipe })))
    (still fifo.pipe (λ p e. h fifo p refl e) (ap pipe_in same))
  where
    still : (pipe : Option ℕ) → ((p : ℕ) → pipe ≡ Some p → is_open ds p ≡ true → is_open es p ≡ true) → open_pipe ds pipe ≡ pipe → open_pipe es pipe ≡ pipe
    still None h same = refl
    still (Some p) h same = elim (is_open ds p) as (λ b. is_open ds p ≡ b → open_pipe es (Some p) ≡ Some p) [
      | true ↦ λ e. rw (h p refl e) refl
      | false ↦ λ e. let bad : None ≡ Some p = rw e at same in cc
    ] refl

-- the FIFOs
fifos_swept : (ds es : List (Option Description)) (files : List (Option File)) (t : Target) → CountsStay ds es t → IsItsFifo files t →
    ((n : ℕ) → without_gone_pipe ds (slot files n) ≡ slot files n) → map (without_gone_pipe es) files ≡ fifos_after es files t
fifos_swept ds es files t stay its settled = by_target t stay its
  where
    knows : (t : Target) → CountsStay ds es t → IsItsFifo files t → (m : ℕ) → is_file m t ≡ false → without_gone_pipe es (slot files m) ≡ slot files m
    knows t stay its m other = knows_still ds es (slot files m) (λ x p is has was.
        elim (is_pipe p t) as (λ b. is_pipe p t ≡ b → is_open es p ≡ true) [
          | true ↦ λ here. let bad : true ≡ false = sym (its m x p is has here) ∙ other in cc
          | false ↦ λ apart. lt-ltb 0 (readers es p + writers es p) (omega (arith, stay.ends p apart, ltb-true 0 (readers ds p + writers ds p) was))
        ] refl) (settled m)

    by_target : (t : Target) → CountsStay ds es t → IsItsFifo files t → map (without_gone_pipe es) files ≡ fifos_after es files t
    by_target (target.Regular f) stay its = map_all (without_gone_pipe es) files (λ m. knows_still ds es (slot files m) (λ x p is has was.
        lt-ltb 0 (readers es p + writers es p) (omega (arith, stay.ends p refl, ltb-true 0 (readers ds p + writers ds p) was))) (settled m))
    by_target (target.Pipe p) stay its = map_all (without_gone_pipe es) files (λ m. knows (target.Pipe p) stay its m refl)
    by_target (target.Fifo f p) stay its = map_at (without_gone_pipe es) files f (λ m other. knows (target.Fifo f p) stay its m (other_number m f other))

-- the files
files_swept : (ns : Entries) (ds es : List (Option Description)) (files : List (Option File)) (t : Target) → CountsStay ds es t →
    ((n : ℕ) → is_some (slot files n) ≡ true → 0 < links ns n + holders ds n) → kept (is_wanted ns es) files ≡ files_after ns es files t
files_swept ns ds es files (target.Regular f) stay full =
    kept_at (is_wanted ns es) files f (λ m other there. lt-ltb 0 (links ns m + holders es m)
    (omega (arith, stay.holders m (other_number m f other), full m there)))
files_swept ns ds es files (target.Pipe p) stay full =
    kept_all (is_wanted ns es) files (λ m there. lt-ltb 0 (links ns m + holders es m) (omega (arith, stay.holders m refl, full m there)))
files_swept ns ds es files (target.Fifo f p) stay full =
    kept_at (is_wanted ns es) files f (λ m other there. lt-ltb 0 (links ns m + holders es m)
    (omega (arith, stay.holders m (other_number m f other), full m there)))

pub sweep_releases : SweepReleases
sweep_releases w ps n d settled is its stays =
    let t = d.target in
    let es = released_descriptions ps w.descriptions n in
    let stay : CountsStay w.descriptions es t = counts_stay w.descriptions n d (is_referred ps n) is in
    let descriptions : kept (is_referred ps) w.descriptions ≡ es = kept_at (is_referred ps) w.descriptions n
    (λ m other there. lt-ltb 0 (refs ps m) (stays m other (settled.descriptions m there))) in
    let pipes : kept (is_open es) w.pipes ≡ pipes_after es w.pipes t = pipes_swept w.descriptions es w.pipes t stay settled.pipes in
    let fifos : map (without_gone_pipe es) w.files ≡ fifos_after es w.files t = fifos_swept w.descriptions es w.files t stay its settled.fifos in
    let still = λ (m : ℕ). ap is_some (slot_mapped (without_gone_pipe es) refl w.files m) ∙ still_there es (slot w.files m) in
    let files : kept (is_wanted w.names es) (map (without_gone_pipe es) w.files) ≡ files_after w.names es (map (without_gone_pipe es) w.files) t =
    files_swept w.names w.descriptions es (map (without_gone_pipe es) w.files) t stay (λ m there. settled.files m (sym (still m) ∙ there)) in
    rw (descriptions, pipes, files, fifos) refl

-- what the law asks for, of a world that is its own sweep
pub swept_is_settled : SweptIsSettled
swept_is_settled w same =
    let P : World → Type 0 = λ v. LeavesThere w v in
    let left : LeavesThere w w = subst P same (sweep_leaves_there w) in
    let Q : World → Type 0 = λ v. (n : ℕ) → slot v.files n ≡ cond (is_wanted w.names v.descriptions n) (without_gone_pipe v.descriptions (slot w.files n))
    None in
    let all : Q w = subst Q same ((sweep_leaves w).files) in
    record {
      descriptions = λ n there. ltb-true 0 (refs w.processes n) (both (is_some (slot w.descriptions n)) (is_referred w.processes n) (sym (left.descriptions n) ∙
          there));
      pipes = λ n there. ltb-true 0 (readers w.descriptions n + writers w.descriptions n)
          (both (is_some (slot w.pipes n)) (is_open w.descriptions n) (sym (left.pipes n) ∙ there));
      fifos = λ n. kept_place (is_wanted w.names w.descriptions n) (slot w.files n) w.descriptions (all n);
      files = λ n there. ltb-true 0 (links w.names n + holders w.descriptions n) (both (is_some (slot w.files n)) (is_wanted w.names w.descriptions n)
          (sym (left.files n) ∙ there));
    }
  where
    both : (a b : Bool) → (a && b) ≡ true → b ≡ true
    both true b e = e
    both false b e = cc

    kept_place : (b : Bool) (x : Option File) (ds : List (Option Description)) → x ≡ cond b (without_gone_pipe ds x) None → without_gone_pipe ds x ≡ x
    kept_place true x ds e = sym e
    kept_place false x ds e = rw e refl

-- a settled world is its own sweep
pub settled_stays : SettledStays
settled_stays w settled =
    let ds = w.descriptions in
    let descriptions : kept (is_referred w.processes) ds ≡ ds =
    kept_all (is_referred w.processes) ds (λ m there. lt-ltb 0 (refs w.processes m) (settled.descriptions m there)) in
    let pipes : kept (is_open ds) w.pipes ≡ w.pipes = kept_all (is_open ds) w.pipes (λ m there. lt-ltb 0 _ (settled.pipes m there)) in
    let fifos : map (without_gone_pipe ds) w.files ≡ w.files = map_all (without_gone_pipe ds) w.files settled.fifos in
    let files : kept (is_wanted w.names ds) w.files ≡ w.files = kept_all (is_wanted w.names ds) w.files (λ m there. lt-ltb 0 _ (settled.files m there)) in
    rw (descriptions, pipes, fifos, files) refl

-- a file that lost a name goes, or nothing does
pub names_release : NamesRelease
names_release w names f settled stays =
    let ds = w.descriptions in
    let descriptions : kept (is_referred w.processes) ds ≡ ds =
    kept_all (is_referred w.processes) ds (λ m there. lt-ltb 0 (refs w.processes m) (settled.descriptions m there)) in
    let pipes : kept (is_open ds) w.pipes ≡ w.pipes = kept_all (is_open ds) w.pipes (λ m there. lt-ltb 0 _ (settled.pipes m there)) in
    let fifos : map (without_gone_pipe ds) w.files ≡ w.files = map_all (without_gone_pipe ds) w.files settled.fifos in
    let files : kept (is_wanted names ds) w.files ≡ released_file names ds w.files f = kept_at (is_wanted names ds) w.files f (λ m other there.
    lt-ltb 0 (links names m + holders ds m) (either (links w.names m) (links names m) (holders ds m) (stays m other) (settled.files m there))) in
    rw (descriptions, pipes, fifos, files) refl
  where
    either : (a b c : ℕ) → (0 < a → 0 < b) → 0 < a + c → 0 < b + c
    either zero b c h there = omega (arith, there)
    either (suc a) b c h there = let more : 0 < b = h (omega arith) in omega (arith, more)

-- a test that gives the same of each number keeps the same
kept_same : {T : Type 0} (p q : ℕ → Bool) → ((n : ℕ) → p n ≡ q n) → (k : ℕ) (xs : List (Option T)) → kept_from p k xs ≡ kept_from q k xs
kept_same p q same k [] = refl
kept_same p q same k (x ∷ xs) = rw (same k, kept_same p q same (suc k) xs) refl

pub sweep_counts : SweepCounts
sweep_counts w names same =
    let ds = kept (is_referred w.processes) w.descriptions in
    let fs = map (without_gone_pipe ds) w.files in
    ap (λ files. record (sweep w) { names = names; files = files })
    (kept_same (is_wanted names ds) (is_wanted w.names ds) (λ n. ap (λ k. ltb 0 (k + holders ds n)) (same n)) 0 fs)
