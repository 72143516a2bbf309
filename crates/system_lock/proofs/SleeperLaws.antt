-- Lists of those that sleep, and of their pipes, of which one place after the other is looked at.
use Rattle.std.proofs.Common.{◌≡◌, ◌∙◌, ℕ, zero, suc, ◌+◌, ◌≤◌, ◌<◌, Bool, true, false, not, ◌&&◌, ◌||◌, cond, List, [], ◌∷◌, ◌++◌, Option, None, Some, length, map, set, get_or, take, drop, refl, ap, sym, subst, arith}
use Rattle.std.specs.List.{All, filter, remove}
use Rattle.std.proofs.lemmas.List.Edits.{length-remove}
use Rattle.std.proofs.lemmas.List.Elements.{All-nil, All-head, All-tail, All-append, All-take, All-drop, All-more, All-push, All-get_or, All-weaker}
use Rattle.record_book.specs.Book.{BookState}
use Rattle.system_lock.specs.System.{is_live_in}
use Rattle.system_lock.specs.Proved.Sleeping.{wakes_in}
use Rattle.record_book.specs.Refusals.{is_ready_in}
use Rattle.system_lock.specs.Proved.Stirred.{is_by, is_on_its, stirs}
use Rattle.system_lock.specs.Proved.Sleepers.{pipe_in, SleepersSound, SparesIn, without_if, next_if, pipe_then}
use Rattle.system_lock.specs.declared.stirred.Stirred.{Stirred}
use Rattle.system_lock.specs.declared.stirred.Stirred.TheVariants as stirred
use Rattle.system_lock.specs.declared.sleepers.Sleepers.{Sleepers}
use Rattle.system_lock.proofs.StirLaws.{neither}

-- before a place that is taken out, all stays
take_removed : {T : Type 0} (xs : List T) (i : ℕ) → take i (remove xs i) ≡ take i xs
take_removed [] zero = refl
take_removed [] (suc i) = refl
take_removed (x ∷ xs) zero = refl
take_removed (x ∷ xs) (suc i) = ap (λ l. x ∷ l) (take_removed xs i)

pub map_removed : {S T : Type 0} (f : S → T) (xs : List S) (i : ℕ) → map f (remove xs i) ≡ remove (map f xs) i
map_removed f [] zero = refl
map_removed f [] (suc i) = refl
map_removed f (x ∷ xs) zero = refl
map_removed f (x ∷ xs) (suc i) = ap (λ l. f x ∷ l) (map_removed f xs i)

-- what fails a test is no loss to those that pass it
filter_removed : {T : Type 0} (p : T → Bool) (xs : List T) (i : ℕ) (d : T) → i < length xs → p (get_or xs i d) ≡ false → filter p (remove xs i) ≡ filter p xs
filter_removed p [] i d below fails = absurd (omega arith)
filter_removed p (x ∷ xs) zero d below fails = rw fails refl
filter_removed p (x ∷ xs) (suc i) d below fails = ap (λ l. cond (p x) (x ∷ l) l) (filter_removed p xs i d (omega arith) fails)

all_removed : {T : Type 0} (P : T → Type 0) (xs : List T) (i : ℕ) → All P xs → All P (remove xs i)
all_removed P xs i all = All-append P (take i xs) (drop (suc i) xs) (All-take P i xs all) (All-drop P (suc i) xs all)

get_mapped : {S T : Type 0} (f : S → T) (xs : List S) (i : ℕ) (d : S) (e : T) → i < length xs → get_or (map f xs) i e ≡ f (get_or xs i d)
get_mapped f [] i d e below = absurd (omega arith)
get_mapped f (x ∷ xs) zero d e below = refl
get_mapped f (x ∷ xs) (suc i) d e below = get_mapped f xs i d e (omega arith)

pub length_mapped : {S T : Type 0} (f : S → T) (xs : List S) → length (map f xs) ≡ length xs
length_mapped f [] = refl
length_mapped f (x ∷ xs) = ap suc (length_mapped f xs)

pub map_agrees : {S T : Type 0} (f g : S → T) → ((x : S) → f x ≡ g x) → (xs : List S) → map f xs ≡ map g xs
map_agrees f g same [] = refl
map_agrees f g same (x ∷ xs) = rw (same x, map_agrees f g same xs) refl

take_all : {T : Type 0} (xs : List T) (i : ℕ) → length xs ≤ i → take i xs ≡ xs
take_all [] zero full = refl
take_all [] (suc i) full = refl
take_all (x ∷ xs) zero full = absurd (omega arith)
take_all (x ∷ xs) (suc i) full = ap (λ l. x ∷ l) (take_all xs i (omega arith))

-- where nobody is ready, nobody goes
pub filter_all : (ready : ℕ → Bool) (xs : List ℕ) → All (λ q. ready q ≡ false) xs → filter (λ q. not (ready q)) xs ≡ xs
filter_all ready [] all = refl
filter_all ready (x ∷ xs) all =
    let P : ℕ → Type 0 = λ q. ready q ≡ false in
    rw (All-head P x xs all, filter_all ready xs (All-tail P x xs all)) refl

-- what is known before the first look, where each waits on the pipe that a function tells
pub record StartsLook (ready : ℕ → Bool) (s : Stirred) (f : ℕ → Option ℕ) (asleep : List ℕ) (waited : List (Option ℕ)) : Type 0 where
  pub pipes : waited ≡ map f asleep
  pub spared : All (λ q. stirs s q (f q) ≡ false → ready q ≡ false) asleep

-- and of those before a place, who were looked at
pub record IsLooked (ready : ℕ → Bool) (s : Stirred) (f : ℕ → Option ℕ) (old now : List ℕ) (waited : List (Option ℕ)) (at : ℕ) : Type 0 where
  pub pipes : waited ≡ map f now
  pub spared : All (λ q. stirs s q (f q) ≡ false → ready q ≡ false) now
  pub within : at ≤ length now
  pub done : All (λ q. ready q ≡ false) (take at now)
  pub left : filter (λ q. not (ready q)) now ≡ filter (λ q. not (ready q)) old

pub starts_looked : (ready : ℕ → Bool) (s : Stirred) (f : ℕ → Option ℕ) (asleep : List ℕ) (pipes : List (Option ℕ)) → StartsLook ready s f asleep pipes →
    IsLooked ready s f asleep asleep pipes 0
starts_looked ready s f asleep pipes start = record {
  pipes = start.pipes;
  spared = start.spared;
  within = omega arith;
  done = All-nil (λ q. ready q ≡ false);
  left = refl;
}

pub paired : (ready : ℕ → Bool) (s : Stirred) (f : ℕ → Option ℕ) (old now : List ℕ) (pipes : List (Option ℕ)) (at : ℕ) → IsLooked ready s f old now pipes at →
    length pipes ≡ length now
paired ready s f old now pipes at h = ap length h.pipes ∙ length_mapped f now

both : (a b : Bool) → (a && b) ≡ true → b ≡ true
both true b h = h
both false b h = cc

-- who was not stirred, or not found ready, is not ready
not_woken : (a b : Bool) → (a && b) ≡ false → (a ≡ false → b ≡ false) → b ≡ false
not_woken true b h spared = h
not_woken false b h spared = spared refl

-- one look more
pub looked : (ready : ℕ → Bool) (s : Stirred) (f : ℕ → Option ℕ) (old now : List ℕ) (pipes : List (Option ℕ)) (at : ℕ) → IsLooked ready s f old now pipes at →
    at < length now →
    (left : List ℕ) (left_pipes : List (Option ℕ)) (next : ℕ) →
    left ≡ without_if (stirs s (get_or now at 0) (get_or pipes at None) && ready (get_or now at 0)) now at →
    left_pipes ≡ without_if (stirs s (get_or now at 0) (get_or pipes at None) && ready (get_or now at 0)) pipes at →
    next ≡ next_if (stirs s (get_or now at 0) (get_or pipes at None) && ready (get_or now at 0)) at → IsLooked ready s f old left left_pipes next
looked ready s f old now pipes at h below left left_pipes next is_left is_pipes is_next = rw (is_left, is_pipes, is_next) (by (stirs s q p && ready q) refl)
  where
    q : ℕ
    q = get_or now at 0

    p : Option ℕ
    p = get_or pipes at None

    its_pipe : p ≡ f q
    its_pipe = ap (λ l. get_or l at None) h.pipes ∙ get_mapped f now at 0 None below

    by : (woken : Bool) → (stirs s q p && ready q) ≡ woken → IsLooked ready s f old (without_if woken now at) (without_if woken pipes at) (next_if woken at)
    by true e =
        let is : ready q ≡ true = both (stirs s q p) (ready q) e in
        record {
          pipes = ap (λ l. remove l at) h.pipes ∙ sym (map_removed f now at);
          spared = all_removed (λ x. stirs s x (f x) ≡ false → ready x ≡ false) now at h.spared;
          within = omega (arith, length-remove now at below);
          done = subst (All (λ x. ready x ≡ false)) (sym (take_removed now at)) h.done;
          left = filter_removed (λ x. not (ready x)) now at 0 below (ap not is) ∙ h.left;
        }
    by false e =
        let spared : stirs s q (f q) ≡ false → ready q ≡ false = All-get_or (λ x. stirs s x (f x) ≡ false → ready x ≡ false) now at 0 below h.spared in
        let is : ready q ≡ false = not_woken (stirs s q p) (ready q) e (λ none. spared (ap (stirs s q) (sym its_pipe) ∙ none)) in
        record {
          pipes = h.pipes;
          spared = h.spared;
          within = omega arith;
          done = All-more (λ x. ready x ≡ false) now at 0 below h.done is;
          left = h.left;
        }

-- how many are left to look at
pub nearer : {T : Type 0} (woken : Bool) (now left : List T) (at next : ℕ) → at < length now → left ≡ without_if woken now at → next ≡ next_if woken at →
    (length left + at) + 1 ≤ length now + next
nearer true now left at next below is_left is_next = omega (arith, ap length is_left, is_next, length-remove now at below)
nearer false now left at next below is_left is_next = omega (arith, ap length is_left, is_next)

-- after the last look
pub all_looked : (ready : ℕ → Bool) (s : Stirred) (f : ℕ → Option ℕ) (old now : List ℕ) (pipes : List (Option ℕ)) (at : ℕ) →
    IsLooked ready s f old now pipes at → length now ≤ at → All (λ q. ready q ≡ false) now
all_looked ready s f old now pipes at h full = subst (All (λ q. ready q ≡ false)) (take_all now at full) h.done

pub all_left : (ready : ℕ → Bool) (s : Stirred) (f : ℕ → Option ℕ) (old now : List ℕ) (pipes : List (Option ℕ)) (at : ℕ) → IsLooked ready s f old now pipes at →
    length now ≤ at → now ≡ filter (λ q. not (ready q)) old
all_left ready s f old now pipes at h full = sym (filter_all ready now (all_looked ready s f old now pipes at h full)) ∙ h.left

pub both_no : (a b : Bool) → a ≡ false → b ≡ false → (a || b) ≡ false
both_no a b e f = cc

pub not_false : (b : Bool) → not b ≡ false → b ≡ true
not_false true e = refl
not_false false e = sym e

-- one that is not to be woken, and that an event does not stir, is not to be woken after it
sleeps_on : (was b : BookState) (s : Stirred) → SparesIn was b s → (q : ℕ) → wakes_in was q ≡ false → stirs s q (pipe_in was q) ≡ false → wakes_in b q ≡ false
sleeps_on was b s spares q h apart =
    let sleeps = neither (is_ready_in was q) (not (is_live_in was q)) h in
    let far = neither (is_by s q) (is_on_its s (pipe_in was q)) apart in
    both_no (is_ready_in b q) (not (is_live_in b q)) (spares.ready q apart ∙ sleeps.0) (ap not (spares.live q far.0 (not_false (is_live_in was q) sleeps.1)))

-- those that were sound, and that an event spared, may be looked at
pub spared_starts : (was b : BookState) (s : Stirred) (sleepers : Sleepers) → SleepersSound was sleepers → SparesIn was b s →
    StartsLook (λ q. wakes_in b q) s (pipe_in was) sleepers.asleep.items sleepers.pipes.items
spared_starts was b s sleepers sound spares = record {
  pipes = sound.pipes;
  spared = All-weaker (λ q. wakes_in was q ≡ false) (λ q. stirs s q (pipe_in was q) ≡ false → wakes_in b q ≡ false)
      (λ q h apart. sleeps_on was b s spares q h apart) sleepers.asleep.items sound.none_wakes;
}

nobody_on : (x : Option ℕ) → is_on_its stirred.Nobody x ≡ false
nobody_on None = refl
nobody_on (Some pipe) = refl

-- an event that stirs nobody leaves them so
pub nobody_ready : (was b : BookState) (sleepers : Sleepers) → SleepersSound was sleepers → SparesIn was b stirred.Nobody → SleepersSound b sleepers
nobody_ready was b sleepers sound spares = record {
  none_wakes = All-weaker (λ q. wakes_in was q ≡ false) (λ q. wakes_in b q ≡ false)
      (λ q h. sleeps_on was b stirred.Nobody spares q h (nobody_on (pipe_in was q))) sleepers.asleep.items sound.none_wakes;
  pipes = sound.pipes ∙ map_agrees (pipe_in was) (pipe_in b) (λ q. sym (spares.pipe q refl)) sleepers.asleep.items;
}

-- the pipe of each is known after an event
pub pipe_known : (was b : BookState) (s : Stirred) → SparesIn was b s → (q : ℕ) → pipe_then b s q (pipe_in was q) ≡ pipe_in b q
pipe_known was b s spares q = at (is_by s q) refl
  where
    at : (own : Bool) → is_by s q ≡ own → cond own (pipe_in b q) (pipe_in was q) ≡ pipe_in b q
    at true e = refl
    at false e = sym (spares.pipe q e)

map_pushed : {S T : Type 0} (f : S → T) (xs : List S) (x : S) → map f (xs ++ x ∷ []) ≡ map f xs ++ f x ∷ []
map_pushed f [] x = refl
map_pushed f (y ∷ xs) x = ap (λ l. f y ∷ l) (map_pushed f xs x)

-- with one more, which is live, whose call is not ready and whose pipe is known
pub asleep_sound : (b : BookState) (was now : Sleepers) (process : ℕ) (pipe : Option ℕ) → SleepersSound b was → wakes_in b process ≡ false →
    pipe ≡ pipe_in b process →
    now.asleep.items ≡ was.asleep.items ++ process ∷ [] → now.pipes.items ≡ was.pipes.items ++ pipe ∷ [] → SleepersSound b now
asleep_sound b was now process pipe sound still its more more_pipes =
    let xs = was.asleep.items in
    record {
      none_wakes = subst (All (λ q. wakes_in b q ≡ false)) (sym more) (All-push (λ q. wakes_in b q ≡ false) xs process sound.none_wakes still);
      pipes = more_pipes ∙ (ap (λ (l : List (Option ℕ)). l ++ pipe ∷ []) sound.pipes ∙
          (ap (λ (x : Option ℕ). map (pipe_in b) xs ++ x ∷ []) its ∙ (sym (map_pushed (pipe_in b) xs process) ∙ ap (map (pipe_in b)) (sym more))));
    }

-- one pipe more is asked for
pub renewed : {S T : Type 0} (f g : S → T) (xs : List S) (i : ℕ) (d : S) → i < length xs → set (map g (take i xs) ++ map f (drop i xs)) i (g (get_or xs i d))
    ≡ map g (take (suc i) xs) ++ map f (drop (suc i) xs)
renewed f g [] i d below = absurd (omega arith)
renewed f g (x ∷ xs) zero d below = refl
renewed f g (x ∷ xs) (suc i) d below = ap (λ l. g x ∷ l) (renewed f g xs i d (omega arith))

pub all_renewed : {S T : Type 0} (f g : S → T) (xs : List S) (i : ℕ) → length xs ≤ i → map g (take i xs) ++ map f (drop i xs) ≡ map g xs
all_renewed f g [] zero full = refl
all_renewed f g [] (suc i) full = refl
all_renewed f g (x ∷ xs) zero full = absurd (omega arith)
all_renewed f g (x ∷ xs) (suc i) full = ap (λ l. g x ∷ l) (all_renewed f g xs i (omega arith))

-- where the asked is what stood at this place, and the pipe too
pub renewed_at : (b : BookState) (s : Stirred) (f : ℕ → Option ℕ) (xs : List ℕ) (pipes : List (Option ℕ)) (i : ℕ) (q : ℕ) (p : Option ℕ) → i < length xs →
    q ≡ get_or xs i q → p ≡ get_or pipes i p →
    pipes ≡ map (λ q. pipe_then b s q (f q)) (take i xs) ++ map f (drop i xs) → set pipes i (pipe_then b s q p) ≡ map (λ q. pipe_then b s q (f q))
    (take (i + 1) xs) ++ map f (drop (i + 1) xs)
renewed_at b s f xs pipes i q p below is_q is_p h =
    let g : ℕ → Option ℕ = λ q. pipe_then b s q (f q) in
    let its : p ≡ f q = is_p ∙ (ap (λ l. get_or l i p) h ∙ (there f g xs i q p below ∙ ap f (sym is_q))) in
    let more : i + 1 ≡ suc i = omega arith in
    let is : pipe_then b s q p ≡ g (get_or xs i q) = ap (pipe_then b s q) its ∙ ap g is_q in
    rw (more, h, is) (renewed f g xs i q below)
  where
    there : (f g : ℕ → Option ℕ) (xs : List ℕ) (i : ℕ) (d : ℕ) (e : Option ℕ) → i < length xs → get_or (map g (take i xs) ++ map f (drop i xs)) i e ≡ f
        (get_or xs i d)
    there f g [] i d e below = absurd (omega arith)
    there f g (x ∷ xs) zero d e below = refl
    there f g (x ∷ xs) (suc i) d e below = there f g xs i d e (omega arith)
