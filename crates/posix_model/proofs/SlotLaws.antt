-- Lists of slots, and what is there.
use Rattle.std.proofs.Common.{◌≡◌, ◌≢◌, ℕ, zero, suc, ◌+◌, ◌<◌, ◌∙◌, Bool, true, false, cond, List, [], ◌∷◌, ◌++◌, Option, None, Some, length, map, set, get_or, refl, ap, sym, subst, length-append, length-set, arith}
use Rattle.std.specs.Option.{option_map, is_some, is_none}
use Rattle.std.specs.List.{count_by}
use Rattle.std.proofs.lemmas.List.Quantifiers.{position-Some}
use Rattle.std.proofs.lemmas.List.Sums.{get_or-le-sum_by}
use Rattle.slots.specs.Slots.{slot, lowest, kept, kept_from}
use Rattle.posix_model.specs.Proved.Whole.{EachThere}
use Rattle.posix_model.specs.Kept.{IsThere}
use Rattle.posix_model.specs.Proved.Numbers.{Rises, StaysSame, IsLowest}

-- what is not there is gone
pub not_there : {T : Type 0} (x : Option T) → is_some x ≡ false → x ≡ None
not_there None e = refl
not_there (Some x) e = cc

is_free : {T : Type 0} (x : Option T) → is_none x ≡ true → x ≡ None
is_free None e = refl
is_free (Some x) e = cc

is_full_slot : {T : Type 0} (x : Option T) → is_none x ≡ false → is_some x ≡ true
is_full_slot None e = cc
is_full_slot (Some x) e = refl

pub lowest_is_least : (slots : List (Option ℕ)) (n : ℕ) → lowest slots ≡ Some n → IsLowest slots n
lowest_is_least slots n h =
    let first = position-Some is_none slots n None h in
    record { within = first.0; free = is_free (slot slots n) first.1; before = λ m below. is_full_slot (slot slots m) (first.2 m below) }

-- what is there is so at a number of the list
pub there_below : {T : Type 0} (xs : List (Option T)) (n : ℕ) → IsThere xs n → n < length xs
there_below [] n h = cc
there_below (x ∷ xs) zero h = omega arith
there_below (x ∷ xs) (suc n) h = let below = there_below xs n h in omega arith

pub stands_there : {T : Type 0} (xs : List (Option T)) (n : ℕ) (x : T) → slot xs n ≡ Some x → IsThere xs n
stands_there xs n x h = rw h refl

-- nothing went, and what was gone stays so
pub record Adds {T : Type 0} (xs ys : List (Option T)) : Type 0 where
  pub rises : Rises xs ys
  pub there : (n : ℕ) → IsThere xs n → IsThere ys n

pub adds_same : {T : Type 0} (xs : List (Option T)) → Adds xs xs
adds_same xs = record { rises = record { longer = omega arith; gone = λ n below h. h }; there = λ n h. h }

-- a place is written, and is as it was in this respect: so are all places
pub test_set : {T K : Type 0} (p : Option T → K) (xs : List (Option T)) (m : ℕ) (y : Option T) (n : ℕ) → p y ≡ p (slot xs m) →
    p (slot (set xs m y) n) ≡ p (slot xs n)
test_set p [] m y n e = refl
test_set p (x ∷ xs) zero y zero e = e
test_set p (x ∷ xs) zero y (suc n) e = refl
test_set p (x ∷ xs) (suc m) y zero e = refl
test_set p (x ∷ xs) (suc m) y (suc n) e = test_set p xs m y n e

-- a place is written that stays as full as it was
pub adds_set : {T : Type 0} (xs : List (Option T)) (m : ℕ) (y : Option T) → is_some y ≡ is_some (slot xs m) → Adds xs (set xs m y)
adds_set xs m y e =
    let long : length (set xs m y) ≡ length xs = length-set xs m y in
    record {
      rises = record {
        longer = omega arith;
        gone = λ n below h. not_there (slot (set xs m y) n) (test_set is_some xs m y n e ∙ ap is_some h);
      };
      there = λ n h. test_set is_some xs m y n e ∙ h;
    }

some_mapped : {T : Type 0} (f : T → T) (x : Option T) → is_some (option_map f x) ≡ is_some x
some_mapped f None = refl
some_mapped f (Some x) = refl

-- a place is edited
pub adds_edited : {T : Type 0} (xs : List (Option T)) (m : ℕ) (f : T → T) → Adds xs (set xs m (option_map f (slot xs m)))
adds_edited xs m f = adds_set xs m (option_map f (slot xs m)) (some_mapped f (slot xs m))

pub slot_pushed : {T : Type 0} (xs : List (Option T)) (y : Option T) (n : ℕ) → n < length xs → slot (xs ++ y ∷ []) n ≡ slot xs n
slot_pushed [] y n below = absurd (omega arith)
slot_pushed (x ∷ xs) y zero below = refl
slot_pushed (x ∷ xs) y (suc n) below = slot_pushed xs y n (omega arith)

-- a place is added
pub adds_push : {T : Type 0} (xs : List (Option T)) (y : Option T) → Adds xs (xs ++ y ∷ [])
adds_push xs y =
    let long : length (xs ++ y ∷ []) ≡ length xs + 1 = length-append xs (y ∷ []) in
    record {
      rises = record { longer = omega arith; gone = λ n below h. slot_pushed xs y n below ∙ h };
      there = λ n h. ap is_some (slot_pushed xs y n (there_below xs n h)) ∙ h;
    }

-- a place that is full and written has what was written
pub slot_set_there : {T : Type 0} (xs : List (Option T)) (n : ℕ) (x : T) (y : Option T) → slot xs n ≡ Some x → slot (set xs n y) n ≡ y
slot_set_there [] n x y h = cc
slot_set_there (z ∷ xs) zero x y h = refl
slot_set_there (z ∷ xs) (suc n) x y h = slot_set_there xs n x y h

-- a place of the list has what was written
pub set_within : {T : Type 0} (xs : List (Option T)) (n : ℕ) (y : Option T) → n < length xs → slot (set xs n y) n ≡ y
set_within [] n y below = absurd (omega arith)
set_within (x ∷ xs) zero y below = refl
set_within (x ∷ xs) (suc n) y below = set_within xs n y (omega arith)

-- and the others what they had
pub set_other : {T : Type 0} (xs : List (Option T)) (n m : ℕ) (y : Option T) → n ≢ m → slot (set xs n y) m ≡ slot xs m
set_other [] n m y apart = refl
set_other (x ∷ xs) zero zero y apart = absurd (apart refl)
set_other (x ∷ xs) zero (suc m) y apart = refl
set_other (x ∷ xs) (suc n) zero y apart = refl
set_other (x ∷ xs) (suc n) (suc m) y apart = set_other xs n m y (λ same. apart (ap suc same))

-- what was added stands at the end
pub slot_at_end : {T : Type 0} (xs : List (Option T)) (y : Option T) → slot (xs ++ y ∷ []) (length xs) ≡ y
slot_at_end [] y = refl
slot_at_end (x ∷ xs) y = slot_at_end xs y

-- the added place is there
pub pushed_there : {T : Type 0} (xs : List (Option T)) (y : T) → IsThere (xs ++ Some y ∷ []) (length xs)
pushed_there [] y = refl
pushed_there (x ∷ xs) y = pushed_there xs y

pub rises_twice : {T : Type 0} (xs ys zs : List (Option T)) → Rises xs ys → Rises ys zs → Rises xs zs
rises_twice xs ys zs r s =
    let first = r.longer in
    let second = s.longer in
    record { longer = omega arith; gone = λ n below h. s.gone n (omega arith) (r.gone n below h) }

-- a place that is emptied stays so, and so do all that were empty
emptied_stays : {T : Type 0} (xs : List (Option T)) (m n : ℕ) → slot xs n ≡ None → slot (set xs m None) n ≡ None
emptied_stays [] m n h = h
emptied_stays (x ∷ xs) zero zero h = refl
emptied_stays (x ∷ xs) zero (suc n) h = h
emptied_stays (x ∷ xs) (suc m) zero h = h
emptied_stays (x ∷ xs) (suc m) (suc n) h = emptied_stays xs m n h

pub rises_emptied : {T : Type 0} (xs : List (Option T)) (m : ℕ) → Rises xs (set xs m None)
rises_emptied {T} xs m =
    let none : Option T = None in
    let long : length (set xs m none) ≡ length xs = length-set xs m none in
    record { longer = omega arith; gone = λ n below h. emptied_stays xs m n h }

-- what holds of all that is there holds of all that is there after a place is written
pub each_set : {T : Type 0} (Has : T → Type 0) (xs : List (Option T)) (m : ℕ) (y : Option T) →
    EachThere Has xs → ((x : T) → y ≡ Some x → Has x) → EachThere Has (set xs m y)
each_set Has [] m y each new n x h = each n x h
each_set Has (z ∷ xs) zero y each new zero x h = new x h
each_set Has (z ∷ xs) zero y each new (suc n) x h = each (suc n) x h
each_set Has (z ∷ xs) (suc m) y each new zero x h = each zero x h
each_set Has (z ∷ xs) (suc m) y each new (suc n) x h = each_set Has xs m y (λ k. each (suc k)) new n x h

pub each_push : {T : Type 0} (Has : T → Type 0) (xs : List (Option T)) (y : T) → EachThere Has xs → Has y → EachThere Has (xs ++ Some y ∷ [])
each_push Has [] y each new zero x h = let same : y ≡ x = cc in subst Has same new
each_push Has [] y each new (suc n) x h = cc
each_push Has (z ∷ xs) y each new zero x h = each zero x h
each_push Has (z ∷ xs) y each new (suc n) x h = each_push Has xs y (λ k. each (suc k)) new n x h

-- what a sweep kept was there
pub kept_stood : {T : Type 0} (keeps : ℕ → Bool) (m : ℕ) (xs : List (Option T)) (n : ℕ) (x : T) → slot (kept_from keeps m xs) n ≡ Some x → slot xs n ≡ Some x
kept_stood keeps m [] n x h = h
kept_stood keeps m (y ∷ xs) zero x h = at (keeps m) h
  where
    at : (b : Bool) → cond b y None ≡ Some x → y ≡ Some x
    at true k = k
    at false k = cc
kept_stood keeps m (y ∷ xs) (suc n) x h = kept_stood keeps (suc m) xs n x h

-- what a sweep keeps is as it was
pub kept_as_is : {T : Type 0} (keeps : ℕ → Bool) (m : ℕ) (xs : List (Option T)) (n : ℕ) → keeps (m + n) ≡ true → slot (kept_from keeps m xs) n ≡ slot xs n
kept_as_is keeps m [] n h = refl
kept_as_is keeps m (x ∷ xs) zero h =
    let e : m + 0 ≡ m = omega arith in
    let first : keeps m ≡ true = ap keeps (sym e) ∙ h in
    rw first refl
kept_as_is keeps m (x ∷ xs) (suc n) h =
    let e : suc m + n ≡ m + suc n = omega arith in
    kept_as_is keeps (suc m) xs n (ap keeps e ∙ h)

pub length_kept : {T : Type 0} (keeps : ℕ → Bool) (m : ℕ) (xs : List (Option T)) → length (kept_from keeps m xs) ≡ length xs
length_kept keeps m [] = refl
length_kept keeps m (x ∷ xs) = ap suc (length_kept keeps (suc m) xs)

-- an element that passes is counted
pub counted : {X : Type 0} (p : X → Bool) (xs : List X) (n : ℕ) (d : X) → n < length xs → p (get_or xs n d) ≡ true → 0 < count_by p xs
counted p xs n d below h =
    let least = rw h at (get_or-le-sum_by (λ x. cond (p x) 1 0) xs n d below) in
    omega arith

-- where all stays as it is
pub stays_as_is : {T K : Type 0} (respect : T → K) (xs : List (Option T)) → StaysSame respect xs xs
stays_as_is respect xs n x y h k = let same : x ≡ y = cc in sym (ap respect same)

-- where what is there was there
pub stays_thinned : {T K : Type 0} (respect : T → K) (xs ys : List (Option T)) → ((n : ℕ) (y : T) → slot ys n ≡ Some y → slot xs n ≡ Some y) →
    StaysSame respect xs ys
stays_thinned respect xs ys was n x y h k = let stood = was n y k in let same : x ≡ y = cc in sym (ap respect same)

-- where a place is added
pub stays_pushed : {T K : Type 0} (respect : T → K) (xs : List (Option T)) (z : Option T) → StaysSame respect xs (xs ++ z ∷ [])
stays_pushed respect xs z n x y h k =
    let stood = slot_pushed xs z n (there_below xs n (stands_there xs n x h)) in
    let same : x ≡ y = cc in
    sym (ap respect same)

-- where a place is written
pub stays_set : {T K : Type 0} (respect : T → K) (xs : List (Option T)) (m : ℕ) (z : Option T) →
    ((x y : T) → slot xs m ≡ Some x → z ≡ Some y → respect y ≡ respect x) → StaysSame respect xs (set xs m z)
stays_set respect [] m z new n x y h k = stays_as_is respect [] n x y h k
stays_set respect (v ∷ xs) zero z new zero x y h k = new x y h k
stays_set respect (v ∷ xs) zero z new (suc n) x y h k = stays_as_is respect xs n x y h k
stays_set respect (v ∷ xs) (suc m) z new zero x y h k = stays_as_is respect (v ∷ xs) zero x y h k
stays_set respect (v ∷ xs) (suc m) z new (suc n) x y h k = stays_set respect xs m z new n x y h k

in_between : {T K : Type 0} (respect : T → K) (y last : Option T) (x z : T) → (y ≡ None → last ≡ None) → ((m : T) → y ≡ Some m → respect z ≡ respect x) →
    last ≡ Some z →
    respect z ≡ respect x
in_between respect None last x z none some h = let gone : last ≡ None = none refl in cc
in_between respect (Some m) last x z none some h = some m refl

-- what stands before and after two changes stood in between
pub stays_twice : {T K : Type 0} (respect : T → K) (xs ys zs : List (Option T)) → Rises xs ys → Rises ys zs → StaysSame respect xs ys →
    StaysSame respect ys zs → StaysSame respect xs zs
stays_twice respect xs ys zs r s first second n x z h k =
    let longer = r.longer in
    let below = there_below xs n (stands_there xs n x h) in
    in_between respect (slot ys n) (slot zs n) x z (λ e. s.gone n (omega arith) e) (λ y e. second n y z e k ∙ first n x y h e) k

-- a test that passes at each place that is full keeps all of them
kept_from_all : {T : Type 0} (keeps : ℕ → Bool) (k : ℕ) (xs : List (Option T)) → ((n : ℕ) → is_some (slot xs n) ≡ true → keeps (k + n) ≡ true) →
    kept_from keeps k xs ≡ xs
kept_from_all keeps k [] h = refl
kept_from_all keeps k (None ∷ xs) h =
    let rest = kept_from_all keeps (suc k) xs (λ n there. let e : suc k + n ≡ k + suc n = omega arith in rw e (h (suc n) there)) in
    elim (keeps k) as (λ b. cond b None None ∷ kept_from keeps (suc k) xs ≡ None ∷ xs) [ true ↦ ap (λ l. None ∷ l) rest | false ↦ ap (λ l. None ∷ l) rest ]
kept_from_all keeps k (Some x ∷ xs) h =
    let rest = kept_from_all keeps (suc k) xs (λ n there. let e : suc k + n ≡ k + suc n = omega arith in rw e (h (suc n) there)) in
    let here : keeps k ≡ true = let e : k ≡ k + 0 = omega arith in rw e (h 0 refl) in
    rw here (ap (λ l. Some x ∷ l) rest)

pub kept_all : {T : Type 0} (keeps : ℕ → Bool) (xs : List (Option T)) → ((n : ℕ) → is_some (slot xs n) ≡ true → keeps n ≡ true) → kept keeps xs ≡ xs
kept_all keeps xs h = kept_from_all keeps 0 xs (λ n there. let e : 0 + n ≡ n = omega arith in rw e (h n there))

-- with one place that may fail
kept_from_at : {T : Type 0} (keeps : ℕ → Bool) (k : ℕ) (xs : List (Option T)) (n : ℕ) → ((m : ℕ) → m ≢ n → is_some (slot xs m) ≡ true → keeps (k + m) ≡ true) →
    kept_from keeps k xs ≡ cond (keeps (k + n)) xs (set xs n None)
kept_from_at {T} keeps k [] n h = let P : Bool → Type 0 = λ b. ◌≡◌ {A = List (Option T)} [] (cond b [] []) in
    elim (keeps (k + n)) as P [ true ↦ refl | false ↦ refl ]
kept_from_at keeps k (x ∷ xs) zero h =
    let e : k + 0 ≡ k = omega arith in
    let rest = kept_from_all keeps (suc k) xs (λ n there. let e : suc k + n ≡ k + suc n = omega arith in rw e (h (suc n) (omega arith) there)) in
    rw (e, rest) (elim (keeps k) as (λ b. cond b x None ∷ xs ≡ cond b (x ∷ xs) (None ∷ xs)) [ true ↦ refl | false ↦ refl ])
kept_from_at keeps k (None ∷ xs) (suc n) h =
    let e : k + suc n ≡ suc k + n = omega arith in
    let rest = kept_from_at keeps (suc k) xs n (λ m other there. let e : suc k + m ≡ k + suc m = omega arith in rw e (h (suc m) (omega arith) there)) in
    rw (e, rest) (elim (keeps k) as (λ c. cond c None None ∷ cond (keeps (suc k + n)) xs (set xs n None) ≡ cond (keeps (suc k + n)) (None ∷ xs)
    (None ∷ set xs n None)) [
      | true ↦ elim (keeps (suc k + n)) as (λ b. None ∷ cond b xs (set xs n None) ≡ cond b (None ∷ xs) (None ∷ set xs n None)) [ true ↦ refl | false ↦ refl ]
      | false ↦ elim (keeps (suc k + n)) as (λ b. None ∷ cond b xs (set xs n None) ≡ cond b (None ∷ xs) (None ∷ set xs n None)) [ true ↦ refl | false ↦ refl ]
    ])
kept_from_at keeps k (Some x ∷ xs) (suc n) h =
    let e : k + suc n ≡ suc k + n = omega arith in
    let rest = kept_from_at keeps (suc k) xs n (λ m other there. let e : suc k + m ≡ k + suc m = omega arith in rw e (h (suc m) (omega arith) there)) in
    let here : keeps k ≡ true = let e : k ≡ k + 0 = omega arith in rw e (h 0 (omega arith) refl) in
    rw (e, here, rest) (elim (keeps (suc k + n)) as (λ b. Some x ∷ cond b xs (set xs n None) ≡ cond b (Some x ∷ xs) (Some x ∷ set xs n None)) [
      | true ↦
          refl
      | false ↦ refl
    ])

pub kept_at : {T : Type 0} (keeps : ℕ → Bool) (xs : List (Option T)) (n : ℕ) → ((m : ℕ) → m ≢ n → is_some (slot xs m) ≡ true → keeps m ≡ true) →
    kept keeps xs ≡ cond (keeps n) xs (set xs n None)
kept_at keeps xs n h =
    let e : 0 + n ≡ n = omega arith in
    rw e at (kept_from_at keeps 0 xs n (λ m other there. let e : 0 + m ≡ m = omega arith in rw e (h m other there)))

-- a function that changes nothing, or one place
pub map_all : {T : Type 0} (f : Option T → Option T) (xs : List (Option T)) → ((m : ℕ) → f (slot xs m) ≡ slot xs m) → map f xs ≡ xs
map_all f [] h = refl
map_all f (x ∷ xs) h = rw (h 0, map_all f xs (λ m. h (suc m))) refl

pub map_at : {T : Type 0} (f : Option T → Option T) (xs : List (Option T)) (n : ℕ) → ((m : ℕ) → m ≢ n → f (slot xs m) ≡ slot xs m) →
    map f xs ≡ set xs n (f (slot xs n))
map_at f [] n h = refl
map_at f (x ∷ xs) zero h = ap (λ ys. f x ∷ ys) (map_all f xs (λ m. h (suc m) (omega arith)))
map_at f (x ∷ xs) (suc n) h =
    let here : f x ≡ x = h 0 (omega arith) in
    rw (here, map_at f xs n (λ m other. h (suc m) (omega arith))) refl
