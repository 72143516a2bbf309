-- Readings that undo writings: a text is read again, whatever follows it, and what is read stands there as its text.
use Rattle.std.proofs.Common.{◌≡◌, ℕ, zero, suc, ◌<◌, ◌≤◌, Bool, true, false, cond, eqb, ltb, List, [], ◌∷◌, ◌++◌, length, get_or, take, drop, Option, Some, None, refl, sym, ap, subst, ◌∙◌, append_assoc, arith, inl, inr}
use Rattle.std.specs.Prelude.{◌⊎◌}
use Rattle.std.specs.List.{AllByRecursion}
use Rattle.std.proofs.lemmas.Bool.{ltb-false, le-ltb, eqb-true}
use Rattle.std.proofs.lemmas.Option.{cond_some}
use Rattle.std.proofs.lemmas.List.{append-nil, take-append-drop, length-take, length-append, take_at, drop_at}
use Rattle.call_types.specs.Ranges.{AreBytes}
use Rattle.frame_codec.specs.Proved.Reading.{◌>>=◌, Reading, lone, as_at, two_at, tested, front_at, Row, one_of, tagged, one_or, tagged_or, whole, payload_at}

-- what a reading took is the text of what it gives, and this is in range
pub record Taken {A : Type 0} (text : A → List ℕ) (Fits : A → Type 0) (bytes : List ℕ) (x : A × List ℕ) : Type 0 where
  pub parts : bytes ≡ text x.0 ++ x.1
  pub fits : Fits x.0
  pub rest : AreBytes x.1

-- a reading undoes a writing
pub record Reads {A : Type 0} (text : A → List ℕ) (Fits : A → Type 0) (read : Reading A) : Type 0 where
  pub again : (value : A) (rest : List ℕ) → Fits value → read (text value ++ rest) ≡ Some (value, rest)
  pub takes : (bytes : List ℕ) (x : A × List ℕ) → AreBytes bytes → read bytes ≡ Some x → Taken text Fits bytes x

-- ---- what steps and tests say

abbrev given : {A : Type 0} → A → Option A
given x = Some x

pub some_is : {A : Type 0} (x y : A) → given x ≡ given y → x ≡ y
some_is x y e = cc

pub bind_some : {A B : Type 0} (o : Option A) (f : A → Option B) (y : B) → (o >>= f) ≡ Some y → (x : A) × (o ≡ Some x) × (f x ≡ Some y)
bind_some (Some x) f y e = (x, refl, e)
bind_some None f y e = absurd cc

pub chosen : {A : Type 0} (b : Bool) (x y z : A) → cond b x y ≡ z → ((b ≡ true) × (x ≡ z)) ⊎ ((b ≡ false) × (y ≡ z))
chosen true x y z e = inl (refl, e)
chosen false x y z e = inr (refl, e)

pub guard_off : {A : Type 0} (b : Bool) (o : Option A) (y : A) → cond b None o ≡ Some y → (b ≡ false) × (o ≡ Some y)
guard_off true o y e = absurd cc
guard_off false o y e = (refl, e)

-- ---- bytes, each below 256

are_bytes_drop : (n : ℕ) (bytes : List ℕ) → AreBytes bytes → AreBytes (drop n bytes)
are_bytes_drop zero bytes h = h
are_bytes_drop (suc n) [] h = h
are_bytes_drop (suc n) (b ∷ bytes) h = are_bytes_drop n bytes h.1

are_bytes_take : (n : ℕ) (bytes : List ℕ) → AreBytes bytes → AreBytes (take n bytes)
are_bytes_take zero bytes h = tt
are_bytes_take (suc n) [] h = h
are_bytes_take (suc n) (b ∷ bytes) h = (h.0, are_bytes_take n bytes h.1)

-- one by one
pub by_index : (bytes : List ℕ) → AreBytes bytes → (i : ℕ) → get_or bytes i 0 < 256
by_index [] h i = omega arith
by_index (b ∷ bytes) h zero = h.0
by_index (b ∷ bytes) h (suc i) = by_index bytes h.1 i

pub are_bytes : (bytes : List ℕ) → ((i : ℕ) → get_or bytes i 0 < 256) → AreBytes bytes
are_bytes [] h = tt
are_bytes (b ∷ bytes) h = (h 0, are_bytes bytes (λ i. h (suc i)))

-- ---- bytes at the front

pub front_again : (text rest : List ℕ) (n : ℕ) → length text ≡ n → front_at n (text ++ rest) ≡ Some (text, rest)
front_again text rest n e =
    let long : ltb (length (text ++ rest)) n ≡ false = le-ltb _ _ (omega (arith, length-append text rest, e)) in
    rw (long, take_at text rest n e, drop_at text rest n e) refl

abbrev pub itself : List ℕ → List ℕ
itself bytes = bytes

abbrev pub IsLong : ℕ → List ℕ → Type 0
IsLong n bytes = AreBytes bytes × (length bytes ≡ n)

pub front_takes : (n : ℕ) (bytes : List ℕ) (x : List ℕ × List ℕ) → AreBytes bytes → front_at n bytes ≡ Some x → Taken itself (IsLong n) bytes x
front_takes n bytes x h e =
    let g = guard_off (ltb (length bytes) n) (Some (take n bytes, drop n bytes)) x e in
    let long : n ≤ length bytes = ltb-false _ _ g.0 in
    subst (λ (p : List ℕ × List ℕ). Taken itself (IsLong n) bytes p) (some_is (take n bytes, drop n bytes) x g.1)
    (record { parts = sym (take-append-drop n bytes); fits = (are_bytes_take n bytes h, omega (arith, length-take n bytes)); rest = are_bytes_drop n bytes h })

-- ---- readings made of others

-- one after the other
pub two : {A B : Type 0} (ta : A → List ℕ) (fa : A → Type 0) (ra : Reading A) (tb : B → List ℕ) (fb : B → Type 0) (rb : Reading B)
    → Reads ta fa ra → Reads tb fb rb → Reads (λ (p : A × B). ta p.0 ++ tb p.1) (λ (p : A × B). fa p.0 × fb p.1) (two_at ra rb)
two {A} {B} ta fa ra tb fb rb a b = record {
  again = λ p rest h.
      ap (two_at ra rb) (append_assoc (ta p.0) (tb p.1) rest)
      ∙ ap (λ (o : Option (A × List ℕ)). o >>= λ x. rb x.1 >>= λ y. Some ((x.0, y.0), y.1)) (a.again p.0 (tb p.1 ++ rest) h.0)
      ∙ ap (λ (o : Option (B × List ℕ)). o >>= λ y. Some ((p.0, y.0), y.1)) (b.again p.1 rest h.1);
  takes = λ bytes x h e.
      let first = bind_some (ra bytes) (λ (y : A × List ℕ). rb y.1 >>= λ z. Some ((y.0, z.0), z.1)) x e in
      let second = bind_some (rb first.0.1) (λ (z : B × List ℕ). Some ((first.0.0, z.0), z.1)) x first.2 in
      let front = a.takes bytes first.0 h first.1 in
      let back = b.takes first.0.1 second.0 front.rest second.1 in
      subst (λ (y : (A × B) × List ℕ). Taken (λ (p : A × B). ta p.0 ++ tb p.1) (λ (p : A × B). fa p.0 × fb p.1) bytes y)
      (some_is ((first.0.0, second.0.0), second.0.1) x second.2)
      (record {
        parts = front.parts ∙ ap (λ (bs : List ℕ). ta first.0.0 ++ bs) back.parts ∙ sym (append_assoc (ta first.0.0) (tb second.0.0) second.0.1);
        fits = (front.fits, back.fits);
        rest = back.rest;
      });
}

-- what is read, as something else that says the same
pub converted : {A B : Type 0} (text : A → List ℕ) (fa : A → Type 0) (read : Reading A) (there : A → B) (back : B → A) (fb : B → Type 0)
    → Reads text fa read → ((b : B) → fb b → fa (back b) × (there (back b) ≡ b)) → ((a : A) → fa a → fb (there a) × (back (there a) ≡ a))
    → Reads (λ (b : B). text (back b)) fb (as_at read there)
converted {A} {B} text fa read there back fb r into from = record {
  again = λ b rest h.
      ap (λ (o : Option (A × List ℕ)). o >>= λ x. Some (there x.0, x.1)) (r.again (back b) rest (into b h).0) ∙ ap (λ (c : B). Some (c, rest)) (into b h).1;
  takes = λ bytes x h e.
      let s = bind_some (read bytes) (λ (y : A × List ℕ). Some (there y.0, y.1)) x e in
      let k = r.takes bytes s.0 h s.1 in
      let f = from s.0.0 k.fits in
      subst (λ (y : B × List ℕ). Taken (λ (b : B). text (back b)) fb bytes y) (some_is (there s.0.0, s.0.1) x s.2)
      (record { parts = k.parts ∙ ap (λ (a : A). text a ++ s.0.1) (sym f.1); fits = f.0; rest = k.rest });
}

-- a value that passes a test
pub passed : {A : Type 0} (text : A → List ℕ) (Fits Passes : A → Type 0) (read : Reading A) (test : A → Bool)
    → Reads text Fits read → ((v : A) → Passes v → test v ≡ true) → ((v : A) → test v ≡ true → Passes v) → Reads text (λ (v : A). Fits v × Passes v)
    (tested test read)
passed {A} text Fits Passes read test r into from = record {
  again = λ v rest h.
      ap (λ (o : Option (A × List ℕ)). o >>= λ x. cond (test x.0) (Some x) None) (r.again v rest h.0)
      ∙ ap (λ (b : Bool). cond b (given (v, rest)) None) (into v h.1);
  takes = λ bytes x h e.
      let s = bind_some (read bytes) (λ (y : A × List ℕ). cond (test y.0) (Some y) None) x e in
      let k = r.takes bytes s.0 h s.1 in
      let g = cond_some (test s.0.0) s.0 x s.2 in
      subst (λ (y : A × List ℕ). Taken text (λ (v : A). Fits v × Passes v) bytes y) g.1
      (record { parts = k.parts; fits = (k.fits, from s.0.0 g.0); rest = k.rest });
}

-- ---- rows, of which a byte picks one

abbrev pub RowTakes : {A : Type 0} → (A → List ℕ) → (A → Type 0) → Row A → Type 0
RowTakes {A} text Fits row = (bytes : List ℕ) (x : A × List ℕ) → AreBytes bytes → row.1 bytes ≡ Some x → Taken text Fits (row.0 ∷ bytes) x

-- a row that is made of a reading
pub led : {A B : Type 0} (text : A → List ℕ) (Fits : A → Type 0) (t : B → List ℕ) (f : B → Type 0) (read : Reading B) (b : ℕ) (make : B → A)
    → Reads t f read → ((v : B) → text (make v) ≡ b ∷ t v) → ((v : B) → f v → Fits (make v)) → RowTakes text Fits (b, as_at read make)
led {A} {B} text Fits t f read b make r is fits = λ bytes x h e.
    let s = bind_some (read bytes) (λ (y : B × List ℕ). Some (make y.0, y.1)) x e in
    let k = r.takes bytes s.0 h s.1 in
    subst (λ (y : A × List ℕ). Taken text Fits (b ∷ bytes) y) (some_is (make s.0.0, s.0.1) x s.2)
    (record { parts = ap (λ (bs : List ℕ). b ∷ bs) k.parts ∙ ap (λ (bs : List ℕ). bs ++ s.0.1) (sym (is s.0.0)); fits = fits s.0.0 k.fits; rest = k.rest })

-- a row without fields
pub alone : {A : Type 0} (text : A → List ℕ) (Fits : A → Type 0) (b : ℕ) (value : A) → text value ≡ b ∷ [] → Fits value → RowTakes text Fits (b, lone value)
alone {A} text Fits b value is fits = λ bytes x h e.
    subst (λ (y : A × List ℕ). Taken text Fits (b ∷ bytes) y) (some_is (value, bytes) x e)
    (record { parts = ap (λ (bs : List ℕ). bs ++ bytes) (sym is); fits = fits; rest = h })

pub rows_take : {A : Type 0} (text : A → List ℕ) (Fits : A → Type 0) (rows : List (Row A)) (b : ℕ) (bytes : List ℕ) (x : A × List ℕ)
    → AllByRecursion (RowTakes text Fits) rows → AreBytes bytes → one_of rows b bytes ≡ Some x → Taken text Fits (b ∷ bytes) x
rows_take text Fits [] b bytes x p h e = absurd cc
rows_take text Fits (row ∷ rows) b bytes x p h e =
    elim (chosen (eqb b row.0) (row.1 bytes) (one_of rows b bytes) (Some x) e) [
      | inl is ↦ subst (λ (n : ℕ). Taken text Fits (n ∷ bytes) x) (sym (eqb-true b row.0 is.0)) (p.0 bytes x h is.1)
      | inr other ↦ rows_take text Fits rows b bytes x p.1 h other.1
    ]

pub tagged_takes : {A : Type 0} (text : A → List ℕ) (Fits : A → Type 0) (rows : List (Row A)) (bytes : List ℕ) (x : A × List ℕ)
    → AllByRecursion (RowTakes text Fits) rows → AreBytes bytes → tagged rows bytes ≡ Some x → Taken text Fits bytes x
tagged_takes text Fits rows [] x p h e = absurd cc
tagged_takes text Fits rows (b ∷ bytes) x p h e = rows_take text Fits rows b bytes x p h.1 e

-- ---- rows, and another reading where no row has the byte

-- what a reading takes is the text of what it gives
abbrev pub TakesText : {A : Type 0} → (A → List ℕ) → (A → Type 0) → Reading A → Type 0
TakesText {A} text Fits read = (bytes : List ℕ) (x : A × List ℕ) → AreBytes bytes → read bytes ≡ Some x → Taken text Fits bytes x

-- a reading that gives something else, with the same text
pub remade : {A B : Type 0} (text : A → List ℕ) (Fits : A → Type 0) (t : B → List ℕ) (f : B → Type 0) (read : Reading B) (make : B → A)
    → Reads t f read → ((v : B) → text (make v) ≡ t v) → ((v : B) → f v → Fits (make v)) → TakesText text Fits (as_at read make)
remade {A} {B} text Fits t f read make r is fits = λ bytes x h e.
    let s = bind_some (read bytes) (λ (y : B × List ℕ). Some (make y.0, y.1)) x e in
    let k = r.takes bytes s.0 h s.1 in
    subst (λ (y : A × List ℕ). Taken text Fits bytes y) (some_is (make s.0.0, s.0.1) x s.2)
    (record { parts = k.parts ∙ ap (λ (bs : List ℕ). bs ++ s.0.1) (sym (is s.0.0)); fits = fits s.0.0 k.fits; rest = k.rest })

rows_or_take : {A : Type 0} (text : A → List ℕ) (Fits : A → Type 0) (rows : List (Row A)) (other : Reading A) (b : ℕ) (bytes : List ℕ) (x : A × List ℕ)
    → AllByRecursion (RowTakes text Fits) rows → TakesText text Fits other → AreBytes (b ∷ bytes) → one_or rows other b bytes ≡ Some x →
    Taken text Fits (b ∷ bytes) x
rows_or_take text Fits [] other b bytes x p q h e = q (b ∷ bytes) x h e
rows_or_take text Fits (row ∷ rows) other b bytes x p q h e =
    elim (chosen (eqb b row.0) (row.1 bytes) (one_or rows other b bytes) (Some x) e) [
      | inl is ↦ subst (λ (n : ℕ). Taken text Fits (n ∷ bytes) x) (sym (eqb-true b row.0 is.0)) (p.0 bytes x h.1 is.1)
      | inr next ↦ rows_or_take text Fits rows other b bytes x p.1 q h next.1
    ]

pub tagged_or_takes : {A : Type 0} (text : A → List ℕ) (Fits : A → Type 0) (rows : List (Row A)) (other : Reading A)
    → AllByRecursion (RowTakes text Fits) rows → TakesText text Fits other → TakesText text Fits (tagged_or rows other)
tagged_or_takes text Fits rows other p q [] x h e = absurd cc
tagged_or_takes text Fits rows other p q (b ∷ bytes) x h e = rows_or_take text Fits rows other b bytes x p q h e

-- ---- whole payloads

pub payload_again : {A : Type 0} (text : A → List ℕ) (Fits : A → Type 0) (read : Reading A) → Reads text Fits read → (value : A) → Fits value →
    payload_at read (text value) ≡ Some value
payload_again {A} text Fits read r value h =
    ap (payload_at read) (sym (append-nil (text value)))
    ∙ ap (λ (o : Option (A × List ℕ)). o >>= λ x. whole x.0 x.1) (r.again value [] h)

whole_takes : {A : Type 0} (x y : A) (rest : List ℕ) → whole x rest ≡ Some y → (x ≡ y) × (rest ≡ [])
whole_takes x y [] e = (some_is x y e, refl)
whole_takes x y (b ∷ rest) e = absurd cc

pub payload_takes : {A : Type 0} (text : A → List ℕ) (Fits : A → Type 0) (read : Reading A) → Reads text Fits read
    → (payload : List ℕ) (value : A) → AreBytes payload → payload_at read payload ≡ Some value → Fits value × (payload ≡ text value)
payload_takes {A} text Fits read r payload value h e =
    let s = bind_some (read payload) (λ (x : A × List ℕ). whole x.0 x.1) value e in
    let w = whole_takes s.0.0 value s.0.1 s.2 in
    let t = r.takes payload s.0 h s.1 in
    (subst Fits w.0 t.fits, t.parts ∙ ap (λ (bs : List ℕ). text s.0.0 ++ bs) w.1 ∙ append-nil (text s.0.0) ∙ ap text w.0)
