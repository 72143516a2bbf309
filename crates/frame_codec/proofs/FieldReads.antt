-- Each kind of field is read again from its bytes, and from these alone.
use Rattle.std.proofs.Common.{◌≡◌, ℕ, ◌*◌, ◌^◌, ◌<◌, ◌≤◌, cond, eqb, ltb, List, [], ◌∷◌, ◌++◌, length, Option, Some, None, refl, sym, ap, subst, ◌∙◌, append_assoc, arith, inl, inr, ℤ, FitsSigned}
use Rattle.std.specs.Int.{Width, w32, w64, byte_len, from_be_bytes, to_be_bytes, cast_signed, cast_unsigned}
use Rattle.std.proofs.lemmas.Bool.{ltb-false, ltb-true, le-ltb, lt-ltb, cond-false, eqb-true}
use Rattle.std.proofs.lemmas.Nat.{from_be_bytes-to_be_bytes_4, from_be_bytes-to_be_bytes_8, be_bytes_4, be_bytes_8}
use Rattle.std.proofs.lemmas.Int.{to_z-of_z, of_z-to_z}
use Rattle.std.proofs.lemmas.Option.{cond_some}
use Rattle.std.proofs.Math.Facts.{Fits-lt-pow, Fits-of_z, Fits-of_lt, sfits_to_z}
use Rattle.call_types.specs.CallTable.{FieldKind, a_descriptor, a_position, a_count, a_name, a_payload, some_flags, a_whence}
use Rattle.call_types.specs.Flags.{nonblocking}
use Rattle.call_types.specs.Ranges.{AreBytes, FieldFits}
use Rattle.call_types.specs.declared.limits.TheConstants.{GIVEN_BYTES_MAX}
use Rattle.call_types.specs.declared.whence.Whence.{Whence}
use Rattle.call_types.specs.declared.whence.Whence.TheVariants as whences
use Rattle.frame_codec.specs.Fields.{number_bytes, counted_bytes, whence_byte, field_bytes}
use Rattle.frame_codec.specs.Proved.Reading.{◌>>=◌, front_at, number_at, byte_at, counted_at}
use Rattle.frame_codec.specs.Proved.ReadingRequests.{whence_of, flags_of, name_at, field_at}
use Rattle.frame_codec.proofs.Steps.{Taken, Reads, some_is, bind_some, chosen, guard_off, by_index, front_again, front_takes, converted}

-- ---- numbers

abbrev pub Below32 : ℕ → Type 0
Below32 n = n < 2 ^ 32

abbrev pub Below64 : ℕ → Type 0
Below64 n = n < 2 ^ 64

-- numbers of a width below a limit, and their bytes
record IsWide (w : Width) (limit : ℕ) : Type 0 where
  back : (bytes : List ℕ) → length bytes ≡ byte_len w → AreBytes bytes → to_be_bytes w (from_be_bytes w bytes) ≡ bytes
  below : (bytes : List ℕ) → AreBytes bytes → from_be_bytes w bytes < limit

wide32 : IsWide w32 (2 ^ 32)
wide32 = record {
  back = λ bytes len h. be_bytes_4 bytes _ len (by_index bytes h) refl;
  below = λ bytes h. omega (arith, by_index bytes h 0, by_index bytes h 1, by_index bytes h 2, by_index bytes h 3);
}

wide64 : IsWide w64 (2 ^ 64)
wide64 = record {
  back = λ bytes len h. be_bytes_8 bytes _ len (by_index bytes h) refl;
  below = λ bytes h. omega (
    arith,
    by_index bytes h 0,
    by_index bytes h 1,
    by_index bytes h 2,
    by_index bytes h 3,
    by_index bytes h 4,
    by_index bytes h 5,
    by_index bytes h 6,
    by_index bytes h 7,
  );
}

number_takes : (w : Width) (limit : ℕ) → IsWide w limit → (bytes : List ℕ) (x : ℕ × List ℕ) → AreBytes bytes → number_at w bytes ≡ Some x →
    Taken (number_bytes w) (λ (n : ℕ). n < limit) bytes x
unfolding number_bytes number_at
number_takes w limit wide bytes x h e =
    let s = bind_some (front_at (byte_len w) bytes) (λ (y : List ℕ × List ℕ). Some (from_be_bytes w y.0, y.1)) x e in
    let t = front_takes (byte_len w) bytes s.0 h s.1 in
    subst (λ (p : ℕ × List ℕ). Taken (number_bytes w) (λ (n : ℕ). n < limit) bytes p) (some_is (from_be_bytes w s.0.0, s.0.1) x s.2)
    (record {
      parts = t.parts ∙ ap (λ (bs : List ℕ). bs ++ s.0.1) (sym (wide.back s.0.0 t.fits.1 t.fits.0));
      fits = wide.below s.0.0 t.fits.0;
      rest = t.rest;
    })

again32 : (n : ℕ) (rest : List ℕ) → n < 2 ^ 32 → number_at w32 (number_bytes w32 n ++ rest) ≡ Some (n, rest)
unfolding number_bytes number_at
again32 n rest h =
    ap (λ (o : Option (List ℕ × List ℕ)). o >>= λ x. Some (from_be_bytes w32 x.0, x.1)) (front_again (to_be_bytes w32 n) rest 4 refl)
    ∙ ap (λ (m : ℕ). Some (m, rest)) (from_be_bytes-to_be_bytes_4 n h)

again64 : (n : ℕ) (rest : List ℕ) → n < 2 ^ 64 → number_at w64 (number_bytes w64 n ++ rest) ≡ Some (n, rest)
unfolding number_bytes number_at
again64 n rest h =
    ap (λ (o : Option (List ℕ × List ℕ)). o >>= λ x. Some (from_be_bytes w64 x.0, x.1)) (front_again (to_be_bytes w64 n) rest 8 refl)
    ∙ ap (λ (m : ℕ). Some (m, rest)) (from_be_bytes-to_be_bytes_8 n h)

pub reads32 : Reads (number_bytes w32) Below32 (number_at w32)
reads32 = record { again = again32; takes = number_takes w32 (2 ^ 32) wide32 }

pub reads64 : Reads (number_bytes w64) Below64 (number_at w64)
reads64 = record { again = again64; takes = number_takes w64 (2 ^ 64) wide64 }

-- ---- bytes after their count

pub counted : (most : ℕ) → most < 2 ^ 32 → Reads counted_bytes (λ (bytes : List ℕ). AreBytes bytes × (length bytes ≤ most)) (counted_at most)
counted most small = record {
  again = λ bytes rest h.
      ap (counted_at most) (append_assoc (number_bytes w32 (length bytes)) bytes rest)
      ∙ ap (λ (o : Option (ℕ × List ℕ)). o >>= λ count. cond (ltb most count.0) None (front_at count.0 count.1))
      (again32 (length bytes) (bytes ++ rest) (omega (arith, h.1, small)))
      ∙ cond-false (ltb most (length bytes)) None (front_at (length bytes) (bytes ++ rest)) (le-ltb _ _ h.1)
      ∙ front_again bytes rest (length bytes) refl;
  takes = λ bytes x h e.
      let s = bind_some (number_at w32 bytes) (λ (count : ℕ × List ℕ). cond (ltb most count.0) None (front_at count.0 count.1)) x e in
      let n = reads32.takes bytes s.0 h s.1 in
      let g = guard_off (ltb most s.0.0) (front_at s.0.0 s.0.1) x s.2 in
      let t = front_takes s.0.0 s.0.1 x n.rest g.1 in
      let few : s.0.0 ≤ most = ltb-false _ _ g.0 in
      record {
        parts =
            n.parts ∙ ap (λ (m : ℕ). number_bytes w32 m ++ s.0.1) (sym t.fits.1) ∙ ap (λ (bs : List ℕ). number_bytes w32 (length x.0) ++ bs) t.parts
            ∙ sym (append_assoc (number_bytes w32 (length x.0)) x.0 x.1);
        fits = (t.fits.0, omega (arith, t.fits.1, few));
        rest = t.rest;
      };
}

-- ---- bytes that have a value

byte_takes : {A : Type 0} (byte : A → ℕ) (value : ℕ → Option A) (Fits : A → Type 0) → ((b : ℕ) (a : A) → value b ≡ Some a → (b ≡ byte a) × Fits a)
    → (bytes : List ℕ) (x : A × List ℕ) → AreBytes bytes → byte_at value bytes ≡ Some x → Taken (λ (a : A). byte a ∷ []) Fits bytes x
byte_takes byte value Fits there [] x h e = absurd cc
byte_takes {A} byte value Fits there (b ∷ bytes) x h e =
    let v = bind_some (value b) (λ (y : A). Some (y, bytes)) x e in
    let t = there b v.0 v.1 in
    subst (λ (y : A × List ℕ). Taken (λ (a : A). byte a ∷ []) Fits (b ∷ bytes) y) (some_is (v.0, bytes) x v.2)
    (record { parts = ap (λ (n : ℕ). n ∷ bytes) t.0; fits = t.1; rest = h.1 })

pub byted : {A : Type 0} (byte : A → ℕ) (value : ℕ → Option A) (Fits : A → Type 0)
    → ((a : A) → Fits a → value (byte a) ≡ Some a) → ((b : ℕ) (a : A) → value b ≡ Some a → (b ≡ byte a) × Fits a)
    → Reads (λ (a : A). byte a ∷ []) Fits (byte_at value)
byted {A} byte value Fits back there = record {
  again = λ a rest h. ap (λ (o : Option A). o >>= λ x. Some (x, rest)) (back a h);
  takes = byte_takes byte value Fits there;
}

whence_back : (whence : Whence) → Unit {0} → whence_of (whence_byte whence) ≡ Some whence
whence_back whences.Set h = refl
whence_back whences.Cur h = refl
whence_back whences.End h = refl

whence_there : (b : ℕ) (whence : Whence) → whence_of b ≡ Some whence → (b ≡ whence_byte whence) × Unit {0}
whence_there b whence e =
    let none : Option Whence = None in
    let at_end : Option Whence = cond (eqb b 2) (Some whences.End) none in
    let at_cur : Option Whence = cond (eqb b 1) (Some whences.Cur) at_end in
    elim (chosen (eqb b 0) (Some whences.Set) at_cur (Some whence) e) [
      | inl is ↦ (eqb-true b 0 is.0 ∙ ap whence_byte (some_is whences.Set whence is.1), tt)
      | inr other ↦
          elim (chosen (eqb b 1) (Some whences.Cur) at_end (Some whence) other.1) [
            | inl is ↦ (eqb-true b 1 is.0 ∙ ap whence_byte (some_is whences.Cur whence is.1), tt)
            | inr last ↦ let g = cond_some (eqb b 2) whences.End whence last.1 in (eqb-true b 2 g.0 ∙ ap whence_byte g.1, tt)
          ]
    ]

abbrev its_bits : ℕ → ℕ
its_bits bits = bits

flags_back : (bits : ℕ) → bits < 2 * nonblocking → flags_of bits ≡ Some bits
flags_back bits h = rw (lt-ltb bits (2 * nonblocking) h) refl

flags_there : (b bits : ℕ) → flags_of b ≡ Some bits → (b ≡ its_bits bits) × (bits < 2 * nonblocking)
flags_there b bits e =
    let g = cond_some (ltb b (2 * nonblocking)) b bits e in
    (g.1, subst (λ (n : ℕ). n < 2 * nonblocking) g.1 (ltb-true b (2 * nonblocking) g.0))

-- ---- names

name_takes : (bytes : List ℕ) (x : List ℕ × List ℕ) → AreBytes bytes → name_at bytes ≡ Some x → Taken (field_bytes a_name) (FieldFits a_name) bytes x
name_takes [] x h e = absurd cc
name_takes (len ∷ bytes) x h e =
    let t = front_takes len bytes x h.1 e in
    record {
      parts = ap (λ (n : ℕ). n ∷ bytes) (sym t.fits.1) ∙ ap (λ (bs : List ℕ). length x.0 ∷ bs) t.parts;
      fits = (t.fits.0, omega (arith, t.fits.1, h.0));
      rest = t.rest;
    }

-- ---- every kind of field

below32 : (z : ℤ) → FitsSigned w32 z → cast_unsigned w32 z < 2 ^ 32
below32 z h = Fits-lt-pow {w = w32} (Fits-of_z {w = w32} {z = z} h)

below64 : (z : ℤ) → FitsSigned w64 z → cast_unsigned w64 z < 2 ^ 64
below64 z h = Fits-lt-pow {w = w64} (Fits-of_z {w = w64} {z = z} h)

pub field_reads : (k : FieldKind) → Reads (field_bytes k) (FieldFits k) (field_at k)
field_reads a_descriptor =
    converted (number_bytes w32) Below32 (number_at w32) (cast_signed w32) (cast_unsigned w32) (FitsSigned w32) reads32
    (λ z h. (below32 z h, to_z-of_z w32 z h)) (λ n h. (sfits_to_z {w = w32} (Fits-of_lt {w = w32} h), of_z-to_z w32 n h))
field_reads a_position =
    converted (number_bytes w64) Below64 (number_at w64) (cast_signed w64) (cast_unsigned w64) (FitsSigned w64) reads64
    (λ z h. (below64 z h, to_z-of_z w64 z h)) (λ n h. (sfits_to_z {w = w64} (Fits-of_lt {w = w64} h), of_z-to_z w64 n h))
field_reads a_count = reads32
field_reads a_name = record { again = λ name rest h. front_again name rest (length name) refl; takes = name_takes }
field_reads a_payload = counted GIVEN_BYTES_MAX (omega arith)
field_reads some_flags = byted its_bits flags_of (λ (bits : ℕ). bits < 2 * nonblocking) flags_back flags_there
field_reads a_whence = byted whence_byte whence_of (λ (whence : Whence). Unit {0}) whence_back whence_there
