-- Headers, as bytes go on, and read again.
use Rattle.std.proofs.Common.{◌≡◌, ℕ, ◌+◌, ◌-◌, ◌<◌, ◌≤◌, ◌^◌, Bool, true, false, cond, eqb, List, [], ◌∷◌, ◌++◌, Option, None, Some, length, take, drop, refl, sym, ap, subst, ◌∙◌, append_assoc, length-append, length-drop, arith, inl, inr}
use Rattle.std.specs.Prelude.{nat_lt, nat_le, codes, ◌||◌, ◌&&◌}
use Rattle.std.specs.Int.{w32, w64, from_be_bytes, to_be_bytes}
use Rattle.std.proofs.lemmas.Bool.{cases_lt, leb-true, le-ltb, lt-ltb, eqb-true}
use Rattle.std.proofs.lemmas.List.{take-append-drop, take-append-le, drop-append-le}
use Rattle.std.proofs.Math.Seq.{drop-append-add}
use Rattle.std.proofs.lemmas.Bool.Decides.{nat_tests}
use Rattle.std.proofs.lemmas.Nat.{from_be_bytes-to_be_bytes_4, from_be_bytes-to_be_bytes_8}
use Rattle.call_types.specs.declared.limits.TheConstants.{FILE_SIZE_1, FILE_SIZE_MAX, PIPE_CAPACITY_MAX, PIPE_CAPACITY_MIN, RECORDS_MAX}
use Rattle.frame_codec.specs.Fields.{number_bytes}
use Rattle.frame_codec.specs.Trace.{header, header_2, header_after, is_told, is_most, limits_bytes, limits_header, most_of, number_of, told_in, version_1, version_header}
use Rattle.frame_codec.specs.Proved.Headers.{EndsAfter, GoesOn, HeaderGoesOn, HeadersAreRead, HeadersTell, TellsLimits}
use Rattle.frame_codec.specs.declared.trace.Header.{Header}
use Rattle.frame_codec.specs.declared.trace.Header.TheVariants.{Unheaded, Short, Headed}
use Rattle.frame_codec.specs.declared.trace.ToldLimits.{ToldLimits}
use Rattle.frame_codec.specs.declared.trace.TheConstants.{HEADER_1_LENGTH, HEADER_2_LENGTH, VERSION_1, VERSION_2}

-- ---- more bytes

-- what the bytes of three fields tell
abbrev told_from : List ℕ → List ℕ → List ℕ → ToldLimits
told_from records capacity size = record {
  records = most_of (from_be_bytes w32 records);
  bounds = record { file_size = from_be_bytes w64 size; pipe_capacity = from_be_bytes w32 capacity };
}

-- sixteen bytes are the same fields, however they go on
same_fields : (fields more : List ℕ) → 16 ≤ length fields → told_in (fields ++ more) ≡ told_in fields
same_fields fields more long =
    let first : take 4 (fields ++ more) ≡ take 4 fields = take-append-le 4 fields more (omega arith) in
    let left : drop 4 (fields ++ more) ≡ drop 4 fields ++ more = drop-append-le 4 fields more (omega arith) in
    let last : drop 8 (fields ++ more) ≡ drop 8 fields ++ more = drop-append-le 8 fields more (omega arith) in
    let second : take 4 (drop 4 fields ++ more) ≡ take 4 (drop 4 fields) = take-append-le 4 (drop 4 fields) more (omega (arith, length-drop 4 fields)) in
    let third : take 8 (drop 8 fields ++ more) ≡ take 8 (drop 8 fields) = take-append-le 8 (drop 8 fields) more (omega (arith, length-drop 8 fields)) in
    fields_by (take 4 (fields ++ more)) (take 4 fields) (take 4 (drop 4 (fields ++ more))) (take 4 (drop 4 fields)) (take 8 (drop 8 (fields ++ more)))
    (take 8 (drop 8 fields))
    first (ap (take 4) left ∙ second) (ap (take 8) last ∙ third)
  where
    fields_by : (a b c d e f : List ℕ) → a ≡ b → c ≡ d → e ≡ f → told_from a c e ≡ told_from b d f
    fields_by a b c d e f p q r = ap (λ x. told_from x c e) p ∙ ap (λ x. told_from b x e) q ∙ ap (λ x. told_from b d x) r

-- how bytes go on of which so many come before these
abbrev GoOn : ℕ → (List ℕ → Header) → Type 0
GoOn met next = (bytes more : List ℕ) → GoesOn (met + length bytes) (next bytes) (next (bytes ++ more))

-- where the fields are whole, they stay what they are
whole_fields : (t : Bool) (told : ToldLimits) (met : ℕ) → 24 ≤ met → GoesOn met (cond t (Headed told HEADER_2_LENGTH) Unheaded)
    (cond t (Headed told HEADER_2_LENGTH) Unheaded)
whole_fields true told met long = (refl, long)
whole_fields false told met long = refl

-- a header of version 2 ends only after 24 bytes
ends_late : (short t : Bool) (told : ToldLimits) (met : ℕ) → met < 24 → EndsAfter met (cond short Short (cond t (Headed told HEADER_2_LENGTH) Unheaded))
ends_late true t told met few = tt
ends_late false true told met few = few
ends_late false false told met few = tt

-- fields that are whole are a header, if it may tell what they do
fields_are : (fields : List ℕ) (told : ToldLimits) → nat_lt (length fields) 16 ≡ false → told_in fields ≡ told → limits_header fields ≡ cond (is_told told)
    (Headed told HEADER_2_LENGTH) Unheaded
fields_are fields told whole same =
    ap (λ (t : Bool). cond t Short (cond (is_told (told_in fields)) (Headed (told_in fields) HEADER_2_LENGTH) Unheaded)) whole
    ∙ ap (λ (t : ToldLimits). cond (is_told t) (Headed t HEADER_2_LENGTH) Unheaded) same

limits_go_on : GoOn 8 limits_header
limits_go_on fields more = elim (cases_lt (length fields) 16) [
  | inl few ↦
      let short : nat_lt (length fields) 16 ≡ true = lt-ltb _ _ few in
      rw short (
        omega arith,
        ends_late (nat_lt (length (fields ++ more)) 16) (is_told (told_in (fields ++ more))) (told_in (fields ++ more)) (8 + length fields)
            (omega arith),
      )
  | inr long ↦
      let met = 8 + length fields in
      let told = told_in fields in
      let now = fields_are fields told (le-ltb _ _ long) refl in
      let later = fields_are (fields ++ more) told (le-ltb _ _ (omega (arith, length-append fields more))) (same_fields fields more long) in
      subst (λ (h : Header). GoesOn met h (limits_header (fields ++ more))) (sym now)
      (subst (λ (h : Header). GoesOn met (cond (is_told told) (Headed told HEADER_2_LENGTH) Unheaded) h) (sym later)
      (whole_fields (is_told told) told met (omega arith)))
]

-- a version's header goes on as its fields do
version_by : (one two : Bool) (met : ℕ) (now later : Header) → 8 ≤ met → GoesOn met now later
    → GoesOn met (cond one (Headed version_1 HEADER_1_LENGTH) (cond two now Unheaded)) (cond one (Headed version_1 HEADER_1_LENGTH) (cond two later Unheaded))
version_by true two met now later long on = (refl, long)
version_by false true met now later long on = on
version_by false false met now later long on = refl

-- every header ends after its seventh byte
version_late : (bytes : List ℕ) → EndsAfter 7 (version_header bytes)
version_late [] = tt
version_late (v ∷ fields) =
    late_by (eqb v VERSION_1) (eqb v VERSION_2) (limits_header fields)
    (ends_late (nat_lt (length fields) 16) (is_told (told_in fields)) (told_in fields) 7 (omega arith))
  where
    late_by : (one two : Bool) (h : Header) → EndsAfter 7 h → EndsAfter 7 (cond one (Headed version_1 HEADER_1_LENGTH) (cond two h Unheaded))
    late_by true two h late = omega arith
    late_by false true h late = late
    late_by false false h late = tt

version_goes_on : GoOn 7 version_header
version_goes_on [] more = (omega arith, version_late more)
version_goes_on (v ∷ fields) more =
    let longer : 8 + length fields ≡ 7 + length (v ∷ fields) = omega arith in
    subst (λ (met : ℕ). GoesOn met (version_header (v ∷ fields)) (version_header (v ∷ (fields ++ more)))) longer
    (version_by (eqb v VERSION_1) (eqb v VERSION_2) (8 + length fields) (limits_header fields) (limits_header (fields ++ more)) (omega arith)
    (limits_go_on fields more))

text_late : (text : List ℕ) (next : List ℕ → Header) → ((bytes : List ℕ) → EndsAfter 7 (next bytes)) → (bytes : List ℕ) →
    EndsAfter 7 (header_after text next bytes)
text_late [] next late bytes = late bytes
text_late (c ∷ text) next late [] = tt
text_late (c ∷ text) next late (b ∷ bytes) =
    elim (eqb b c) as (λ (t : Bool). EndsAfter 7 (cond t (header_after text next bytes) Unheaded)) [ true ↦ text_late text next late bytes | false ↦ tt ]

ends_sooner : (met : ℕ) (h : Header) → met ≤ 7 → EndsAfter 7 h → EndsAfter met h
ends_sooner met (Headed told n) few late = omega arith
ends_sooner met Short few late = tt
ends_sooner met Unheaded few late = tt

-- what bytes are that are to begin with a text goes on as what comes after it does
text_goes_on : (met : ℕ) (text : List ℕ) (next : List ℕ → Header) → met + length text ≤ 7 → ((bytes : List ℕ) → EndsAfter 7 (next bytes)) →
    GoOn (met + length text) next
    → GoOn met (header_after text next)
text_goes_on met [] next few late on bytes more = let same : met + 0 ≡ met = omega arith in subst (λ (m : ℕ). GoOn m next) same on bytes more
text_goes_on met (c ∷ text) next few late on [] more =
    (omega arith, ends_sooner (met + 0) (header_after (c ∷ text) next more) (omega arith) (text_late (c ∷ text) next late more))
text_goes_on met (c ∷ text) next few late on (b ∷ bytes) more =
    let longer : (met + 1) + length text ≡ met + length (c ∷ text) = omega arith in
    let further : (met + 1) + length bytes ≡ met + length (b ∷ bytes) = omega arith in
    let rest = text_goes_on (met + 1) text next (omega arith) late (subst (λ (m : ℕ). GoOn m next) (sym longer) on) bytes more in
    elim (eqb b c) as (λ (t : Bool). GoesOn (met + length (b ∷ bytes)) (cond t (header_after text next bytes) Unheaded)
    (cond t (header_after text next (bytes ++ more)) Unheaded)) [
      | true ↦ subst (λ (m : ℕ). GoesOn m (header_after text next bytes) (header_after text next (bytes ++ more))) further rest
      | false ↦ refl
    ]

pub headers_go_on : HeaderGoesOn
headers_go_on bytes more =
    let none : 0 + length bytes ≡ length bytes = omega arith in
    subst (λ (m : ℕ). GoesOn m (header bytes) (header (bytes ++ more))) none
    (text_goes_on 0 (codes "FDTRACE") version_header (omega arith) version_late version_goes_on bytes more)

-- ---- headers, read again

both_left : (a b : Bool) → (a && b) ≡ true → a ≡ true
both_left true b h = refl
both_left false b h = h

both_right : (a b : Bool) → (a && b) ≡ true → b ≡ true
both_right true b h = h
both_right false b h = cc

-- a number of records is told and read again
most_again : (records : Option ℕ) → is_most records ≡ true → most_of (number_of records) ≡ records
most_again None h = refl
most_again (Some n) h =
    let some : 1 ≤ n = leb-true _ _ (both_left (nat_le 1 n) (nat_le n RECORDS_MAX) h) in
    let other : eqb n 0 ≡ false = grind (arith, nat_tests) in
    ap (λ (t : Bool). cond t None (Some n)) other

-- a number of records that may be told fits into four bytes
most_fits : (records : Option ℕ) → is_most records ≡ true → number_of records < 2 ^ 32
most_fits None h = omega arith
most_fits (Some n) h = let few : n ≤ RECORDS_MAX = leb-true _ _ (both_right (nat_le 1 n) (nat_le n RECORDS_MAX) h) in omega (arith, few)

-- the three numbers that may be told
record Fitting (told : ToldLimits) : Type 0 where
  records : is_most told.records ≡ true
  capacity : told.bounds.pipe_capacity < 2 ^ 32
  size : told.bounds.file_size ≤ FILE_SIZE_MAX

size_fits : (a b : Bool) (size : ℕ) → (a ≡ true → size ≡ FILE_SIZE_1) → (b ≡ true → size ≡ FILE_SIZE_MAX) → (a || b) ≡ true → size ≤ FILE_SIZE_MAX
size_fits true b size first second h = let is = first refl in omega (arith, is)
size_fits false true size first second h = let is = second refl in omega (arith, is)
size_fits false false size first second h = cc

told_fits : (told : ToldLimits) → is_told told ≡ true → Fitting told
told_fits told h =
    let capacity = told.bounds.pipe_capacity in
    let size = told.bounds.file_size in
    let held = nat_le PIPE_CAPACITY_MIN capacity && nat_le capacity PIPE_CAPACITY_MAX in
    let sized = eqb size FILE_SIZE_1 || eqb size FILE_SIZE_MAX in
    let front : (is_most told.records && held) ≡ true = both_left (is_most told.records && held) sized h in
    let few : capacity ≤ PIPE_CAPACITY_MAX =
    leb-true _ _ (both_right (nat_le PIPE_CAPACITY_MIN capacity) (nat_le capacity PIPE_CAPACITY_MAX) (both_right (is_most told.records) held front)) in
    record {
      records = both_left (is_most told.records) held front;
      capacity = omega (arith, few);
      size = size_fits (eqb size FILE_SIZE_1) (eqb size FILE_SIZE_MAX) size (eqb-true _ _) (eqb-true _ _) (both_right (is_most told.records && held) sized h);
    }

told_again : (told : ToldLimits) (body : List ℕ) → Fitting told → told_in (limits_bytes told ++ body) ≡ told
unfolding number_bytes
told_again told body f =
    ap (λ (n : ℕ). record {
      records = most_of n;
      bounds = record {
        file_size = from_be_bytes w64 (to_be_bytes w64 told.bounds.file_size);
        pipe_capacity =
            from_be_bytes w32 (to_be_bytes w32 told.bounds.pipe_capacity);
      };
    })
    (from_be_bytes-to_be_bytes_4 (number_of told.records) (most_fits told.records f.records))
    ∙ ap (λ (n : ℕ). record {
      records = most_of (number_of told.records);
      bounds =
          record { file_size = from_be_bytes w64 (to_be_bytes w64 told.bounds.file_size); pipe_capacity = n };
    })
    (from_be_bytes-to_be_bytes_4 told.bounds.pipe_capacity f.capacity)
    ∙ ap (λ (n : ℕ). record { records = most_of (number_of told.records); bounds = record { file_size = n; pipe_capacity = told.bounds.pipe_capacity } })
    (from_be_bytes-to_be_bytes_8 told.bounds.file_size (omega (arith, f.size)))
    ∙ ap (λ (r : Option ℕ). record { records = r; bounds = told.bounds }) (most_again told.records f.records)

limits_long : (told : ToldLimits) → length (limits_bytes told) ≡ 16
unfolding number_bytes
limits_long told = refl

second_again : (told : ToldLimits) (body : List ℕ) → is_told told ≡ true → header (header_2 told ++ body) ≡ Headed told HEADER_2_LENGTH
second_again told body h =
    let whole : nat_lt (length (limits_bytes told ++ body)) 16 ≡ false = le-ltb _ _ (omega (arith, limits_long told, length-append (limits_bytes told) body)) in
    fields_are (limits_bytes told ++ body) told whole (told_again told body (told_fits told h)) ∙
    ap (λ (t : Bool). cond t (Headed told HEADER_2_LENGTH) Unheaded) h

pub headers_are_read : HeadersAreRead
headers_are_read = record {
  first = λ body. refl;
  second = second_again;
  long = λ told. let long = limits_long told in omega (arith, long, length-append (codes "FDTRACE2") (limits_bytes told));
}

-- ---- what a header tells

fields_tell : (t : Bool) (told : ToldLimits) → is_told told ≡ t → TellsLimits (cond t (Headed told HEADER_2_LENGTH) Unheaded)
fields_tell true told is = (is, (told_fits told is).size)
fields_tell false told is = tt

limits_tell : (fields : List ℕ) → TellsLimits (limits_header fields)
limits_tell fields =
    elim (nat_lt (length fields) 16) as (λ (short : Bool). TellsLimits
    (cond short Short (cond (is_told (told_in fields)) (Headed (told_in fields) HEADER_2_LENGTH) Unheaded)))
    [ true ↦ tt | false ↦ fields_tell (is_told (told_in fields)) (told_in fields) refl ]

version_tells : (bytes : List ℕ) → TellsLimits (version_header bytes)
version_tells [] = tt
version_tells (v ∷ fields) = by (eqb v VERSION_1) (eqb v VERSION_2) (limits_header fields) (limits_tell fields)
  where
    by : (one two : Bool) (h : Header) → TellsLimits h → TellsLimits (cond one (Headed version_1 HEADER_1_LENGTH) (cond two h Unheaded))
    by true two h tells = (refl, omega arith)
    by false true h tells = tells
    by false false h tells = tt

text_tells : (text : List ℕ) (next : List ℕ → Header) → ((bytes : List ℕ) → TellsLimits (next bytes)) → (bytes : List ℕ) →
    TellsLimits (header_after text next bytes)
text_tells [] next tells bytes = tells bytes
text_tells (c ∷ text) next tells [] = tt
text_tells (c ∷ text) next tells (b ∷ bytes) =
    elim (eqb b c) as (λ (t : Bool). TellsLimits (cond t (header_after text next bytes) Unheaded)) [ true ↦ text_tells text next tells bytes | false ↦ tt ]

pub headers_tell_limits : HeadersTell
headers_tell_limits = text_tells (codes "FDTRACE") version_header version_tells

-- ---- a piece of a trace

-- a front of a piece was met with the bytes before it, and what they are stays so with the rest of the piece
met_with : (old piece front taken : List ℕ) (count : ℕ) → front ≡ take count piece → taken ≡ old ++ front → taken ++ drop count piece ≡ old ++ piece
met_with old piece front taken count is met =
    ap (λ (l : List ℕ). l ++ drop count piece) met ∙ append_assoc old front (drop count piece)
    ∙ ap (λ (l : List ℕ). old ++ (l ++ drop count piece)) is ∙ ap (λ (l : List ℕ). old ++ l) (take-append-drop count piece)

-- there is no header
pub none_met : HeaderGoesOn → (old piece front taken : List ℕ) (count : ℕ) → front ≡ take count piece → taken ≡ old ++ front → header taken ≡ Unheaded →
    header (old ++ piece) ≡ Unheaded
none_met on old piece front taken count is met none =
    ap header (sym (met_with old piece front taken count is met))
    ∙ subst (λ (h : Header). GoesOn (length taken) h (header (taken ++ drop count piece))) none (on taken (drop count piece))

-- the header ends in the piece, and the rest of it comes after that many bytes
pub whole_met : HeaderGoesOn → (old piece front taken : List ℕ) (count : ℕ) (told : ToldLimits) (n : ℕ) → header old ≡ Short → front ≡ take count piece →
    taken ≡ old ++ front
    → header taken ≡ Headed told n → (header (old ++ piece) ≡ Headed told n) × (drop (n - length old) piece ≡ drop n (old ++ piece))
whole_met on old piece front taken count told n short is met whole =
    let later = subst (λ (h : Header). GoesOn (length taken) h (header (taken ++ drop count piece))) whole (on taken (drop count piece)) in
    let headed = ap header (sym (met_with old piece front taken count is met)) ∙ later.0 in
    let after = subst (λ (h : Header). GoesOn (length old) Short h) headed (subst (λ (h : Header). GoesOn (length old) h (header (old ++ piece))) short
    (on old piece)) in
    let seam : length old + (n - length old) ≡ n = omega (arith, after.1) in
    (headed, sym (drop-append-add old piece (n - length old)) ∙ ap (λ (k : ℕ). drop k (old ++ piece)) seam)
