-- What was written of a legal history is legal, with the records whose frames are whole in it.
use Rattle.std.proofs.Common.{◌≡◌, ◌∙◌, ℕ, ◌+◌, ◌-◌, ◌^◌, ◌<◌, ◌≤◌, Bool, true, false, cond, leb, inl, inr, Option, List, [], ◌∷◌, ◌++◌, length, take, drop, refl, sym, ap, subst, arith, append_assoc, length-append}
use Rattle.std.proofs.lemmas.Bool.{leb-true, leb-false}
use Rattle.std.proofs.lemmas.List.{take-append-le, drop-append-le, take-append-drop, length-drop, take_at, drop_at}
use Rattle.std.proofs.lemmas.Nat.{from_be_bytes-to_be_bytes_4}
use Rattle.std.specs.Int.{w32, from_be_bytes}
use Rattle.call_types.specs.declared.act.Record.{Record}
use Rattle.call_types.specs.declared.limits.Bounds.{Bounds}
use Rattle.frame_codec.specs.Proved.Headers.{HeaderGoesOn, HeadersAreRead}
use Rattle.frame_codec.specs.Fields.{number_bytes}
use Rattle.frame_codec.specs.Frames.{frame, told_length}
use Rattle.frame_codec.specs.Records.{record_bytes}
use Rattle.frame_codec.specs.Trace.{frames_of, whole_in}
use Rattle.frame_codec.specs.declared.trace.Header.{Header}
use Rattle.frame_codec.specs.declared.trace.ToldLimits.{ToldLimits}
use Rattle.frame_codec.specs.declared.trace.TheConstants.{HEADER_2_LENGTH}
use Rattle.posix_model.specs.declared.world.World.{World}
use Rattle.posix_model.specs.History.{after, legal_from, empty_world}
use Rattle.posix_model.specs.Reserve.{CanEndFrom, IsLegalRun}
use Rattle.audit_core.specs.Proved.Laws.{LegalFront, LegalHaveFrames, WrittenIsLegal}
use Rattle.audit_core.specs.Trace.{HasFrame, HaveFrames, IsUnfinished}
use Rattle.audit_core.specs.Verdict.{IsLegal, IsVerdict, IsVerdictBy}
use Rattle.audit_core.specs.declared.verdict.Verdict.TheVariants.{Legal}
use Rattle.slots.proofs.SlotLaws.{order}
use Rattle.audit_core.proofs.LawLemmas.{IsFrontAfter, IsFrontWithin, front_of_text}
use Rattle.audit_core.proofs.TraceLemmas.{frame_long}

-- ---- fronts of lists

legal_from-front : (bounds : Bounds) (w : World) (h more : List Record) → legal_from bounds w (h ++ more) → legal_from bounds w h
legal_from-front bounds w [] more l = tt
legal_from-front bounds w (r ∷ h) more l = (l.0, legal_from-front bounds (after bounds w r) h more l.1)

ends_from-front : (bounds : Bounds) (most : Option ℕ) (w : World) (len : ℕ) (h more : List Record) → CanEndFrom bounds most w len (h ++ more) →
    CanEndFrom bounds most w len h
ends_from-front bounds most w len [] more l = tt
ends_from-front bounds most w len (r ∷ h) more l = (l.0, ends_from-front bounds most (after bounds w r) (len + 1) h more l.1)

pub legal_front : LegalFront
legal_front bounds most h more l =
    record { is_legal = legal_from-front bounds empty_world h more l.is_legal; ends = ends_from-front bounds most empty_world 0 h more l.ends }

framed_front : (h more : List Record) → HaveFrames (h ++ more) → HaveFrames h
framed_front [] more f = tt
framed_front (r ∷ h) more f = (f.0, framed_front h more f.1)

-- what begins bytes and what is after it, in a front that is no shorter
split : (first others bytes left : List ℕ) → length first ≤ length bytes → first ++ others ≡ bytes ++ left →
    (bytes ≡ first ++ drop (length first) bytes) × (others ≡ drop (length first) bytes ++ left)
split first others bytes left le e =
    let head : take (length first) bytes ≡ first =
    sym (take-append-le (length first) bytes left le) ∙ ap (λ (x : List ℕ). take (length first) x) (sym e) ∙ take_at first others (length first) refl in (
      sym (take-append-drop (length first) bytes) ∙ ap (λ (x : List ℕ). x ++ drop (length first) bytes) head,
      sym (drop_at first others (length first) refl) ∙ ap (λ (x : List ℕ). drop (length first) x) e ∙ drop-append-le (length first) bytes left le,
    )

-- ---- a frame that is not whole

number_long : (n : ℕ) → length (number_bytes w32 n) ≡ 4
unfolding number_bytes
number_long n = refl

told_is : (payload others bytes left : List ℕ) → length payload < 2 ^ 32 → frame payload ++ others ≡ bytes ++ left → 4 ≤ length bytes →
    told_length bytes ≡ length payload
unfolding number_bytes
told_is payload others bytes left few e four =
    let head : take 4 bytes ≡ number_bytes w32 (length payload) =
    sym (take-append-le 4 bytes left four) ∙ ap (λ (x : List ℕ). take 4 x) (sym e ∙ append_assoc (number_bytes w32 (length payload)) payload others)
    ∙ take_at (number_bytes w32 (length payload)) (payload ++ others) 4 (number_long (length payload)) in
    ap (from_be_bytes w32) head ∙ from_be_bytes-to_be_bytes_4 (length payload) few

unfinished : (r : Record) (others bytes left : List ℕ) → HasFrame r → frame (record_bytes r) ++ others ≡ bytes ++ left →
    length bytes < length (frame (record_bytes r)) → IsUnfinished bytes
unfinished r others bytes left f e below = elim (order (length bytes) 4) [
  | inl few ↦ inl few
  | inr four ↦
      let told = told_is (record_bytes r) others bytes left (omega (arith, f.1)) e four in
      inr (four, omega (arith, told, f.1), omega (arith, told, below, frame_long (record_bytes r)))
]

-- ---- the frames that are whole

-- the records whose frames are whole in bytes, and what these have after them
record Cut (h : List Record) (bytes : List ℕ) : Type 0 where
  whole : List Record
  more : List Record
  rest : List ℕ
  is : h ≡ whole ++ more
  bytes_are : bytes ≡ frames_of whole ++ rest
  short : IsUnfinished rest
  count : whole_in h (length bytes) ≡ length whole

one_more : (b : Bool) (m n k : ℕ) → b ≡ true → m ≡ n → n ≡ k → cond b (m + 1) 0 ≡ k + 1
one_more true m n k is e same = omega (arith, e, same)
one_more false m n k is e same = absurd cc

none_there : (b : Bool) (m : ℕ) → b ≡ false → cond b m 0 ≡ 0
none_there false m is = refl
none_there true m is = absurd cc

cut_after : (r : Record) (h : List Record) (bytes left : List ℕ) → frame (record_bytes r) ++ frames_of h ≡ bytes ++ left →
    leb (length (frame (record_bytes r))) (length bytes) ≡ true
    → Cut h (drop (length (frame (record_bytes r))) bytes) → Cut (r ∷ h) bytes
cut_after r h bytes left e is c =
    let first = frame (record_bytes r) in
    let parts = split first (frames_of h) bytes left (leb-true (length first) (length bytes) is) e in
    let long : whole_in h (length bytes - length first) ≡ whole_in h (length (drop (length first) bytes)) =
    ap (λ (n : ℕ). whole_in h n) (sym (length-drop (length first) bytes)) in
    record {
      whole = r ∷ c.whole;
      more = c.more;
      rest = c.rest;
      is = ap (λ (l : List Record). r ∷ l) c.is;
      bytes_are = parts.0 ∙ ap (λ (x : List ℕ). first ++ x) c.bytes_are ∙ sym (append_assoc first (frames_of c.whole) c.rest);
      short = c.short;
      count = omega (
        arith,
        one_more (leb (length first) (length bytes)) (whole_in h (length bytes - length first))
            (whole_in h (length (drop (length first) bytes))) (length c.whole) is long c.count,
      );
    }

cut_at : (b : Bool) (r : Record) (h : List Record) (bytes left : List ℕ) → HasFrame r → frame (record_bytes r) ++ frames_of h ≡ bytes ++ left
    → ((others : List ℕ) → frames_of h ≡ others ++ left → Cut h others) → leb (length (frame (record_bytes r))) (length bytes) ≡ b → Cut (r ∷ h) bytes
cut_at true r h bytes left f e cuts is =
    let parts = split (frame (record_bytes r)) (frames_of h) bytes left (leb-true (length (frame (record_bytes r))) (length bytes) is) e in
    cut_after r h bytes left e is (cuts (drop (length (frame (record_bytes r))) bytes) parts.1)
cut_at false r h bytes left f e cuts is = record {
  whole = [];
  more = r ∷ h;
  rest = bytes;
  is = refl;
  bytes_are = refl;
  short = unfinished r (frames_of h) bytes left f e (leb-false (length (frame (record_bytes r))) (length bytes) is);
  count = none_there (leb (length (frame (record_bytes r))) (length bytes)) (whole_in h (length bytes - length (frame (record_bytes r))) + 1) is;
}

cut : (h : List Record) (bytes left : List ℕ) → HaveFrames h → frames_of h ≡ bytes ++ left → Cut h bytes
cut [] bytes left f e = record {
  whole = [];
  more = [];
  rest = bytes;
  is = refl;
  bytes_are = refl;
  short =
      inl (omega (arith, ap length e, length-append bytes left));
  count = refl;
}
cut (r ∷ h) bytes left f e =
    cut_at (leb (length (frame (record_bytes r))) (length bytes)) r h bytes left f.0 (e) (λ others is. cut h others left f.1 is) refl

-- ---- the verdict

none_fits : (b : Bool) (r : Record) (h : List Record) → leb (length (frame (record_bytes r))) 0 ≡ b → whole_in (r ∷ h) 0 ≡ 0
none_fits true r h is = absurd (omega (arith, leb-true (length (frame (record_bytes r))) 0 is, frame_long (record_bytes r)))
none_fits false r h is = none_there (leb (length (frame (record_bytes r))) 0) (whole_in h (0 - length (frame (record_bytes r))) + 1) is

none_whole : (h : List Record) → whole_in h 0 ≡ 0
none_whole [] = refl
none_whole (r ∷ h) = none_fits (leb (length (frame (record_bytes r))) 0) r h refl

unbegun : (h : List Record) (bytes : List ℕ) → IsFrontWithin bytes → IsVerdict bytes (Legal (whole_in h (length bytes - HEADER_2_LENGTH)) (length bytes))
unbegun h bytes within =
    let none : length bytes - HEADER_2_LENGTH ≡ 0 = omega (arith, within.few) in
    let count : whole_in h (length bytes - HEADER_2_LENGTH) ≡ 0 = ap (λ (n : ℕ). whole_in h n) none ∙ none_whole h in
    subst (λ (x : Header). IsVerdictBy x bytes (Legal (whole_in h (length bytes - HEADER_2_LENGTH)) (length bytes))) (sym within.short)
    (ap (λ (n : ℕ). Legal n (length bytes)) count)

begun : (told : ToldLimits) (h : List Record) (bytes left : List ℕ) → IsLegalRun told.bounds told.records h → HaveFrames h → IsFrontAfter told h bytes left
    → (rest : ℕ) × IsVerdict bytes (Legal (whole_in h (length bytes - HEADER_2_LENGTH)) rest)
begun told h bytes left l framed f =
    let body = drop HEADER_2_LENGTH bytes in
    let c = cut h body left framed f.frames in
    let legal : IsLegal told body (whole_in h (length bytes - HEADER_2_LENGTH)) (length c.rest) = record {
      h = c.whole;
      left = c.rest;
      begins = record { is = c.bytes_are; framed = framed_front c.whole c.more (subst (λ (x : List Record). HaveFrames x) c.is framed) };
      unfinished = c.short;
      is_legal = legal_front told.bounds told.records c.whole c.more (subst (λ (x : List Record). IsLegalRun told.bounds told.records x) c.is l);
      records_are = ap (λ (n : ℕ). whole_in h n) (sym (length-drop HEADER_2_LENGTH bytes)) ∙ c.count;
      rest_is = refl;
    } in
    (length c.rest, subst (λ (x : Header). IsVerdictBy x bytes (Legal (whole_in h (length bytes - HEADER_2_LENGTH)) (length c.rest))) (sym f.headed) legal)

pub written_is_legal : HeaderGoesOn → HeadersAreRead → LegalHaveFrames → WrittenIsLegal
written_is_legal on read frames told h bytes left is l fits e =
    let long = ap (λ (n : ℕ). whole_in h (length bytes - n)) (sym (read.long told)) in
    elim (front_of_text on read told h bytes left is e) [
      | inl within ↦ (length bytes, subst (λ (n : ℕ). IsVerdict bytes (Legal n (length bytes))) long (unbegun h bytes within))
      | inr f ↦
          let v = begun told h bytes left l (frames told.bounds h l.is_legal fits) f in
          (v.0, subst (λ (n : ℕ). IsVerdict bytes (Legal n v.0)) long v.1)
    ]
