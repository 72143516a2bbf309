-- Bytes have one verdict, a front of a legal text is legal, and a fault stays.
use Rattle.std.proofs.Common.{◌≡◌, ◌∙◌, ℕ, ◌+◌, ◌≤◌, ◌⊎◌, inl, inr, true, List, [], ◌∷◌, ◌++◌, Option, Some, length, drop, refl, sym, ap, subst, arith, append_assoc, length-append}
use Rattle.std.proofs.lemmas.List.{append-nil, drop_at, take-append-le, drop-append-le, length-drop}
use Rattle.call_types.specs.declared.act.Record.{Record}
use Rattle.call_types.specs.declared.limits.Bounds.{Bounds}
use Rattle.call_types.specs.declared.limits.TheConstants.{RECORD_LENGTH_MAX}
use Rattle.call_types.specs.declared.outcome.Outcome.{Outcome}
use Rattle.frame_codec.specs.Frames.{frame, told_length, told_payload, IsMalformed, IsTooLong}
use Rattle.frame_codec.specs.Proved.Headers.{GoesOn, HeaderGoesOn, HeadersAreRead}
use Rattle.frame_codec.specs.Proved.Laws.{OneForm, NoFrameThere}
use Rattle.frame_codec.specs.Records.{record_bytes, SpellsRecord}
use Rattle.frame_codec.specs.Trace.{frames_of, header, header_2, is_told, text}
use Rattle.frame_codec.specs.declared.trace.Header.{Header}
use Rattle.frame_codec.specs.declared.trace.Header.TheVariants.{Unheaded, Short, Headed}
use Rattle.frame_codec.specs.declared.trace.ToldLimits.{ToldLimits}
use Rattle.frame_codec.specs.declared.trace.TheConstants.{HEADER_2_LENGTH}
use Rattle.posix_model.specs.declared.world.World.{World}
use Rattle.posix_model.specs.History.{after, world_from, world_of, legal_from, empty_world}
use Rattle.posix_model.specs.Reserve.{can_end, CanEndFrom, IsLegalRun}
use Rattle.posix_model.specs.Step.{outcome_of}
use Rattle.audit_core.specs.Verdict.{BreaksAt, Differs, EndsBy, EndsWith, Overruns, ending_of, IsLegal, IsIllegal, IsMalformedAt, IsVerdictAfter, IsVerdictBy}
use Rattle.audit_core.specs.Proved.Laws.{OneEnding, OneVerdict, TextIsLegal, TellsFront, FrontIsLegal, TellsFault, FaultStays}
use Rattle.audit_core.specs.Trace.{HaveFrames, Begins, IsUnfinished, IsAtFault}
use Rattle.audit_core.specs.declared.verdict.Ending.{Ending}
use Rattle.audit_core.specs.declared.verdict.Verdict.{Verdict}
use Rattle.audit_core.specs.declared.verdict.Verdict.TheVariants.{Legal, Illegal, Malformed}
use Rattle.audit_core.proofs.TraceLemmas.{has_frame, few_records, fault_long}

-- ---- records: the first that breaks

-- a record is what the model gives after these, and the run can be ended after it
record IsFine (told : ToldLimits) (before : List Record) (r : Record) : Type 0 where
  outcome : outcome_of told.bounds (world_of told.bounds before) r.actor r.act ≡ Some r.outcome
  ends : can_end told.records (after told.bounds (world_of told.bounds before) r) (length before + 1) ≡ true

there_from : (bounds : Bounds) (w : World) (h more : List Record) (r : Record) → legal_from bounds w (h ++ r ∷ more) →
    outcome_of bounds (world_from bounds w h) r.actor r.act ≡ Some r.outcome
there_from bounds w [] more r l = l.0
there_from bounds w (x ∷ h) more r l = there_from bounds (after bounds w x) h more r l.1

ends_from : (bounds : Bounds) (most : Option ℕ) (w : World) (len : ℕ) (h more : List Record) (r : Record) (all : ℕ) →
    CanEndFrom bounds most w len (h ++ r ∷ more) → (len + length h) + 1 ≡ all
    → can_end most (after bounds (world_from bounds w h) r) all ≡ true
ends_from bounds most w len [] more r all l is = let one : len + 1 ≡ all = omega (arith, is) in
    subst (λ (n : ℕ). can_end most (after bounds w r) n ≡ true) one l.0
ends_from bounds most w len (x ∷ h) more r all l is = ends_from bounds most (after bounds w x) (len + 1) h more r all l.1 (omega (arith, is))

-- each record of a legal run is fine after those before it
fine_there : (told : ToldLimits) (h more : List Record) (r : Record) → IsLegalRun told.bounds told.records (h ++ r ∷ more) → IsFine told h r
fine_there told h more r l = record {
  outcome = there_from told.bounds empty_world h more r l.is_legal;
  ends = ends_from told.bounds told.records empty_world 0 h more r (length h + 1) l.ends (omega arith);
}

-- no record that is fine breaks what is legal
never_fine : (told : ToldLimits) (before : List Record) (r : Record) (expected : Option Outcome) → IsFine told before r →
    Differs told before r expected ⊎ Overruns told before r expected → ⊥
never_fine told before r expected fine (inl d) = d.differs (sym d.expected_is ∙ fine.outcome)
never_fine told before r expected fine (inr o) = let both = sym o.ends_not ∙ fine.ends in cc

-- no list that breaks is legal
never_both : (told : ToldLimits) (h : List Record) (place : ℕ) (expected : Option Outcome) → IsLegalRun told.bounds told.records h →
    BreaksAt told h place expected → ⊥
never_both told h place expected l b =
    never_fine told b.before b.broken expected
    (fine_there told b.before b.others b.broken (subst (λ (x : List Record). IsLegalRun told.bounds told.records x) b.all_are l)) b.breaks

-- how two places of one list lie: the first list is a front of the second that has the first record too
record ComesFirst (g : List Record) (r : Record) (h : List Record) : Type 0 where
  more : List Record
  is : h ≡ g ++ r ∷ more

-- two places of one list are the same, or one comes first
places : (g h : List Record) (r s : Record) (more other : List Record) → g ++ r ∷ more ≡ h ++ s ∷ other →
    ((g ≡ h) × (r ≡ s)) ⊎ (ComesFirst g r h ⊎ ComesFirst h s g)
places [] [] r s more other e = let same : r ≡ s = cc in inl (refl, same)
places [] (y ∷ h) r s more other e = let same : y ≡ r = cc in inr (inl (record { more = h; is = ap (λ (x : Record). x ∷ h) same }))
places (x ∷ g) [] r s more other e = let same : x ≡ s = cc in inr (inr (record { more = g; is = ap (λ (z : Record). z ∷ g) same }))
places (x ∷ g) (y ∷ h) r s more other e =
    let same : x ≡ y = cc in
    let tails : g ++ r ∷ more ≡ h ++ s ∷ other = cc in
    elim (places g h r s more other tails) [
      | inl both ↦ inl (ap (λ (z : Record). z ∷ g) same ∙ ap (λ (l : List Record). y ∷ l) both.0, both.1)
      | inr first ↦ elim first [
        | inl f ↦ inr (inl (record { more = f.more; is = ap (λ (z : Record). z ∷ h) (sym same) ∙ ap (λ (l : List Record). x ∷ l) f.is }))
        | inr f ↦ inr (inr (record { more = f.more; is = ap (λ (z : Record). z ∷ g) same ∙ ap (λ (l : List Record). y ∷ l) f.is }))
      ]
    ]

-- what breaks at one place expects one outcome
one_expected : (told : ToldLimits) (before : List Record) (r : Record) (expected other : Option Outcome)
    → Differs told before r expected ⊎ Overruns told before r expected → Differs told before r other ⊎ Overruns told before r other → expected ≡ other
one_expected told before r expected other (inl v) (inl u) = sym v.expected_is ∙ u.expected_is
one_expected told before r expected other (inl v) (inr u) = absurd (v.differs (sym v.expected_is ∙ u.outcome_is))
one_expected told before r expected other (inr v) (inl u) = absurd (u.differs (sym u.expected_is ∙ v.outcome_is))
one_expected told before r expected other (inr v) (inr u) = v.expected_is ∙ sym u.expected_is

-- what comes before a place that breaks is legal, so no place before it breaks
not_first : (told : ToldLimits) (g h : List Record) (r : Record) (expected : Option Outcome) → IsLegalRun told.bounds told.records h →
    Differs told g r expected ⊎ Overruns told g r expected → ComesFirst g r h → ⊥
not_first told g h r expected l breaks f =
    never_fine told g r expected (fine_there told g f.more r (subst (λ (x : List Record). IsLegalRun told.bounds told.records x) f.is l)) breaks

one_break : (told : ToldLimits) (h : List Record) (place other : ℕ) (expected given : Option Outcome) → BreaksAt told h place expected →
    BreaksAt told h other given → (place ≡ other) × (expected ≡ given)
one_break told h place other expected given v u = elim (places v.before u.before v.broken u.broken v.others u.others (sym v.all_are ∙ u.all_are)) [
  | inl same ↦
      let B : List Record → Record → Type 0 = λ x z. Differs told x z expected ⊎ Overruns told x z expected in
      let here = subst (λ (z : Record). B u.before z) same.1 (subst (λ (x : List Record). B x v.broken) same.0 v.breaks) in
      (v.place_is ∙ ap length same.0 ∙ sym u.place_is, one_expected told u.before u.broken expected given here u.breaks)
  | inr first ↦ elim first [
    | inl f ↦ absurd (not_first told v.before u.before v.broken expected u.is_legal v.breaks f)
    | inr f ↦ absurd (not_first told u.before v.before u.broken given v.is_legal u.breaks f)
  ]
]

records_assoc : (xs ys zs : List Record) → (xs ++ ys) ++ zs ≡ xs ++ (ys ++ zs)
records_assoc [] ys zs = refl
records_assoc (x ∷ xs) ys zs = ap (λ (l : List Record). x ∷ l) (records_assoc xs ys zs)

breaks_on : (told : ToldLimits) (h more : List Record) (place : ℕ) (expected : Option Outcome) → BreaksAt told h place expected →
    BreaksAt told (h ++ more) place expected
breaks_on told h more place expected b = record {
  before = b.before;
  broken = b.broken;
  others = b.others ++ more;
  all_are = ap (λ (l : List Record). l ++ more) b.all_are ∙ records_assoc b.before (b.broken ∷ b.others) more;
  place_is = b.place_is;
  is_legal = b.is_legal;
  breaks = b.breaks;
}

-- ---- bytes: which records begin them

-- h is the front of k, and the frames of what k has more stand where the rest of h is
record IsFront (h k : List Record) (x y : List ℕ) : Type 0 where
  more : List Record
  is : k ≡ h ++ more
  framed : HaveFrames more
  rest_is : x ≡ frames_of more ++ y

fronts_of : OneForm SpellsRecord RECORD_LENGTH_MAX → (h k : List Record) (x y : List ℕ) → HaveFrames h → HaveFrames k → frames_of h ++ x ≡ frames_of k ++ y →
    IsFront h k x y ⊎ IsFront k h y x
fronts_of law [] k x y f g e = inl (record { more = k; is = refl; framed = g; rest_is = e })
fronts_of law (r ∷ h) [] x y f g e = inr (record { more = r ∷ h; is = refl; framed = f; rest_is = sym e })
fronts_of law (r ∷ h) (s ∷ k) x y f g e =
    let bytes : frame (record_bytes r) ++ (frames_of h ++ x) ≡ frame (record_bytes s) ++ (frames_of k ++ y) =
    sym (append_assoc (frame (record_bytes r)) (frames_of h) x) ∙ e ∙ append_assoc (frame (record_bytes s)) (frames_of k) y in
    let same = law r s (frame (record_bytes r)) (frame (record_bytes s)) (frames_of h ++ x) (frames_of k ++ y) (has_frame r f.0) (has_frame s g.0) bytes in
    elim (fronts_of law h k x y f.1 g.1 same.2) [
      | inl front ↦ inl (record {
        more = front.more;
        is = ap (λ (z : Record). z ∷ k) (sym same.0) ∙ ap (λ (l : List Record). r ∷ l) front.is;
        framed =
            front.framed;
        rest_is = front.rest_is;
      })
      | inr front ↦ inr (record {
        more = front.more;
        is = ap (λ (z : Record). z ∷ h) same.0 ∙ ap (λ (l : List Record). s ∷ l) front.is;
        framed = front.framed;
        rest_is = front.rest_is;
      })
    ]

-- a rest that begins with no frame
abbrev Stops : List ℕ → Type 0
Stops rest = IsUnfinished rest ⊎ IsAtFault rest

no_more : NoFrameThere SpellsRecord RECORD_LENGTH_MAX → (more : List Record) (x y : List ℕ) → HaveFrames more → Stops x → x ≡ frames_of more ++ y →
    (more ≡ []) × (x ≡ y)
no_more law [] x y f stops e = (refl, e)
no_more law (r ∷ more) x y f stops e =
    absurd (law r (frame (record_bytes r)) (frames_of more ++ y) (has_frame r f.0)
    (subst (λ (l : List ℕ). Stops l) (e ∙ append_assoc (frame (record_bytes r)) (frames_of more) y) stops))

-- bytes with records up to where no frame begins
record IsComplete (told : ToldLimits) (bytes : List ℕ) (h : List Record) (rest : List ℕ) : Type 0 where
  begins : Begins bytes h rest
  stops : Stops rest
  is_legal : IsLegalRun told.bounds told.records h

stop_same : NoFrameThere SpellsRecord RECORD_LENGTH_MAX → (h k : List Record) (x y : List ℕ) → Stops x → IsFront h k x y → (k ≡ h) × (x ≡ y)
stop_same none h k x y stops front =
    let last = no_more none front.more x y front.framed stops front.rest_is in
    (front.is ∙ ap (λ (l : List Record). h ++ l) last.0 ∙ append-nil h, last.1)

both_complete : OneForm SpellsRecord RECORD_LENGTH_MAX → NoFrameThere SpellsRecord RECORD_LENGTH_MAX → (told : ToldLimits) (bytes : List ℕ) (h k : List Record)
    (x y : List ℕ)
    → IsComplete told bytes h x → IsComplete told bytes k y → (h ≡ k) × (x ≡ y)
both_complete one none told bytes h k x y b c = elim (fronts_of one h k x y b.begins.framed c.begins.framed (sym b.begins.is ∙ c.begins.is)) [
  | inl front ↦ let same = stop_same none h k x y b.stops front in (sym same.0, same.1)
  | inr front ↦ let same = stop_same none k h y x c.stops front in (same.0, sym same.1)
]

-- no bytes with complete legal records have one that breaks
not_broken : OneForm SpellsRecord RECORD_LENGTH_MAX → NoFrameThere SpellsRecord RECORD_LENGTH_MAX → (told : ToldLimits) (bytes : List ℕ) (h : List Record)
    (x : List ℕ) (place : ℕ) (expected : Option Outcome)
    → IsComplete told bytes h x → IsIllegal told bytes place expected → ⊥
not_broken one none told bytes h x place expected b i = elim (fronts_of one h i.h x i.left b.begins.framed i.begins.framed (sym b.begins.is ∙ i.begins.is)) [
  | inl front ↦ let same = stop_same none h i.h x i.left b.stops front in never_both told h place expected b.is_legal
      (subst (λ (l : List Record). BreaksAt told l place expected) same.0 i.breaks)
  | inr front ↦ never_both told h place expected b.is_legal (subst (λ (l : List Record). BreaksAt told l place expected) (sym front.is)
      (breaks_on told i.h front.more place expected i.breaks))
]

one_illegal : OneForm SpellsRecord RECORD_LENGTH_MAX → (told : ToldLimits) (bytes : List ℕ) (place other : ℕ) (expected given : Option Outcome)
    → IsIllegal told bytes place expected → IsIllegal told bytes other given → (place ≡ other) × (expected ≡ given)
one_illegal one told bytes place other expected given i j =
    elim (fronts_of one i.h j.h i.left j.left i.begins.framed j.begins.framed (sym i.begins.is ∙ j.begins.is)) [
      | inl front ↦
          one_break told j.h place other expected given
          (subst (λ (l : List Record). BreaksAt told l place expected) (sym front.is) (breaks_on told i.h front.more place expected i.breaks)) j.breaks
      | inr front ↦
          one_break told i.h place other expected given i.breaks
          (subst (λ (l : List Record). BreaksAt told l other given) (sym front.is) (breaks_on told j.h front.more other given j.breaks))
    ]

-- a rest is unfinished or at fault, and not both
not_both : (rest : List ℕ) → IsUnfinished rest → IsAtFault rest → ⊥
not_both rest short fault = elim fault [
  | inl malformed ↦ elim short [ inl few ↦ omega (arith, few, malformed.there) | inr part ↦ omega (arith, part.2, malformed.there) ]
  | inr long ↦ elim short [ inl few ↦ omega (arith, few, long.0) | inr part ↦ omega (arith, part.1, long.1) ]
]

-- ---- one verdict

complete_legal : (told : ToldLimits) (bytes : List ℕ) (records rest : ℕ) (l : IsLegal told bytes records rest) → IsComplete told bytes l.h l.left
complete_legal told bytes records rest l = record { begins = l.begins; stops = inl l.unfinished; is_legal = l.is_legal }

complete_malformed : (told : ToldLimits) (headed : ℕ) (bytes : List ℕ) (at : ℕ) (m : IsMalformedAt told headed bytes at) → IsComplete told bytes m.h m.left
complete_malformed told headed bytes at m = record { begins = m.begins; stops = inr m.fault; is_legal = m.is_legal }

module _ (one : OneForm SpellsRecord RECORD_LENGTH_MAX) (none : NoFrameThere SpellsRecord RECORD_LENGTH_MAX) where
  legal_legal : (told : ToldLimits) (bytes : List ℕ) (n r m s : ℕ) → IsLegal told bytes n r → IsLegal told bytes m s → Legal n r ≡ Legal m s
  legal_legal told bytes n r m s v u =
      let same = both_complete one none told bytes v.h u.h v.left u.left (complete_legal told bytes n r v) (complete_legal told bytes m s u) in
      let records : n ≡ m = v.records_are ∙ ap length same.0 ∙ sym u.records_are in
      let rests : r ≡ s = v.rest_is ∙ ap length same.1 ∙ sym u.rest_is in
      cc

  legal_malformed : (told : ToldLimits) (headed : ℕ) (bytes : List ℕ) (n r at : ℕ) → IsLegal told bytes n r → IsMalformedAt told headed bytes at → ⊥
  legal_malformed told headed bytes n r at v u =
      let same = both_complete one none told bytes v.h u.h v.left u.left (complete_legal told bytes n r v) (complete_malformed told headed bytes at u) in
      not_both u.left (subst (λ (l : List ℕ). IsUnfinished l) same.1 v.unfinished) u.fault

  malformed_malformed : (told : ToldLimits) (headed : ℕ) (bytes : List ℕ) (at other : ℕ) → IsMalformedAt told headed bytes at →
      IsMalformedAt told headed bytes other → at ≡ other
  malformed_malformed told headed bytes at other v u =
      let same = both_complete one none told bytes v.h u.h v.left u.left (complete_malformed told headed bytes at v)
      (complete_malformed told headed bytes other u) in
      v.at_is ∙ ap (λ (h : List Record). headed + length (frames_of h)) same.0 ∙ sym u.at_is

  one_after : (told : ToldLimits) (headed : ℕ) (bytes : List ℕ) (v u : Verdict) → IsVerdictAfter told headed bytes v → IsVerdictAfter told headed bytes u →
      v ≡ u
  one_after told headed bytes (Legal n r) (Legal m s) v u = legal_legal told bytes n r m s v u
  one_after told headed bytes (Legal n r) (Illegal place expected) v u =
      absurd (not_broken one none told bytes v.h v.left place expected (complete_legal told bytes n r v) u)
  one_after told headed bytes (Legal n r) (Malformed at) v u = absurd (legal_malformed told headed bytes n r at v u)
  one_after told headed bytes (Illegal place expected) (Legal n r) v u =
      absurd (not_broken one none told bytes u.h u.left place expected (complete_legal told bytes n r u) v)
  one_after told headed bytes (Illegal place expected) (Illegal other given) v u = let same = one_illegal one told bytes place other expected given v u in cc
  one_after told headed bytes (Illegal place expected) (Malformed at) v u =
      absurd (not_broken one none told bytes u.h u.left place expected (complete_malformed told headed bytes at u) v)
  one_after told headed bytes (Malformed at) (Legal n r) v u = absurd (legal_malformed told headed bytes n r at u v)
  one_after told headed bytes (Malformed at) (Illegal place expected) v u =
      absurd (not_broken one none told bytes v.h v.left place expected (complete_malformed told headed bytes at v) u)
  one_after told headed bytes (Malformed at) (Malformed other) v u = ap Malformed (malformed_malformed told headed bytes at other v u)

  one_by : (h : Header) (bytes : List ℕ) (v u : Verdict) → IsVerdictBy h bytes v → IsVerdictBy h bytes u → v ≡ u
  one_by Unheaded bytes v u p q = p ∙ sym q
  one_by Short bytes v u p q = p ∙ sym q
  one_by (Headed told headed) bytes v u p q = one_after told headed (drop headed bytes) v u p q

  pub one_verdict : OneVerdict
  one_verdict bytes v u p q = one_by (header bytes) bytes v u p q

-- ---- one ending

module _ (one : OneForm SpellsRecord RECORD_LENGTH_MAX) (none : NoFrameThere SpellsRecord RECORD_LENGTH_MAX) where
  ends_after : (told : ToldLimits) (bytes : List ℕ) (n r : ℕ) (e f : Ending) → EndsWith told bytes n r e → EndsWith told bytes n r f → e ≡ f
  ends_after told bytes n r e f v u =
      let same = both_complete one none told bytes v.legal.h u.legal.h v.legal.left u.legal.left (complete_legal told bytes n r v.legal)
      (complete_legal told bytes n r u.legal) in
      v.ending_is ∙ ap (λ (h : List Record). ending_of h) same.0 ∙ sym u.ending_is

  ends_by : (h : Header) (bytes : List ℕ) (n r : ℕ) (e f : Ending) → EndsBy h bytes n r e → EndsBy h bytes n r f → e ≡ f
  ends_by Unheaded bytes n r e f p q = p ∙ sym q
  ends_by Short bytes n r e f p q = p ∙ sym q
  ends_by (Headed told headed) bytes n r e f p q = ends_after told (drop headed bytes) n r e f p q

  pub one_ending : OneEnding
  one_ending bytes (Legal n r) e f p q = ends_by (header bytes) bytes n r e f p q
  one_ending bytes (Illegal place expected) e f p q = p ∙ sym q
  one_ending bytes (Malformed at) e f p q = p ∙ sym q

-- ---- a fault stays

malformed_stays : (rest more : List ℕ) → IsMalformed SpellsRecord RECORD_LENGTH_MAX rest → IsMalformed SpellsRecord RECORD_LENGTH_MAX (rest ++ more)
malformed_stays rest more m =
    let four : 4 ≤ length rest = omega (arith, m.there) in
    let lengths : told_length (rest ++ more) ≡ told_length rest = rw (take-append-le 4 rest more four) refl in
    let tails : drop 4 (rest ++ more) ≡ drop 4 rest ++ more = drop-append-le 4 rest more four in
    let enough : told_length rest ≤ length (drop 4 rest) = omega (arith, m.there, length-drop 4 rest) in
    let payloads : told_payload (rest ++ more) ≡ told_payload rest = rw (lengths, tails) (take-append-le (told_length rest) (drop 4 rest) more enough) in
    record {
      few = rw lengths m.few;
      there = rw lengths (omega (arith, m.there, length-append rest more));
      none = λ value s. m.none value (subst (λ (p : List ℕ). SpellsRecord value p) payloads s);
    }

long_stays : (rest more : List ℕ) → IsTooLong RECORD_LENGTH_MAX rest → IsTooLong RECORD_LENGTH_MAX (rest ++ more)
long_stays rest more long =
    let lengths : told_length (rest ++ more) ≡ told_length rest = rw (take-append-le 4 rest more long.0) refl in
    (omega (arith, long.0, length-append rest more), rw lengths long.1)

pub fault_stays_on : (rest more : List ℕ) → IsAtFault rest → IsAtFault (rest ++ more)
fault_stays_on rest more fault = elim fault [
  | inl malformed ↦ inl (malformed_stays rest more malformed)
  | inr long ↦ inr (long_stays rest more long)
]

begins_on : (bytes more : List ℕ) (h : List Record) (rest : List ℕ) → Begins bytes h rest → Begins (bytes ++ more) h (rest ++ more)
begins_on bytes more h rest b = record { is = ap (λ (x : List ℕ). x ++ more) b.is ∙ append_assoc (frames_of h) rest more; framed = b.framed }

stays_after : (told : ToldLimits) (headed : ℕ) (bytes more : List ℕ) (v : Verdict) → TellsFault v → IsVerdictAfter told headed bytes v →
    IsVerdictAfter told headed (bytes ++ more) v
stays_after told headed bytes more (Legal records rest) fault v = absurd fault
stays_after told headed bytes more (Illegal place expected) fault v =
    record { h = v.h; left = v.left ++ more; begins = begins_on bytes more v.h v.left v.begins; breaks = v.breaks }
stays_after told headed bytes more (Malformed at) fault v = record {
  h = v.h;
  left = v.left ++ more;
  begins = begins_on bytes more v.h v.left v.begins;
  fault = fault_stays_on v.left more v.fault;
  is_legal = v.is_legal;
  at_is = v.at_is;
}

stays_by : (h later : Header) (bytes more : List ℕ) (v : Verdict) → GoesOn (length bytes) h later → TellsFault v → IsVerdictBy h bytes v →
    IsVerdictBy later (bytes ++ more) v
stays_by Unheaded later bytes more v on fault p = subst (λ (h : Header). IsVerdictBy h (bytes ++ more) v) (sym on) p
stays_by Short later bytes more v on fault p = absurd (subst (λ (u : Verdict). TellsFault u) p fault)
stays_by (Headed told headed) later bytes more v on fault p =
    let rest = drop-append-le headed bytes more on.1 in
    let stays = stays_after told headed (drop headed bytes) more v fault p in
    subst (λ (h : Header). IsVerdictBy h (bytes ++ more) v) (sym on.0) (subst (λ (x : List ℕ). IsVerdictAfter told headed x v) (sym rest) stays)

pub fault_stays : HeaderGoesOn → FaultStays
fault_stays on bytes more v fault p = stays_by (header bytes) (header (bytes ++ more)) bytes more v (on bytes more) fault p

-- ---- fronts of a legal text

-- the text of records is a header that is read again, and their frames
pub record IsText (told : ToldLimits) (h : List Record) (bytes : List ℕ) : Type 0 where
  pub headed : header bytes ≡ Headed told HEADER_2_LENGTH
  pub frames : drop HEADER_2_LENGTH bytes ≡ frames_of h

pub text_is_read : HeadersAreRead → (told : ToldLimits) (h : List Record) → is_told told ≡ true → IsText told h (text told h)
text_is_read read told h is = record {
  headed = read.second told (frames_of h) is;
  frames = drop_at (header_2 told) (frames_of h) HEADER_2_LENGTH
      (read.long told);
}

pub text_is_legal : HeadersAreRead → TextIsLegal
text_is_legal read told h is l framed =
    let t = text_is_read read told h is in
    let legal : IsLegal told (frames_of h) (length h) 0 = record {
      h = h;
      left = [];
      begins = record { is = sym (append-nil (frames_of h)); framed = framed };
      unfinished = inl (omega arith);
      is_legal = l;
      records_are = refl;
      rest_is = refl;
    } in
    subst (λ (x : Header). IsVerdictBy x (text told h) (Legal (length h) 0)) (sym t.headed)
    (subst (λ (x : List ℕ). IsLegal told x (length h) 0) (sym t.frames) legal)

-- a front of a text ends within its header, or after it come bytes that are a front of the frames
pub record IsFrontAfter (told : ToldLimits) (h : List Record) (bytes left : List ℕ) : Type 0 where
  pub headed : header bytes ≡ Headed told HEADER_2_LENGTH
  pub long : HEADER_2_LENGTH ≤ length bytes
  pub frames : frames_of h ≡ drop HEADER_2_LENGTH bytes ++ left

pub record IsFrontWithin (bytes : List ℕ) : Type 0 where
  pub short : header bytes ≡ Short
  pub few : length bytes + 1 ≤ HEADER_2_LENGTH

pub front_of_text : HeaderGoesOn → HeadersAreRead → (told : ToldLimits) (h : List Record) (bytes left : List ℕ) → is_told told ≡ true →
    text told h ≡ bytes ++ left → IsFrontWithin bytes ⊎ IsFrontAfter told h bytes left
front_of_text on read told h bytes left is e =
    let t = subst (λ (x : List ℕ). IsText told h x) e (text_is_read read told h is) in
    by (header bytes) refl (on bytes left) t
  where
    by : (x : Header) → header bytes ≡ x → GoesOn (length bytes) (header bytes) (header (bytes ++ left)) → IsText told h (bytes ++ left) →
        IsFrontWithin bytes ⊎ IsFrontAfter told h bytes left
    by Unheaded is on t = let never = sym (subst (λ (x : Header). GoesOn (length bytes) x (header (bytes ++ left))) is on) ∙ t.headed in cc
    by Short is on t = let few = subst (λ (x : Header). GoesOn (length bytes) x (header (bytes ++ left))) is on in
        inl (record { short = is; few = omega (arith, few.0) })
    by (Headed other n) is on t =
        let later = subst (λ (x : Header). GoesOn (length bytes) x (header (bytes ++ left))) is on in
        let same : Headed other n ≡ Headed told HEADER_2_LENGTH = sym later.0 ∙ t.headed in
        let length_is : n ≡ HEADER_2_LENGTH = cc in
        let long : HEADER_2_LENGTH ≤ length bytes = omega (arith, later.1, length_is) in
        inr (record { headed = is ∙ same; long = long; frames = sym t.frames ∙ drop-append-le HEADER_2_LENGTH bytes left long })

nothing_after : (more : List Record) (y : List ℕ) → [] ≡ frames_of more ++ y → more ≡ []
nothing_after [] y e = refl
nothing_after (r ∷ more) y e =
    absurd (omega (arith, ap length e, few_records (r ∷ more), length-append (frames_of (r ∷ more)) y))

-- records that begin a front of frames are a front of its records
record IsPart (h k : List Record) : Type 0 where
  more : List Record
  is : h ≡ k ++ more

whole_frames : (h : List Record) → HaveFrames h → Begins (frames_of h) h []
whole_frames h framed = record { is = sym (append-nil (frames_of h)); framed = framed }

part_of : OneForm SpellsRecord RECORD_LENGTH_MAX → (h k : List Record) (bytes left rest : List ℕ) → HaveFrames h → frames_of h ≡ bytes ++ left →
    Begins bytes k rest → IsPart h k
part_of one h k bytes left rest framed is b =
    let on = begins_on bytes left k rest b in
    let all : Begins (bytes ++ left) h [] = subst (λ (x : List ℕ). Begins x h []) is (whole_frames h framed) in
    elim (fronts_of one h k [] (rest ++ left) framed b.framed (sym all.is ∙ on.is)) [
      | inl front ↦
          let none = nothing_after front.more (rest ++ left) front.rest_is in
          record { more = []; is = sym (append-nil h) ∙ ap (λ (l : List Record). h ++ l) (sym none) ∙ sym front.is ∙ sym (append-nil k) }
      | inr front ↦ record { more = front.more; is = front.is }
    ]

text_not_broken : OneForm SpellsRecord RECORD_LENGTH_MAX → (told : ToldLimits) (h : List Record) (bytes left : List ℕ) (place : ℕ) (expected : Option Outcome) →
    IsLegalRun told.bounds told.records h → HaveFrames h
    → frames_of h ≡ bytes ++ left → IsIllegal told bytes place expected → ⊥
text_not_broken one told h bytes left place expected l framed is v =
    let part = part_of one h v.h bytes left v.left framed is v.begins in
    never_both told h place expected l (subst (λ (x : List Record). BreaksAt told x place expected) (sym part.is)
    (breaks_on told v.h part.more place expected v.breaks))

text_not_malformed : OneForm SpellsRecord RECORD_LENGTH_MAX → NoFrameThere SpellsRecord RECORD_LENGTH_MAX → (told : ToldLimits) (headed : ℕ) (h : List Record)
    (bytes left : List ℕ) (at : ℕ)
    → IsLegalRun told.bounds told.records h → HaveFrames h → frames_of h ≡ bytes ++ left → IsMalformedAt told headed bytes at → ⊥
text_not_malformed one none told headed h bytes left at l framed is v =
    let whole : IsComplete told (bytes ++ left) h [] = record {
      begins = subst (λ (x : List ℕ). Begins x h []) is (whole_frames h framed);
      stops =
          inl (inl (omega arith));
      is_legal = l;
    } in
    let part : IsComplete told (bytes ++ left) v.h (v.left ++ left) =
    record { begins = begins_on bytes left v.h v.left v.begins; stops = inr (fault_stays_on v.left left v.fault); is_legal = v.is_legal } in
    let same = both_complete one none told (bytes ++ left) h v.h [] (v.left ++ left) whole part in
    omega (arith, ap length same.1, fault_long v.left v.fault, length-append v.left left)

front_after : OneForm SpellsRecord RECORD_LENGTH_MAX → NoFrameThere SpellsRecord RECORD_LENGTH_MAX → (told : ToldLimits) (headed : ℕ) (h : List Record)
    (bytes left : List ℕ) (v : Verdict)
    → IsLegalRun told.bounds told.records h → HaveFrames h → frames_of h ≡ bytes ++ left → IsVerdictAfter told headed bytes v → TellsFront h v
front_after one none told headed h bytes left (Legal records rest) l framed is v =
    let part = part_of one h v.h bytes left v.left framed is v.begins in
    record { whole = v.h; more = part.more; rest = rest; front = part.is; verdict = ap (λ (n : ℕ). Legal n rest) v.records_are }
front_after one none told headed h bytes left (Illegal place expected) l framed is v =
    absurd (text_not_broken one told h bytes left place expected l framed is v)
front_after one none told headed h bytes left (Malformed at) l framed is v = absurd (text_not_malformed one none told headed h bytes left at l framed is v)

pub front_is_legal : OneForm SpellsRecord RECORD_LENGTH_MAX → NoFrameThere SpellsRecord RECORD_LENGTH_MAX → HeaderGoesOn → HeadersAreRead → FrontIsLegal
front_is_legal one none on read told h bytes left v told_is l framed is p = elim (front_of_text on read told h bytes left told_is is) [
  | inl within ↦
      let short = subst (λ (x : Header). IsVerdictBy x bytes v) within.short p in
      record { whole = []; more = h; rest = length bytes; front = refl; verdict = short }
  | inr f ↦
      let by = subst (λ (x : Header). IsVerdictBy x bytes v) f.headed p in
      front_after one none told HEADER_2_LENGTH h (drop HEADER_2_LENGTH bytes) left v l framed f.frames by
]
