-- A trace that goes on.
use Rattle.std.proofs.Common.{◌≡◌, ℕ, ◌+◌, ◌-◌, ◌*◌, ◌≤◌, ◌<◌, ◌^◌, ◌⊎◌, Bool, true, false, List, [], ◌∷◌, ◌++◌, Option, None, Some, length, take, drop, length-append, length-take-le, take-append-drop, add-one, arith, refl, sym, ◌∙◌, ap, subst, inl, inr}
use Rattle.std.specs.Prelude.{nat_le}
use Rattle.std.proofs.lemmas.List.{append-nil, append_assoc}
use Rattle.std.proofs.lemmas.Bool.Decides.{nat_tests}
use Rattle.std.proofs.Math.Seq.{drop-length}
use Rattle.std.proofs.KnownBytes.{Appends-nil, Appends-trans}
use Rattle.std.specs.List.{AllByRecursion}
use Rattle.call_types.specs.declared.act.Record.{Record}
use Rattle.call_types.specs.declared.limits.TheConstants.{RECORDS_MAX}
use Rattle.frame_codec.specs.declared.encode.TheConstants.{RECORD_FRAME_MAX}
use Rattle.frame_codec.specs.Frames.{frame}
use Rattle.frame_codec.specs.Records.{record_bytes}
use Rattle.frame_codec.specs.Trace.{header_2, frames_of, text, whole_in}
use Rattle.frame_codec.specs.declared.trace.ToldLimits.{ToldLimits}
use Rattle.frame_codec.specs.declared.trace.TheConstants.{HEADER_2_LENGTH}
use Rattle.logged_streams.specs.Streams.{WritesFront}
use Rattle.trace_writer.specs.Proved.TracerInside.{Writes}
use Rattle.trace_writer.specs.Traces.{BeginsUnspelled, CountsFailures, HasFrame, IsSpelled}
use Rattle.trace_writer.specs.Proved.Tracing.{MakesFrame}
use Rattle.trace_writer.specs.declared.traced.TraceFault.{TraceFault}
use Rattle.trace_writer.specs.declared.traced.TraceFault.TheVariants as faults

frames_push : (rs : List Record) (r : Record) → frames_of (rs ++ r ∷ []) ≡ frames_of rs ++ frame (record_bytes r)
frames_push [] r = append-nil (frame (record_bytes r))
frames_push (x ∷ xs) r = ap (λ (l : List ℕ). frame (record_bytes x) ++ l) (frames_push xs r) ∙
    sym (append_assoc (frame (record_bytes x)) (frames_of xs) (frame (record_bytes r)))

text_push : (told : ToldLimits) (rs : List Record) (r : Record) → text told (rs ++ r ∷ []) ≡ text told rs ++ frame (record_bytes r)
text_push told rs r = ap (λ (l : List ℕ). header_2 told ++ l) (frames_push rs r) ∙ sym (append_assoc (header_2 told) (frames_of rs) (frame (record_bytes r)))

-- ---- what the sink counts

-- what a sink counts is the same where memory runs out
counts_none : (before after : ℕ) → after ≡ before → CountsFailures (Some faults.NoMemory) before after
counts_none before after e = (omega arith, omega arith)

-- what a making of a record's frame tells: what was told before, or that memory ran out, or that there is none
abbrev Made : Option TraceFault → Option TraceFault → Record → Type 0
Made fault fault' r = (fault' ≡ fault) ⊎ ((fault ≡ None) ×
    (((fault' ≡ Some faults.NoMemory) × HasFrame r) ⊎ ((fault' ≡ Some faults.Unspellable) × BeginsUnspelled (r ∷ []))))

made_tells : (fault fault' : Option TraceFault) (before after : ℕ) (r : Record) → Made fault fault' r → CountsFailures fault before after →
    CountsFailures fault' before after
made_tells fault fault' before after r (inl e) t = subst (λ f. CountsFailures f before after) (sym e) t
made_tells fault fault' before after r (inr (none, inl e)) t =
    subst (λ f. CountsFailures f before after) (sym e.0) (counts_none before after (subst (λ f. CountsFailures f before after) none t))
made_tells fault fault' before after r (inr (none, inr e)) t =
    let same : after ≡ before = subst (λ f. CountsFailures f before after) none t in
    subst (λ f. CountsFailures f before after) (sym e.0) same

made_unsynced : (fault fault' : Option TraceFault) (r : Record) → Made fault fault' r → (fault ≡ Some faults.Sync → ⊥) → fault' ≡ Some faults.Sync → ⊥
made_unsynced fault fault' r (inl e) never is = never (sym e ∙ is)
made_unsynced fault fault' r (inr (none, inl e)) never is = let wrong : Some faults.NoMemory ≡ Some faults.Sync = sym e.0 ∙ is in cc
made_unsynced fault fault' r (inr (none, inr e)) never is = let wrong : Some faults.Unspellable ≡ Some faults.Sync = sym e.0 ∙ is in cc

-- ---- what can be read

have_more : (rs : List Record) (r : Record) → AllByRecursion HasFrame rs → HasFrame r → AllByRecursion HasFrame (rs ++ r ∷ [])
have_more [] r h k = (k, tt)
have_more (x ∷ xs) r h k = (h.0, have_more xs r h.1 k)

begins_still : (later : List Record) (r : Record) → BeginsUnspelled later → BeginsUnspelled (later ++ r ∷ [])
begins_still [] r h = absurd h
begins_still (x ∷ xs) r h = h

-- where nothing went wrong, each record has a frame
all_framed : (told : ToldLimits) (front : List ℕ) (rs : List Record) (s : IsSpelled told front None rs) → rs ≡ s.framed
all_framed told front rs s = s.is ∙ ap (λ (l : List Record). s.framed ++ l) (s.all refl) ∙ append-nil s.framed

-- no record yet
spelled_none : (told : ToldLimits) (fault : Option TraceFault) → (fault ≡ Some faults.Unspellable → ⊥) → IsSpelled told [] fault []
spelled_none told fault never = record {
  framed = [];
  later = [];
  left = text told [];
  is = refl;
  have = tt;
  fronts = refl;
  all = λ _. refl;
  unsynced = λ _. refl;
  unspelled = λ is. absurd (never is);
}

-- a record with a frame came
spelled_more : (told : ToldLimits) (front : List ℕ) (rs : List Record) (r : Record) → IsSpelled told front None rs → HasFrame r →
    IsSpelled told front None (rs ++ r ∷ [])
spelled_more told front rs r s k = record {
  framed = s.framed ++ r ∷ [];
  later = [];
  left = s.left ++ frame (record_bytes r);
  is = ap (λ (l : List Record). l ++ r ∷ []) (all_framed told front rs s) ∙ sym (append-nil (s.framed ++ r ∷ []));
  have = have_more s.framed r s.have k;
  fronts = sym (append_assoc front s.left (frame (record_bytes r))) ∙ ap (λ (l : List ℕ). l ++ frame (record_bytes r)) s.fronts ∙
      sym (text_push told s.framed r);
  all = λ _. refl;
  unsynced = λ _. refl;
  unspelled = λ is. absurd (cc);
}

-- a record came for whose frame memory ran out, or that has none
spelled_stop : (told : ToldLimits) (front : List ℕ) (fault : Option TraceFault) (rs : List Record) (r : Record) → IsSpelled told front None rs
    → ((fault ≡ Some faults.NoMemory) × HasFrame r) ⊎ ((fault ≡ Some faults.Unspellable) × BeginsUnspelled (r ∷ [])) → IsSpelled told front fault (rs ++ r ∷ [])
spelled_stop told front fault rs r s why = record {
  framed = s.framed;
  later = r ∷ [];
  left = s.left;
  is = ap (λ (l : List Record). l ++ r ∷ []) (all_framed told front rs s);
  have = s.have;
  fronts = s.fronts;
  all = λ none. absurd (some why none);
  unsynced = λ is. absurd (unsynced why is);
  unspelled = λ is. unspelled why is;
}
  where
    some : ((fault ≡ Some faults.NoMemory) × HasFrame r) ⊎ ((fault ≡ Some faults.Unspellable) × BeginsUnspelled (r ∷ [])) → fault ≡ None → ⊥
    some (inl e) none = let wrong : Some faults.NoMemory ≡ None = sym e.0 ∙ none in cc
    some (inr e) none = let wrong : Some faults.Unspellable ≡ None = sym e.0 ∙ none in cc

    unsynced : ((fault ≡ Some faults.NoMemory) × HasFrame r) ⊎ ((fault ≡ Some faults.Unspellable) × BeginsUnspelled (r ∷ [])) → fault ≡ Some faults.Sync → ⊥
    unsynced (inl e) is = let wrong : Some faults.NoMemory ≡ Some faults.Sync = sym e.0 ∙ is in cc
    unsynced (inr e) is = let wrong : Some faults.Unspellable ≡ Some faults.Sync = sym e.0 ∙ is in cc

    unspelled : ((fault ≡ Some faults.NoMemory) × HasFrame r) ⊎ ((fault ≡ Some faults.Unspellable) × BeginsUnspelled (r ∷ [])) →
        fault ≡ Some faults.Unspellable → BeginsUnspelled (r ∷ [])
    unspelled (inl e) is = absurd (let wrong : Some faults.NoMemory ≡ Some faults.Unspellable = sym e.0 ∙ is in cc)
    unspelled (inr e) is = e.1

-- after a fault a record came
spelled_later : (told : ToldLimits) (front : List ℕ) (fault : Option TraceFault) (rs : List Record) (r : Record) → IsSpelled told front fault rs →
    (fault ≡ None → ⊥) → (fault ≡ Some faults.Sync → ⊥)
    → IsSpelled told front fault (rs ++ r ∷ [])
spelled_later told front fault rs r s some never = record {
  framed = s.framed;
  later = s.later ++ r ∷ [];
  left = s.left;
  is = ap (λ (l : List Record). l ++ r ∷ []) s.is ∙ append_assoc s.framed s.later (r ∷ []);
  have = s.have;
  fronts = s.fronts;
  all = λ none. absurd (some none);
  unsynced = λ is. absurd (never is);
  unspelled = λ is. begins_still s.later r (s.unspelled is);
}

-- a record came
spelled_kept : (told : ToldLimits) (front : List ℕ) (unsent unsent' : List ℕ) (fault fault' : Option TraceFault) (rs : List Record) (r : Record) →
    IsSpelled told front fault rs → (fault ≡ Some faults.Sync → ⊥)
    → MakesFrame unsent unsent' fault fault' r → IsSpelled told front fault' (rs ++ r ∷ [])
spelled_kept told front unsent unsent' fault None rs r s never m =
    let made = m.made refl in
    spelled_more told front rs r (subst (λ f. IsSpelled told front f rs) made.0 s) made.2
spelled_kept told front unsent unsent' fault (Some why) rs r s never m = by m.told
  where
    by : Made fault (Some why) r → IsSpelled told front (Some why) (rs ++ r ∷ [])
    by (inl e) =
        subst (λ f. IsSpelled told front f (rs ++ r ∷ [])) (sym e)
        (spelled_later told front fault rs r s (λ none. absurd (let wrong : Some why ≡ None = e ∙ none in cc)) never)
    by (inr e) = spelled_stop told front (Some why) rs r (subst (λ f. IsSpelled told front f rs) e.0 s) e.1

-- more was written
spelled_front : (told : ToldLimits) (front front' left' : List ℕ) (fault' : Option TraceFault) (rs : List Record) → IsSpelled told front None rs →
    front' ++ left' ≡ text told rs → (fault' ≡ Some faults.Unspellable → ⊥)
    → IsSpelled told front' fault' rs
spelled_front told front front' left' fault' rs s e never = record {
  framed = s.framed;
  later = s.later;
  left = left';
  is = s.is;
  have = s.have;
  fronts = e ∙ ap (text told) (all_framed told front rs s);
  all = λ _. s.all refl;
  unsynced = λ _. s.all refl;
  unspelled = λ is. absurd (never is);
}

-- ---- no record yet

-- nothing was written, and what is not written yet is the header, unless memory ran out
pub writes_first : (told : ToldLimits) (base : Option (List ℕ)) (before : ℕ) (unsent : List ℕ) (fault : Option TraceFault) (sound : Bool)
    → (fault ≡ None) × (unsent ≡ header_2 told) ⊎ (fault ≡ Some faults.NoMemory) → before + 1 < 2 ^ 64 → sound ≡ true →
    length (header_2 told) ≡ HEADER_2_LENGTH → Writes told base base before before unsent 0 [] fault false sound
writes_first told base before unsent fault sound begun few still headed = record {
  front = [];
  rest = header_2 told;
  appends = Appends-nil base;
  is = sym (append-nil (header_2 told));
  written_is = refl;
  unsent_is = λ none. first_unsent begun none;
  never_synced = λ is. first_unsynced begun is;
  tells = first_tells begun;
  spelled = spelled_none told fault (first_spelled begun);
  torn = λ is. cc;
  long = λ _. omega (arith, headed, ap length (append-nil (header_2 told)));
  few = omega arith;
  few_failures = few;
  sound = λ _. still;
}
  where
    first_unsent : (fault ≡ None) × (unsent ≡ header_2 told) ⊎ (fault ≡ Some faults.NoMemory) → fault ≡ None → unsent ≡ header_2 told
    first_unsent (inl h) none = h.1
    first_unsent (inr e) none = let no : Some faults.NoMemory ≡ None = sym e ∙ none in cc

    first_unsynced : (fault ≡ None) × (unsent ≡ header_2 told) ⊎ (fault ≡ Some faults.NoMemory) → fault ≡ Some faults.Sync → ⊥
    first_unsynced (inl h) is = let no : None ≡ Some faults.Sync = sym h.0 ∙ is in cc
    first_unsynced (inr e) is = let no : Some faults.NoMemory ≡ Some faults.Sync = sym e ∙ is in cc

    first_spelled : (fault ≡ None) × (unsent ≡ header_2 told) ⊎ (fault ≡ Some faults.NoMemory) → fault ≡ Some faults.Unspellable → ⊥
    first_spelled (inl h) is = let wrong : None ≡ Some faults.Unspellable = sym h.0 ∙ is in cc
    first_spelled (inr e) is = let wrong : Some faults.NoMemory ≡ Some faults.Unspellable = sym e ∙ is in cc

    first_tells : (fault ≡ None) × (unsent ≡ header_2 told) ⊎ (fault ≡ Some faults.NoMemory) → CountsFailures fault before before
    first_tells (inl h) = subst (λ f. CountsFailures f before before) (sym h.0) refl
    first_tells (inr e) = subst (λ f. CountsFailures f before before) (sym e) (counts_none before before refl)

-- ---- a record more

-- the text is not long
text_long : (told : ToldLimits) (rs : List Record) (r : Record) → length (text told rs) ≤ HEADER_2_LENGTH + RECORD_FRAME_MAX * length rs →
    length (frame (record_bytes r)) ≤ RECORD_FRAME_MAX
    → length (text told (rs ++ r ∷ [])) ≤ HEADER_2_LENGTH + RECORD_FRAME_MAX * length (rs ++ r ∷ [])
text_long told rs r was short =
    let longer : length (text told (rs ++ r ∷ [])) ≡ length (text told rs) + length (frame (record_bytes r)) = ap length (text_push told rs r) ∙
    length-append (text told rs) (frame (record_bytes r)) in
    let more : length (rs ++ r ∷ []) ≡ length rs + 1 = length-append rs (r ∷ []) in
    omega (arith, longer, more, was, short)

-- a record more was kept
pub writes_kept : (told : ToldLimits) (base now : Option (List ℕ)) (before after : ℕ) (unsent unsent' : List ℕ) (written : ℕ) (rs : List Record)
    (fault fault' : Option TraceFault) (torn sound : Bool) (r : Record)
    → Writes told base now before after unsent written rs fault torn sound → torn ≡ false → length rs < RECORDS_MAX → MakesFrame unsent unsent' fault fault' r
    → Writes told base now before after unsent' written (rs ++ r ∷ []) fault' torn sound
writes_kept told base now before after unsent unsent' written rs fault fault' torn sound r w whole few m = record {
  front = w.front;
  rest = w.rest ++ frame (record_bytes r);
  appends = w.appends;
  is = sym (append_assoc w.front w.rest (frame (record_bytes r))) ∙ ap (λ (l : List ℕ). l ++ frame (record_bytes r)) w.is ∙ sym (text_push told rs r);
  written_is = w.written_is;
  unsent_is = λ none. (m.made none).1 ∙ ap (λ (l : List ℕ). l ++ frame (record_bytes r)) (w.unsent_is (m.made none).0);
  never_synced = made_unsynced fault fault' r m.told w.never_synced;
  tells = made_tells fault fault' before after r m.told w.tells;
  spelled = spelled_kept told w.front unsent unsent' fault fault' rs r w.spelled w.never_synced m;
  torn = λ is. absurd (let e : true ≡ false = sym is ∙ whole in cc);
  long = λ none. text_long told rs r (w.long (m.made none).0) (m.few none);
  few = let more : length (rs ++ r ∷ []) ≡ length rs + 1 = length-append rs (r ∷ []) in omega (arith, more, few);
  few_failures = w.few_failures;
  sound = λ none. w.sound (m.made none).0;
}

-- ---- what was not written yet is written

-- no more is written than the text has
pub writes_few : (told : ToldLimits) (base now now' : Option (List ℕ)) (before after : ℕ) (unsent : List ℕ) (written : ℕ) (rs : List Record)
    (fault : Option TraceFault) (torn sound : Bool) (count : ℕ)
    → Writes told base now before after unsent written rs fault torn sound → fault ≡ None → WritesFront now now' unsent count → written + count < 2 ^ 64
writes_few told base now now' before after unsent written rs fault torn sound count w none f =
    let all : length w.front + length w.rest ≡ length (text told rs) = sym (length-append w.front w.rest) ∙ ap length w.is in
    let left : length unsent ≡ length w.rest = ap length (w.unsent_is none) in
    let long = w.long none in
    let few = w.few in
    let within = f.within in
    let was = w.written_is in
    omega arith

-- a front of what was not written was
fronted : (told : ToldLimits) (base now now' : Option (List ℕ)) (before after after' : ℕ) (unsent : List ℕ) (written : ℕ) (rs : List Record)
    (fault fault' : Option TraceFault) (torn sound sound' : Bool) (count : ℕ)
    → Writes told base now before after unsent written rs fault torn sound → fault ≡ None → WritesFront now now' unsent count →
    (fault' ≡ None → [] ≡ drop count unsent) → (fault' ≡ Some faults.Sync → ⊥) → (fault' ≡ Some faults.Unspellable → ⊥) →
    CountsFailures fault' before after'
    → (fault' ≡ None → sound' ≡ true) → Writes told base now' before after' [] (written + count) rs fault' torn sound'
fronted told base now now' before after after' unsent written rs fault fault' torn sound sound' count w none f all never spelled tells still = record {
  front = w.front ++ take count unsent;
  rest = drop count unsent;
  appends = Appends-trans base now now' w.front (take count unsent) w.appends f.appends;
  is = fronts;
  written_is =
      let long : length (w.front ++ take count unsent) ≡ length w.front + count = length-append w.front (take count unsent) ∙
      ap (λ (m : ℕ). length w.front + m) (length-take-le count unsent f.within) in
      let was = w.written_is in
      omega (arith, long, was);
  unsent_is = all;
  never_synced = never;
  tells = tells;
  spelled =
      let was : IsSpelled told w.front None rs = subst (λ f. IsSpelled told w.front f rs) none w.spelled in
      spelled_front told w.front (w.front ++ take count unsent) (drop count unsent) fault' rs was fronts spelled;
  torn = λ is. absurd (let e : None ≡ Some faults.NoMemory = sym none ∙ w.torn is in cc);
  long = λ _. w.long none;
  few = w.few;
  few_failures = w.few_failures;
  sound = still;
}
  where
    fronts : (w.front ++ take count unsent) ++ drop count unsent ≡ text told rs
    fronts = append_assoc w.front (take count unsent) (drop count unsent) ∙ ap (λ (l : List ℕ). w.front ++ l) (take-append-drop count unsent ∙
        w.unsent_is none) ∙ w.is

-- all that was not written was
pub flushed : (told : ToldLimits) (base now now' : Option (List ℕ)) (before after after' : ℕ) (unsent : List ℕ) (written : ℕ) (rs : List Record)
    (fault : Option TraceFault) (torn sound sound' : Bool) (count : ℕ)
    → Writes told base now before after unsent written rs fault torn sound → fault ≡ None → WritesFront now now' unsent count → count ≡ length unsent →
    after' ≡ after → sound' ≡ true
    → Writes told base now' before after' [] (written + count) rs fault torn sound'
flushed told base now now' before after after' unsent written rs fault torn sound sound' count w none f whole same still =
    fronted told base now now' before after after' unsent written rs fault fault torn sound sound' count w none f
    (λ _. sym (ap (λ (n : ℕ). drop n unsent) whole ∙ drop-length unsent)) w.never_synced
    (λ is. absurd (let wrong : None ≡ Some faults.Unspellable = sym none ∙ is in cc))
    (subst (λ (n : ℕ). CountsFailures fault before n) (sym same) w.tells) (λ _. still)

-- the sink failed in the middle
pub broken : (told : ToldLimits) (base now now' : Option (List ℕ)) (before after after' : ℕ) (unsent : List ℕ) (written : ℕ) (rs : List Record)
    (fault : Option TraceFault) (torn sound sound' : Bool) (count : ℕ)
    → Writes told base now before after unsent written rs fault torn sound → fault ≡ None → WritesFront now now' unsent count → after' ≡ after + 1
    → Writes told base now' before after' [] (written + count) rs (Some faults.Write) torn sound'
broken told base now now' before after after' unsent written rs fault torn sound sound' count w none f more =
    let was : after ≡ before = subst (λ f. CountsFailures f before after) none w.tells in
    fronted told base now now' before after after' unsent written rs fault (Some faults.Write) torn sound sound' count w none f (λ e. absurd (cc)) (λ e. cc)
    (λ e. cc) (more ∙ ap (λ (n : ℕ). n + 1) was) (λ e. absurd (cc))

-- ---- what is whole

-- in all bytes of their frames, all records are whole
whole_all : (rs : List Record) → whole_in rs (length (frames_of rs)) ≡ length rs
whole_all [] = refl
whole_all (r ∷ rs) =
    let all : length (frame (record_bytes r) ++ frames_of rs) ≡ length (frame (record_bytes r)) + length (frames_of rs) =
    length-append (frame (record_bytes r)) (frames_of rs) in
    let fits : nat_le (length (frame (record_bytes r))) (length (frame (record_bytes r) ++ frames_of rs)) ≡ true = grind (arith, nat_tests, all) in
    let left : length (frame (record_bytes r) ++ frames_of rs) - length (frame (record_bytes r)) ≡ length (frames_of rs) = omega (arith, all) in
    rw (fits, left, whole_all rs) (add-one (length rs))

pub whole_when_all : (told : ToldLimits) (rs : List Record) (written : ℕ) → written ≡ length (text told rs) → whole_in rs (written - length (header_2 told))
    ≡ length rs
whole_when_all told rs written e =
    let long : length (text told rs) ≡ length (header_2 told) + length (frames_of rs) = length-append (header_2 told) (frames_of rs) in
    let left : written - length (header_2 told) ≡ length (frames_of rs) = omega (arith, e, long) in
    rw left (whole_all rs)
