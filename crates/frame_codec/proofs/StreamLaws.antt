-- Streams of frames have one reading, and a decoder gives it however they are cut.
use Rattle.std.proofs.Common.{◌≡◌, ℕ, ◌+◌, ◌^◌, ◌<◌, ◌≤◌, List, [], ◌∷◌, ◌++◌, length, take, refl, sym, ap, subst, ◌∙◌, append_assoc, arith, inl, inr}
use Rattle.std.specs.List.{concat}
use Rattle.std.proofs.lemmas.List.{append-nil, append_cancel_left, length-append, take_at}
use Rattle.std.proofs.lemmas.Nat.{from_be_bytes-to_be_bytes_4}
use Rattle.frame_codec.specs.declared.begun.Stop.{Stop}
use Rattle.frame_codec.specs.declared.begun.Stop.TheVariants as stops
use Rattle.frame_codec.specs.declared.decoder.Progress.{Progress}
use Rattle.frame_codec.specs.declared.decoder.Progress.TheVariants as progress
use Rattle.frame_codec.specs.Fields.{number_bytes}
use Rattle.frame_codec.specs.Frames.{frame, told_length, told_payload, IsFrame, IsShort, IsTooLong, AreFrames, StopsWith}
use Rattle.frame_codec.specs.Decoding.{DecoderState, fresh, told_place, told_progress, AreValues, GoesFrom, GoesOn, StaysSo, FeedsFrom}
use Rattle.frame_codec.specs.Proved.Filling.{FeedsAll}
use Rattle.frame_codec.specs.Given.{HasGiven}
use Rattle.frame_codec.specs.Proved.Laws.{OneForm, CutsDoNotMatter, OneReading, LongestReading, FrontReads, NoFrameThere, Gave, PiecesGoOn}
use Rattle.frame_codec.proofs.ReadingOn.{stays_malformed, stays_too_long}

-- ---- a frame tells its payload, whatever follows it

frame_length : (payload more : List ℕ) → length payload < 2 ^ 32 → told_length (frame payload ++ more) ≡ length payload
unfolding number_bytes
frame_length payload more h = from_be_bytes-to_be_bytes_4 (length payload) h

frame_payload : (payload more : List ℕ) → length payload < 2 ^ 32 → told_payload (frame payload ++ more) ≡ payload
unfolding number_bytes
frame_payload payload more h =
    ap (λ (n : ℕ). take n (payload ++ more)) (frame_length payload more h) ∙ take_at payload more (length payload) refl

-- a payload spells one value
abbrev pub OneValue : {A : Type 0} → (A → List ℕ → Type 0) → Type 0
OneValue {A} Spells = (a b : A) (payload : List ℕ) → Spells a payload → Spells b payload → a ≡ b

pub one_form : {A : Type 0} (Spells : A → List ℕ → Type 0) (most : ℕ) → most < 2 ^ 32 → OneValue Spells → OneForm Spells most
one_form Spells most small one = λ a b first second x y f g e.
    let bytes : frame f.payload ++ x ≡ frame g.payload ++ y = ap (λ (text : List ℕ). text ++ x) (sym f.is) ∙ e ∙ ap (λ (text : List ℕ). text ++ y) g.is in
    let same : f.payload ≡ g.payload =
    sym (frame_payload f.payload x (omega (arith, f.few, small))) ∙ ap told_payload bytes ∙ frame_payload g.payload y (omega (arith, g.few, small)) in
    let whole : first ≡ second = f.is ∙ ap frame same ∙ sym g.is in (
      one a b g.payload (subst (λ (payload : List ℕ). Spells a payload) same f.spelled) g.spelled,
      whole,
      append_cancel_left second x y (ap (λ (text : List ℕ). text ++ x) (sym whole) ∙ e),
    )

-- ---- where a stream stops, no frame begins

frame_long : (payload more : List ℕ) → length (frame payload ++ more) ≡ 4 + length payload + length more
unfolding number_bytes
frame_long payload more = omega (arith, length-append payload more)

no_stop : {A : Type 0} (Spells : A → List ℕ → Type 0) (most : ℕ) (value : A) (bytes : List ℕ) (stop : Stop) (few : ℕ) (more : ℕ) → few ≤ most →
    told_length bytes ≡ few
    → length bytes ≡ 4 + few + more → Spells value (told_payload bytes) → StopsWith Spells most bytes stop → ⊥
no_stop Spells most value bytes stops.Short few more le told long spelled h =
    elim h [
      | inl short ↦ omega (arith, long, short)
      | inr there ↦ omega (arith, long, told, there.2)
    ]
no_stop Spells most value bytes stops.Malformed few more le told long spelled h = h.none value spelled
no_stop Spells most value bytes stops.TooLong few more le told long spelled h = omega (arith, le, told, h.1)

not_stopped : {A : Type 0} (Spells : A → List ℕ → Type 0) (most : ℕ) (value : A) (first more bytes : List ℕ) (stop : Stop) → most < 2 ^ 32 →
    IsFrame Spells most value first
    → bytes ≡ first ++ more → StopsWith Spells most bytes stop → ⊥
not_stopped {A} Spells most value first more bytes stop small f e h =
    let bytes_are : bytes ≡ frame f.payload ++ more = e ∙ ap (λ (text : List ℕ). text ++ more) f.is in
    let told : told_length bytes ≡ length f.payload = ap told_length bytes_are ∙ frame_length f.payload more (omega (arith, f.few, small)) in
    let long : length bytes ≡ 4 + length f.payload + length more = ap length bytes_are ∙ frame_long f.payload more in
    no_stop Spells most value bytes stop (length f.payload) (length more) f.few told long
    (subst (λ (payload : List ℕ). Spells value payload) (sym (ap told_payload bytes_are ∙ frame_payload f.payload more (omega (arith, f.few, small))))
    f.spelled) h

short_there : (most : ℕ) (bytes : List ℕ) → IsShort most bytes → 4 + told_length bytes ≤ length bytes → told_length bytes ≤ most → ⊥
short_there most bytes h there few =
    elim h [
      | inl short ↦ omega (arith, short, there)
      | inr part ↦ omega (arith, part.2, there)
    ]

short_few : (most : ℕ) (bytes : List ℕ) → IsShort most bytes → IsTooLong most bytes → ⊥
short_few most bytes h long =
    elim h [
      | inl short ↦ omega (arith, short, long.0)
      | inr part ↦ omega (arith, part.1, long.1)
    ]

-- a stream stops for one reason
one_stop : {A : Type 0} (Spells : A → List ℕ → Type 0) (most : ℕ) (bytes : List ℕ) (stop other : Stop) → StopsWith Spells most bytes stop →
    StopsWith Spells most bytes other → stop ≡ other
one_stop Spells most bytes stops.Short stops.Short h k = refl
one_stop Spells most bytes stops.Short stops.Malformed h k = absurd (short_there most bytes h k.there k.few)
one_stop Spells most bytes stops.Short stops.TooLong h k = absurd (short_few most bytes h k)
one_stop Spells most bytes stops.Malformed stops.Short h k = absurd (short_there most bytes k h.there h.few)
one_stop Spells most bytes stops.Malformed stops.Malformed h k = refl
one_stop Spells most bytes stops.Malformed stops.TooLong h k = absurd (omega (arith, h.few, k.1))
one_stop Spells most bytes stops.TooLong stops.Short h k = absurd (short_few most bytes k h)
one_stop Spells most bytes stops.TooLong stops.Malformed h k = absurd (omega (arith, k.few, h.1))
one_stop Spells most bytes stops.TooLong stops.TooLong h k = refl

pub no_frame_there : {A : Type 0} (Spells : A → List ℕ → Type 0) (most : ℕ) → most < 2 ^ 32 → NoFrameThere Spells most
no_frame_there Spells most small = λ value first more f h.
    elim h [
      | inl short ↦ not_stopped Spells most value first more (first ++ more) stops.Short small f refl short
      | inr fault ↦ elim fault [
        | inl malformed ↦ not_stopped Spells most value first more (first ++ more) stops.Malformed small f refl malformed
        | inr long ↦ not_stopped Spells most value first more (first ++ more) stops.TooLong small f refl long
      ]
    ]

-- ---- one reading

-- the frames of a list that a stop follows go on as those of any other that begins the same bytes
front_of : {A : Type 0} (Spells : A → List ℕ → Type 0) (most : ℕ) → most < 2 ^ 32 → OneValue Spells → (values others : List A) (text rest text2 rest2 : List ℕ)
    (stop : Stop)
    → AreFrames Spells most values text → StopsWith Spells most rest stop → AreFrames Spells most others text2 → text ++ rest ≡ text2 ++ rest2
    → (more : List A) × (left : List ℕ) × (values ≡ others ++ more) × AreFrames Spells most more left × (rest2 ≡ left ++ rest)
front_of Spells most small one values [] text rest text2 rest2 stop f h g e =
    (values, text, refl, f, sym (e ∙ ap (λ (front : List ℕ). front ++ rest2) g))
front_of Spells most small one [] (other ∷ others) text rest text2 rest2 stop f h g e =
    let bytes : rest ≡ g.0 ++ (g.1 ++ rest2) = ap (λ (front : List ℕ). front ++ rest) (sym f) ∙ e ∙ ap (λ (front : List ℕ). front ++ rest2) g.2 ∙
    append_assoc g.0 g.1 rest2 in
    absurd (not_stopped Spells most other g.0 (g.1 ++ rest2) rest stop small g.3 bytes h)
front_of {A} Spells most small one (value ∷ values) (other ∷ others) text rest text2 rest2 stop f h g e =
    let bytes : f.0 ++ (f.1 ++ rest) ≡ g.0 ++ (g.1 ++ rest2) =
    sym (append_assoc f.0 f.1 rest) ∙ ap (λ (front : List ℕ). front ++ rest) (sym f.2) ∙ e ∙ ap (λ (front : List ℕ). front ++ rest2) g.2 ∙
    append_assoc g.0 g.1 rest2 in
    let same = one_form Spells most small one value other f.0 g.0 (f.1 ++ rest) (g.1 ++ rest2) f.3 g.3 bytes in
    let next = front_of Spells most small one values others f.1 rest g.1 rest2 stop f.4 h g.4 same.2 in
    (next.0, next.1, ap (λ (v : A). v ∷ values) same.0 ∙ ap (λ (vs : List A). other ∷ vs) next.2, next.3, next.4)

pub longest : {A : Type 0} (Spells : A → List ℕ → Type 0) (most : ℕ) → most < 2 ^ 32 → OneValue Spells → LongestReading Spells most
longest Spells most small one = λ bytes values others told text rest h g e.
    let f = front_of Spells most small one values others h.text h.rest text rest h.stop h.frames h.stops g (sym h.is ∙ e) in
    (f.0, f.2)

-- where both stop, nothing goes on
both_stop : {A : Type 0} (Spells : A → List ℕ → Type 0) (most : ℕ) (more : List A) (left rest2 rest : List ℕ) (stop : Stop) → most < 2 ^ 32 →
    AreFrames Spells most more left
    → rest2 ≡ left ++ rest → StopsWith Spells most rest2 stop → (more ≡ []) × (rest2 ≡ rest)
both_stop Spells most [] left rest2 rest stop small f e h = (refl, e ∙ ap (λ (front : List ℕ). front ++ rest) f)
both_stop Spells most (value ∷ more) left rest2 rest stop small f e h =
    absurd (not_stopped Spells most value f.0 (f.1 ++ rest) rest2 stop small f.3 (e ∙ ap (λ (front : List ℕ). front ++ rest) f.2 ∙ append_assoc f.0 f.1 rest) h)

pub one_reading : {A : Type 0} (Spells : A → List ℕ → Type 0) (most : ℕ) → most < 2 ^ 32 → OneValue Spells → OneReading Spells most
one_reading {A} Spells most small one = λ bytes values others told other h k.
    let f = front_of Spells most small one values others h.text h.rest k.text k.rest h.stop h.frames h.stops k.frames (sym h.is ∙ k.is) in
    let ends = both_stop Spells most f.0 f.1 k.rest h.rest k.stop small f.3 f.4 k.stops in
    let long : length h.text ≡ length k.text = omega (
      arith,
      ap length h.is,
      ap length k.is,
      length-append h.text h.rest,
      length-append k.text k.rest,
      ap length ends.1,
    ) in
    let stop : h.stop ≡ k.stop = one_stop Spells most h.rest h.stop k.stop h.stops
    (subst (λ (left : List ℕ). StopsWith Spells most left k.stop) ends.1 k.stops) in (
      f.2 ∙ ap (λ (more : List A). others ++ more) ends.0 ∙ append-nil others,
      h.tells ∙ ap (λ (n : ℕ). told_progress (told_place (0 + n)) h.stop) long ∙ ap (λ (s : Stop). told_progress (told_place (0 + length k.text)) s) stop ∙
          sym k.tells,
    )

-- ---- pieces

frames_join : {A : Type 0} (Spells : A → List ℕ → Type 0) (most : ℕ) (values others : List A) (text text2 : List ℕ) → AreFrames Spells most values text →
    AreFrames Spells most others text2
    → AreFrames Spells most (values ++ others) (text ++ text2)
frames_join Spells most [] others text text2 f g = subst (λ (bytes : List ℕ). AreFrames Spells most others (bytes ++ text2)) (sym f) g
frames_join Spells most (value ∷ values) others text text2 f g =
    (f.0, f.1 ++ text2, ap (λ (bytes : List ℕ). bytes ++ text2) f.2 ∙ append_assoc f.0 f.1 text2, f.3, frames_join Spells most values others f.1 text2 f.4 g)

-- what a decoder keeps after bytes
record Stands {A : Type 0} (Spells : A → List ℕ → Type 0) (most : ℕ) (bytes : List ℕ) (values : List A) (state : DecoderState) : Type 0 where
  are : AreValues Spells most 0 bytes values state.progress
  goes : GoesFrom state (0 + length are.text) are.rest are.stop

-- a stop that tells nothing is for want of bytes
is_short : (place : ℕ) (stop : Stop) → progress.More ≡ told_progress place stop → stop ≡ stops.Short
is_short place stops.Short e = refl
is_short place stops.Malformed e = absurd cc
is_short place stops.TooLong e = absurd cc

still_stops : {A : Type 0} (Spells : A → List ℕ → Type 0) (most : ℕ) (rest piece : List ℕ) (stop : Stop) (told : Progress) (place : ℕ) →
    (told ≡ progress.More → ⊥)
    → told ≡ told_progress place stop → StopsWith Spells most rest stop → StopsWith Spells most (rest ++ piece) stop
still_stops Spells most rest piece stops.Short told place fault e h = absurd (fault e)
still_stops Spells most rest piece stops.Malformed told place fault e h = stays_malformed Spells most rest piece h
still_stops Spells most rest piece stops.TooLong told place fault e h = stays_too_long most rest piece h

-- after a fault nothing changes
abbrev fault_stays : {A : Type 0} (Spells : A → List ℕ → Type 0) (most : ℕ) (bytes piece : List ℕ) (values : List A) (told : Progress) →
    (told ≡ progress.More → ⊥)
    → AreValues Spells most 0 bytes values told → AreValues Spells most 0 (bytes ++ piece) values told
fault_stays Spells most bytes piece values told fault h = record {
  text = h.text;
  rest = h.rest ++ piece;
  stop = h.stop;
  is = ap (λ (front : List ℕ). front ++ piece) h.is ∙ append_assoc h.text h.rest piece;
  frames = h.frames;
  stops = still_stops Spells most h.rest piece h.stop told (told_place (0 + length h.text)) fault h.tells h.stops;
  tells = h.tells;
}

still_goes : (new : DecoderState) (before other : ℕ) (rest : List ℕ) (stop : Stop) → told_place before ≡ told_place other → GoesFrom new before rest stop →
    GoesFrom new other rest stop
still_goes new before other rest stops.Short e h = (h.0 ∙ e, h.1)
still_goes new before other rest stops.Malformed e h = tt
still_goes new before other rest stops.TooLong e h = tt

goes_nowhere : (state : DecoderState) (before : ℕ) (rest other : List ℕ) (stop : Stop) → (state.progress ≡ progress.More → ⊥) →
    state.progress ≡ told_progress (told_place before) stop
    → GoesFrom state before rest stop → GoesFrom state before other stop
goes_nowhere state before rest other stops.Short fault e h = absurd (fault e)
goes_nowhere state before rest other stops.Malformed fault e h = tt
goes_nowhere state before rest other stops.TooLong fault e h = tt

-- a decoder without a fault, and a piece more
goes_further : {A : Type 0} (Spells : A → List ℕ → Type 0) (most : ℕ) (bytes piece : List ℕ) (values first : List A) (old new : DecoderState)
    (told : Progress) → old.progress ≡ progress.More
    → Stands Spells most bytes values old → GoesOn Spells most old new piece first told → Stands Spells most (bytes ++ piece) (values ++ first) new
goes_further {A} Spells most bytes piece values first old new told more h k =
    let short : h.are.stop ≡ stops.Short = is_short (told_place (0 + length h.are.text)) h.are.stop (sym more ∙ h.are.tells) in
    let from = subst (λ (stop : Stop). GoesFrom old (0 + length h.are.text) h.are.rest stop) short h.goes in
    let place : told_place (old.before + length k.are.text) ≡ told_place (0 + length (h.are.text ++ k.are.text)) =
    omega (arith, from.0, length-append h.are.text k.are.text) in
    record {
      are = record {
        text = h.are.text ++ k.are.text;
        rest = k.are.rest;
        stop = k.are.stop;
        is =
            ap (λ (front : List ℕ). front ++ piece) h.are.is ∙ append_assoc h.are.text h.are.rest piece
            ∙ ap (λ (rest : List ℕ). h.are.text ++ (rest ++ piece)) (sym from.1) ∙ ap (λ (rest : List ℕ). h.are.text ++ rest) k.are.is
            ∙ sym (append_assoc h.are.text k.are.text k.are.rest);
        frames = frames_join Spells most values first h.are.text k.are.text h.are.frames k.are.frames;
        stops = k.are.stops;
        tells = k.stays ∙ k.are.tells ∙ ap (λ (n : ℕ). told_progress n k.are.stop) place;
      };
      goes = still_goes new (old.before + length k.are.text) (0 + length (h.are.text ++ k.are.text)) k.are.rest k.are.stop place k.holds;
    }

stays_so : {A : Type 0} (Spells : A → List ℕ → Type 0) (most : ℕ) (bytes piece : List ℕ) (values first : List A) (old new : DecoderState) (told : Progress) →
    (old.progress ≡ progress.More → ⊥)
    → Stands Spells most bytes values old → StaysSo old new first told → Stands Spells most (bytes ++ piece) (values ++ first) new
stays_so {A} Spells most bytes piece values first old new told fault h k =
    subst (λ (state : DecoderState). Stands Spells most (bytes ++ piece) (values ++ first) state) (sym k.same)
    (subst (λ (more : List A). Stands Spells most (bytes ++ piece) more old) (sym (append-nil values) ∙ ap (λ (more : List A). values ++ more) (sym k.none))
    (record {
      are = fault_stays Spells most bytes piece values old.progress fault h.are;
      goes = goes_nowhere old (0 + length h.are.text) h.are.rest (h.are.rest ++ piece) h.are.stop fault h.are.tells h.goes;
    }))

fed : {A : Type 0} (Spells : A → List ℕ → Type 0) (most : ℕ) (bytes piece : List ℕ) (values first : List A) (old new : DecoderState) (told so_far : Progress) →
    old.progress ≡ so_far
    → Stands Spells most bytes values old → FeedsFrom Spells most so_far old new piece first told → Stands Spells most (bytes ++ piece) (values ++ first) new
fed Spells most bytes piece values first old new told progress.More e h k = goes_further Spells most bytes piece values first old new told e h k
fed Spells most bytes piece values first old new told (progress.Malformed at) e h k = stays_so Spells most bytes piece values first old new told
    (λ more. absurd (let t = sym e ∙ more in cc)) h k
fed Spells most bytes piece values first old new told (progress.TooLong at) e h k = stays_so Spells most bytes piece values first old new told
    (λ more. absurd (let t = sym e ∙ more in cc)) h k

all_fed : {A : Type 0} (Spells : A → List ℕ → Type 0) (most : ℕ) (pieces : List (List ℕ)) (bytes : List ℕ) (before values : List A) (old new : DecoderState)
    (told : Progress)
    → Stands Spells most bytes before old → FeedsAll Spells most old new pieces values told → AreValues Spells most 0 (bytes ++ concat pieces)
    (before ++ values) told
all_fed {A} Spells most [] bytes before values old new told h k =
    subst (λ (text : List ℕ). AreValues Spells most 0 text (before ++ values) told) (sym (append-nil bytes))
    (subst (λ (more : List A). AreValues Spells most 0 bytes more told) (sym (append-nil before) ∙ ap (λ (more : List A). before ++ more) (sym k.1))
    (subst (λ (end : Progress). AreValues Spells most 0 bytes before end) (sym k.2) h.are))
all_fed {A} Spells most (piece ∷ pieces) bytes before values old new told h k =
    let next = fed Spells most bytes piece before k.1 old k.0 k.3 old.progress refl h k.4 in
    let rest = all_fed Spells most pieces (bytes ++ piece) (before ++ k.1) k.2 k.0 new told next k.5 in
    subst (λ (text : List ℕ). AreValues Spells most 0 text (before ++ values) told) (append_assoc bytes piece (concat pieces))
    (subst (λ (more : List A). AreValues Spells most 0 ((bytes ++ piece) ++ concat pieces) more told) (append_assoc before k.1 k.2 ∙
    ap (λ (more : List A). before ++ more) (sym k.6)) rest)

pub cuts_do_not_matter : {A : Type 0} (Spells : A → List ℕ → Type 0) (most : ℕ) → CutsDoNotMatter Spells most
cuts_do_not_matter Spells most = λ pieces new values told h.
    all_fed Spells most pieces [] [] values fresh new told
    (record {
      are = record { text = []; rest = []; stop = stops.Short; is = refl; frames = refl; stops = inl (omega arith); tells = refl };
      goes = (refl, refl);
    }) h

-- ---- fronts

-- values are those of their frames, without a fault
abbrev all_read : {A : Type 0} (Spells : A → List ℕ → Type 0) (most : ℕ) (all : List A) (bytes : List ℕ) → AreFrames Spells most all bytes →
    AreValues Spells most 0 bytes all progress.More
all_read Spells most all bytes f =
    record { text = bytes; rest = []; stop = stops.Short; is = sym (append-nil bytes); frames = f; stops = inl (omega arith); tells = refl }

-- a fault in a front is one of all the bytes
no_fault : {A : Type 0} (Spells : A → List ℕ → Type 0) (most : ℕ) → most < 2 ^ 32 → OneValue Spells → (all values : List A) (read left : List ℕ)
    (told : Progress)
    → AreFrames Spells most all (read ++ left) → AreValues Spells most 0 read values told → (told ≡ progress.More → ⊥) → ⊥
no_fault Spells most small one all values read left told f h fault =
    fault (sym (one_reading Spells most small one (read ++ left) all values progress.More told (all_read Spells most all (read ++ left) f)
    (fault_stays Spells most read left values told fault h)).1)

is_more : (told : Progress) → ((told ≡ progress.More → ⊥) → ⊥) → told ≡ progress.More
is_more progress.More h = refl
is_more (progress.Malformed place) h = absurd (h (λ e. cc))
is_more (progress.TooLong place) h = absurd (h (λ e. cc))

pub front_reads : {A : Type 0} (Spells : A → List ℕ → Type 0) (most : ℕ) → most < 2 ^ 32 → OneValue Spells → FrontReads Spells most
front_reads Spells most small one = λ all values read left told f h.
    let more =
    longest Spells most small one (read ++ left) all values progress.More h.text (h.rest ++ left) (all_read Spells most all (read ++ left) f) h.frames
    (ap (λ (front : List ℕ). front ++ left) h.is ∙ append_assoc h.text h.rest left) in
    (is_more told (no_fault Spells most small one all values read left told f h), more.0, more.1)

-- ---- what was given so far

-- what was given of a stream, by why it stops
gave_so : {A : Type 0} (Spells : A → List ℕ → Type 0) (most : ℕ) (stream : List ℕ) (values : List A) (new : DecoderState) (told : Progress) (text rest : List ℕ)
    (stop : Stop) (before : ℕ)
    → stream ≡ text ++ rest → AreFrames Spells most values text → StopsWith Spells most rest stop → GoesFrom new before rest stop →
    told_place before ≡ told_place (length text)
    → new.progress ≡ told → told ≡ told_progress (told_place before) stop → Gave Spells most stream values new told
gave_so Spells most stream values new told text rest stops.Short before is frames short goes place stays tells =
    subst (λ (p : Progress). Gave Spells most stream values new p) (sym tells) (record {
      text = text;
      is = is ∙ ap (λ (left : List ℕ). text ++ left) (sym goes.1);
      frames = frames;
      short = subst (λ (left : List ℕ). IsShort most left) (sym goes.1) short;
      before = goes.0 ∙ place;
      goes_on = stays ∙ tells;
    })
gave_so Spells most stream values new told text rest stops.Malformed before is frames malformed goes place stays tells =
    subst (λ (p : Progress). Gave Spells most stream values new p) (sym tells)
    (record { text = text; rest = rest; is = is; frames = frames; fault = (malformed, place) })
gave_so Spells most stream values new told text rest stops.TooLong before is frames long goes place stays tells =
    subst (λ (p : Progress). Gave Spells most stream values new p) (sym tells)
    (record { text = text; rest = rest; is = is; frames = frames; fault = (long, place) })

gave_more : {A : Type 0} (Spells : A → List ℕ → Type 0) (most : ℕ) (stream piece : List ℕ) (values more : List A) (old new : DecoderState) (told : Progress)
    → HasGiven Spells most stream values old → GoesOn Spells most old new piece more told → Gave Spells most (stream ++ piece) (values ++ more) new told
gave_more Spells most stream piece values more old new told h k =
    let is : stream ++ piece ≡ (h.text ++ k.are.text) ++ k.are.rest =
    ap (λ (front : List ℕ). front ++ piece) h.is ∙ append_assoc h.text old.held piece ∙ ap (λ (rest : List ℕ). h.text ++ rest) k.are.is ∙
    sym (append_assoc h.text k.are.text k.are.rest) in
    let place : told_place (old.before + length k.are.text) ≡ told_place (length (h.text ++ k.are.text)) =
    omega (arith, h.before, length-append h.text k.are.text) in
    gave_so Spells most (stream ++ piece) (values ++ more) new told (h.text ++ k.are.text) k.are.rest k.are.stop (old.before + length k.are.text) is
    (frames_join Spells most values more h.text k.are.text h.frames k.are.frames) k.are.stops k.holds place k.stays k.are.tells

pub pieces_go_on : {A : Type 0} (Spells : A → List ℕ → Type 0) (most : ℕ) → PiecesGoOn Spells most
pieces_go_on Spells most = λ stream piece values more old new told h k.
    gave_more Spells most stream piece values more old new told h (subst (λ (p : Progress). FeedsFrom Spells most p old new piece more told) h.goes_on k)
