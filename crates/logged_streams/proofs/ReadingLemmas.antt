-- A stream that is read on.
use Rattle.std.proofs.Common.{◌≡◌, ◌∙◌, ℕ, ◌+◌, ◌*◌, ◌<◌, ◌≤◌, inl, inr, List, [], ◌++◌, Option, None, Some, length, take, refl, sym, ap, subst, arith, length-append}
use Rattle.std.proofs.lemmas.List.{append-nil, length-take}
use Rattle.std.proofs.lemmas.Nat.{row_fits}
use Rattle.std.proofs.KnownBytes.{Consumes-nil, Consumes-trans}
use Rattle.std.specs.Io.KnownBytes.{Consumes}
use Rattle.logged_streams.specs.Streams.{LogState, LoggedReaderState, IsBroken, ReadsOnce, one_more}
use Rattle.logged_streams.specs.declared.stream_log.Gave.TheVariants as gave
use Rattle.logged_streams.specs.declared.reading.ReadEnd.{ReadEnd}
use Rattle.logged_streams.specs.declared.reading.ReadEnd.TheVariants as end
use Rattle.logged_streams.specs.Reading.{EndsBy, MayTake, Reads, TakesPiece, more_calls, taken_max}
use Rattle.logged_streams.specs.Proved.Pieces.{HasRead, IsLogged, LeadsTo, ReadsPiece}

-- ---- numbers

piece_short : (buffer piece : List ℕ) (count room : ℕ) → length buffer ≡ room → piece ≡ take count buffer → length piece ≤ room
piece_short buffer piece count room same e = omega (arith, same, ap length e, length-take count buffer)

-- one read more
pub counted_more : (from mid to : LogState) (turns : ℕ) → mid.calls ≤ from.calls + turns → more_calls turns from ≤ mid.calls → to.calls ≡ one_more mid.calls
    → (to.calls ≤ from.calls + (turns + 1)) × (more_calls (turns + 1) from ≤ to.calls)
counted_more from mid to turns few many more = (omega (arith, few, many, more), omega (arith, few, many, more))

-- a piece more is not too much
pub fits : (turns most room long : ℕ) → turns < most → most * room ≤ taken_max → long ≤ turns * room → long + room ≤ taken_max
fits turns most room long below short few = omega (arith, row_fits turns room most room below (omega arith), short, few)

-- with a piece more there are no more bytes than so many pieces have
pieces_long : (turns room long piece all : ℕ) → long ≤ turns * room → piece ≤ room → all ≡ long + piece → all ≤ (turns + 1) * room
pieces_long turns room long piece all few short is = omega (arith, row_fits turns room (turns + 1) room (omega arith) (omega arith), few, short, is)

-- ---- one read

module _ {O T A : Type 0} (Taken : T → O → T → O → List ℕ → Type 0) (Told : T → O → T → O → List ℕ → A → Type 0) where
  -- a piece was taken
  pub piece_taken : (room : ℕ) (from to : LoggedReaderState) (buffer piece : List ℕ) (count : ℕ) (old : T) (out : O) (new : T) (after : O) →
      length buffer ≡ room → to.log.interruptions < 16
      → ReadsOnce from to buffer (gave.Bytes count) → piece ≡ take count buffer → TakesPiece Taken Told piece old out new after None →
      ReadsPiece Taken Told room from to old out new after None
  piece_taken room from to buffer piece count old out new after long few h e takes = record {
    piece = piece;
    short = piece_short buffer piece count room long e;
    consumes = subst (λ (x : List ℕ). Consumes from.remaining to.remaining x) (sym e) h.gives.consumes;
    calls = ap (λ (log : LogState). log.calls) h.log;
    logged = (few, ap (λ (log : LogState). log.failed) h.log);
    leads = λ first was input taken room_left. takes first was input taken (omega (arith, room_left, piece_short buffer piece count room long e));
  }

  -- a piece was taken, and no more is
  pub piece_told : (room : ℕ) (from to : LoggedReaderState) (buffer piece : List ℕ) (count : ℕ) (old : T) (out : O) (new : T) (after : O) (told : A) →
      length buffer ≡ room
      → ReadsOnce from to buffer (gave.Bytes count) → piece ≡ take count buffer → TakesPiece Taken Told piece old out new after (Some told)
      → ReadsPiece Taken Told room from to old out new after (Some (end.Told told))
  piece_told room from to buffer piece count old out new after told long h e takes = record {
    piece = piece;
    short = piece_short buffer piece count room long e;
    consumes = subst (λ (x : List ℕ). Consumes from.remaining to.remaining x) (sym e) h.gives.consumes;
    calls = ap (λ (log : LogState). log.calls) h.log;
    logged = ap (λ (log : LogState). log.failed) h.log;
    leads = λ first was input taken room_left. takes first was input taken (omega (arith, room_left, piece_short buffer piece count room long e));
  }

  -- a piece of this length may be taken
  pub may_take : (room : ℕ) (buffer piece : List ℕ) (count : ℕ) (taker : T) (out : O) → length buffer ≡ room → piece ≡ take count buffer →
      MayTake Taken taker out room → MayTake Taken taker out (length piece)
  may_take room buffer piece count taker out long e may = record {
    first = may.first;
    was = may.was;
    input = may.input;
    taken = may.taken;
    few = omega (arith, may.few, piece_short buffer piece count room long e);
  }

  -- no byte was read
  pub nothing_read : (room : ℕ) (from to : LoggedReaderState) (taker : T) (out : O) (found : Option (ReadEnd A)) → Consumes from.remaining to.remaining [] →
      to.log.calls ≡ one_more from.log.calls
      → IsLogged from to found → ((first : T) (was : O) (input : List ℕ) → Taken first was taker out input →
      LeadsTo Taken Told from to first was taker out input found) → ReadsPiece Taken Told room from to taker out taker out found
  nothing_read room from to taker out found consumes calls logged leads = record {
    piece = [];
    short = omega arith;
    consumes = consumes;
    calls = calls;
    logged = logged;
    leads = λ first was input taken room_left. subst (λ (x : List ℕ). LeadsTo Taken Told from to first was taker out x found) (sym (append-nil input))
        (leads first was input taken);
  }

  pub end_read : (room : ℕ) (from to : LoggedReaderState) (buffer : List ℕ) (taker : T) (out : O) → ReadsOnce from to buffer gave.Nothing →
      ReadsPiece Taken Told room from to taker out taker out (Some end.AtEnd)
  end_read room from to buffer taker out h =
      nothing_read room from to taker out (Some end.AtEnd) h.gives.0 (ap (λ (log : LogState). log.calls) h.log)
      (h.gives.1, ap (λ (log : LogState). log.failed) h.log) (λ first was input taken. taken)

  pub read_interrupted : (room : ℕ) (from to : LoggedReaderState) (buffer : List ℕ) (taker : T) (out : O) → ReadsOnce from to buffer gave.Interrupted →
      to.log.interruptions < 16
      → ReadsPiece Taken Told room from to taker out taker out None
  read_interrupted room from to buffer taker out h few =
      nothing_read room from to taker out None h.gives (ap (λ (log : LogState). log.calls) h.log) (few, ap (λ (log : LogState). log.failed) h.log)
      (λ first was input taken. taken)

  pub often_interrupted : (room : ℕ) (from to : LoggedReaderState) (buffer : List ℕ) (taker : T) (out : O) → ReadsOnce from to buffer gave.Interrupted →
      16 ≤ to.log.interruptions
      → ReadsPiece Taken Told room from to taker out taker out (Some end.CannotRead)
  often_interrupted room from to buffer taker out h often =
      nothing_read room from to taker out (Some end.CannotRead) h.gives (ap (λ (log : LogState). log.calls) h.log) (inr often) (λ first was input taken. taken)

  pub read_failed : (room : ℕ) (from to : LoggedReaderState) (buffer : List ℕ) (taker : T) (out : O) → ReadsOnce from to buffer gave.Failed →
      ReadsPiece Taken Told room from to taker out taker out (Some end.CannotRead)
  read_failed room from to buffer taker out h =
      nothing_read room from to taker out (Some end.CannotRead) h.gives (ap (λ (log : LogState). log.calls) h.log)
      (inl (ap (λ (log : LogState). log.failed) h.log)) (λ first was input taken. taken)

  -- ---- one read after another

  pub none_read : (room : ℕ) (reader : LoggedReaderState) (taker : T) (out : O) → Taken taker out taker out [] →
      HasRead Taken room reader reader taker out taker out 0
  none_read room reader taker out begun = record { input = []; consumes = Consumes-nil reader.remaining; taken = begun; long = omega arith; sound = refl }

  -- one read more may be made
  pub may_go_on : (room most turns : ℕ) (from mid : LoggedReaderState) (first : T) (was : O) (taker : T) (out : O) → turns < most → most * room ≤ taken_max →
      HasRead Taken room from mid first was taker out turns → MayTake Taken taker out room
  may_go_on room most turns from mid first was taker out below short h = record {
    first = first;
    was = was;
    input = h.input;
    taken = h.taken;
    few =
        fits turns most room (length h.input) below short h.long;
  }

  pub read_more : (room most turns : ℕ) (from mid to : LoggedReaderState) (first : T) (was : O) (old : T) (out : O) (new : T) (after : O) → turns < most →
      most * room ≤ taken_max → HasRead Taken room from mid first was old out turns
      → ReadsPiece Taken Told room mid to old out new after None → HasRead Taken room from to first was new after (turns + 1)
  read_more room most turns from mid to first was old out new after below short h k = record {
    input = h.input ++ k.piece;
    consumes = Consumes-trans from.remaining mid.remaining to.remaining h.input k.piece h.consumes k.consumes;
    taken = k.leads first was h.input h.taken (fits turns most room (length h.input) below short h.long);
    long = pieces_long turns room (length h.input) (length k.piece) (length (h.input ++ k.piece)) h.long k.short (length-append h.input k.piece);
    sound = k.logged.1 ∙ h.sound;
  }

  over_by : (most : ℕ) (from mid to : LoggedReaderState) (first : T) (was : O) (new : T) (after : O) (input : List ℕ) (found : ReadEnd A) →
      mid.log.failed ≡ from.log.failed → IsLogged mid to (Some found)
      → LeadsTo Taken Told mid to first was new after input (Some found) → EndsBy Taken Told most from to first was new after input found
  over_by most from mid to first was new after input end.AtEnd sound logged leads = (logged.0, logged.1 ∙ sound, leads)
  over_by most from mid to first was new after input end.CannotRead sound logged leads = (inl logged, leads)
  over_by most from mid to first was new after input (end.Told told) sound logged leads = (logged ∙ sound, leads)

  pub read_over : (room most turns : ℕ) (from mid to : LoggedReaderState) (first : T) (was : O) (old : T) (out : O) (new : T) (after : O) (found : ReadEnd A) →
      turns < most → most * room ≤ taken_max
      → HasRead Taken room from mid first was old out turns → ReadsPiece Taken Told room mid to old out new after (Some found) →
      Reads Taken Told most from to first was new after found
  read_over room most turns from mid to first was old out new after found below short h k = record {
    input = h.input ++ k.piece;
    consumes = Consumes-trans from.remaining mid.remaining to.remaining h.input k.piece h.consumes k.consumes;
    few = omega (arith, fits turns most room (length h.input) below short h.long, k.short, length-append h.input k.piece);
    ends = over_by most from mid to first was new after (h.input ++ k.piece) found h.sound k.logged
        (k.leads first was h.input h.taken (fits turns most room (length h.input) below short h.long));
  }

  -- it was read as often as it may be
  pub read_enough : (room most turns : ℕ) (from to : LoggedReaderState) (first : T) (was : O) (taker : T) (out : O) → most ≤ turns → turns ≤ most →
      most * room ≤ taken_max → more_calls turns from.log ≤ to.log.calls
      → HasRead Taken room from to first was taker out turns → Reads Taken Told most from to first was taker out end.CannotRead
  read_enough room most turns from to first was taker out enough below short many h =
      let same : turns ≡ most = omega (arith, enough, below) in
      record {
        input = h.input;
        consumes = h.consumes;
        few = omega (arith, subst (λ (n : ℕ). length h.input ≤ n * room) same h.long, short);
        ends = (inr (subst (λ (n : ℕ). more_calls n from.log ≤ to.log.calls) same many), h.taken);
      }

  -- it is read no more from the start
  pub never_read : (most : ℕ) (reader : LoggedReaderState) (taker : T) (out : O) → IsBroken reader.log → Taken taker out taker out [] →
      Reads Taken Told most reader reader taker out taker out end.CannotRead
  never_read most reader taker out broken begun = record { input = []; consumes = Consumes-nil reader.remaining; few = omega arith; ends = (inl broken, begun) }
