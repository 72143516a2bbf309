-- A read more.
use Rattle.std.proofs.Common.{◌≡◌, ◌∙◌, ℕ, ◌+◌, ◌<◌, false, List, [], ◌++◌, Option, None, Some, take, arith, refl, sym, ap, subst}
use Rattle.std.proofs.lemmas.List.{append-nil}
use Rattle.std.proofs.KnownBytes.{Consumes-nil, Consumes-trans}
use Rattle.std.specs.Io.KnownBytes.{Consumes}
use Rattle.call_types.specs.declared.request.Request.{Request}
use Rattle.frame_codec.specs.Decoding.{DecoderState, fresh}
use Rattle.frame_codec.specs.Proved.Laws.{CutsDoNotMatter}
use Rattle.frame_codec.specs.Requests.{SpellsRequest}
use Rattle.logged_streams.specs.Streams.{LogState, LoggedReaderState, fresh_log, one_more, noted, ReadsOnce, IsReadNoMore}
use Rattle.logged_streams.specs.declared.stream_log.Gave.{Gave}
use Rattle.logged_streams.specs.declared.stream_log.Gave.TheVariants as gave
use Rattle.logged_streams.specs.declared.stream_log.TheConstants.{INTERRUPTIONS_MAX}
use Rattle.request_pump.specs.Pump.{HasPushedAll}
use Rattle.request_pump.specs.Proved.Pumping.{IsPumping, PumpsPiece, IsPieceEnd, MayRead, PumpsOn, HasPumped, PumpsAll}
use Rattle.request_pump.specs.declared.pump.TheConstants.{READS_MAX}
use Rattle.request_pump.specs.declared.pumped.PumpEnd.{PumpEnd}
use Rattle.request_pump.specs.declared.pumped.PumpEnd.TheVariants as end
use Rattle.request_pump.proofs.PumpLemmas.{pushed_all}

-- ---- what one read gives

calls_more : (found : Gave) (old new : LogState) → new ≡ noted old found → new.calls ≡ one_more old.calls
calls_more (gave.Bytes count) old new e = ap (λ (log : LogState). log.calls) e
calls_more gave.Nothing old new e = ap (λ (log : LogState). log.calls) e
calls_more gave.Interrupted old new e = ap (λ (log : LogState). log.calls) e
calls_more gave.Failed old new e = ap (λ (log : LogState). log.calls) e

-- no byte is read
none_read : (input : List ℕ) (decoder : DecoderState) (old new : List Request) → IsPumping input decoder old new → IsPumping (input ++ []) decoder old new
none_read input decoder old new h = subst (λ (l : List ℕ). IsPumping l decoder old new) (sym (append-nil input)) h

all_read : CutsDoNotMatter SpellsRequest 65792 → (input : List ℕ) (decoder : DecoderState) (old new : List Request) → IsPumping input decoder old new →
    HasPushedAll (input ++ []) old new
all_read law input decoder old new h = pushed_all law (input ++ []) decoder old new (none_read input decoder old new h)

may_read : (source : LoggedReaderState) (found : Option PumpEnd) → source.log.interruptions < INTERRUPTIONS_MAX → source.log.failed ≡ false → IsPieceEnd found →
    MayRead source found
may_read source None few sound is = (few, sound)
may_read source (Some end.Closed) few sound is = absurd is
may_read source (Some end.ReadFault) few sound is = absurd is
may_read source (Some end.Malformed) few sound is = sound
may_read source (Some end.NoMemory) few sound is = sound
may_read source (Some end.Ahead) few sound is = sound

pub bytes_read : (capacity : ℕ) (from to : LoggedReaderState) (buffer : List ℕ) (count : ℕ) (piece : List ℕ) (decoder after : DecoderState)
    (mid new : List Request) (found : Option PumpEnd) → from.log.failed ≡ false → ReadsOnce from to buffer (gave.Bytes count) → piece ≡ take count buffer
    → PumpsPiece capacity piece decoder after mid new found → IsPieceEnd found → PumpsOn capacity from to decoder after mid new found
bytes_read capacity from to buffer count piece decoder after mid new found sound h e goes is = record {
  piece = piece;
  consumes = subst (Consumes from.remaining to.remaining) (sym e) h.gives.consumes;
  calls = calls_more (gave.Bytes count) from.log to.log h.log;
  may = may_read to found (subst (λ (n : ℕ). n < INTERRUPTIONS_MAX) (sym (ap (λ (log : LogState). log.interruptions) h.log)) (omega arith))
      (ap (λ (log : LogState). log.failed) h.log ∙ sound) is;
  goes = goes;
}

pub interrupted : (capacity : ℕ) (from to : LoggedReaderState) (buffer : List ℕ) (decoder : DecoderState) (mid : List Request) → from.log.failed ≡ false →
    ReadsOnce from to buffer gave.Interrupted → to.log.interruptions < INTERRUPTIONS_MAX → PumpsOn capacity from to decoder decoder mid mid None
interrupted capacity from to buffer decoder mid sound h few = record {
  piece = [];
  consumes = h.gives;
  calls = calls_more gave.Interrupted from.log to.log h.log;
  may = (few, ap (λ (log : LogState). log.failed) h.log ∙ sound);
  goes = λ (input : List ℕ) (old : List Request) (p : IsPumping input decoder old mid). none_read input decoder old mid p;
}

failed : CutsDoNotMatter SpellsRequest 65792 → (capacity : ℕ) (from to : LoggedReaderState) (decoder : DecoderState) (mid : List Request) →
    Consumes from.remaining to.remaining [] → to.log.calls ≡ one_more from.log.calls → IsReadNoMore READS_MAX to.log
    → PumpsOn capacity from to decoder decoder mid mid (Some end.ReadFault)
failed law capacity from to decoder mid none calls worn = record {
  piece = [];
  consumes = none;
  calls = calls;
  may = worn;
  goes = λ (input : List ℕ) (old : List Request) (p : IsPumping input decoder old mid). all_read law input decoder old mid p;
}

-- ---- one read after another

pub pumped_none : (source : LoggedReaderState) (decoder : DecoderState) (old : List Request) → decoder ≡ fresh → HasPumped source source decoder old old
pumped_none source decoder old unfed = subst (λ (d : DecoderState). HasPumped source source d old old) (sym unfed) (record {
  input = [];
  consumes = Consumes-nil source.remaining;
  pumping = record {
    requests = [];
    fed = record { pieces = []; joined = refl; fed = (refl, refl, refl) };
    is = sym (append-nil old);
  };
})

pub pumped_more : (capacity : ℕ) (from mid to : LoggedReaderState) (decoder after : DecoderState) (old now new : List Request) →
    HasPumped from mid decoder old now → PumpsOn capacity mid to decoder after now new None → HasPumped from to after old new
pumped_more capacity from mid to decoder after old now new h k = record {
  input = h.input ++ k.piece;
  consumes = Consumes-trans from.remaining mid.remaining to.remaining h.input k.piece h.consumes k.consumes;
  pumping = k.goes h.input old h.pumping;
}

pub pumped_all : (capacity : ℕ) (from mid to : LoggedReaderState) (decoder after : DecoderState) (old now new : List Request) (found : PumpEnd) →
    HasPumped from mid decoder old now → PumpsOn capacity mid to decoder after now new (Some found)
    → PumpsAll capacity from to old new found
pumped_all capacity from mid to decoder after old now new found h k = record {
  input = h.input ++ k.piece;
  consumes = Consumes-trans from.remaining mid.remaining to.remaining h.input k.piece h.consumes k.consumes;
  met = k.may;
  pushed = k.goes h.input old h.pumping;
}

-- the reader was read as often as it may be
pub pumped_enough : CutsDoNotMatter SpellsRequest 65792 → (capacity : ℕ) (from to : LoggedReaderState) (decoder : DecoderState) (old now : List Request) →
    HasPumped from to decoder old now → IsReadNoMore READS_MAX to.log → PumpsAll capacity from to old now end.ReadFault
pumped_enough law capacity from to decoder old now h worn = record {
  input = h.input;
  consumes = h.consumes;
  met = worn;
  pushed =
      pushed_all law h.input decoder old now h.pumping;
}

-- ---- the turns of the loop

pub none_failed_first : (log : LogState) → log ≡ fresh_log → log.failed ≡ false
none_failed_first log e = ap (λ (l : LogState). l.failed) e

pub few_first : (log : LogState) → log ≡ fresh_log → log.interruptions < INTERRUPTIONS_MAX
few_first log e = subst (λ (n : ℕ). n < INTERRUPTIONS_MAX) (sym (ap (λ (l : LogState). l.interruptions) e)) (omega arith)

pub counted_more : (calls turn new : ℕ) → turn < READS_MAX → calls ≡ turn → new ≡ one_more calls → new ≡ turn + 1
counted_more calls turn new few same more = omega (arith, few, same, more)
