use Rattle.std.proofs.Common.{◌≡◌, ℕ, ◌+◌, ◌≤◌, List, length, None, refl, lit<, lit≤}
use Rattle.frame_codec.specs.Fields.{number_bytes}
use Rattle.frame_codec.specs.Requests.{call_bytes}
use Rattle.frame_codec.specs.Answers.{answer_bytes}
use Rattle.frame_codec.specs.Records.{record_bytes, RecordFits, SpellsRecord}
use Rattle.frame_codec.specs.Proved.Reading.{number_at, payload_at}
use Rattle.frame_codec.specs.Proved.ReadingRequests.{call_at}
use Rattle.frame_codec.specs.Proved.ReadingAnswers.{outcome_at}
use Rattle.frame_codec.specs.Proved.ReadingRecords.{act_at, record_at}
use Rattle.frame_codec.specs.Frames.{told_length, told_payload, IsMalformed}
use Rattle.frame_codec.proofs.KindLaws.{spells_none}
use Rattle.frame_codec.proofs.RecordReads.{record_reads}
use Rattle.frame_codec.proofs.laws.frames_as_written.Goals as goal

no_record : (bytes : List ℕ) → told_length bytes ≤ 66048 → 4 + told_length bytes ≤ length bytes → payload_at record_at (told_payload bytes) ≡ None →
    IsMalformed SpellsRecord 66048 bytes
no_record bytes few there e = record { few = few; there = there; none = spells_none record_bytes RecordFits record_at record_reads (told_payload bytes) e }

pub returns : goal.returns
unfolding number_bytes call_bytes answer_bytes record_bytes number_at act_at call_at outcome_at
returns c = record {
  requests = refl;
  answers = refl;
  records = refl;
  none = (
    no_record _ (lit≤ tt) (lit≤ tt) refl,
    (
      no_record _ (lit≤ tt) (lit≤ tt) refl,
      (
        no_record _ (lit≤ tt) (lit≤ tt) refl,
        (
          no_record _ (lit≤ tt) (lit≤ tt) refl,
          tt,
        ),
      ),
    ),
  );
  long = (lit≤ tt, lit< tt);
}
