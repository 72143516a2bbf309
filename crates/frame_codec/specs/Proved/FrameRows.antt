-- Requests, answers and records as frames, byte by byte: what the tables say by rules, said once more (own).
use Rattle.std.specs.Prelude.{◌≡◌, ℕ, List, [], ◌∷◌, map, codes, bit_or, pos, negsuc}
use Rattle.std.specs.List.{AllByRecursion}
use Rattle.call_types.specs.Flags.{writing, creat, appending, nonblocking}
use Rattle.call_types.specs.declared.act.Act.TheVariants as acts
use Rattle.call_types.specs.declared.act.Record.{Record}
use Rattle.call_types.specs.declared.call.Call.TheVariants as calls
use Rattle.call_types.specs.declared.errno.Errno.TheVariants as errors
use Rattle.call_types.specs.declared.outcome.FileType.TheVariants as kinds
use Rattle.call_types.specs.declared.outcome.Outcome.TheVariants as outcomes
use Rattle.call_types.specs.declared.outcome.Reply.TheVariants as replies
use Rattle.call_types.specs.declared.refusal.Refusal.TheVariants as refusals
use Rattle.call_types.specs.declared.request.Request.{Request}
use Rattle.call_types.specs.declared.request.Request.TheVariants as requests
use Rattle.call_types.specs.declared.whence.Whence.TheVariants as whences
use Rattle.frame_codec.specs.declared.answer.Answer.{Answer}
use Rattle.frame_codec.specs.declared.answer.Answer.TheVariants as answers
use Rattle.frame_codec.specs.Requests.{request_bytes}
use Rattle.frame_codec.specs.Answers.{answer_bytes}
use Rattle.frame_codec.specs.Records.{record_bytes, SpellsRecord}
use Rattle.frame_codec.specs.Frames.{frame, IsMalformed, IsTooLong}

-- a value, and its frame
pub record Row (A : Type 0) : Type 0 where
  pub value : A
  pub bytes : List ℕ

-- a row for each request
abbrev pub request_frames : List (Row Request)
request_frames =
    record { value = requests.Join; bytes = 0 ∷ 0 ∷ 0 ∷ 1 ∷ 1 ∷ [] } ∷
    record { value = requests.Attach 7; bytes = 0 ∷ 0 ∷ 0 ∷ 5 ∷ 2 ∷ 0 ∷ 0 ∷ 0 ∷ 7 ∷ [] } ∷
    record {
      value = requests.Call (calls.Open (codes "a b") (record { 0 = bit_or (bit_or writing creat) nonblocking }));
      bytes =
          0 ∷ 0 ∷ 0 ∷ 6 ∷ 16 ∷ 70 ∷ 3 ∷ 97 ∷ 32 ∷ 98 ∷ [];
    } ∷
    record { value = requests.Call (calls.Close (negsuc 0)); bytes = 0 ∷ 0 ∷ 0 ∷ 5 ∷ 17 ∷ 255 ∷ 255 ∷ 255 ∷ 255 ∷ [] } ∷
    record { value = requests.Call (calls.Read (pos 3) 5); bytes = 0 ∷ 0 ∷ 0 ∷ 9 ∷ 18 ∷ 0 ∷ 0 ∷ 0 ∷ 3 ∷ 0 ∷ 0 ∷ 0 ∷ 5 ∷ [] } ∷
    record { value = requests.Call (calls.Write (pos 1) (codes "hi")); bytes = 0 ∷ 0 ∷ 0 ∷ 11 ∷ 19 ∷ 0 ∷ 0 ∷ 0 ∷ 1 ∷ 0 ∷ 0 ∷ 0 ∷ 2 ∷ 104 ∷ 105 ∷ [] } ∷
    record {
      value = requests.Call (calls.Pread (pos 3) (pos 4) 5);
      bytes =
          0 ∷ 0 ∷ 0 ∷ 17 ∷ 20 ∷ 0 ∷ 0 ∷ 0 ∷ 3 ∷ 0 ∷ 0 ∷ 0 ∷ 0 ∷ 0 ∷ 0 ∷ 0 ∷ 4 ∷ 0 ∷ 0 ∷ 0 ∷ 5 ∷ [];
    } ∷
    record {
      value = requests.Call (calls.Pwrite (pos 3) (pos 4) (codes "hi"));
      bytes =
          0 ∷ 0 ∷ 0 ∷ 19 ∷ 21 ∷ 0 ∷ 0 ∷ 0 ∷ 3 ∷ 0 ∷ 0 ∷ 0 ∷ 0 ∷ 0 ∷ 0 ∷ 0 ∷ 4 ∷ 0 ∷ 0 ∷ 0 ∷ 2 ∷ 104 ∷ 105 ∷ [];
    } ∷
    record {
      value = requests.Call (calls.Lseek (pos 3) (negsuc 1) whences.Cur);
      bytes =
          0 ∷ 0 ∷ 0 ∷ 14 ∷ 22 ∷ 0 ∷ 0 ∷ 0 ∷ 3 ∷ 255 ∷ 255 ∷ 255 ∷ 255 ∷ 255 ∷ 255 ∷ 255 ∷ 254 ∷ 1 ∷ [];
    } ∷
    record { value = requests.Call (calls.Ftruncate (pos 3) (pos 4)); bytes = 0 ∷ 0 ∷ 0 ∷ 13 ∷ 23 ∷ 0 ∷ 0 ∷ 0 ∷ 3 ∷ 0 ∷ 0 ∷ 0 ∷ 0 ∷ 0 ∷ 0 ∷ 0 ∷ 4 ∷ [] } ∷
    record { value = requests.Call (calls.Dup (pos 3)); bytes = 0 ∷ 0 ∷ 0 ∷ 5 ∷ 24 ∷ 0 ∷ 0 ∷ 0 ∷ 3 ∷ [] } ∷
    record { value = requests.Call (calls.Dup2 (pos 3) (pos 4)); bytes = 0 ∷ 0 ∷ 0 ∷ 9 ∷ 25 ∷ 0 ∷ 0 ∷ 0 ∷ 3 ∷ 0 ∷ 0 ∷ 0 ∷ 4 ∷ [] } ∷
    record { value = requests.Call calls.Pipe; bytes = 0 ∷ 0 ∷ 0 ∷ 1 ∷ 26 ∷ [] } ∷
    record { value = requests.Call (calls.Mkfifo (codes "a")); bytes = 0 ∷ 0 ∷ 0 ∷ 3 ∷ 27 ∷ 1 ∷ 97 ∷ [] } ∷
    record { value = requests.Call (calls.Link (codes "a") (codes "b")); bytes = 0 ∷ 0 ∷ 0 ∷ 5 ∷ 28 ∷ 1 ∷ 97 ∷ 1 ∷ 98 ∷ [] } ∷
    record { value = requests.Call (calls.Unlink (codes "a")); bytes = 0 ∷ 0 ∷ 0 ∷ 3 ∷ 29 ∷ 1 ∷ 97 ∷ [] } ∷
    record { value = requests.Call (calls.Fstat (pos 3)); bytes = 0 ∷ 0 ∷ 0 ∷ 5 ∷ 30 ∷ 0 ∷ 0 ∷ 0 ∷ 3 ∷ [] } ∷
    record { value = requests.Call calls.Fork; bytes = 0 ∷ 0 ∷ 0 ∷ 1 ∷ 31 ∷ [] } ∷
    record { value = requests.Call (calls.Getfl (pos 0)); bytes = 0 ∷ 0 ∷ 0 ∷ 5 ∷ 32 ∷ 0 ∷ 0 ∷ 0 ∷ 0 ∷ [] } ∷
    record { value = requests.Call (calls.Setfl (pos 1) (record { 0 = appending })); bytes = 0 ∷ 0 ∷ 0 ∷ 6 ∷ 33 ∷ 0 ∷ 0 ∷ 0 ∷ 1 ∷ 32 ∷ [] } ∷
    record { value = requests.Call (calls.Rename (codes "a") (codes "b")); bytes = 0 ∷ 0 ∷ 0 ∷ 5 ∷ 34 ∷ 1 ∷ 97 ∷ 1 ∷ 98 ∷ [] } ∷ []

-- a row for each kind of answer
abbrev pub answer_frames : List (Row Answer)
answer_frames =
    record {
      value = answers.Recorded 5 (outcomes.Reply (replies.Number 2));
      bytes =
          0 ∷ 0 ∷ 0 ∷ 18 ∷ 1 ∷ 0 ∷ 0 ∷ 0 ∷ 0 ∷ 0 ∷ 0 ∷ 0 ∷ 5 ∷ 2 ∷ 0 ∷ 0 ∷ 0 ∷ 0 ∷ 0 ∷ 0 ∷ 0 ∷ 2 ∷ [];
    } ∷
    record { value = answers.Recorded 0 (outcomes.Reply replies.Done); bytes = 0 ∷ 0 ∷ 0 ∷ 10 ∷ 1 ∷ 0 ∷ 0 ∷ 0 ∷ 0 ∷ 0 ∷ 0 ∷ 0 ∷ 0 ∷ 1 ∷ [] } ∷
    record {
      value = answers.Recorded 258 (outcomes.Reply (replies.Data (codes "hi")));
      bytes =
          0 ∷ 0 ∷ 0 ∷ 16 ∷ 1 ∷ 0 ∷ 0 ∷ 0 ∷ 0 ∷ 0 ∷ 0 ∷ 1 ∷ 2 ∷ 3 ∷ 0 ∷ 0 ∷ 0 ∷ 2 ∷ 104 ∷ 105 ∷ [];
    } ∷
    record {
      value = answers.Recorded 1 (outcomes.Reply (replies.Pair 3 4));
      bytes =
          0 ∷ 0 ∷ 0 ∷ 18 ∷ 1 ∷ 0 ∷ 0 ∷ 0 ∷ 0 ∷ 0 ∷ 0 ∷ 0 ∷ 1 ∷ 4 ∷ 0 ∷ 0 ∷ 0 ∷ 3 ∷ 0 ∷ 0 ∷ 0 ∷ 4 ∷ [];
    } ∷
    record {
      value = answers.Recorded 2 (outcomes.Reply (replies.Stat (record { kind = kinds.Fifo; size = 3; links = 1 })));
      bytes =
          0 ∷ 0 ∷ 0 ∷ 23 ∷ 1 ∷ 0 ∷ 0 ∷ 0 ∷ 0 ∷ 0 ∷ 0 ∷ 0 ∷ 2 ∷ 5 ∷ 1 ∷ 0 ∷ 0 ∷ 0 ∷ 0 ∷ 0 ∷ 0 ∷ 0 ∷ 3 ∷ 0 ∷ 0 ∷ 0 ∷ 1 ∷ [];
    } ∷
    record {
      value = answers.Recorded 3 (outcomes.Reply (replies.Error errors.EPIPE));
      bytes =
          0 ∷ 0 ∷ 0 ∷ 11 ∷ 1 ∷ 0 ∷ 0 ∷ 0 ∷ 0 ∷ 0 ∷ 0 ∷ 0 ∷ 3 ∷ 6 ∷ 14 ∷ [];
    } ∷
    record { value = answers.Recorded 4 (outcomes.Parked 512); bytes = 0 ∷ 0 ∷ 0 ∷ 14 ∷ 1 ∷ 0 ∷ 0 ∷ 0 ∷ 0 ∷ 0 ∷ 0 ∷ 0 ∷ 4 ∷ 7 ∷ 0 ∷ 0 ∷ 2 ∷ 0 ∷ [] } ∷
    record { value = answers.Recorded 6 (outcomes.Part 513); bytes = 0 ∷ 0 ∷ 0 ∷ 14 ∷ 1 ∷ 0 ∷ 0 ∷ 0 ∷ 0 ∷ 0 ∷ 0 ∷ 0 ∷ 6 ∷ 8 ∷ 0 ∷ 0 ∷ 2 ∷ 1 ∷ [] } ∷
    record { value = answers.Refused refusals.NoMemory; bytes = 0 ∷ 0 ∷ 0 ∷ 2 ∷ 2 ∷ 17 ∷ [] } ∷
    record { value = answers.Refused refusals.RunFull; bytes = 0 ∷ 0 ∷ 0 ∷ 2 ∷ 2 ∷ 18 ∷ [] } ∷
    record { value = answers.Refused refusals.Waiting; bytes = 0 ∷ 0 ∷ 0 ∷ 2 ∷ 2 ∷ 19 ∷ [] } ∷
    record { value = answers.Refused refusals.NotHere; bytes = 0 ∷ 0 ∷ 0 ∷ 2 ∷ 2 ∷ 20 ∷ [] } ∷
    record {
      value = answers.Refused (refusals.Foreign 3 2);
      bytes =
          0 ∷ 0 ∷ 0 ∷ 18 ∷ 2 ∷ 21 ∷ 0 ∷ 0 ∷ 0 ∷ 0 ∷ 0 ∷ 0 ∷ 0 ∷ 3 ∷ 0 ∷ 0 ∷ 0 ∷ 0 ∷ 0 ∷ 0 ∷ 0 ∷ 2 ∷ [];
    } ∷ []

-- the records of a process that joins, makes a pipe and exits; of a call that waits; and of the closing
abbrev pub record_frames : List (Row Record)
record_frames =
    record {
      value = record { actor = 0; act = acts.Join; outcome = outcomes.Reply (replies.Number 0) };
      bytes =
          0 ∷ 0 ∷ 0 ∷ 14 ∷ 0 ∷ 0 ∷ 0 ∷ 0 ∷ 1 ∷ 2 ∷ 0 ∷ 0 ∷ 0 ∷ 0 ∷ 0 ∷ 0 ∷ 0 ∷ 0 ∷ [];
    } ∷
    record {
      value = record { actor = 0; act = acts.Call calls.Pipe; outcome = outcomes.Reply (replies.Pair 0 1) };
      bytes =
          0 ∷ 0 ∷ 0 ∷ 14 ∷ 0 ∷ 0 ∷ 0 ∷ 0 ∷ 26 ∷ 4 ∷ 0 ∷ 0 ∷ 0 ∷ 0 ∷ 0 ∷ 0 ∷ 0 ∷ 1 ∷ [];
    } ∷
    record { value = record { actor = 0; act = acts.Exit; outcome = outcomes.Reply replies.Done }; bytes = 0 ∷ 0 ∷ 0 ∷ 6 ∷ 0 ∷ 0 ∷ 0 ∷ 0 ∷ 4 ∷ 1 ∷ [] } ∷
    record {
      value = record { actor = 258; act = acts.Attach; outcome = outcomes.Reply (replies.Error errors.ESRCH) };
      bytes =
          0 ∷ 0 ∷ 0 ∷ 7 ∷ 0 ∷ 0 ∷ 1 ∷ 2 ∷ 2 ∷ 6 ∷ 16 ∷ [];
    } ∷
    record {
      value = record { actor = 1; act = acts.Resume; outcome = outcomes.Part 513 };
      bytes =
          0 ∷ 0 ∷ 0 ∷ 10 ∷ 0 ∷ 0 ∷ 0 ∷ 1 ∷ 3 ∷ 8 ∷ 0 ∷ 0 ∷ 2 ∷ 1 ∷ [];
    } ∷
    record {
      value = record { actor = 4294967295; act = acts.CloseRun; outcome = outcomes.Reply replies.Done };
      bytes =
          0 ∷ 0 ∷ 0 ∷ 6 ∷ 255 ∷ 255 ∷ 255 ∷ 255 ∷ 5 ∷ 1 ∷ [];
    } ∷ []

-- frames that spell no record: without an act, with an act that is none, with a byte too many, and closed by a process
abbrev pub no_records : List (List ℕ)
no_records =
    (0 ∷ 0 ∷ 0 ∷ 4 ∷ 0 ∷ 0 ∷ 0 ∷ 0 ∷ []) ∷
    (0 ∷ 0 ∷ 0 ∷ 6 ∷ 0 ∷ 0 ∷ 0 ∷ 0 ∷ 6 ∷ 1 ∷ []) ∷
    (0 ∷ 0 ∷ 0 ∷ 7 ∷ 0 ∷ 0 ∷ 0 ∷ 0 ∷ 4 ∷ 1 ∷ 0 ∷ []) ∷
    (0 ∷ 0 ∷ 0 ∷ 6 ∷ 0 ∷ 0 ∷ 0 ∷ 0 ∷ 5 ∷ 1 ∷ []) ∷ []

-- the length of a record of 66,049 bytes
abbrev pub long_record : List ℕ
long_record = 0 ∷ 1 ∷ 2 ∷ 1 ∷ []

-- each value has its frame; some frames are malformed, and a length is too great
pub record FrameRows : Type 0 where
  pub requests : map (λ (row : Row Request). frame (request_bytes row.value)) request_frames ≡ map (λ (row : Row Request). row.bytes) request_frames
  pub answers : map (λ (row : Row Answer). frame (answer_bytes row.value)) answer_frames ≡ map (λ (row : Row Answer). row.bytes) answer_frames
  pub records : map (λ (row : Row Record). frame (record_bytes row.value)) record_frames ≡ map (λ (row : Row Record). row.bytes) record_frames
  pub none : AllByRecursion (IsMalformed SpellsRecord 66048) no_records
  pub long : IsTooLong 66048 long_record
