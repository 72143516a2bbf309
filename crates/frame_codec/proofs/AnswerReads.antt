-- An answer is read again from its bytes, and from these alone.
use Rattle.std.proofs.Common.{◌≡◌, ℕ, cond, eqb, List, [], ◌∷◌, ◌++◌, length, ◌≤◌, Option, Some, None, refl, ap, ◌∙◌, arith, inl, inr}
use Rattle.std.specs.List.{AllByRecursion}
use Rattle.std.specs.Int.{w32, w64}
use Rattle.std.proofs.lemmas.Bool.{eqb-true}
use Rattle.std.proofs.lemmas.Option.{cond_some}
use Rattle.call_types.specs.Errors.{error_number}
use Rattle.call_types.specs.Ranges.{AreBytes}
use Rattle.call_types.specs.declared.limits.TheConstants.{TRANSFER_MAX}
use Rattle.call_types.specs.declared.errno.Errno.{Errno}
use Rattle.call_types.specs.declared.errno.Errno.TheVariants as errors
use Rattle.call_types.specs.declared.outcome.FileType.{FileType}
use Rattle.call_types.specs.declared.outcome.FileType.TheVariants as kinds
use Rattle.call_types.specs.declared.outcome.Reply.{Reply}
use Rattle.call_types.specs.declared.outcome.Reply.TheVariants as replies
use Rattle.call_types.specs.declared.outcome.Outcome.{Outcome}
use Rattle.call_types.specs.declared.outcome.Outcome.TheVariants as outcomes
use Rattle.call_types.specs.declared.refusal.Refusal.{Refusal}
use Rattle.call_types.specs.declared.refusal.Refusal.TheVariants as refusals
use Rattle.frame_codec.specs.declared.answer.Answer.{Answer}
use Rattle.frame_codec.specs.declared.answer.Answer.TheVariants as answers
use Rattle.frame_codec.specs.Fields.{number_bytes, counted_bytes}
use Rattle.frame_codec.specs.Answers.{kind_byte, reply_bytes, outcome_bytes, refusal_bytes, answer_bytes, ReplyFits, OutcomeFits, RefusalFits, AnswerFits}
use Rattle.frame_codec.specs.Proved.Reading.{◌>>=◌, two_at, number_at, byte_at, counted_at, tagged}
use Rattle.frame_codec.specs.Proved.ReadingAnswers.{error_among, error_of, all_errors, kind_of, number_of, data_of, pair_of, stat_of, refused_by, foreign_of, recorded_of, outcome_rows, outcome_at, refusal_rows, refusal_at, answer_rows, answer_at}
use Rattle.frame_codec.proofs.Steps.{Taken, Reads, some_is, chosen, two, RowTakes, led, alone, tagged_takes}
use Rattle.frame_codec.proofs.FieldReads.{Below32, Below64, reads32, reads64, counted, byted}

-- ---- kinds of files, and errors

abbrev Always : {A : Type 0} → A → Type 0
Always x = Unit {0}

kind_back : (kind : FileType) → Always kind → kind_of (kind_byte kind) ≡ Some kind
kind_back kinds.Regular h = refl
kind_back kinds.Fifo h = refl
kind_back kinds.Pipe h = refl

kind_there : (b : ℕ) (kind : FileType) → kind_of b ≡ Some kind → (b ≡ kind_byte kind) × Always kind
kind_there b kind e =
    let none : Option FileType = None in
    let at_pipe : Option FileType = cond (eqb b 2) (Some kinds.Pipe) none in
    let at_fifo : Option FileType = cond (eqb b 1) (Some kinds.Fifo) at_pipe in
    elim (chosen (eqb b 0) (Some kinds.Regular) at_fifo (Some kind) e) [
      | inl is ↦ (eqb-true b 0 is.0 ∙ ap kind_byte (some_is kinds.Regular kind is.1), tt)
      | inr other ↦
          elim (chosen (eqb b 1) (Some kinds.Fifo) at_pipe (Some kind) other.1) [
            | inl is ↦ (eqb-true b 1 is.0 ∙ ap kind_byte (some_is kinds.Fifo kind is.1), tt)
            | inr last ↦ let g = cond_some (eqb b 2) kinds.Pipe kind last.1 in (eqb-true b 2 g.0 ∙ ap kind_byte g.1, tt)
          ]
    ]

kind_reads : Reads (λ (kind : FileType). kind_byte kind ∷ []) (λ (kind : FileType). Always kind) (byte_at kind_of)
kind_reads = byted kind_byte kind_of (λ (kind : FileType). Always kind) kind_back kind_there

error_back : (errno : Errno) → Always errno → error_of (error_number errno) ≡ Some errno
error_back errors.EBADF h = refl
error_back errors.EINVAL h = refl
error_back errors.ESPIPE h = refl
error_back errors.EFBIG h = refl
error_back errors.EOVERFLOW h = refl
error_back errors.ENOENT h = refl
error_back errors.EEXIST h = refl
error_back errors.EMLINK h = refl
error_back errors.ENAMETOOLONG h = refl
error_back errors.EMFILE h = refl
error_back errors.ENFILE h = refl
error_back errors.ENOSPC h = refl
error_back errors.EAGAIN h = refl
error_back errors.EPIPE h = refl
error_back errors.ENXIO h = refl
error_back errors.ESRCH h = refl

among_there : (errnos : List Errno) (b : ℕ) (errno : Errno) → error_among errnos b ≡ Some errno → (b ≡ error_number errno) × Always errno
among_there [] b errno e = absurd cc
among_there (first ∷ errnos) b errno e =
    elim (chosen (eqb b (error_number first)) (Some first) (error_among errnos b) (Some errno) e) [
      | inl is ↦ (eqb-true b (error_number first) is.0 ∙ ap error_number (some_is first errno is.1), tt)
      | inr other ↦ among_there errnos b errno other.1
    ]

error_reads : Reads (λ (errno : Errno). error_number errno ∷ []) (λ (errno : Errno). Always errno) (byte_at error_of)
error_reads = byted error_number error_of (λ (errno : Errno). Always errno) error_back (among_there all_errors)

-- ---- fields in twos and threes

abbrev Pair32 : ℕ × ℕ → Type 0
Pair32 p = Below32 p.0 × Below32 p.1

abbrev pair32_bytes : ℕ × ℕ → List ℕ
pair32_bytes p = number_bytes w32 p.0 ++ number_bytes w32 p.1

pairs : Reads pair32_bytes Pair32 (two_at (number_at w32) (number_at w32))
pairs = two (number_bytes w32) Below32 (number_at w32) (number_bytes w32) Below32 (number_at w32) reads32 reads32

abbrev Pair64 : ℕ × ℕ → Type 0
Pair64 p = Below64 p.0 × Below64 p.1

abbrev pair64_bytes : ℕ × ℕ → List ℕ
pair64_bytes p = number_bytes w64 p.0 ++ number_bytes w64 p.1

long_pairs : Reads pair64_bytes Pair64 (two_at (number_at w64) (number_at w64))
long_pairs = two (number_bytes w64) Below64 (number_at w64) (number_bytes w64) Below64 (number_at w64) reads64 reads64

abbrev SizeFits : ℕ × ℕ → Type 0
SizeFits p = Below64 p.0 × Below32 p.1

abbrev size_bytes : ℕ × ℕ → List ℕ
size_bytes p = number_bytes w64 p.0 ++ number_bytes w32 p.1

sizes : Reads size_bytes SizeFits (two_at (number_at w64) (number_at w32))
sizes = two (number_bytes w64) Below64 (number_at w64) (number_bytes w32) Below32 (number_at w32) reads64 reads32

abbrev ToldFits : FileType × (ℕ × ℕ) → Type 0
ToldFits s = Always s.0 × SizeFits s.1

abbrev told_bytes : FileType × (ℕ × ℕ) → List ℕ
told_bytes s = (kind_byte s.0 ∷ []) ++ size_bytes s.1

stats : Reads told_bytes ToldFits (two_at (byte_at kind_of) (two_at (number_at w64) (number_at w32)))
stats = two (λ (kind : FileType). kind_byte kind ∷ []) (λ (kind : FileType). Always kind) (byte_at kind_of) size_bytes SizeFits
    (two_at (number_at w64) (number_at w32)) kind_reads sizes

-- ---- outcomes

abbrev IsContent : List ℕ → Type 0
IsContent bytes = AreBytes bytes × (length bytes ≤ TRANSFER_MAX)

contents : Reads counted_bytes IsContent (counted_at TRANSFER_MAX)
contents = counted TRANSFER_MAX (omega arith)

outcome_rows_take : AllByRecursion (RowTakes outcome_bytes OutcomeFits) outcome_rows
outcome_rows_take = (
  alone outcome_bytes OutcomeFits 1 (outcomes.Reply replies.Done) refl tt,
  (
    led outcome_bytes OutcomeFits (number_bytes w64) Below64 (number_at w64) 2 number_of reads64 (λ v. refl) (λ v h. h),
    (
      led outcome_bytes OutcomeFits counted_bytes IsContent (counted_at TRANSFER_MAX) 3 data_of contents (λ v. refl) (λ v h. h),
      (
        led outcome_bytes OutcomeFits pair32_bytes Pair32 (two_at (number_at w32) (number_at w32)) 4 pair_of pairs (λ v. refl) (λ v h. h),
        (
          led outcome_bytes OutcomeFits told_bytes ToldFits (two_at (byte_at kind_of) (two_at (number_at w64) (number_at w32))) 5 stat_of stats (λ v. refl)
              (λ v h. h.1),
          (
            led outcome_bytes OutcomeFits (λ (errno : Errno). error_number errno ∷ []) (λ (errno : Errno). Always errno)
                (byte_at error_of) 6 refused_by error_reads (λ v. refl) (λ v h. tt),
            (
              led outcome_bytes OutcomeFits (number_bytes w32) Below32 (number_at w32) 7 outcomes.Parked reads32 (λ v. refl) (λ v h. h),
              (
                led outcome_bytes OutcomeFits (number_bytes w32) Below32 (number_at w32) 8 outcomes.Part reads32 (λ v. refl) (λ v h. h),
                tt,
              ),
            ),
          ),
        ),
      ),
    ),
  ),
)

reply_again : (reply : Reply) (rest : List ℕ) → ReplyFits reply → tagged outcome_rows (reply_bytes reply ++ rest) ≡ Some (outcomes.Reply reply, rest)
reply_again replies.Done rest h = refl
reply_again (replies.Number n) rest h = ap (λ (o : Option (ℕ × List ℕ)). o >>= λ x. Some (number_of x.0, x.1)) (reads64.again n rest h)
reply_again (replies.Data bytes) rest h = ap (λ (o : Option (List ℕ × List ℕ)). o >>= λ x. Some (data_of x.0, x.1)) (contents.again bytes rest h)
reply_again (replies.Pair first second) rest h = ap (λ (o : Option ((ℕ × ℕ) × List ℕ)). o >>= λ x. Some (pair_of x.0, x.1)) (pairs.again (first, second) rest h)
reply_again (replies.Stat stat) rest h =
    ap (λ (o : Option ((FileType × (ℕ × ℕ)) × List ℕ)). o >>= λ x. Some (stat_of x.0, x.1)) (stats.again (stat.kind, (stat.size, stat.links)) rest (tt, h))
reply_again (replies.Error errno) rest h = ap (λ (o : Option (Errno × List ℕ)). o >>= λ x. Some (refused_by x.0, x.1)) (error_reads.again errno rest tt)

outcome_again : (outcome : Outcome) (rest : List ℕ) → OutcomeFits outcome → outcome_at (outcome_bytes outcome ++ rest) ≡ Some (outcome, rest)
unfolding outcome_at
outcome_again (outcomes.Reply reply) rest h = reply_again reply rest h
outcome_again (outcomes.Parked moved) rest h = ap (λ (o : Option (ℕ × List ℕ)). o >>= λ x. Some (outcomes.Parked x.0, x.1)) (reads32.again moved rest h)
outcome_again (outcomes.Part moved) rest h = ap (λ (o : Option (ℕ × List ℕ)). o >>= λ x. Some (outcomes.Part x.0, x.1)) (reads32.again moved rest h)

outcome_takes : (bytes : List ℕ) (x : Outcome × List ℕ) → AreBytes bytes → outcome_at bytes ≡ Some x → Taken outcome_bytes OutcomeFits bytes x
unfolding outcome_at
outcome_takes bytes x h e = tagged_takes outcome_bytes OutcomeFits outcome_rows bytes x outcome_rows_take h e

pub outcome_reads : Reads outcome_bytes OutcomeFits outcome_at
outcome_reads = record { again = outcome_again; takes = outcome_takes }

-- ---- refusals

refusal_rows_take : AllByRecursion (RowTakes refusal_bytes RefusalFits) refusal_rows
refusal_rows_take = (
  alone refusal_bytes RefusalFits 17 refusals.NoMemory refl tt,
  (
    alone refusal_bytes RefusalFits 18 refusals.RunFull refl tt,
    (
      alone refusal_bytes RefusalFits 19 refusals.Waiting refl tt,
      (
        alone refusal_bytes RefusalFits 20 refusals.NotHere refl tt,
        (
          led refusal_bytes RefusalFits pair64_bytes Pair64 (two_at (number_at w64) (number_at w64)) 21 foreign_of long_pairs (λ v. refl) (λ v h. h),
          tt,
        ),
      ),
    ),
  ),
)

refusal_again : (refusal : Refusal) (rest : List ℕ) → RefusalFits refusal → refusal_at (refusal_bytes refusal ++ rest) ≡ Some (refusal, rest)
unfolding refusal_at
refusal_again refusals.NoMemory rest h = refl
refusal_again refusals.RunFull rest h = refl
refusal_again refusals.Waiting rest h = refl
refusal_again refusals.NotHere rest h = refl
refusal_again (refusals.Foreign seen len) rest h = ap (λ (o : Option ((ℕ × ℕ) × List ℕ)). o >>= λ x. Some (foreign_of x.0, x.1))
    (long_pairs.again (seen, len) rest h)

refusal_takes : (bytes : List ℕ) (x : Refusal × List ℕ) → AreBytes bytes → refusal_at bytes ≡ Some x → Taken refusal_bytes RefusalFits bytes x
unfolding refusal_at
refusal_takes bytes x h e = tagged_takes refusal_bytes RefusalFits refusal_rows bytes x refusal_rows_take h e

refusal_reads : Reads refusal_bytes RefusalFits refusal_at
refusal_reads = record { again = refusal_again; takes = refusal_takes }

-- ---- answers

abbrev RecordFits : ℕ × Outcome → Type 0
RecordFits p = Below64 p.0 × OutcomeFits p.1

abbrev record_bytes : ℕ × Outcome → List ℕ
record_bytes p = number_bytes w64 p.0 ++ outcome_bytes p.1

records : Reads record_bytes RecordFits (two_at (number_at w64) outcome_at)
records = two (number_bytes w64) Below64 (number_at w64) outcome_bytes OutcomeFits outcome_at reads64 outcome_reads

answer_rows_take : AllByRecursion (RowTakes answer_bytes AnswerFits) answer_rows
unfolding answer_bytes
answer_rows_take = (
  led answer_bytes AnswerFits record_bytes RecordFits (two_at (number_at w64) outcome_at) 1 recorded_of records (λ v. refl) (λ v h. h),
  (
    led answer_bytes AnswerFits refusal_bytes RefusalFits refusal_at 2 answers.Refused refusal_reads (λ v. refl) (λ v h. h),
    tt,
  ),
)

answer_again : (answer : Answer) (rest : List ℕ) → AnswerFits answer → answer_at (answer_bytes answer ++ rest) ≡ Some (answer, rest)
unfolding answer_bytes
answer_again (answers.Recorded place outcome) rest h = ap (λ (o : Option ((ℕ × Outcome) × List ℕ)). o >>= λ x. Some (recorded_of x.0, x.1))
    (records.again (place, outcome) rest h)
answer_again (answers.Refused refusal) rest h = ap (λ (o : Option (Refusal × List ℕ)). o >>= λ x. Some (answers.Refused x.0, x.1))
    (refusal_reads.again refusal rest h)

answer_takes : (bytes : List ℕ) (x : Answer × List ℕ) → AreBytes bytes → answer_at bytes ≡ Some x → Taken answer_bytes AnswerFits bytes x
answer_takes bytes x h e = tagged_takes answer_bytes AnswerFits answer_rows bytes x answer_rows_take h e

pub answer_reads : Reads answer_bytes AnswerFits answer_at
answer_reads = record { again = answer_again; takes = answer_takes }
