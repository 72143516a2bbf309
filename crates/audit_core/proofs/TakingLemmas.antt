-- A piece more of a trace, with the header before its records.
use Rattle.std.proofs.Common.{◌≡◌, ◌∙◌, false, is_some, ℕ, ◌+◌, ◌^◌, ◌<◌, ◌≤◌, inl, List, [], ◌++◌, Option, None, Some, length, drop, refl, sym, ap, subst, arith, length-append, length-drop}
use Rattle.std.proofs.lemmas.List.{drop-append-le}
use Rattle.frame_codec.specs.Decoding.{told_place}
use Rattle.frame_codec.specs.Proved.Headers.{GoesOn, HeaderGoesOn}
use Rattle.frame_codec.specs.Trace.{header}
use Rattle.frame_codec.specs.declared.trace.Header.{Header}
use Rattle.frame_codec.specs.declared.trace.Header.TheVariants.{Headed}
use Rattle.frame_codec.specs.declared.trace.ToldLimits.{ToldLimits}
use Rattle.audit_core.specs.TraceState.{BodyState, IsJudging, IsTaking}
use Rattle.audit_core.specs.Proved.Taking.{fresh_body, IsFound, BodyGoesOn, TakesBody, TakesAfter}
use Rattle.audit_core.specs.Verdict.{EndsBy, EndsWith, IsFinding, IsLegal, IsVerdictAfter, IsVerdictBy}
use Rattle.audit_core.specs.declared.verdict.Verdict.{Verdict}
use Rattle.audit_core.specs.declared.verdict.Verdict.TheVariants.{Legal, Illegal, Malformed}
use Rattle.audit_core.proofs.JudgeLemmas.{none_judged}
use Rattle.audit_core.proofs.TraceLemmas.{few_records, are_frames, begins_so}

-- ---- what is found

-- what is found after a header is found in all bytes
found_after : (input body : List ℕ) (told : ToldLimits) (front : List ℕ) (new : BodyState) (found : Option Verdict) → header input ≡ Headed told new.headed →
    drop new.headed input ≡ body
    → length input < 2 ^ 64 → BodyGoesOn told body new found → IsFound input (record { front = front; body = Some new }) found
found_after input body told front new None headed is few goes =
    record { by = (told, headed, subst (λ (x : List ℕ). IsJudging told x new) (sym is) goes); few = few }
found_after input body told front new (Some (Legal records rest)) headed is few goes = absurd goes
found_after input body told front new (Some (Illegal place expected)) headed is few goes =
    subst (λ (h : Header). IsVerdictBy h input (Illegal place expected)) (sym headed)
    (subst (λ (x : List ℕ). IsVerdictAfter told new.headed x (Illegal place expected)) (sym is) goes)
found_after input body told front new (Some (Malformed at)) headed is few goes =
    subst (λ (h : Header). IsVerdictBy h input (Malformed at)) (sym headed) (subst (λ (x : List ℕ). IsVerdictAfter told new.headed x (Malformed at))
    (sym is) goes)

-- a piece more, after a header
pub after_header : HeaderGoesOn → (input piece front : List ℕ) (old new : BodyState) (found : Option Verdict) →
    IsTaking input (record { front = front; body = Some old }) → TakesBody piece old new found
    → length (input ++ piece) < 2 ^ 64 → IsFound (input ++ piece) (record { front = front; body = Some new }) found
after_header on input piece front old new found t takes few =
    let told = t.by.0 in
    let on_from = subst (λ (h : Header). GoesOn (length input) h (header (input ++ piece))) t.by.1 (on input piece) in
    let long : old.headed ≤ length input = on_from.1 in
    let is : drop old.headed (input ++ piece) ≡ drop old.headed input ++ piece = drop-append-le old.headed input piece long in
    let short : old.headed + length (drop old.headed input ++ piece) < 2 ^ 64 =
    omega (arith, long, few, length-append input piece, length-append (drop old.headed input) piece, length-drop old.headed input) in
    let headed : header (input ++ piece) ≡ Headed told new.headed = on_from.0 ∙ ap (λ (n : ℕ). Headed told n) (sym takes.headed) in
    let all : drop new.headed (input ++ piece) ≡ drop old.headed input ++ piece = ap (λ (n : ℕ). drop n (input ++ piece)) takes.headed ∙ is in
    found_after (input ++ piece) (drop old.headed input ++ piece) told front new found headed all few (takes.goes told (drop old.headed input) t.by.2 short)

-- a piece more, where a header was met
pub taken_after : HeaderGoesOn → (input piece front : List ℕ) (old new : Option BodyState) (found : Option Verdict) →
    IsTaking input (record { front = front; body = old }) → TakesAfter piece old new found
    → length (input ++ piece) < 2 ^ 64 → IsFound (input ++ piece) (record { front = front; body = new }) found
taken_after on input piece front old new found t takes few =
    subst (λ (b : Option BodyState). IsFound (input ++ piece) (record { front = front; body = b }) found) (sym takes.new_is)
    (after_header on input piece front takes.before takes.after found
    (subst (λ (b : Option BodyState). IsTaking input (record { front = front; body = b })) takes.old_is t) takes.takes few)

-- where no header is whole, all bytes are kept
pub all_kept : (input front : List ℕ) (body : Option BodyState) → IsTaking input (record { front = front; body = body }) → is_some body ≡ false → front ≡ input
all_kept input front None t none = t.by.1
all_kept input front (Some b) t none = cc

-- nothing was judged before the first byte after a header
none_judging : (told : ToldLimits) (headed : ℕ) → IsJudging told [] (fresh_body told headed)
none_judging told headed = record {
  records = [];
  given = record { text = []; is = refl; frames = refl; short = inl (omega arith); before = refl; goes_on = refl };
  judged = none_judged told;
}

-- the bytes of a header that ends in a piece, and the rest of the piece
pub header_ends : HeaderGoesOn → (input piece front rest : List ℕ) (told : ToldLimits) (headed : ℕ) (new : BodyState) (found : Option Verdict) →
    header (input ++ piece) ≡ Headed told headed
    → rest ≡ drop headed (input ++ piece) → TakesBody rest (fresh_body told headed) new found → length (input ++ piece) < 2 ^ 64 →
    IsFound (input ++ piece) (record { front = front; body = Some new }) found
header_ends on input piece front rest told headed new found is after takes few =
    let on_from = subst (λ (h : Header). GoesOn (length (input ++ piece)) h (header ((input ++ piece) ++ []))) is (on (input ++ piece) []) in
    let long : headed ≤ length (input ++ piece) = on_from.1 in
    let short : headed + length rest < 2 ^ 64 = omega (arith, long, few, ap length after, length-drop headed (input ++ piece)) in
    let whole : header (input ++ piece) ≡ Headed told new.headed = is ∙ ap (λ (n : ℕ). Headed told n) (sym takes.headed) in
    let all : drop new.headed (input ++ piece) ≡ rest = ap (λ (n : ℕ). drop n (input ++ piece)) takes.headed ∙ sym after in
    found_after (input ++ piece) rest told front new found whole all few (takes.goes told [] (none_judging told headed) short)

-- ---- the end

abbrev ends_legal : (told : ToldLimits) (body : List ℕ) (b : BodyState) → IsJudging told body b → length body < 2 ^ 64 →
    IsLegal told body b.judge.place (length b.decoder.held)
ends_legal told body b j short =
    let are = are_frames j.records j.given.text j.given.frames in
    let few : length j.records ≤ length body =
    omega (arith, few_records j.records, ap length are.0, ap length j.given.is, length-append j.given.text b.decoder.held) in
    record {
      h = j.records;
      left = b.decoder.held;
      begins = begins_so j.records body j.given.text b.decoder.held j.given.is j.given.frames;
      unfinished = j.given.short;
      is_legal = j.judged.is_legal;
      records_are = count_is b.judge.place (length j.records) (length body) j.judged.place few short;
      rest_is = refl;
    }
  where
    count_is : (place count total : ℕ) → place ≡ told_place count → count ≤ total → total < 2 ^ 64 → place ≡ count
    count_is place count total is few short = omega (arith, is, few, short)

pub ends_after : (input front : List ℕ) (b : BodyState) → IsTaking input (record { front = front; body = Some b })
    → IsFinding input (record { verdict = Legal b.judge.place (length b.decoder.held); ending = b.judge.ending })
ends_after input front b t =
    let legal = ends_legal t.by.0 (drop b.headed input) b t.by.2 (let few = t.few in omega (arith, few, length-drop b.headed input)) in
    let ends : EndsWith t.by.0 (drop b.headed input) b.judge.place (length b.decoder.held) b.judge.ending =
    record { legal = legal; ending_is = t.by.2.judged.ending } in
    record {
      verdict = subst (λ (h : Header). IsVerdictBy h input (Legal b.judge.place (length b.decoder.held))) (sym t.by.1) legal;
      ending = subst (λ (h : Header). EndsBy h input b.judge.place (length b.decoder.held) b.judge.ending) (sym t.by.1) ends;
    }
