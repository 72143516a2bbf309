-- What is answered, and what of it was written.
use Rattle.std.proofs.Common.{◌≡◌, ℕ, ◌+◌, List, [], ◌++◌, Option, Result, Ok, Err, OnOk, OnErr, length, length-append, length-take-le, take-append-drop, take, drop, arith, refl, sym, ◌∙◌, ap, subst, inl}
use Rattle.std.proofs.lemmas.List.{append_assoc}
use Rattle.std.proofs.Math.Seq.{drop-length}
use Rattle.std.proofs.KnownBytes.{Appends-nil, Appends-trans}
use Rattle.std.specs.Io.KnownBytes.{Appends}
use Rattle.frame_codec.specs.Decoding.{told_place}
use Rattle.session_core.specs.Answers.{answers_text, IsFrontWritten}
use Rattle.session_core.specs.OutputState.{OutputState}
use Rattle.session_core.specs.Proved.Output.{Holds, Passes, SendsAll, FailsToSend, fresh_output}
use Rattle.logged_streams.specs.Streams.{IsBroken, WritesFront}

given_ok : {T E : Type 0} (r : Result T E) {P Q : Type 0} → (P → Q) → OnOk r P → OnOk r Q
given_ok (Ok x) f p = f p
given_ok (Err e) f p = tt

given_err : {T E : Type 0} (r : Result T E) {P Q : Type 0} → (P → Q) → OnErr r P → OnErr r Q
given_err (Ok x) f p = tt
given_err (Err e) f p = f p

-- so many bytes of what was not written were
front_written : (base : Option (List ℕ)) (o new : OutputState) (n : ℕ) → WritesFront o.sink.contents new.sink.contents o.unsent n →
    new.sent ≡ told_place (o.sent + n) → new.answers ≡ o.answers → Holds base o
    → IsFrontWritten base new.sink.contents new.answers new.sent
front_written base o new n front sent answers h = record {
  text = h.text ++ take n o.unsent;
  rest = drop n o.unsent;
  appends = Appends-trans base o.sink.contents new.sink.contents h.text (take n o.unsent) h.appends front.appends;
  is = append_assoc h.text (take n o.unsent) (drop n o.unsent) ∙ ap (λ (l : List ℕ). h.text ++ l) (take-append-drop n o.unsent) ∙ h.is ∙
      ap answers_text (sym answers);
  sent_is =
      let long : length (h.text ++ take n o.unsent) ≡ length h.text + n = length-append h.text (take n o.unsent) ∙
      ap (λ (m : ℕ). length h.text + m) (length-take-le n o.unsent front.within) in
      let was = h.sent_is in
      omega (arith, sent, was, long);
}

pub fails_to_send : {T E : Type 0} (r : Result T E) (o new : OutputState) (n : ℕ) (bytes : List ℕ) → bytes ≡ o.unsent →
    WritesFront o.sink.contents new.sink.contents bytes n → new.sent ≡ told_place (o.sent + n) → new.answers ≡ o.answers
    → OnErr r (IsBroken new.sink.log) → OnErr r (FailsToSend o new)
fails_to_send r o new n bytes e front sent answers broken =
    given_err r (λ (b : IsBroken new.sink.log). record {
      answers = answers;
      breaks = λ (base : Option (List ℕ)) (h : Holds base o). record {
        front = front_written base o new n (subst (λ (l : List ℕ). WritesFront o.sink.contents new.sink.contents l n) e front) sent answers h;
        broken = inl b;
      };
    }) broken

held_still : (base : Option (List ℕ)) (o new : OutputState) (n : ℕ) → WritesFront o.sink.contents new.sink.contents o.unsent n →
    new.sent ≡ told_place (o.sent + n) → new.answers ≡ o.answers → new.unsent ≡ [] → n ≡ length o.unsent → Holds base o
    → Holds base new
unfolding front_written
held_still base o new n front sent answers none all h =
    let b = front_written base o new n front sent answers h in
    let rest : drop n o.unsent ≡ [] = ap (λ (m : ℕ). drop m o.unsent) all ∙ drop-length o.unsent in
    record {
      text = b.text;
      appends = b.appends;
      is = ap (λ (l : List ℕ). b.text ++ l) (none ∙ sym rest) ∙ b.is;
      sent_is = b.sent_is;
    }

pub sends_all : {T E : Type 0} (r : Result T E) (o new : OutputState) (n : ℕ) (bytes : List ℕ) → bytes ≡ o.unsent →
    WritesFront o.sink.contents new.sink.contents bytes n → new.sent ≡ told_place (o.sent + n) → new.answers ≡ o.answers
    → new.unsent ≡ [] → OnOk r (n ≡ length bytes) → OnOk r (SendsAll o new)
sends_all r o new n bytes same front sent answers none all =
    given_ok r (λ (e : n ≡ length bytes). record {
      flushes = record {
        answers = answers;
        holds = λ (base : Option (List ℕ)) (h : Holds base o).
            held_still base o new n (subst (λ (l : List ℕ). WritesFront o.sink.contents new.sink.contents l n) same front) sent answers none
            (e ∙ ap length same) h;
      };
      all = none;
    }) all

-- what is written stays the text of the answers while a gate is asked
pub passes_holds : (old new : OutputState) → Passes old new → (base : Option (List ℕ)) → Holds base old → Holds base new
passes_holds old new p base h = record {
  text = h.text;
  appends = subst (λ (held : Option (List ℕ)). Appends base held h.text) (sym p.contents) h.appends;
  is = ap (λ (bytes : List ℕ). h.text ++ bytes) p.unsent ∙ (h.is ∙ ap answers_text (sym p.answers));
  sent_is = p.sent ∙ h.sent_is;
}

-- what a gate has let through is written
pub sent_after : {T E : Type 0} (r : Result T E) (old mid new : OutputState) → Passes old mid → OnOk r (SendsAll mid new) → OnOk r (SendsAll old new)
sent_after r old mid new p = given_ok r (λ (s : SendsAll mid new). record {
  flushes = record {
    answers = s.flushes.answers ∙ p.answers;
    holds = λ (base : Option (List ℕ)) (h : Holds base old). s.flushes.holds base (passes_holds old mid p base h);
  };
  all = s.all;
})

-- or the writer fails
pub failed_after : {T E : Type 0} (r : Result T E) (old mid new : OutputState) → Passes old mid → OnErr r (FailsToSend mid new) → OnErr r (FailsToSend old new)
failed_after r old mid new p = given_err r (λ (f : FailsToSend mid new). record {
  answers = f.answers ∙ p.answers;
  breaks = λ (base : Option (List ℕ)) (h : Holds base old). f.breaks base (passes_holds old mid p base h);
})

-- nothing was written
pub holds_fresh : (base : Option (List ℕ)) → Holds base (fresh_output base)
holds_fresh base = record { text = []; appends = Appends-nil base; is = refl; sent_is = refl }
