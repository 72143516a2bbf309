-- What was written so far.
use Rattle.std.proofs.Common.{◌≡◌, ℕ, ◌+◌, ◌-◌, ◌<◌, ◌≤◌, List, [], ◌++◌, Option, length, length-append, take, drop, length-drop, arith, refl, sym, ◌∙◌, ap, subst}
use Rattle.std.proofs.Math.Seq.{take-add}
use Rattle.std.proofs.KnownBytes.{Appends-nil, Appends-trans}
use Rattle.std.proofs.lemmas.List.{take_all}
use Rattle.std.specs.Io.KnownBytes.{Appends}
use Rattle.logged_streams.specs.declared.stream_log.Gave.{Gave}
use Rattle.logged_streams.specs.declared.stream_log.Gave.TheVariants as gave
use Rattle.logged_streams.specs.Streams.{IsWell, LogState, LoggedWriterState, SomeWritten, Writes, WritesFront, noted, one_more}

-- after some bytes, more of the rest were written
wrote_more : (a b c : Option (List ℕ)) (bytes : List ℕ) (n more : ℕ) → Appends a b (take n bytes) → Appends b c (take more (drop n bytes)) →
    Appends a c (take (n + more) bytes)
wrote_more a b c bytes n more so_far next = subst (Appends a c) (sym (take-add n more bytes))
    (Appends-trans a b c (take n bytes) (take more (drop n bytes)) so_far next)

pub wrote_some : (a b c : Option (List ℕ)) (bytes rest : List ℕ) (n more : ℕ) → WritesFront a b bytes n → rest ≡ drop n bytes → SomeWritten b c rest more →
    WritesFront a c bytes (n + more)
wrote_some a b c bytes rest n more so_far e next = record {
  within =
      let left : length rest ≡ length bytes - n = ap length e ∙ length-drop n bytes in
      let fits : more ≤ length bytes - n = subst (λ (m : ℕ). more ≤ m) left next.within in
      let old = so_far.within in
      omega arith;
  appends = wrote_more a b c bytes n more so_far.appends (subst (λ (l : List ℕ). Appends b c (take more l)) e next.appends);
}

-- a write says nothing of leave to write
pub noted_leave : (log : LogState) (found : Gave) → (noted log found).refusals ≡ log.refusals
noted_leave log (gave.Bytes count) = refl
noted_leave log gave.Nothing = refl
noted_leave log gave.Interrupted = refl
noted_leave log gave.Failed = refl

-- a write is one call more
pub noted_calls : (log : LogState) (found : Gave) → (noted log found).calls ≡ one_more log.calls
noted_calls log (gave.Bytes count) = refl
noted_calls log gave.Nothing = refl
noted_calls log gave.Interrupted = refl
noted_calls log gave.Failed = refl

-- some bytes more were written well
pub wrote_well : (old mid new : LogState) (written more : ℕ) → IsWell old mid written → new.failed ≡ mid.failed → new.calls ≤ mid.calls + 16 → 0 < more →
    IsWell old new (written + more)
wrote_well old mid new written more h sound few some = record { sound = sound ∙ h.sound; few = omega (arith, h.few, few, some) }

-- ---- what was written well

pub wrote_nothing : (is : LoggedWriterState) → Writes is is []
wrote_nothing is = record { appends = Appends-nil is.contents; well = record { sound = refl; few = omega arith } }

pub well_on : (was now is : LogState) (count more all : ℕ) → IsWell was now count → IsWell now is more → all ≡ count + more → IsWell was is all
well_on was now is count more all h k same = record { sound = k.sound ∙ h.sound; few = omega (arith, h.few, k.few, same) }

-- bytes were written, and then more
pub wrote_on : (was now is : LoggedWriterState) (bytes more : List ℕ) → Writes was now bytes → Writes now is more → Writes was is (bytes ++ more)
wrote_on was now is bytes more h k = record {
  appends = Appends-trans was.contents now.contents is.contents bytes more h.appends k.appends;
  well = well_on was.log now.log is.log (length bytes) (length more) (length (bytes ++ more)) h.well k.well (length-append bytes more);
}

-- as many bytes as there are were written
pub wrote_all : (was is : LoggedWriterState) (bytes : List ℕ) (count : ℕ) → WritesFront was.contents is.contents bytes count → count ≡ length bytes →
    IsWell was.log is.log count → Writes was is bytes
wrote_all was is bytes count w all well = record {
  appends = subst (λ (x : List ℕ). Appends was.contents is.contents x) (take_all count bytes (omega (arith, all))) w.appends;
  well = subst (IsWell was.log is.log) all well;
}
