-- All that is left of a line, as its last field.
use Rattle.std.proofs.Common.{◌≡◌, IfSome, ℕ, List, Option, Some, None, Ok, sym, ap, subst, ◌∙◌}
use Rattle.std.proofs.lemmas.List.{append-nil}
use Rattle.call_types.specs.declared.whence.Whence.{Whence}
use Rattle.script_text.specs.declared.fault.Expected.{Expected}
use Rattle.script_text.specs.declared.fault.Expected.TheVariants as expect
use Rattle.script_text.specs.Reading.{field}
use Rattle.script_text.specs.ReadingCalls.{whence_of}
use Rattle.script_text.specs.ReadingData.{data_of}
use Rattle.script_text.proofs.DataLaws.{data_takes, data_unbroken}
use Rattle.script_text.proofs.FieldKinds.{whence_takes, whence_unbroken}
use Rattle.script_text.proofs.WordLaws.{Unbroken, field_again}

-- a word with nothing after it
last : {A : Type 0} (expected : Expected) (value : List ℕ → Option A) (word : List ℕ) (a : A) → Unbroken word → value word ≡ Some a →
    field expected value (Some word) ≡ Ok (a, None)
last expected value word a unbroken e =
    ap (λ (b : List ℕ). field expected value (Some b)) (sym (append-nil word)) ∙ field_again expected value word a None unbroken e

pub data_last : (bytes given : List ℕ) → Some given ≡ data_of bytes → field expect.Data data_of (Some bytes) ≡ Ok (given, None)
data_last bytes given e = last expect.Data data_of bytes given (data_unbroken given bytes (data_takes bytes given (sym e))) (sym e)

pub whence_last : (bytes : List ℕ) (whence : Whence) → Some whence ≡ whence_of bytes → field expect.Whence whence_of (Some bytes) ≡ Ok (whence, None)
whence_last bytes whence e = last expect.Whence whence_of bytes whence (subst Unbroken (sym (whence_takes bytes whence (sym e))) (whence_unbroken whence))
    (sym e)

-- the same of data that may not be there
pub data_lasts : (bytes : List ℕ) (o : Option (List ℕ)) → o ≡ data_of bytes → IfSome o (λ given. field expect.Data data_of (Some bytes) ≡ Ok (given, None))
data_lasts bytes None e = tt
data_lasts bytes (Some given) e = data_last bytes given e
