-- The fields after a call's word are read from their spellings alone, whatever the fields are.
use Rattle.std.proofs.Common.{◌≡◌, ℕ, List, [], ◌∷◌, ◌++◌, Some, None, Result, Ok, refl, ap, subst, ◌∙◌}
use Rattle.call_types.specs.CallTable.{FieldKind, Value, Values, Makes}
use Rattle.call_types.specs.Proved.Made.{made}
use Rattle.call_types.specs.declared.call.Call.{Call}
use Rattle.script_text.specs.Reading.{◌>>=◌, BadWord, Unread, field, ended}
use Rattle.script_text.specs.ReadingCalls.{value_of, expected_of, fields_at}
use Rattle.script_text.specs.Spellings.{SpellsFields}
use Rattle.script_text.proofs.WordLaws.{tail, field_takes, field_again, ok_is, bind_ok, ended_takes}
use Rattle.script_text.proofs.FieldKinds.{value_takes, value_again, value_unbroken}

-- fields that are spelled by what is left, and of which the call is made
pub record Found (ks : List FieldKind) (make : Makes ks) (left : Unread) (call : Call) : Type 0 where
  pub values : Values ks
  pub spelled : SpellsFields ks values (tail left)
  pub is : made ks make values ≡ call

pub fields_take : (ks : List FieldKind) (make : Makes ks) (left : Unread) (call : Call) → fields_at ks make left ≡ Ok call → Found ks make left call
fields_take [] make left call e =
    let last = bind_ok (ended left) (λ end. Ok make) call e in
    record { values = tt; spelled = ap tail (ended_takes left last.0 last.1); is = ok_is make call last.2 }
fields_take (k ∷ ks) make left call e =
    let x = bind_ok (field (expected_of k) (value_of k) left) (λ (x : Value k × Unread). fields_at ks (make x.0) x.1) call e in
    let f = field_takes (expected_of k) (value_of k) left x.0.0 x.0.1 x.1 in
    let rest = fields_take ks (make x.0.0) x.0.1 call x.2 in
    record {
      values = (x.0.0, rest.values);
      spelled = (f.word, tail x.0.1, value_takes k f.word x.0.0 f.has, ap tail f.is, rest.spelled);
      is = rest.is;
    }

-- what spells fields is nothing, or begins with a space
pub left_of : (ks : List FieldKind) (vs : Values ks) (text : List ℕ) → SpellsFields ks vs text → (left : Unread) × (text ≡ tail left)
left_of [] vs text s = (None, s)
left_of (k ∷ ks) vs text s = (Some (s.0 ++ s.1), s.3)

pub fields_again : (ks : List FieldKind) (make : Makes ks) (vs : Values ks) (left : Unread) → SpellsFields ks vs (tail left) →
    fields_at ks make left ≡ Ok (made ks make vs)
fields_again [] make vs None s = refl
fields_again [] make vs (Some bytes) s = absurd cc
fields_again (k ∷ ks) make vs None s = absurd (let e = s.3 in cc)
fields_again (k ∷ ks) make vs (Some bytes) s =
    let rest = left_of ks vs.1 s.1 s.4 in
    let is : bytes ≡ s.0 ++ tail rest.0 = (let e = s.3 in cc) ∙ ap (λ (r : List ℕ). s.0 ++ r) rest.1 in
    ap (λ (b : List ℕ). fields_at (k ∷ ks) make (Some b)) is
    ∙ ap (λ (r : Result (Value k × Unread) BadWord). r >>= λ x. fields_at ks (make x.0) x.1)
    (field_again (expected_of k) (value_of k) s.0 vs.0 rest.0 (value_unbroken k s.0 vs.0 s.2) (value_again k s.0 vs.0 s.2))
    ∙ fields_again ks (make vs.0) vs.1 rest.0 (subst (SpellsFields ks vs.1) rest.1 s.4)
