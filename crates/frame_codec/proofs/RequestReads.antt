-- A request is read again from its bytes, and from these alone.
use Rattle.std.proofs.Common.{◌≡◌, ℕ, eqb, List, [], ◌∷◌, ◌++◌, Option, Some, refl, sym, ap, subst, ◌∙◌, append_assoc, inl, inr, rules}
use Rattle.std.specs.List.{AllByRecursion}
use Rattle.std.specs.Int.{w32}
use Rattle.std.proofs.lemmas.Bool.{eqb-true}
use Rattle.call_types.specs.CallTable.{FieldKind, Value, Values, Makes, Entry, Parts, of}
use Rattle.call_types.specs.Proved.Made.{made}
use Rattle.call_types.specs.Ranges.{AreBytes, FieldsFit}
use Rattle.call_types.specs.declared.call.Call.{Call}
use Rattle.call_types.specs.declared.call.Call.TheVariants as calls
use Rattle.call_types.specs.declared.request.Request.{Request}
use Rattle.call_types.specs.declared.request.Request.TheVariants as requests
use Rattle.frame_codec.specs.Fields.{number_bytes, field_bytes, fields_bytes}
use Rattle.frame_codec.specs.Requests.{frame_parts, parts_bytes, call_bytes, CallFits, request_bytes, RequestFits}
use Rattle.frame_codec.specs.Proved.FrameTable.{frame_table}
use Rattle.frame_codec.specs.Proved.Reading.{◌>>=◌, as_at, number_at, one_of}
use Rattle.frame_codec.specs.Proved.ReadingRequests.{field_at, fields_at, entry_at, rows_of, call_at, request_rows, request_at}
use Rattle.frame_codec.proofs.Steps.{Taken, Reads, some_is, bind_some, chosen, RowTakes, led, alone, remade, tagged_or_takes}
use Rattle.frame_codec.proofs.FieldReads.{Below32, reads32, field_reads}

-- ---- calls

fields_again : (ks : List FieldKind) (make : Makes ks) (vs : Values ks) (rest : List ℕ) → FieldsFit ks vs → fields_at ks make (fields_bytes ks vs ++ rest)
    ≡ Some (made ks make vs, rest)
fields_again [] make vs rest h = refl
fields_again (k ∷ ks) make vs rest h =
    ap (fields_at (k ∷ ks) make) (append_assoc (field_bytes k vs.0) (fields_bytes ks vs.1) rest)
    ∙ ap (λ (o : Option (Value k × List ℕ)). o >>= λ value. fields_at ks (make value.0) value.1) ((field_reads k).again vs.0 (fields_bytes ks vs.1 ++ rest) h.0)
    ∙ fields_again ks (make vs.0) vs.1 rest h.1

-- the fields of which a call was made
record Found (ks : List FieldKind) (make : Makes ks) (bytes : List ℕ) (x : Call × List ℕ) : Type 0 where
  values : Values ks
  parts : bytes ≡ fields_bytes ks values ++ x.1
  fits : FieldsFit ks values
  rest : AreBytes x.1
  is : made ks make values ≡ x.0

fields_take : (ks : List FieldKind) (make : Makes ks) (bytes : List ℕ) (x : Call × List ℕ) → AreBytes bytes → fields_at ks make bytes ≡ Some x →
    Found ks make bytes x
fields_take [] make bytes x h e =
    let same = some_is (make, bytes) x e in
    record {
      values = tt;
      parts = ap (λ (p : Call × List ℕ). p.1) same;
      fits = tt;
      rest = subst (λ (p : Call × List ℕ). AreBytes p.1) same h;
      is =
          ap (λ (p : Call × List ℕ). p.0) same;
    }
fields_take (k ∷ ks) make bytes x h e =
    let s = bind_some (field_at k bytes) (λ (value : Value k × List ℕ). fields_at ks (make value.0) value.1) x e in
    let t = (field_reads k).takes bytes s.0 h s.1 in
    let r = fields_take ks (make s.0.0) s.0.1 x t.rest s.2 in
    record {
      values = (s.0.0, r.values);
      parts = t.parts ∙ ap (λ (bs : List ℕ). field_bytes k s.0.0 ++ bs) r.parts ∙ sym (append_assoc (field_bytes k s.0.0) (fields_bytes ks r.values) x.1);
      fits = (t.fits, r.fits);
      rest = r.rest;
      is = r.is;
    }

-- an entry makes the calls that have it in their parts
abbrev FrameParted : Entry → Type 0
FrameParted e = (vs : Values e.fields) → frame_parts (made e.fields e.make vs) ≡ of e vs

all_parted : AllByRecursion FrameParted frame_table
all_parted = search rules

-- bytes are those of parts in range
record IsOf (bytes rest : List ℕ) (p : Parts) : Type 0 where
  parts : bytes ≡ parts_bytes p ++ rest
  fits : FieldsFit p.entry.fields p.values
  after : AreBytes rest

entry_takes : (e : Entry) (bytes : List ℕ) (x : Call × List ℕ) → FrameParted e → AreBytes bytes → entry_at e bytes ≡ Some x →
    IsOf (e.byte ∷ bytes) x.1 (frame_parts x.0)
entry_takes e bytes x p h r =
    let f = fields_take e.fields e.make bytes x h r in
    subst (λ (c : Call). IsOf (e.byte ∷ bytes) x.1 (frame_parts c)) f.is
    (subst (λ (q : Parts). IsOf (e.byte ∷ bytes) x.1 q) (sym (p f.values))
    (record { parts = ap (λ (bs : List ℕ). e.byte ∷ bs) f.parts; fits = f.fits; after = f.rest }))

entries_take : (es : List Entry) (b : ℕ) (bytes : List ℕ) (x : Call × List ℕ) → AllByRecursion FrameParted es → AreBytes bytes →
    one_of (rows_of es) b bytes ≡ Some x → IsOf (b ∷ bytes) x.1 (frame_parts x.0)
entries_take [] b bytes x p h r = absurd cc
entries_take (e ∷ es) b bytes x p h r =
    elim (chosen (eqb b e.byte) (entry_at e bytes) (one_of (rows_of es) b bytes) (Some x) r) [
      | inl is ↦ subst (λ (n : ℕ). IsOf (n ∷ bytes) x.1 (frame_parts x.0)) (sym (eqb-true b e.byte is.0)) (entry_takes e bytes x p.0 h is.1)
      | inr other ↦ entries_take es b bytes x p.1 h other.1
    ]

-- a byte picks the entry of its call
abbrev Finds : Parts → Type 0
Finds p = (bytes : List ℕ) → one_of (rows_of frame_table) p.entry.byte bytes ≡ entry_at p.entry bytes

finds : (call : Call) → Finds (frame_parts call)
finds (calls.Close fd) = λ bytes. refl
finds other = λ bytes. refl

made_again : (call : Call) → made (frame_parts call).entry.fields (frame_parts call).entry.make (frame_parts call).values ≡ call
made_again (calls.Close fd) = refl
made_again other = refl

call_again : (call : Call) (rest : List ℕ) → CallFits call → call_at (call_bytes call ++ rest) ≡ Some (call, rest)
unfolding call_bytes call_at
call_again call rest h =
    finds call (fields_bytes (frame_parts call).entry.fields (frame_parts call).values ++ rest)
    ∙ fields_again (frame_parts call).entry.fields (frame_parts call).entry.make (frame_parts call).values rest h
    ∙ ap (λ (c : Call). Some (c, rest)) (made_again call)

call_takes : (bytes : List ℕ) (x : Call × List ℕ) → AreBytes bytes → call_at bytes ≡ Some x → Taken call_bytes CallFits bytes x
unfolding call_bytes call_at
call_takes [] x h e = absurd cc
call_takes (b ∷ bytes) x h e =
    let t = entries_take frame_table b bytes x all_parted h.1 e in
    record { parts = t.parts; fits = t.fits; rest = t.after }

pub call_reads : Reads call_bytes CallFits call_at
call_reads = record { again = call_again; takes = call_takes }

-- ---- requests

-- a call is neither a join nor an attach
abbrev IsNext : Call → Type 0
IsNext call = (bytes : List ℕ) → request_at (parts_bytes (frame_parts call) ++ bytes) ≡ as_at call_at requests.Call (parts_bytes (frame_parts call) ++ bytes)

is_next : (call : Call) → IsNext call
is_next (calls.Close fd) = λ bytes. refl
is_next other = λ bytes. refl

called_again : (call : Call) (rest : List ℕ) → CallFits call → request_at (call_bytes call ++ rest) ≡ Some (requests.Call call, rest)
unfolding call_bytes
called_again call rest h =
    is_next call rest ∙ ap (λ (o : Option (Call × List ℕ)). o >>= λ x. Some (requests.Call x.0, x.1)) (call_again call rest h)

request_again : (request : Request) (rest : List ℕ) → RequestFits request → request_at (request_bytes request ++ rest) ≡ Some (request, rest)
request_again requests.Join rest h = refl
request_again (requests.Attach process) rest h = ap (λ (o : Option (ℕ × List ℕ)). o >>= λ x. Some (requests.Attach x.0, x.1)) (reads32.again process rest h)
request_again (requests.Call call) rest h = called_again call rest h

request_rows_take : AllByRecursion (RowTakes request_bytes RequestFits) request_rows
request_rows_take = (
  alone request_bytes RequestFits 1 requests.Join refl tt,
  (
    led request_bytes RequestFits (number_bytes w32) Below32 (number_at w32) 2 requests.Attach reads32 (λ v. refl) (λ v h. h),
    tt,
  ),
)

request_takes : (bytes : List ℕ) (x : Request × List ℕ) → AreBytes bytes → request_at bytes ≡ Some x → Taken request_bytes RequestFits bytes x
request_takes =
    tagged_or_takes request_bytes RequestFits request_rows (as_at call_at requests.Call) request_rows_take
    (remade request_bytes RequestFits call_bytes CallFits call_at requests.Call call_reads (λ v. refl) (λ v h. h))

pub request_reads : Reads request_bytes RequestFits request_at
request_reads = record { again = request_again; takes = request_takes }
