use Rattle.std.proofs.Common.{◌≡◌, ◌∙◌, ◌+◌, ◌<◌, ℕ, List, [], ◌∷◌, ◌++◌, length, take, get_or, ap, sym, refl, arith}
use Rattle.std.specs.List.{flat_map}
use Rattle.std.proofs.lemmas.Grind.{flat_map-append}
use Rattle.std.proofs.lemmas.List.{length-set, take_more}
use Rattle.hex.proofs.Pairs.{take-two_writes}
use Rattle.script_text.specs.Lines.{hex_pair}
use Rattle.script_text.proofs.payload.put_few_pairs.Goals as goal

-- the digits of one byte more
grown : (bytes : List ℕ) (i : ℕ) → i < length bytes → flat_map hex_pair (take i bytes) ++ hex_pair (get_or bytes i 0) ≡ flat_map hex_pair (take (i + 1) bytes)
grown bytes i within = sym (ap (flat_map hex_pair) (take_more bytes i 0 within) ∙ flat_map-append hex_pair (take i bytes) (get_or bytes i 0 ∷ []))

-- the two of a pair, one by one
both : (pair : List ℕ) (b : ℕ) → pair ≡ hex_pair b → (get_or pair 0 0 ∷ get_or pair 1 0 ∷ []) ≡ hex_pair b
both pair b is = rw is refl

pub loop-byte-preserved : goal.loop-byte-preserved
loop-byte-preserved c =
    let digits : _ = c.loop-byte.digits in
    let pair : _ = c.hex_digits.result in
    let i : _ = c.loop-byte.byte-index in
    let bytes : _ = c.args.bytes.now in
    let b : ℕ = get_or bytes i 0 in
    let two : _ = take-two_writes digits c.loop-byte.end (get_or pair 0 0) (get_or pair 1 0)
    (omega (arith, c.loop-byte.invariant.end, c.loop-byte.invariant.room, c.loop-byte-test.true, c.requires.few)) in
    record {
      end = omega (arith, c.loop-byte.invariant.end);
      room = omega (arith, length-set {A = ℕ}, c.loop-byte.invariant.room);
      front = two ∙ (ap (λ (ds : List ℕ). take c.loop-byte.end digits ++ ds) (both pair b c.hex_digits.ensures) ∙
          (ap (λ (ds : List ℕ). ds ++ hex_pair b) c.loop-byte.invariant.front ∙ grown bytes i c.loop-byte-test.true));
    }
