use Rattle.std.proofs.Common.{◌∙◌, ◌++◌, ℕ, List, sym, ap, replicate, append_assoc, append-nil}
use Rattle.hex.specs.Hex.{encode_lower, encode_with}
use Rattle.text_forms.proofs.JsonData.{one_more}
use Rattle.text_forms.proofs.json.values.put_same.Goals as goal

pub loop-time-init : goal.loop-time-init
unfolding encode_with
loop-time-init c = sym (append-nil _)

pub loop-time-preserved : goal.loop-time-preserved
loop-time-preserved c =
    let old : List ℕ = c.args.out.now.items in
    let so_far : List ℕ = encode_lower (replicate c.loop-time._time c.args.byte) in
    c.in_ok-put.ensures
    ∙ ap (λ (front : List ℕ). front ++ c.hex_digits-digits.result) c.loop-time.invariant
    ∙ append_assoc old so_far c.hex_digits-digits.result
    ∙ ap (λ (digits : List ℕ). old ++ (so_far ++ digits)) c.hex_digits-digits.ensures
    ∙ ap (λ (digits : List ℕ). old ++ digits) (sym (one_more c.loop-time._time c.args.byte))
