use Rattle.std.proofs.Common.{ℕ, List, ◌+◌, drop, take, Some, sym, ap, ◌∙◌, arith, add-one}
use Rattle.std.proofs.lemmas.Slice.{between_to_end}
use Rattle.script_text.specs.Reading.{Unread}
use Rattle.script_text.proofs.Cuts as cuts
use Rattle.script_text.proofs.cutting.parted.Goals as goal

pub returns-in-Some-clause-value : goal.returns-in-Some-clause-value
returns-in-Some-clause-value c =
    let bytes : List ℕ = c.args.bytes.now in
    let i : ℕ = c.in-Some.i in
    let first = rw c.in-Some.is at c.requires in
    let within = first.0.high in
    let whole = between_to_end bytes (i + 1) _ (omega (arith, within)) ∙ ap (λ (n : ℕ). drop n bytes) (add-one i) in
    ap (λ (after : List ℕ). let p : List ℕ × Unread = (take i bytes, Some after) in p) whole
    ∙ sym (cuts.cut_at c.args._mark bytes i first.0.before first.0.high first.1)

pub returns-in-None-clause-value : goal.returns-in-None-clause-value
returns-in-None-clause-value c = sym (cuts.cut_none c.args._mark c.args.bytes.now (rw c.in-None.is at c.requires))
