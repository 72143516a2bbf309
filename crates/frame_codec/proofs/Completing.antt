-- A piece that is taken until the first frame is complete.
use Rattle.std.proofs.Common.{◌≡◌, ℕ, ◌+◌, ◌≤◌, List, ◌++◌, length, take, drop, sym, ap, ◌∙◌, append_assoc, arith, inl, inr}
use Rattle.std.specs.Int.{w32, from_be_bytes}
use Rattle.std.proofs.Math.Seq.{take-add}
use Rattle.std.proofs.lemmas.List.{length-append, length-drop, take-append-le}
use Rattle.frame_codec.specs.Frames.{told_length}
use Rattle.frame_codec.specs.Proved.Filling.{FillsHead, Fills, Completes}

-- the head, and then the rest of the frame
pub completes : (most : ℕ) (old mid new piece : List ℕ) (first second : ℕ) → FillsHead old mid piece first → 4 ≤ length mid → told_length mid ≤ most
    → Fills mid new (drop first piece) (4 + told_length mid) second → Completes most old new piece (first + second)
completes most old mid new piece first second head there few more =
    let told : told_length new ≡ told_length mid =
    ap told_length more.takes.is
    ∙ ap (λ (front : List ℕ). from_be_bytes w32 front) (take-append-le 4 mid (take second (drop first piece)) there) in
    record {
      takes = record {
        within = omega (arith, head.takes.within, more.takes.within, length-drop first piece);
        is =
            more.takes.is ∙ ap (λ (front : List ℕ). front ++ take second (drop first piece)) head.takes.is
            ∙ append_assoc old (take first piece) (take second (drop first piece))
            ∙ ap (λ (text : List ℕ). old ++ text) (sym (take-add first second piece));
      };
      ends = elim more.ends [
        | inl full ↦ inr (inr (omega (arith, told, few), omega (arith, told, full)))
        | inr part ↦ inl (
          omega (arith, part.0, head.takes.within, length-drop first piece),
          inr (
            omega (arith, length-append mid (take second (drop first piece)), ap length more.takes.is, there),
            omega (arith, told, few),
            omega (arith, told, part.1),
          ),
        )
      ];
    }
