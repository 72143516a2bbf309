use Rattle.std.proofs.Common.{◌≡◌, ◌-◌, ◌∙◌, ◌++◌, length, min, replicate, ap, refl, arith}
use Rattle.posix_model.specs.Bytes.{bytes_at}
use Rattle.file_extents.proofs.Pieces.{appended}
use Rattle.file_extents.proofs.chunk.Chunk.append_to.Goals as goal

pub returns-clause-items : goal.returns-clause-items
returns-clause-items c =
    let low = c.self.inside.low in
    let kept = c.self.inside.stored.items in
    let zeros = c.min-zeros.result in
    let part = c.bytes_at-stored.result.now in
    let rest = c.args.count - zeros - length part in
    let zeros_are : zeros ≡ min (low - c.args.start) c.args.count = omega arith in
    let part_is : part ≡ bytes_at kept (c.args.start - low) (c.args.count - zeros) =
    rw (c.as_slice.ensures.value, c.saturating_sub-place.ensures) at c.bytes_at-stored.ensures in
    let extended : c.extend_from_slice.new.self.items ≡ c.append_zeros.new.out.items ++ part = rw c.unwrap.ensures at c.extend_from_slice.ensures.items in
    let both : c.extend_from_slice.new.self.items ≡ (c.args.out.now.items ++ replicate zeros 0) ++ part = extended ∙
    ap (λ xs. xs ++ part) c.append_zeros.ensures.items in
    rw (← c.self.view_is)
    (c.append_zeros-2.ensures.items ∙ (ap (λ xs. xs ++ replicate rest 0) both ∙ appended c.args.out.now.items low c.args.start c.args.count kept zeros rest part
    zeros_are part_is refl))
