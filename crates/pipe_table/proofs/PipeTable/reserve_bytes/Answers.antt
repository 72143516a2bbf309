use Rattle.std.proofs.Common.{◌≤◌, ap}
use Rattle.std.proofs.lemmas.Result.{on_ok_weaker}
use Rattle.slots.specs.Slots.{slot}
use Rattle.slots.specs.UsedSlots.{value_at}
use Rattle.slots.specs.Proved.Uses.{with_value}
use Rattle.pipe_table.specs.Blocks.{block_in}
use Rattle.pipe_table.specs.Proved.Pipes.{with_block}
use Rattle.pipe_table.proofs.UseLaws.{edited_as}
use Rattle.pipe_table.proofs.BlockLaws.{other_block, set_there, blocks_kept}
use Rattle.pipe_table.proofs.PipeTable.reserve_bytes.Goals as goal

pub returns-clause-slots : goal.returns-clause-slots
returns-clause-slots c =
    let used = c.value_mut.result.now in
    let ring = c.reserve.new.self in
    let more = with_value (with_block ring.block) in
    let same = ap (λ r. record used { value = record used.value { ring = r } })
    (other_block used.value.ring ring c.reserve.ensures.bytes c.reserve.ensures.capacity) in
    rw (← c.self.view_is) (ring.block, edited_as c.self.inside.pipes.0 c.args.pipe more used _ c.value_mut.ensures.value same)

pub returns-clause-places : goal.returns-clause-places
returns-clause-places c =
    let used = c.value_mut.result.now in
    let more = record used { value = record used.value { ring = c.reserve.new.self } } in
    on_ok_weaker c.reserve.result (λ places. (more, set_there c.self.inside.pipes.0 c.args.pipe used more c.value_mut.ensures.value, places))
    c.reserve.ensures.places

pub returns-clause-kept : goal.returns-clause-kept
returns-clause-kept c =
    let used = c.value_mut.result.now in
    let ring = c.reserve.new.self in
    let pipes = c.self.inside.pipes.0 in
    let same = ap (λ r. record used { value = record used.value { ring = r } })
    (other_block used.value.ring ring c.reserve.ensures.bytes c.reserve.ensures.capacity) in
    let made = edited_as pipes c.args.pipe (with_value (with_block ring.block)) used (record used { value = record used.value { ring = ring } })
    c.value_mut.ensures.value same in
    let keeps : block_in (value_at (slot pipes c.args.pipe)) ≤ ring.block =
    rw (ap (λ x. block_in (value_at x)) c.value_mut.ensures.value) c.reserve.ensures.kept in
    rw (← c.self.view_is, made) (blocks_kept ring.block pipes c.args.pipe keeps)
