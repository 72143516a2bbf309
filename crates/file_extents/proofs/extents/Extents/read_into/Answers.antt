use Rattle.std.proofs.Common.{◌≤◌, ◌+◌, arith, ap, ◌++◌, ◌∙◌, length, vec_len, vec_capacity}
use Rattle.posix_model.specs.Bytes.{bytes_at}
use Rattle.file_extents.specs.ChunkTable.{chunk_at}
use Rattle.file_extents.specs.ExtentsState.{contents}
use Rattle.file_extents.proofs.Places.{read_is, length_read, none_past}
use Rattle.file_extents.proofs.extents.Extents.read_into.Goals as goal

pub append-requires-clause-room : goal.append-requires-clause-room
append-requires-clause-room c =
    let F = chunk_at c.self.inside.table in
    let fits : vec_len c.args.out.now + length (bytes_at (contents c.self.inside.len F) c.args.start c.args.count) ≤ vec_capacity c.args.out.now =
    rw (← c.self.view_is) at c.requires.room in
    omega (arith, fits, length_read F c.self.inside.len c.args.start c.args.count)

pub returns-then-start-self-clause-items : goal.returns-then-start-self-clause-items
returns-then-start-self-clause-items c =
    rw (← c.self.view_is) (c.append.ensures.items ∙ ap (λ xs. c.args.out.now.items ++ xs)
    (read_is (chunk_at c.self.inside.table) c.self.inside.len c.args.start c.args.count c.args.start c.min-some.result (omega arith) (omega arith)))

pub returns-else-start-self-clause-items : goal.returns-else-start-self-clause-items
returns-else-start-self-clause-items c =
    rw (← c.self.view_is) (none_past (chunk_at c.self.inside.table) c.self.inside.len c.args.start c.args.count c.args.out.now.items (omega arith))
