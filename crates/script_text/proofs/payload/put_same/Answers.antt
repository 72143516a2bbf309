use Rattle.std.proofs.Common.{◌≡◌, ℕ, ◌+◌, ◌*◌, List, ◌++◌, length, replicate, codes, sym, subst, arith}
use Rattle.std.specs.List.{flat_map}
use Rattle.std.proofs.lemmas.List.{take-replicate, length-replicate}
use Rattle.script_text.specs.Lines.{hex_pair}
use Rattle.script_text.specs.Proved.Room.{HasRoom, UsesRoom}
use Rattle.script_text.proofs.Repeated.{many_same, few_same}
use Rattle.script_text.proofs.Rooms.{few_room}
use Rattle.script_text.proofs.payload.put_same.Goals as goal

pub put_digits-requires-clause-room : goal.put_digits-requires-clause-room
put_digits-requires-clause-room c =
    let few : _ = c.if-count-gt-WRITTEN_OUT_MAX.false in
    let room : _ = few_room c.args.count c.args.byte few in
    let long : _ = length-replicate c.args.count c.args.byte in
    subst (λ (bytes : List ℕ). HasRoom c.args.out.now (2 * length bytes + 1)) (sym (take-replicate c.args.count 16 c.args.byte few))
    (omega (arith, room, long, c.requires))

pub returns-then-count-gt-WRITTEN_OUT_MAX-clause-text : goal.returns-then-count-gt-WRITTEN_OUT_MAX-clause-text
returns-then-count-gt-WRITTEN_OUT_MAX-clause-text c = rw (many_same c.args.count c.args.byte c.if-count-gt-WRITTEN_OUT_MAX.true) c.put_repeated.ensures.text

pub returns-else-count-gt-WRITTEN_OUT_MAX-clause-text : goal.returns-else-count-gt-WRITTEN_OUT_MAX-clause-text
returns-else-count-gt-WRITTEN_OUT_MAX-clause-text c =
    let few : _ = c.if-count-gt-WRITTEN_OUT_MAX.false in
    rw (few_same c.args.count c.args.byte few)
    (subst (λ (bytes : List ℕ). c.put_digits.new.out.items ≡ c.args.out.now.items ++ (codes "x" ++ flat_map hex_pair bytes))
    (take-replicate c.args.count 16 c.args.byte few) c.put_digits.ensures.text)

pub returns-else-count-gt-WRITTEN_OUT_MAX-clause-room : goal.returns-else-count-gt-WRITTEN_OUT_MAX-clause-room
returns-else-count-gt-WRITTEN_OUT_MAX-clause-room c =
    let few : _ = c.if-count-gt-WRITTEN_OUT_MAX.false in
    let room : _ = few_room c.args.count c.args.byte few in
    let long : _ = length-replicate c.args.count c.args.byte in
    let used : UsesRoom c.args.out.now c.put_digits.new.out (2 * length (replicate c.args.count c.args.byte) + 1) =
    subst (λ (bytes : List ℕ). UsesRoom c.args.out.now c.put_digits.new.out (2 * length bytes + 1)) (take-replicate c.args.count 16 c.args.byte few)
    c.put_digits.ensures.room in
    (omega (arith, used.0, room, long), used.1)
