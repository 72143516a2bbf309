use Rattle.std.proofs.Common.{arith, refl, length}
use Rattle.std.proofs.lemmas.Option.{slice_get_read}
use Rattle.job_core.proofs.RaceLemmas.{puts_one_more}
use Rattle.job_core.proofs.outcomes.put_witnesses.Goals as goal

pub loop-number-preserved : goal.loop-number-preserved
loop-number-preserved c =
    let told = c.args.search.now.told.items in
    puts_one_more c.args.search.now c.args.form c.loop-number.number told c.index.result.now c.args.out.now.items c.loop-number.out.items
    c.put_witness.new.out.items
    (slice_get_read told (length told) c.loop-number.number c.index.result.now refl (omega arith) c.index.ensures) c.loop-number.invariant
    c.in_ok-put_witness.ensures
