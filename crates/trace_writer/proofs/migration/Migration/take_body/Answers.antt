use Rattle.std.proofs.Common.{◌≡◌, ◌+◌, ◌-◌, ℕ, length, ap, arith, refl, rules}
use Rattle.trace_writer.specs.MigrationState.{MigrationState}
use Rattle.trace_writer.proofs.MigrationLemmas.{Passing, counts_as, counts_fit, cut_so, passes_on}
use Rattle.trace_writer.proofs.migration.Migration.take_body.Goals as goal

pub overflow_add-self-2 : goal.overflow_add-self-2
overflow_add-self-2 c =
    let old : MigrationState = record {
      met = c.self.inside.met;
      decoder = c.self.inside.decoder;
      records = c.self.inside.records;
      passed =
          c.self.inside.passed;
    } in
    let held : length c.held.result.now ≡ length old.decoder.held = ap length c.held.ensures in
    let long : c.len.result - c.len-start.result ≡ length old.decoder.held + length c.args.piece.now =
    omega (arith, held, c.len.ensures, c.len-start.ensures, c.in_ok-extend_from_slice.ensures.len, c.in_ok-extend_from_slice-2.ensures.len) in
    let p : Passing c.args.piece.now old c.feed.new.self c.in_ok-fed.fed.values.items c.in_ok-fed.fed.progress c.frames_length-count.result = record {
      law = c.pieces_go_on.ensures;
      may = rw (← c.self.view_is) at c.requires;
      fed = c.in_ok-fed.ensures.fed;
      counts = counts_as c.in_ok-fed.fed.progress _ _ _ _ _ _ c.frames_length-count.ensures long c.held_len.ensures;
    } in
    let few = counts_fit c.args.piece.now old c.feed.new.self c.in_ok-fed.fed.values.items c.in_ok-fed.fed.progress c.frames_length-count.result p in
    let values : c.len-2.result ≡ length c.in_ok-fed.fed.values.items = search rules in
    omega (arith, few.2, values)

pub returns-clause-passes : goal.returns-clause-passes
returns-clause-passes c =
    let old : MigrationState = record {
      met = c.self.inside.met;
      decoder = c.self.inside.decoder;
      records = c.self.inside.records;
      passed =
          c.self.inside.passed;
    } in
    let held : length c.held.result.now ≡ length old.decoder.held = ap length c.held.ensures in
    let long : c.len.result - c.len-start.result ≡ length old.decoder.held + length c.args.piece.now =
    omega (arith, held, c.len.ensures, c.len-start.ensures, c.in_ok-extend_from_slice.ensures.len, c.in_ok-extend_from_slice-2.ensures.len) in
    let p : Passing c.args.piece.now old c.feed.new.self c.in_ok-fed.fed.values.items c.in_ok-fed.fed.progress c.frames_length-count.result = record {
      law = c.pieces_go_on.ensures;
      may = rw (← c.self.view_is) at c.requires;
      fed = c.in_ok-fed.ensures.fed;
      counts = counts_as c.in_ok-fed.fed.progress _ _ _ _ _ _ c.frames_length-count.ensures long c.held_len.ensures;
    } in
    let values : c.len-2.result ≡ length c.in_ok-fed.fed.values.items = search rules in
    let start : c.len-start.result ≡ length c.args.out.now.items = search rules in
    let out = cut_so c.args.out.now.items old.decoder.held c.args.piece.now c.held.result.now _ _ c.truncate.new.self.items c.len-start.result
    c.frames_length-count.result start c.held.ensures
    c.in_ok-extend_from_slice.ensures.items c.in_ok-extend_from_slice-2.ensures.items c.truncate.ensures.items in
    rw (← c.self.view_is) (passes_on c.args.piece.now c.args.out.now.items c.truncate.new.self.items old _ c.in_ok-fed.fed.values.items c.in_ok-fed.fed.progress
    c.frames_length-count.result c.fault_at.result p
    out (ap (λ (n : ℕ). c.self.inside.records + n) values) refl c.fault_at.ensures)
