use Rattle.std.proofs.Common.{◌≡◌, ◌∙◌, ◌++◌, List, ℕ, ap, refl}
use Rattle.trace_writer.specs.MigrationState.{MigrationState}
use Rattle.trace_writer.specs.Proved.Migrating.{header_between}
use Rattle.trace_writer.proofs.MigrationLemmas as laws
use Rattle.trace_writer.proofs.migration.Migration.take.Goals as goal

pub returns-in_default : goal.returns-in_default
returns-in_default c input written h few = rw c.clear.ensures.items
    (laws.unheaded input written c.args.piece.now _ (rw (← c.self.view_is) at h) c.in_default.ensures.lacks)

pub take_body-requires : goal.take_body-requires
take_body-requires c =
    let old : MigrationState = record {
      met = c.self.inside.met;
      decoder = c.self.inside.decoder;
      records = c.self.inside.records;
      passed =
          c.self.inside.passed;
    } in
    let mid : MigrationState = record {
      met = c.in-Some.met;
      decoder = c.self.inside.decoder;
      records = c.self.inside.records;
      passed =
          c.self.inside.passed;
    } in
    laws.may_pass c.args.piece.now c.in-Some.rest.now old mid (rw (← c.self.view_is) at c.requires) c.in-Some.ensures.takes refl refl refl

pub returns : goal.returns
returns c =
    let old : MigrationState = record {
      met = c.self.inside.met;
      decoder = c.self.inside.decoder;
      records = c.self.inside.records;
      passed =
          c.self.inside.passed;
    } in
    let mid : MigrationState = record {
      met = c.in-Some.met;
      decoder = c.self.inside.decoder;
      records = c.self.inside.records;
      passed =
          c.self.inside.passed;
    } in
    let before : c.put_between.new.out.items ≡ header_between old.met mid.met =
    c.in_ok-put_between.ensures ∙ ap (λ (x : List ℕ). x ++ header_between old.met mid.met) c.clear.ensures.items in
    rw (← c.self.view_is) (laws.piece_found_in c.take_body.result c.args.piece.now c.in-Some.rest.now c.put_between.new.out.items c.take_body.new.out.items old
    mid c.take_body.new.self c.in-Some.ensures.takes
    refl refl refl c.take_body.ensures.met before c.take_body.ensures.passes)
