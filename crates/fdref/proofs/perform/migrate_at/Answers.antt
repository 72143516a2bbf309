use Rattle.std.proofs.Common.{inl, inr, refl, subst, sym}
use Rattle.logged_streams.specs.Streams.{LoggedReaderState, LoggedWriterState}
use Rattle.run_core.specs.Run.{IsBlank}
use Rattle.job_core.specs.Migrate.{MigrateEnds, Outputs}
use Rattle.fdref.proofs.PerformLemmas.{migrate_of}
use Rattle.fdref.proofs.perform.migrate_at.Goals as goal

pub returns-in-None : goal.returns-in-None
returns-in-None g c = inr (inl (record { reason = tt; is = refl; same = refl }))

pub returns : goal.returns
returns g c =
    let out : Outputs = record { was = c.new-made.result; is = c.migrate_file.new.writer; old = c.args.writer.now; new = c.migrate_file.new.out } in
    inl (record {
      out = out;
      blank = subst (λ (w : LoggedWriterState). IsBlank w.contents) (sym c.new-made.ensures) c.in-Some-create_new.ensures.blank;
      old_is = refl;
      new_is = refl;
      ends = migrate_of (g.F.Opens.bytes_at c.args.files.now c.args.from.now) _ out c.migrate_file.result c.in-Some.ensures
          (subst (λ (r : LoggedReaderState). MigrateEnds r.remaining out c.migrate_file.result) c.new-reader.ensures c.migrate_file.ensures.ends);
    })
