use Rattle.std.proofs.Common.{◌≡◌, map, List, false, true, refl, codes}
use Rattle.std.proofs.lemmas.Result.{IfErr-weaker, IfOk-weaker}
use Rattle.clap.specs.Words.{Text}
use Rattle.command_line.proofs.Parses.{asked, audit_given, migrate_given, named, none_named, refused, refused_race, refused_show, serve_given, show_given}
use Rattle.command_line.proofs.job.job_of.Goals as goal

pub returns-in-Some-clause-job : goal.returns-in-Some-clause-job
returns-in-Some-clause-job g c =
    let words : List Text = map g.S.AsStr.text c.args.words.now in
    let name = c.in-Some.ensures.found.0 refl in
    IfOk-weaker c.replay_job.result _ _
    (λ job h. asked words c.in_ok-matches.matches c.in-Some.replay.now (codes "replay") job c.in_ok-matches.ensures.ok name c.in-Some.ensures.rows h)
    c.replay_job.ensures.job

pub returns-in-Some-clause-fault : goal.returns-in-Some-clause-fault
returns-in-Some-clause-fault g c =
    let words : List Text = map g.S.AsStr.text c.args.words.now in
    let name = c.in-Some.ensures.found.0 refl in
    IfErr-weaker c.replay_job.result _ _
    (λ fault h. refused words c.in_ok-matches.matches c.in-Some.replay.now (codes "replay") fault c.in_ok-matches.ensures.ok name c.in-Some.ensures.rows h)
    c.replay_job.ensures.fault

pub serve_job-requires : goal.serve_job-requires
serve_job-requires g c =
    let words : List Text = map g.S.AsStr.text c.args.words.now in
    let serve = c.in-Some-subcommand_matches in
    record { all = serve_given words c.in_ok-matches.matches serve.serve.now c.in_ok-matches.ensures.ok (serve.ensures.found.0 refl) serve.ensures.rows }

pub returns-in-Some-subcommand_matches-clause-job : goal.returns-in-Some-subcommand_matches-clause-job
returns-in-Some-subcommand_matches-clause-job g c =
    let words : List Text = map g.S.AsStr.text c.args.words.now in
    let serve = c.in-Some-subcommand_matches in
    IfOk-weaker c.serve_job.result _ _
    (λ job h. asked words c.in_ok-matches.matches serve.serve.now (codes "serve") job c.in_ok-matches.ensures.ok (serve.ensures.found.0 refl) serve.ensures.rows
    h)
    c.serve_job.ensures.job

pub returns-in-Some-subcommand_matches-clause-fault : goal.returns-in-Some-subcommand_matches-clause-fault
returns-in-Some-subcommand_matches-clause-fault g c =
    let words : List Text = map g.S.AsStr.text c.args.words.now in
    let serve = c.in-Some-subcommand_matches in
    IfErr-weaker c.serve_job.result _ _
    (λ fault h. refused words c.in_ok-matches.matches serve.serve.now (codes "serve") fault c.in_ok-matches.ensures.ok
    (serve.ensures.found.0 refl) serve.ensures.rows h)
    c.serve_job.ensures.fault

pub audit_job-requires : goal.audit_job-requires
audit_job-requires g c =
    let words : List Text = map g.S.AsStr.text c.args.words.now in
    let audit = c.in-Some-subcommand_matches-2 in
    audit_given words c.in_ok-matches.matches audit.audit.now c.in_ok-matches.ensures.ok (audit.ensures.found.0 refl) audit.ensures.rows

pub returns-in-Some-subcommand_matches-2-clause-job : goal.returns-in-Some-subcommand_matches-2-clause-job
returns-in-Some-subcommand_matches-2-clause-job g c =
    let words : List Text = map g.S.AsStr.text c.args.words.now in
    let audit = c.in-Some-subcommand_matches-2 in
    IfOk-weaker c.audit_job.result _ _
    (λ job h. asked words c.in_ok-matches.matches audit.audit.now (codes "audit") job c.in_ok-matches.ensures.ok (audit.ensures.found.0 refl) audit.ensures.rows
    h)
    c.audit_job.ensures.job

pub returns-in-Some-subcommand_matches-2-clause-fault : goal.returns-in-Some-subcommand_matches-2-clause-fault
returns-in-Some-subcommand_matches-2-clause-fault g c =
    let words : List Text = map g.S.AsStr.text c.args.words.now in
    let audit = c.in-Some-subcommand_matches-2 in
    IfErr-weaker c.audit_job.result _ _
    (λ fault h. refused words c.in_ok-matches.matches audit.audit.now (codes "audit") fault c.in_ok-matches.ensures.ok
    (audit.ensures.found.0 refl) audit.ensures.rows h)
    c.audit_job.ensures.fault

pub show_job-requires : goal.show_job-requires
show_job-requires g c =
    let words : List Text = map g.S.AsStr.text c.args.words.now in
    let show = c.in-Some-subcommand_matches-3 in
    show_given words c.in_ok-matches.matches show.show.now c.in_ok-matches.ensures.ok (show.ensures.found.0 refl) show.ensures.rows

pub returns-in-Some-subcommand_matches-3-clause-job : goal.returns-in-Some-subcommand_matches-3-clause-job
returns-in-Some-subcommand_matches-3-clause-job g c =
    let words : List Text = map g.S.AsStr.text c.args.words.now in
    let show = c.in-Some-subcommand_matches-3 in
    IfOk-weaker c.show_job.result _ _
    (λ job h. asked words c.in_ok-matches.matches show.show.now (codes "show") job c.in_ok-matches.ensures.ok (show.ensures.found.0 refl) show.ensures.rows h)
    c.show_job.ensures.job

pub returns-in-Some-subcommand_matches-3-clause-fault : goal.returns-in-Some-subcommand_matches-3-clause-fault
returns-in-Some-subcommand_matches-3-clause-fault g c =
    let words : List Text = map g.S.AsStr.text c.args.words.now in
    let show = c.in-Some-subcommand_matches-3 in
    IfErr-weaker c.show_job.result _ _
    (λ fault h. refused_show words c.in_ok-matches.matches show.show.now fault c.in_ok-matches.ensures.ok (show.ensures.found.0 refl) show.ensures.rows h)
    c.show_job.ensures.fault

pub migrate_job-requires : goal.migrate_job-requires
migrate_job-requires g c =
    let words : List Text = map g.S.AsStr.text c.args.words.now in
    let migrate = c.in-Some-subcommand_matches-4 in
    migrate_given words c.in_ok-matches.matches migrate.migrate.now c.in_ok-matches.ensures.ok (migrate.ensures.found.0 refl) migrate.ensures.rows

pub returns-in-Some-subcommand_matches-4-clause-job : goal.returns-in-Some-subcommand_matches-4-clause-job
returns-in-Some-subcommand_matches-4-clause-job g c =
    let words : List Text = map g.S.AsStr.text c.args.words.now in
    let migrate = c.in-Some-subcommand_matches-4 in
    IfOk-weaker c.migrate_job.result _ _
    (λ job h. asked words c.in_ok-matches.matches migrate.migrate.now (codes "migrate") job c.in_ok-matches.ensures.ok
    (migrate.ensures.found.0 refl) migrate.ensures.rows h)
    c.migrate_job.ensures.job

pub returns-in-Some-subcommand_matches-4-clause-fault : goal.returns-in-Some-subcommand_matches-4-clause-fault
returns-in-Some-subcommand_matches-4-clause-fault g c =
    let words : List Text = map g.S.AsStr.text c.args.words.now in
    let migrate = c.in-Some-subcommand_matches-4 in
    IfErr-weaker c.migrate_job.result _ _
    (λ fault h. refused words c.in_ok-matches.matches migrate.migrate.now (codes "migrate") fault c.in_ok-matches.ensures.ok
    (migrate.ensures.found.0 refl) migrate.ensures.rows h)
    c.migrate_job.ensures.fault

pub returns-clause-job : goal.returns-clause-job
returns-clause-job g c =
    let words : List Text = map g.S.AsStr.text c.args.words.now in
    let outcomes = c.in-Some-subcommand_matches-5 in
    IfOk-weaker c.outcomes_job.result _ _
    (λ job h. asked words c.in_ok-matches.matches outcomes.outcomes.now (codes "outcomes") job c.in_ok-matches.ensures.ok
    (outcomes.ensures.found.0 refl) outcomes.ensures.rows h)
    c.outcomes_job.ensures.job

pub returns-clause-fault : goal.returns-clause-fault
returns-clause-fault g c =
    let words : List Text = map g.S.AsStr.text c.args.words.now in
    let outcomes = c.in-Some-subcommand_matches-5 in
    IfErr-weaker c.outcomes_job.result _ _
    (λ fault h. refused_race words c.in_ok-matches.matches outcomes.outcomes.now fault c.in_ok-matches.ensures.ok
    (outcomes.ensures.found.0 refl) outcomes.ensures.rows h)
    c.outcomes_job.ensures.fault

-- the words name one of the six
pub unreachable-requires : goal.unreachable-requires
unreachable-requires g c =
    let words : List Text = map g.S.AsStr.text c.args.words.now in
    none_named _ (named words c.in_ok-matches.matches c.in_ok-matches.ensures.ok)
    (λ e. let bad : false ≡ true = c.in_default.ensures.found.1 e in cc)
    (λ e. let bad : false ≡ true = c.in_default-subcommand_matches.ensures.found.1 e in cc)
    (λ e. let bad : false ≡ true = c.in_default-subcommand_matches-2.ensures.found.1 e in cc)
    (λ e. let bad : false ≡ true = c.in_default-subcommand_matches-3.ensures.found.1 e in cc)
    (λ e. let bad : false ≡ true = c.in_default-subcommand_matches-4.ensures.found.1 e in cc)
    (λ e. let bad : false ≡ true = c.in-None.ensures.found.1 e in cc)
