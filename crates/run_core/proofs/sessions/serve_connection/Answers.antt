use Rattle.run_core.proofs.sessions.serve_connection.Goals as goal

pub returns-clause-serves : goal.returns-clause-serves
returns-clause-serves g c =
    record {
      serves = λ h p.
          let known = c.learn_from.ensures.grows h p in
          record {
            serves = c.serve-served.ensures.serves h known;
            said = c.serve-served.ensures.said h known;
            given_up =
                c.serve-served.ensures.given_up h known;
            owns = c.learn_from.ensures.owns h p;
          };
    }
