-- The session's ring is that one, and its writer holds this.
use Rattle.std.specs.Prelude.{Some}
use Rattle.session_core.proofs.serve.serve.Given as goal

abbrev pub ghosts-serve_named : goal.ghosts-serve_named
ghosts-serve_named g a = record { ring = Some a.consumer; base = a.output.sink.contents }
