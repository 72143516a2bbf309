-- The streams may go to the session's thread, as the bounds of `start_session` say.
use denote.Param.Send.{param_send}
use Rattle.run_core.proofs.sessions.fn.start_session.serving.Goals as goal

pub serve_connection-requires-send-S-Reader : goal.serve_connection-requires-send-S-Reader
serve_connection-requires-send-S-Reader g c κs within = param_send 5 g.row.S-Reader c.requires.1.1.1.1.1.1.1.1.1.1.1.1.1.1.5

pub serve_connection-requires-send-S-Writer : goal.serve_connection-requires-send-S-Writer
serve_connection-requires-send-S-Writer g c κs within = param_send 6 g.row.S-Writer c.requires.1.1.1.1.1.1.1.1.1.1.1.1.1.1.6

-- and so may what they share
pub serve_connection-requires-send-S : goal.serve_connection-requires-send-S
serve_connection-requires-send-S g c κs within = param_send 1 g.row.S c.requires.1.1.1.1.1.1.1.1.1.1.1.1.1.1.1

pub serve_connection-requires-send-G : goal.serve_connection-requires-send-G
serve_connection-requires-send-G g c κs within = param_send 2 g.row.G c.requires.1.1.1.1.1.1.1.1.1.1.1.1.1.1.2

pub serve_connection-requires-send-L : goal.serve_connection-requires-send-L
serve_connection-requires-send-L g c κs within = param_send 3 g.row.L c.requires.1.1.1.1.1.1.1.1.1.1.1.1.1.1.3
