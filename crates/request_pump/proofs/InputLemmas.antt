-- Bytes begin with the requests that they spell.
use Rattle.std.specs.Prelude.{ℕ, List}
use Rattle.call_types.specs.declared.request.Request.{Request}
use Rattle.frame_codec.specs.declared.decoder.Progress.{Progress}
use Rattle.request_pump.specs.Input.{Begins, AreRequests}

pub begins_read : (input : List ℕ) (requests : List Request) (told : Progress) → AreRequests input requests told → Begins input requests
begins_read input requests told h = record { text = h.text; rest = h.rest; is = h.is; frames = h.frames }
