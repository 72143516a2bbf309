use Rattle.audit_core.proofs.LawLemmas.{text_is_legal, front_is_legal}
use Rattle.audit_core.proofs.laws.fronts_are_legal.Goals as goal

pub returns-clause-text : goal.returns-clause-text
returns-clause-text c = text_is_legal c.headers_are_read.ensures

pub returns-clause-front : goal.returns-clause-front
returns-clause-front c =
    front_is_legal c.no_frame_begins_another.ensures.records c.stops_are_no_frames.ensures.records c.headers_go_on.ensures c.headers_are_read.ensures
