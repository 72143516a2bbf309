use Rattle.std.proofs.Common.{◌≡◌, [], append-nil, true, sym, subst}
use Rattle.rtrb.specs.Ring.{received}
use Rattle.session_core.specs.Answering.{AnsweredState, AnswersRing, IsShutAtItsEnd}
use Rattle.session_core.proofs.AnswerLemmas.{answers_ring, shut_at_its_end}
use Rattle.session_core.proofs.DeskLemmas.{fresh_stands}
use Rattle.session_core.proofs.answer.answer.Goals as goal

pub returns-clause-answers : goal.returns-clause-answers
returns-clause-answers g c h p =
    let base = g.W.Write.contents c.args.writer in
    let fresh = fresh_stands (g.K.Kernel.says h) base (received c.args.ring) c.in-Ok.output c.args.admission c.requires.fresh c.in-Ok.ensures.ok in
    let let_through = λ (always : g.G.Gate.is_open ≡ true). subst (λ (s : AnsweredState). s.writer.log.refusals ≡ 0) c.answered_by.ensures.is
    (c.answered_by.ensures.let_through always) in
    subst (AnswersRing (g.K.Kernel.says h) g.G.Gate.is_open base) (sym c.answered_by.ensures.is)
    (answers_ring (g.K.Kernel.says h) g.W.Connection.was_shut g.G.Gate.is_open base c.answer_all-standing.new.output c.answer_all-standing.new.ring
    c.answer_all-standing.result (c.answer_all-standing.ensures.stands h p base fresh) c.answer_all-standing.ensures.rests let_through)

pub returns-clause-shut : goal.returns-clause-shut
returns-clause-shut g c =
    let h = c.answer_all-standing.new.front in
    let base = g.W.Write.contents c.args.writer in
    let fresh = fresh_stands (g.K.Kernel.says h) base (received c.args.ring) c.in-Ok.output c.args.admission c.requires.fresh c.in-Ok.ensures.ok in
    subst (λ (s : AnsweredState). IsShutAtItsEnd g.W.Connection.was_shut s.writer s.end_is) (sym c.answered_by.ensures.is)
    (shut_at_its_end (g.K.Kernel.says h) g.W.Connection.was_shut base (received c.answer_all-standing.new.ring) c.answer_all-standing.new.output
    c.answer_all-standing.result (c.answer_all-standing.ensures.stands h ([], append-nil h) base fresh))
