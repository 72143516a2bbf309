use Rattle.std.proofs.Common.{ℕ, List, Option, Some, sym, subst, ap, ◌∙◌}
use Rattle.session_core.specs.declared.end.End.TheVariants as end
use Rattle.session_core.specs.Refusals.{ServesUnder}
use Rattle.session_core.specs.OutputState.{OutputState}
use Rattle.session_core.specs.Proved.Together.{unserved_by}
use Rattle.session_core.proofs.ServeLemmas as laws
use Rattle.session_core.proofs.serve.serve.Goals as goal

pub returns-in-Err-clause-serves : goal.returns-in-Err-clause-serves
returns-in-Err-clause-serves g c h p =
    let is = laws.unwritten_by c.unserved-served.result (Some (g.R.Read.remaining c.args.reader)) (g.W.Write.contents c.args.writer) c.new-writer.result
    end.NoMemory c.new-writer.ensures c.unserved-served.ensures.is in
    subst (ServesUnder (g.K.Kernel.says h) g.G.Gate.is_open (g.R.Read.remaining c.args.reader) (g.W.Write.contents c.args.writer)) (sym is)
    (laws.unserved (g.K.Kernel.says h) g.G.Gate.is_open (g.R.Read.remaining c.args.reader) (g.W.Write.contents c.args.writer))

pub returns-in-Err-new-clause-serves : goal.returns-in-Err-new-clause-serves
returns-in-Err-new-clause-serves g c h p =
    let is =
    laws.unwritten_by c.unserved-served-in-Err-new.result (Some (g.R.Read.remaining c.args.reader)) (g.W.Write.contents c.in-Err-new.writer)
    c.new-writer-in-Err-new.result end.NoMemory c.new-writer-in-Err-new.ensures c.unserved-served-in-Err-new.ensures.is in
    subst (ServesUnder (g.K.Kernel.says h) g.G.Gate.is_open (g.R.Read.remaining c.args.reader) (g.W.Write.contents c.args.writer))
    (sym (is ∙ ap (λ w. unserved_by (Some (g.R.Read.remaining c.args.reader)) (g.W.Write.contents w) end.NoMemory) c.in-Err-new.ensures.err))
    (laws.unserved (g.K.Kernel.says h) g.G.Gate.is_open (g.R.Read.remaining c.args.reader) (g.W.Write.contents c.args.writer))

pub returns-in-Ok-new-clause-serves : goal.returns-in-Ok-new-clause-serves
returns-in-Ok-new-clause-serves g c h p =
    subst (λ (base : Option (List ℕ)). ServesUnder (g.K.Kernel.says h) g.G.Gate.is_open (g.R.Read.remaining c.args.reader) base c.serve_named.result.0)
    (ap (λ (o : OutputState). o.sink.contents) c.in-Ok-new.ensures.ok) (c.serve_named.ensures.serves h p)
