use Rattle.text_forms.specs.Scripts.{strung_line}
use Rattle.text_forms.proofs.ScriptLines.{line_on, line_last}
use Rattle.text_forms.proofs.scripts.write_strung.Goals as goal

pub loop-line-preserved : goal.loop-line-preserved
loop-line-preserved c =
    line_on (strung_line c.args.kind) c.loop-line.out.items c.put_strung_line.new.out.items c.push.new.self.items
    c.loop-line.left.now c.in-Some.line.now c.in-Some.rest.now _
    c.in-Some.ensures.value c.in_ok-put_strung_line.ensures c.in_ok-push.ensures.items c.loop-line.invariant

pub returns : goal.returns
returns c =
    line_last c.put_strung_line-2.result (strung_line c.args.kind) c.loop-line.out.items c.put_strung_line-2.new.out.items c.loop-line.left.now _
    c.in_default.ensures.value c.loop-line.invariant c.put_strung_line-2.ensures
