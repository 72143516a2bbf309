use Rattle.std.proofs.Common.{◌≡◌, ◌<◌, ◌∙◌, ◌++◌, List, ℕ, OnOk, arith, subst, sym}
use Rattle.text_forms.proofs.JsonNames.{not_plain}
use Rattle.text_forms.proofs.json.names.put_name_byte.Goals as goal

pub returns-else-is_plain : goal.returns-else-is_plain
returns-else-is_plain c =
    let small : c.args.byte < 256 = omega arith in
    let text = not_plain c.args.byte small (sym c.is_plain.ensures ∙ c.if-is_plain.false) in
    subst (λ (is : List ℕ). OnOk c.put_coded.result (c.put_coded.new.out.items ≡ c.args.out.now.items ++ is)) (sym text) c.put_coded.ensures
