use Rattle.std.proofs.Common.{◌≡◌, None, sym, ◌∙◌, ap, rules}
use Rattle.posix_model.specs.Pages.{unless, decided_by}
use Rattle.posix_model.specs.Link.{link_at}
use Rattle.calls.proofs.link.decide_link.Goals as goal

pub returns-in-Some-clause-page : goal.returns-in-Some-clause-page
returns-in-Some-clause-page g c =
    let w = g.R.WorldReader.world c.args.state.now in
    let page = link_at w c.args.old.now c.args.new.now c.file_of-found.result in
    c.refused.ensures ∙ (ap (λ fault. unless fault page.effect) (sym c.in-Some.is ∙ c.link_fault.ensures) ∙
    ap (λ found. decided_by (link_at w c.args.old.now c.args.new.now found)) (rw c.as_slice.ensures.value at c.file_of-found.ensures))

pub returns-clause-page : goal.returns-clause-page
returns-clause-page g c =
    let w = g.R.WorldReader.world c.args.state.now in
    let page = link_at w c.args.old.now c.args.new.now c.file_of-found.result in
    let free : c.link_fault.result ≡ None = search rules in
    let does : c.does.result ≡ page.effect = search rules in
    does ∙ (ap (λ fault. unless fault page.effect) (sym free ∙ c.link_fault.ensures) ∙
    ap (λ found. decided_by (link_at w c.args.old.now c.args.new.now found)) (rw c.as_slice.ensures.value at c.file_of-found.ensures))
