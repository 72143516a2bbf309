use Rattle.std.proofs.Common.{◌∙◌, sym}
use Rattle.slots.proofs.KeyLaws.{told_same}
use Rattle.slots.proofs.keyed.hits.Goals as goal

pub returns-in-Some : goal.returns-in-Some
returns-in-Some g c = λ told. record {
  entry = c.in-Some.entry.now;
  there = sym c.in-Some.ensures;
  number =
      told_same c.in-Some.entry.now.number c.number.result told ∙ c.number.ensures;
}
