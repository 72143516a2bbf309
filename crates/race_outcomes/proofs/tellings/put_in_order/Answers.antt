use Rattle.std.proofs.lemmas.List.Filters.{dedup_is}
use Rattle.std.proofs.lemmas.List.Kept.{Contains-from_dedup}
use Rattle.std.proofs.lemmas.List.Sorted.{Contains-permutation, IsPermutation-sym}
use Rattle.race_outcomes.proofs.TellingLemmas.{texts_kept, texts_rise}
use Rattle.race_outcomes.proofs.tellings.put_in_order.Goals as goal

pub returns : goal.returns
returns c =
    let is = dedup_is _ _ _ c.dedup.ensures.filtered in
    record {
      sound = λ t has. Contains-permutation _ _ t (IsPermutation-sym _ _ c.sort_unstable.ensures.permutation) (Contains-from_dedup _ _ t (rw is at has));
      kept = texts_kept _ _ _ c.sort_unstable.ensures.permutation is;
      rising = texts_rise _ _ c.sort_unstable.ensures.sorted is;
    }
