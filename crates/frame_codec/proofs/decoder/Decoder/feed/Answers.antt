use Rattle.frame_codec.proofs.Gathering.{gathered}
use Rattle.frame_codec.proofs.decoder.Decoder.feed.Goals as goal

pub returns-clause-fed : goal.returns-clause-fed
returns-clause-fed g c =
    let all = rw c.in-All.is at c.in_ok-progress.ensures.fed in
    rw (gathered c.new-values.result c.feed_to.new.taker all.0 (λ list. list.items) c.new-values.ensures.items all.2) all.1
