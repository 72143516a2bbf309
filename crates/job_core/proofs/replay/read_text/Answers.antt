use Rattle.std.proofs.Common.{inl, inr, refl}
use Rattle.job_core.proofs.RaceLemmas as races
use Rattle.job_core.proofs.ReplayLemmas as laws
use Rattle.job_core.proofs.replay.read_text.Goals as goal

pub returns-in-AtEnd-clause-text : goal.returns-in-AtEnd-clause-text
returns-in-AtEnd-clause-text g c how =
    let r = c.in-AtEnd.ensures.reads in
    laws.read_of how c.args.reader.now.remaining c.read_all.new.taker.bytes.items
    (laws.text_read c.args.reader.now.remaining c.read_all.new.reader.remaining c.read_all.new.taker.bytes.items r.input r.consumes r.ends.0 r.ends.2)

pub returns-in-AtEnd-clause-whole : goal.returns-in-AtEnd-clause-whole
returns-in-AtEnd-clause-whole g c =
    let r = c.in-AtEnd.ensures.reads in
    laws.whole_of c.args.reader.now.remaining c.read_all.new.taker.bytes.items
    (laws.text_read c.args.reader.now.remaining c.read_all.new.reader.remaining c.read_all.new.taker.bytes.items r.input r.consumes r.ends.0 r.ends.2)

pub returns-in-AtEnd-clause-sound : goal.returns-in-AtEnd-clause-sound
returns-in-AtEnd-clause-sound g c = c.in-AtEnd.ensures.reads.ends.1

pub returns-in-CannotRead-clause-fault : goal.returns-in-CannotRead-clause-fault
returns-in-CannotRead-clause-fault g c = inl (refl, c.in-CannotRead.ensures.reads.ends.0)

pub returns-in-TooLong-clause-text : goal.returns-in-TooLong-clause-text
returns-in-TooLong-clause-text g c how =
    let r = rw c.in-TooLong.is at c.in-Told.ensures.reads in
    laws.read_of_front how c.args.reader.now.remaining c.read_all.new.reader.remaining c.read_all.new.taker.bytes.items r.input r.consumes r.ends.1.0 r.ends.1.1

pub returns-in-TooLong-clause-whole : goal.returns-in-TooLong-clause-whole
returns-in-TooLong-clause-whole g c =
    let r = rw c.in-TooLong.is at c.in-Told.ensures.reads in
    laws.too_long c.args.reader.now.remaining c.read_all.new.taker.bytes.items r.ends.1.1

pub returns-in-TooLong-clause-sound : goal.returns-in-TooLong-clause-sound
returns-in-TooLong-clause-sound g c = c.in-Told.ensures.reads.ends.0

pub returns-clause-fault : goal.returns-clause-fault
returns-clause-fault g c = inr (refl, c.in-Told.ensures.reads.ends.0)

pub returns-in-AtEnd-clause-race : goal.returns-in-AtEnd-clause-race
returns-in-AtEnd-clause-race g c =
    let r = c.in-AtEnd.ensures.reads in
    races.race_of c.args.reader.now.remaining c.read_all.new.taker.bytes.items
    (laws.text_read c.args.reader.now.remaining c.read_all.new.reader.remaining c.read_all.new.taker.bytes.items r.input r.consumes r.ends.0 r.ends.2)

pub returns-in-TooLong-clause-race : goal.returns-in-TooLong-clause-race
returns-in-TooLong-clause-race g c =
    let r = rw c.in-TooLong.is at c.in-Told.ensures.reads in
    races.race_of_front c.args.reader.now.remaining c.read_all.new.reader.remaining c.read_all.new.taker.bytes.items r.input r.consumes r.ends.1.0 r.ends.1.1
