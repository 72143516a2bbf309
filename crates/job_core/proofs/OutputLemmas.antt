-- A front of a text that was written.
use Rattle.std.proofs.Common.{ℕ, ◌+◌, ◌*◌, ◌≤◌, List, take, drop, sym, arith, take-append-drop}
use Rattle.std.proofs.lemmas.List.{length-take}
use Rattle.logged_streams.specs.Streams.{IsBroken, LoggedWriterState, WritesFront}
use Rattle.job_core.specs.Output.{AppendsFront}

pub front_written : (old new : LoggedWriterState) (text : List ℕ) (count : ℕ) → WritesFront old.contents new.contents text count → IsBroken new.log →
    new.log.calls ≤ old.log.calls + 16 * (count + 1) → AppendsFront old new text
front_written old new text count w broken few = record {
  front = take count text;
  rest = drop count text;
  is = sym (take-append-drop count text);
  appends = w.appends;
  broken = broken;
  few = omega (arith, length-take count text, w.within, few);
}
