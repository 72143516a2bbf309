use Rattle.std.proofs.Common.{◌≡◌, ◌+◌, ◌<◌, ◌^◌, ◌++◌, ◌∙◌, length, ap, append_assoc, length-append, arith}
use Rattle.posix_model.specs.Runs.{run_bytes, all_bytes}
use Rattle.posix_model.proofs.runs.append_all.Goals as goal

pub append-requires : goal.append-requires
append-requires c =
    let x = run_bytes c.in-Some.first.now in
    let y = all_bytes c.in-Some.after.now in
    let fits : length c.loop-first.bytes + length (x ++ y) < 2 ^ 63 = rw c.in-Some.ensures.cases.0 at c.loop-first.invariant.fits in
    rw c.span.ensures (omega (arith, fits, length-append x y))

pub loop-first-preserved : goal.loop-first-preserved
loop-first-preserved c =
    let x = run_bytes c.in-Some.first.now in
    let y = all_bytes c.in-Some.after.now in
    let bytes = c.loop-first.bytes in
    let added : c.append.new.self ≡ bytes ++ x = rw c.span.ensures at c.in_ok-append.ensures in
    let whole = rw c.in-Some.ensures.cases.0 at c.loop-first.invariant.bytes in
    let fits : length bytes + length (x ++ y) < 2 ^ 63 = rw c.in-Some.ensures.cases.0 at c.loop-first.invariant.fits in
    let long : length c.append.new.self ≡ length bytes + length x = ap length added ∙ length-append bytes x in
    record {
      bytes = rw added (append_assoc bytes x y ∙ whole);
      fits = omega (arith, fits, long, length-append x y);
    }
