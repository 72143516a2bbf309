use Rattle.std.proofs.Common.{◌≡◌, ◌-◌, ◌∙◌, length, ap}
use Rattle.call_types.specs.Stored.{span_bytes}
use Rattle.posix_model.specs.Bytes.{bytes_at}
use Rattle.posix_model.specs.Runs.{run_bytes, all_bytes}
use Rattle.posix_model.proofs.RunLaws.{next_part, next_fits}
use Rattle.posix_model.proofs.runs.append_part.Goals as goal

pub loop-first-preserved : goal.loop-first-preserved
loop-first-preserved c =
    let x = run_bytes c.in-Some.first.now in
    let y = all_bytes c.in-Some.after.now in
    let file = c.loop-first.file in
    let skip = c.loop-first.skip in
    let left = c.loop-first.left in
    let here = span_bytes c.cut-here.result in
    let part : here ≡ bytes_at x skip left = rw c.span-all.ensures at c.cut-here.ensures in
    let fewer : left - c.len-left.result ≡ left - length here = ap (λ k. left - k) c.len-left.ensures in
    let skipped : c.saturating_sub-skip.result ≡ skip - length x = c.saturating_sub-skip.ensures ∙
    ap (λ k. skip - k) (c.len.ensures ∙ ap length c.span-all.ensures) in
    record {
      bytes = next_part file c.append.new.self here x y _ skip left _ _ (rw c.in-Some.ensures.cases.0 at c.loop-first.invariant.bytes) part
          c.in_ok-append.ensures skipped fewer;
      fits = next_fits file c.append.new.self here x skip left _ _ c.loop-first.invariant.fits part c.in_ok-append.ensures fewer;
    }
