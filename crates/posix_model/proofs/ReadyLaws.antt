-- When the call that a process waits in is ready, where each call waits as in a history.
use Rattle.std.proofs.Common.{◌≡◌, ◌∙◌, ℕ, Bool, true, false, cond, Option, None, Some, length, refl, ap, sym, subst}
use Rattle.std.specs.Option.{option_map, is_some}
use Rattle.slots.specs.Slots.{slot}
use Rattle.process_table.specs.Processes.{is_here, parked_of, table_of}
use Rattle.call_types.specs.declared.call.Call.TheVariants as call
use Rattle.posix_model.specs.Types.{Call, Bounds, World, Decided, Try, Replied, Number}
use Rattle.posix_model.specs.Tries.{read_try, write_try, next_try}
use Rattle.posix_model.specs.Resume.{read_ready, write_ready, open_ready, try_again, try_on, try_opened, try_parked, next_of, resume}
use Rattle.posix_model.specs.Proved.WaitLaws.{WaitsOn}
use Rattle.posix_model.specs.Proved.Waiting.{HasLeft, WaitingReadIsReady, WaitingWriteIsReady, ReadyOpenEnds}
use Rattle.posix_model.specs.declared.change.DataSource.TheVariants as source
use Rattle.posix_model.specs.declared.change.FileEdit.TheVariants as on_files
use Rattle.posix_model.specs.declared.change.Try.TheVariants.{Ends}
use Rattle.posix_model.proofs.WaitLaws.{ready_reads, ready_writes}
use Rattle.posix_model.proofs.Waiting.{number_led}

-- the next try of a call that waits on an end of a pipe
next_is : (bounds : Bounds) (w : World) (p : ℕ) (c : Call) (pipe : ℕ) (on : WaitsOn w p c pipe) → is_here (slot w.processes p) ≡ true →
    next_of bounds w p ≡ try_again bounds w p on.end on.parked pipe c
next_is bounds w p c pipe on here =
    ap (λ b. cond b (try_parked bounds w p (parked_of (slot w.processes p))) None) here ∙
    (ap (try_parked bounds w p) on.waits ∙
    (ap (try_opened bounds w p on.parked) on.end_is ∙
    (ap (try_on bounds w p on.parked on.end) on.pipe_is ∙ ap (try_again bounds w p on.end on.parked pipe) on.call_is)))

some_if : (b : Bool) (x : Try) → is_some (cond b (Some x) None) ≡ b
some_if true x = refl
some_if false x = refl

pub waiting_read_is_ready : WaitingReadIsReady
waiting_read_is_ready bounds w p fd count pipe each on =
    let here = (each p on.parked on.waits).here in
    ap is_some (next_is bounds w p (call.Read fd count) pipe on here) ∙ (some_if (read_ready w pipe) (read_try w pipe count) ∙ ready_reads w pipe count)

pub waiting_write_is_ready : WaitingWriteIsReady
waiting_write_is_ready bounds w p fd bytes pipe each on =
    let well = each p on.parked on.waits in
    let left : HasLeft (call.Write fd bytes) on.parked.moved = subst (λ (c : Call). HasLeft c on.parked.moved) on.call_is well.moved in
    let len = length bytes in
    ap is_some (next_is bounds w p (call.Write fd bytes) pipe on well.here) ∙
    (some_if (write_ready bounds w pipe len) (write_try bounds w pipe (source.Parked p) len on.parked.moved) ∙
    ready_writes bounds w pipe (source.Parked p) len on.parked.moved left.0 left.1)

pub ready_open_ends : ReadyOpenEnds
ready_open_ends bounds w p name flags pipe d on h = by_here (is_here (slot w.processes p)) refl
  where
    of_end : on.end.fd ≡ on.parked.fd
    of_end = (number_led w on.parked.fd (slot (table_of (slot w.processes p)) on.parked.fd) on.end on.end_is).0

    by_ready : (b : Bool) → option_map (next_try p) (cond b (Some (Ends (Number on.end.fd) on_files.Nothing)) None) ≡ Some d →
        d.outcome ≡ Replied (Number on.parked.fd)
    by_ready true k =
        let same : next_try p (Ends (Number on.end.fd) on_files.Nothing) ≡ d = cc in
        ap (λ (x : Decided). x.outcome) (sym same) ∙ ap (λ n. Replied (Number n)) of_end
    by_ready false k = cc

    by_here : (b : Bool) → is_here (slot w.processes p) ≡ b → d.outcome ≡ Replied (Number on.parked.fd)
    by_here true here =
        by_ready (open_ready w on.end pipe on.parked.openings) (ap (option_map (next_try p)) (sym (next_is bounds w p (call.Open name flags) pipe on here)) ∙ h)
    by_here false here =
        let none : resume bounds w p ≡ None = ap (λ b. option_map (next_try p) (cond b (try_parked bounds w p (parked_of (slot w.processes p))) None)) here in
        let bad : ◌≡◌ {A = Option Decided} None (Some d) = sym none ∙ h in
        cc
