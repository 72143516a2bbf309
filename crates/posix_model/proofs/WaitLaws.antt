-- Who waits, and until when.
use Rattle.std.proofs.Common.{◌≡◌, ℕ, ◌+◌, ◌-◌, ◌<◌, ◌≤◌, Bool, true, false, not, ◌||◌, cond, List, [], Option, None, Some, length, take, refl, arith, rules, eqb, leb}
use Rattle.std.specs.Option.{option_map_or}
use Rattle.std.proofs.lemmas.Bool.Decides.{nat_tests}
use Rattle.slots.specs.Slots.{slot}
use Rattle.call_types.specs.Flags.{has}
use Rattle.call_types.specs.Flags as flag
use Rattle.call_types.specs.Names.{file_of}
use Rattle.call_types.specs.declared.call.Call.TheVariants as call
use Rattle.posix_model.specs.Types.{Call, Bounds, World, Errno, Reply, DataSource, Fifo, OpenFlags, OpenDescriptor, FileEdit, ProcessEdit, TableEdit, Decided, Try, PIPE_BUF, Number, Data, Replied, Error}
use Rattle.posix_model.specs.Pages.{Page, tells, does, acts, refused, decided_by, on_open}
use Rattle.posix_model.specs.Descriptors.{opened, held_in}
use Rattle.posix_model.specs.Pipes.{held_bytes, room_in, has_reader, has_writer, pipe_at, fifo_at}
use Rattle.posix_model.specs.Tries.{read_try, broken, first_try}
use Rattle.posix_model.specs.Open.{open_file, open_found, open_there}
use Rattle.posix_model.specs.Read.{read, read_from}
use Rattle.posix_model.specs.Write.{write, write_to}
use Rattle.posix_model.specs.Step.{decided}
use Rattle.posix_model.specs.Proved.WaitLaws.{is_stuck, ReadyReads, ReadyWrites, is_nonblocking, NonblockNeverWaits}
use Rattle.posix_model.specs.declared.change.FileEdit.TheVariants as on_files
use Rattle.posix_model.specs.declared.change.Try.TheVariants.{Ends, Waits}
use Rattle.posix_model.proofs.PageLaws.{page_has, on_open_has, if_has}

read_ready_at : (pipe count : ℕ) (bytes : List ℕ) (a b : Bool) →
    (a || not b) ≡ not (is_stuck 0 (cond a (Ends (Data (take count bytes)) (on_files.Take pipe count))
    (cond b (Waits 0 on_files.Nothing) (Ends (Data []) on_files.Nothing))))
read_ready_at pipe count bytes true b = refl
read_ready_at pipe count bytes false true = refl
read_ready_at pipe count bytes false false = refl

pub ready_reads : ReadyReads
ready_reads w pipe count = read_ready_at pipe count (held_bytes w pipe) (not (eqb (held_in w pipe) 0)) (has_writer w pipe)

write_ready_at : (s : DataSource) (pipe moved len free : ℕ) (r a b : Bool) → leb (len - moved) free ≡ a → leb len PIPE_BUF ≡ b → moved < len →
    (len ≤ PIPE_BUF → moved ≡ 0) →
    (leb (cond b len 1) free || not r) ≡ not (is_stuck moved
    (cond (not r) (Ends (broken moved) on_files.Nothing) (cond a (Ends (Number (moved + (len - moved))) (on_files.Put pipe s (len - moved)))
    (cond b (Waits moved on_files.Nothing) (Waits (moved + free) (on_files.Put pipe s free))))))
write_ready_at s pipe moved len free false a b e k owed small = elim (leb (cond b len 1) free) as (λ x. (x || true) ≡ true) [ true ↦ refl | false ↦ refl ]
write_ready_at s pipe moved len free true true true e k owed small = grind (arith, nat_tests)
write_ready_at s pipe moved len free true true false e k owed small = grind (arith, nat_tests)
write_ready_at s pipe moved len free true false true e k owed small = grind (arith, nat_tests)
write_ready_at s pipe moved len free true false false e k owed small = grind (arith, nat_tests)

pub ready_writes : ReadyWrites
ready_writes bounds w pipe s len moved owed small =
    write_ready_at s pipe moved len (room_in bounds w pipe) (has_reader w pipe) (leb (len - moved) (room_in bounds w pipe))
    (leb len PIPE_BUF) refl refl owed small

-- what is decided ends with a reply
record EndsInReply (d : Decided) : Type 0 where
  reply : Reply
  is : d.outcome ≡ Replied reply

ends_tells : (reply : Reply) → EndsInReply (tells reply)
ends_tells reply = record { reply = reply; is = refl }

ends_does : (reply : Reply) (files : FileEdit) (table : TableEdit) → EndsInReply (does reply files table)
ends_does reply files table = record { reply = reply; is = refl }

ends_acts : (reply : Reply) (process : ProcessEdit) → EndsInReply (acts reply process)
ends_acts reply process = record { reply = reply; is = refl }

ends_if : (b : Bool) (d e : Decided) → EndsInReply d → EndsInReply e → EndsInReply (cond b d e)
ends_if b d e h k = if_has EndsInReply b d e (λ _. h) (λ _. k)

ends_refused : (error : Errno) → EndsInReply (refused error)
ends_refused error = ends_tells (Error error)

ends_page : (page : Page) → EndsInReply page.effect → EndsInReply (decided_by page)
ends_page page h = page_has EndsInReply page ends_refused (λ _. h)

ends_on_open : (x : Option OpenDescriptor) (page : OpenDescriptor → Page) → ((o : OpenDescriptor) → EndsInReply (page o).effect) → EndsInReply (on_open x page)
ends_on_open x page all = on_open_has EndsInReply x page ends_refused (λ o _ _. all o)

-- what is decided of calls that never wait is made of
ruleset end_rules = (ends_tells, ends_does, ends_acts, ends_if, ends_page, ends_on_open)

-- a first try under nonblock ends
first_ends : (p : ℕ) (c : Call) (o : OpenDescriptor) (t : Try) → o.description.nonblock ≡ true → EndsInReply (first_try p c o t)
first_ends p c o (Ends reply edit) h = ends_does reply edit _
first_ends p c o (Waits moved edit) h = rw h (ends_if (eqb moved 0) _ _ (ends_refused _) (ends_does (Number moved) edit _))

read_ends : (w : World) (p : ℕ) (c : Call) (count : ℕ) (o : OpenDescriptor) (x : Option ℕ) → o.description.nonblock ≡ true →
    EndsInReply (read_from w p c count o x)
read_ends w p c count o None h = search (rules, end_rules)
read_ends w p c count o (Some pipe) h = ends_if (eqb count 0) _ _ (ends_tells (Data [])) (first_ends p c o (read_try w pipe count) h)

write_ends : (bounds : Bounds) (w : World) (p : ℕ) (c : Call) (start : ℕ) (new : List ℕ) (o : OpenDescriptor) (x : Option ℕ) → o.description.nonblock ≡ true →
    EndsInReply (write_to bounds w p c start new o x)
write_ends bounds w p c start new o None h = search (rules, end_rules)
write_ends bounds w p c start new o (Some pipe) h = ends_if (eqb (length new) 0) _ _ (ends_tells (Number 0)) (first_ends p c o _ h)

open_ends : (w : World) (p : ℕ) (name : List ℕ) (flags : OpenFlags) (found : Option ℕ) → has flags flag.nonblocking ≡ true →
    EndsInReply (open_found w p name flags found)
open_ends w p name flags None h = search (rules, end_rules)
open_ends w p name flags (Some number) h = at (fifo_at (slot w.files number))
  where
    at : (x : Option Fifo) → EndsInReply (open_there w p name flags number x)
    at None = search (rules, end_rules)
    at (Some fifo) = rw h (ends_does _ _ _)

-- a call on an open descriptor whose description is under nonblock
ends_under : (x : Option OpenDescriptor) (page : OpenDescriptor → Page) → option_map_or (λ (o : OpenDescriptor). o.description.nonblock) x true ≡ true →
    ((o : OpenDescriptor) → o.description.nonblock ≡ true → EndsInReply (page o).effect) → EndsInReply (on_open x page)
ends_under None page h all = ends_refused _
ends_under (Some o) page h all = ends_page (page o) (all o h)

nonblock_ends : (bounds : Bounds) (w : World) (p : ℕ) (c : Call) → is_nonblocking w p c ≡ true → EndsInReply (decided bounds w p c)
nonblock_ends bounds w p (call.Open name flags) h = ends_page (open_file w p name flags) (open_ends w p name flags (file_of name w.names) h)
nonblock_ends bounds w p (call.Read fd count) h =
    ends_under (opened w p fd) (read w p (call.Read fd count) count) h
    (λ o under. read_ends w p (call.Read fd count) count o (pipe_at o.description.target) under)
nonblock_ends bounds w p (call.Write fd new) h =
    ends_under (opened w p fd) (write bounds w p (call.Write fd new) new) h (λ o under. write_ends bounds w p (call.Write fd new) _ new o
    (pipe_at o.description.target) under)
nonblock_ends bounds w p other h = search (rules, end_rules)

pub nonblock_never_waits : NonblockNeverWaits
nonblock_never_waits bounds w p c moved h waits = let e = nonblock_ends bounds w p c h in let is = e.is in cc
