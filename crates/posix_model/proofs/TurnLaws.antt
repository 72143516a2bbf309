-- What is recorded of a call at once, and of its resumes.
use Rattle.std.proofs.Common.{◌≡◌, ℕ, Bool, true, false, ◌||◌, cond, List, [], Option, None, Some, length, subst, rules, eqb}
use Rattle.std.specs.Option.{option_map}
use Rattle.slots.specs.Slots.{slot}
use Rattle.call_types.specs.Flags.{has}
use Rattle.call_types.specs.Flags as flag
use Rattle.call_types.specs.Names.{file_of}
use Rattle.call_types.specs.declared.call.Call.TheVariants as call
use Rattle.posix_model.specs.Types.{Call, Bounds, World, Errno, Reply, Parked, Fifo, OpenFlags, OpenDescriptor, FileEdit, ProcessEdit, TableEdit, Decided, Try, Number, Data, Error}
use Rattle.posix_model.specs.Pages.{Page, tells, does, acts, refused, decided_by, on_open}
use Rattle.posix_model.specs.Descriptors.{opened}
use Rattle.posix_model.specs.Pipes.{pipe_at, fifo_at, is_met, opposite_openings}
use Rattle.posix_model.specs.Tries.{read_try, waiting, parks, first_try, next_try}
use Rattle.posix_model.specs.Open.{open_file, open_found, open_there, opens_end, free_descriptor, mode_of}
use Rattle.posix_model.specs.Read.{read, read_from}
use Rattle.posix_model.specs.Write.{write, write_to}
use Rattle.posix_model.specs.Resume.{next_of}
use Rattle.posix_model.specs.Step.{Stepped, decided, stepped, can_call, EndsOrWaits, EndsOrGoesOn}
use Rattle.posix_model.specs.Proved.WaitLaws.{CallsEndOrWait, ResumesEndOrGoOn}
use Rattle.posix_model.specs.declared.change.TableEdit.TheVariants as on_table
use Rattle.posix_model.specs.declared.change.Try.TheVariants.{Ends, Waits}
use Rattle.posix_model.proofs.PageLaws.{page_has, on_open_has, if_has}

-- what is decided is a reply, or that the call waits
record First (d : Decided) : Type 0 where
  is : EndsOrWaits d.outcome

first_tells : (reply : Reply) → First (tells reply)
first_tells reply = record { is = tt }

first_does : (reply : Reply) (files : FileEdit) (table : TableEdit) → First (does reply files table)
first_does reply files table = record { is = tt }

first_acts : (reply : Reply) (process : ProcessEdit) → First (acts reply process)
first_acts reply process = record { is = tt }

first_parks : (p : ℕ) (parked : Parked) (d : Decided) → First (parks p parked d)
first_parks p parked d = record { is = tt }

first_if : (b : Bool) (d e : Decided) → First d → First e → First (cond b d e)
first_if b d e h k = if_has First b d e (λ _. h) (λ _. k)

first_refused : (error : Errno) → First (refused error)
first_refused error = first_tells (Error error)

first_page : (page : Page) → First page.effect → First (decided_by page)
first_page page h = page_has First page first_refused (λ _. h)

first_on_open : (x : Option OpenDescriptor) (page : OpenDescriptor → Page) → ((o : OpenDescriptor) → First (page o).effect) → First (on_open x page)
first_on_open x page all = on_open_has First x page first_refused (λ o _ _. all o)

-- what is decided of calls that never wait is made of
ruleset first_rules = (first_tells, first_does, first_acts, first_if, first_page, first_on_open)

-- a first try
first_tried : (p : ℕ) (c : Call) (o : OpenDescriptor) (t : Try) → First (first_try p c o t)
first_tried p c o (Ends reply edit) = first_does reply edit _
first_tried p c o (Waits moved edit) =
    first_if o.description.nonblock _ _ (first_if (eqb moved 0) _ _ (first_refused _) (first_does (Number moved) edit _))
    (first_parks p (waiting c o.fd moved 0) (does (Number moved) edit on_table.Nothing))

first_read : (w : World) (p : ℕ) (c : Call) (count : ℕ) (o : OpenDescriptor) (x : Option ℕ) → First (read_from w p c count o x)
first_read w p c count o None = search (rules, first_rules)
first_read w p c count o (Some pipe) = first_if (eqb count 0) _ _ (first_tells (Data [])) (first_tried p c o (read_try w pipe count))

first_written : (bounds : Bounds) (w : World) (p : ℕ) (c : Call) (start : ℕ) (new : List ℕ) (o : OpenDescriptor) (x : Option ℕ) →
    First (write_to bounds w p c start new o x)
first_written bounds w p c start new o None = search (rules, first_rules)
first_written bounds w p c start new o (Some pipe) = first_if (eqb (length new) 0) _ _ (first_tells (Number 0)) (first_tried p c o _)

first_opened : (w : World) (p : ℕ) (name : List ℕ) (flags : OpenFlags) (found : Option ℕ) → First (open_found w p name flags found)
first_opened w p name flags None = search (rules, first_rules)
first_opened w p name flags (Some number) = at (fifo_at (slot w.files number))
  where
    at : (x : Option Fifo) → First (open_there w p name flags number x)
    at None = search (rules, first_rules)
    at (Some fifo) =
        let opens_it = opens_end w p flags number fifo in
        let waits = waiting (call.Open name flags) (free_descriptor w p) 0 (opposite_openings (mode_of flags) (Some fifo)) in
        first_if (has flags flag.nonblocking || is_met w (mode_of flags) fifo) opens_it (parks p waits opens_it) (record { is = tt })
        (first_parks p waits opens_it)

first_call : (bounds : Bounds) (w : World) (p : ℕ) (c : Call) → First (decided bounds w p c)
first_call bounds w p (call.Open name flags) = first_page (open_file w p name flags) (first_opened w p name flags (file_of name w.names))
first_call bounds w p (call.Read fd count) =
    first_on_open (opened w p fd) (read w p (call.Read fd count) count) (λ o. first_read w p (call.Read fd count) count o (pipe_at o.description.target))
first_call bounds w p (call.Write fd new) =
    first_on_open (opened w p fd) (write bounds w p (call.Write fd new) new)
    (λ o. first_written bounds w p (call.Write fd new) _ new o (pipe_at o.description.target))
first_call bounds w p other = search (rules, first_rules)

-- what is decided is recorded
abbrev given : Stepped → Option Stepped
given s = Some s

same : (s t : Stepped) → given s ≡ given t → s ≡ t
same s t e = cc

call_recorded : (b : Bool) (w : World) (bytes : List ℕ) (d : Decided) (s : Stepped) → First d → option_map (stepped w bytes) (cond b (Some d) None) ≡ Some s →
    EndsOrWaits s.outcome
call_recorded true w bytes d s h e = subst (λ (t : Stepped). EndsOrWaits t.outcome) (same (stepped w bytes d) s e) h.is
call_recorded false w bytes d s h e = absurd cc

pub calls_end_or_wait : CallsEndOrWait
calls_end_or_wait bounds w p c s e = call_recorded (can_call (slot w.processes p)) w _ (decided bounds w p c) s (first_call bounds w p c) e

resume_recorded : (w : World) (p : ℕ) (x : Option Try) (s : Stepped) → option_map (stepped w []) (option_map (next_try p) x) ≡ Some s → EndsOrGoesOn s.outcome
resume_recorded w p None s e = absurd cc
resume_recorded w p (Some (Ends reply edit)) s e = subst (λ (t : Stepped). EndsOrGoesOn t.outcome) (same (stepped w [] (next_try p (Ends reply edit))) s e) tt
resume_recorded w p (Some (Waits moved edit)) s e = subst (λ (t : Stepped). EndsOrGoesOn t.outcome) (same (stepped w [] (next_try p (Waits moved edit))) s e) tt

pub resumes_end_or_go_on : ResumesEndOrGoOn
resumes_end_or_go_on bounds w p s e = resume_recorded w p (next_of bounds w p) s e
