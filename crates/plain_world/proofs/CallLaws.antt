-- What calls on an open descriptor do.
use Rattle.std.proofs.Common.{rules, ◌≡◌, ◌≢◌, ℕ, zero, suc, ◌+◌, ℤ, pos, negsuc, nat_abs, ◌+ℤ◌, ◌∙◌, ◌-◌, ◌&&◌, ◌⊎◌, inl, inr, Bool, true, false, not, cond, List, [], ◌∷◌, ◌++◌, Option, None, Some, length, set, take, refl, ap, sym, subst, append-nil, arith, eqb, leb}
use Rattle.std.proofs.Math.Dec.{eqb-suc-zero}
use Rattle.std.proofs.Math.Seq.{take-nil}
use Rattle.std.proofs.Math.IntN.{+ℤ_idl}
use Rattle.std.proofs.lemmas.Bool.Decides.{nat_tests}
use Rattle.std.proofs.lemmas.List.{get_or-set_other}
use Rattle.std.specs.Option.{unwrap_or, option_map, is_some}
use Rattle.call_types.specs.declared.act.Act.TheVariants as act
use Rattle.call_types.specs.declared.call.Call.TheVariants as call
use Rattle.call_types.specs.declared.whence.Whence.{Whence}
use Rattle.call_types.specs.declared.whence.Whence.TheVariants.{Set, Cur, End}
use Rattle.posix_model.specs.Bytes.{splice, resized, bytes_at}
use Rattle.slots.specs.Slots.{slot, edited}
use Rattle.posix_model.specs.Positions.{bytes_before, regular_file, is_regular, file_at}
use Rattle.call_types.specs.Descriptions.{at_offset, can_read, can_write}
use Rattle.posix_model.specs.Descriptors.{opened, opened_number, opened_description, file_bytes, bytes_of}
use Rattle.posix_model.specs.Change.{with_files, changed}
use Rattle.posix_model.specs.Proved.Whole.{is_regular_file}
use Rattle.posix_model.specs.Pages.{first_fault, tells, does, on_open}
use Rattle.posix_model.specs.Read.{gives, read_from, read}
use Rattle.posix_model.specs.Write.{is_past_limit, fitting, puts, write_start, write_to, write}
use Rattle.posix_model.specs.Pread.{pread}
use Rattle.posix_model.specs.Pwrite.{pwrite}
use Rattle.posix_model.specs.Lseek.{base_of, lseek_faults, lseek}
use Rattle.posix_model.specs.Ftruncate.{ftruncate}
use Rattle.posix_model.specs.Step.{given, decided}
use Rattle.posix_model.specs.Proved.Sound.{opens_fifo, CallsAreSound, ActsAreSound}
use Rattle.posix_model.specs.Pipes.{pipe_at}
use Rattle.posix_model.specs.Types.{Data}
use Rattle.plain_world.specs.Proved.Types.{Errno, Bounds, World, File, Target, OpenDescriptor, TableEdit, Decided, EBADF, EINVAL, EFBIG, Replied, Number, Done}
use Rattle.posix_model.specs.declared.world.File.TheVariants as file
use Rattle.call_types.specs.declared.description.Target.TheVariants as target
use Rattle.posix_model.specs.declared.change.FileEdit.TheVariants as on_files
use Rattle.posix_model.specs.declared.change.TableEdit.TheVariants as on_table
use Rattle.call_types.specs.declared.description.DescriptionEdit.TheVariants as on_description
use Rattle.plain_world.specs.Proved.FileLaws.{OpenOn, WritePuts, PwritePuts, WriteMoves, WriteTakesAll, WriteAppends, IsRead, ReadGives, PreadGives, ReadMoves, SeekTells, SeekMoves, PreadKeepsWorld, NothingRead, NothingWritten, NothingPwritten, PwriteKeepsOffsets, with_append, with_appending, PwriteSameUnderAppend, OwnFileAlone, FilesStay, PipesStay, ActsLeaveFiles, ActsLeavePipes, FtruncateLeavesResized, FtruncateKeepsOffsets}
use Rattle.plain_world.specs.Proved.Calls.{IsNoError}
use Rattle.plain_world.specs.Proved.DescriptorLaws.{AccessIsNeeded}
use Rattle.posix_model.proofs.PageLaws.{if_has}
use Rattle.plain_world.proofs.PageLemmas.{on_open_has, opened_has}
use Rattle.plain_world.proofs.ChangeLemmas.{files_after_table, same_files, files_same, pipes_same}
use Rattle.plain_world.proofs.BytesLaws.{added_at_end, is_read}
use Rattle.plain_world.proofs.OpenedLemmas.{opened_stands}
use Rattle.posix_model.proofs.SlotLaws.{slot_set_there}
use Rattle.plain_world.proofs.SlotLemmas.{slot_edited}

pub pread_keeps_world : PreadKeepsWorld
pread_keeps_world bounds w process fd start count = on_open_has (λ d. changed w [] d.change ≡ w) (opened w process fd) (pread w start count) (λ _. refl)
    (λ _ _. refl)

pub nothing_read : NothingRead
nothing_read bounds w process fd =
    let c = call.Read fd 0 in
    on_open_has (λ d. changed w [] d.change ≡ w) (opened w process fd) (read w process c 0) (λ _. refl)
    (λ o _. elim (pipe_at o.description.target) as (λ on. changed w [] (read_from w process c 0 o on).change ≡ w) [ None ↦ refl | Some pipe ↦ refl ])

pub nothing_is_written : NothingWritten
nothing_is_written bounds w process fd =
    let c = call.Write fd [] in
    on_open_has (λ d. changed w [] d.change ≡ w) (opened w process fd) (write bounds w process c []) (λ _. refl)
    (λ o _. elim (pipe_at o.description.target) as (λ on. changed w []
    (write_to bounds w process c (write_start o.description (length (bytes_of w (file_at o)))) [] o on).change ≡ w) [
      | None ↦ refl
      | Some pipe ↦ refl
    ])

pub nothing_pwritten : NothingPwritten
nothing_pwritten bounds w process fd start = on_open_has (λ d. changed w [] d.change ≡ w) (opened w process fd) (pwrite bounds start []) (λ _. refl)
    (λ _ _. refl)

pub pwrite_keeps_offsets : PwriteKeepsOffsets
pwrite_keeps_offsets bounds w process fd start bytes =
    let Same : Decided → Type 0 = λ d. (changed w bytes d.change).descriptions ≡ w.descriptions in
    let n = fitting bounds (bytes_before start) bytes in
    on_open_has Same (opened w process fd) (pwrite bounds start bytes) (λ _. refl)
    (λ o _. if_has Same (eqb (length bytes) 0) (tells (Number 0)) (does (Number n) (on_files.Bytes (file_at o) (bytes_before start) n) on_table.Nothing)
    (λ _. refl) (λ _. refl))

pub ftruncate_keeps_offsets : FtruncateKeepsOffsets
ftruncate_keeps_offsets bounds w process fd len = on_open_has (λ d. (changed w [] d.change).descriptions ≡ w.descriptions) (opened w process fd)
    (ftruncate bounds len) (λ _. refl) (λ _ _. refl)

pub files_stay : CallsAreSound → FilesStay
files_stay sound bounds w process c other = files_same w (given (act.Call c)) (decided bounds w process c).change ((sound bounds w process c).files other)

pub pipes_stay : CallsAreSound → PipesStay
pipes_stay sound bounds w process c other = pipes_same w (given (act.Call c)) (decided bounds w process c).change ((sound bounds w process c).pipes other)

pub acts_leave_files : ActsAreSound → ActsLeaveFiles
acts_leave_files sound bounds w actor act d is other = files_same w (given act) d.change ((sound bounds w actor act d is).files other)

pub acts_leave_pipes : ActsAreSound → ActsLeavePipes
acts_leave_pipes sound bounds w actor act d is other = pipes_same w (given act) d.change ((sound bounds w actor act d is).pipes other)

-- the bytes of a regular file that is written
bytes_set : (files : List (Option File)) (n : ℕ) (bytes : List ℕ) → is_regular_file (slot files n) ≡ true →
    file_bytes (slot (set files n (Some (file.Regular bytes))) n) ≡ bytes
bytes_set [] n bytes there = cc
bytes_set (f ∷ files) zero bytes there = refl
bytes_set (f ∷ files) (suc n) bytes there = bytes_set files n bytes there

-- some bytes are not none
not_none : (bytes : List ℕ) → bytes ≢ [] → eqb (length bytes) 0 ≡ false
not_none [] some = absurd (some refl)
not_none (b ∷ bytes) some = eqb-suc-zero (length bytes)

-- what a decided write of some bytes that tells a number leaves in a file
abbrev Leaves : World → List ℕ → ℕ → ℕ → ℕ → Decided → Type 0
Leaves w bytes f start n d = d.outcome ≡ Replied (Number n) → bytes_of (changed w bytes d.change) f ≡ splice (bytes_of w f) start (take n bytes)

puts_leave : (w : World) (f start count : ℕ) (moved : TableEdit) (n : ℕ) (bytes : List ℕ) → opens_fifo moved ≡ false → bytes ≢ [] →
    is_regular_file (slot w.files f) ≡ true →
    Leaves w bytes f start n (puts bytes f start count moved)
puts_leave w f start count moved n bytes none some there =
    subst (λ empty. Leaves w bytes f start n (cond empty (tells (Number 0)) (does (Number count) (on_files.Bytes f start count) moved)))
    (sym (not_none bytes some))
    (λ told.
    let same : count ≡ n = cc in
    ap (λ fs. file_bytes (slot fs f)) (files_after_table (with_files w bytes (on_files.Bytes f start count)) moved none).files ∙
    (bytes_set w.files f (splice (bytes_of w f) start (take count bytes)) there ∙ ap (λ k. splice (bytes_of w f) start (take k bytes)) same))

-- the file of an open descriptor
file_is : (w : World) (process : ℕ) (fd : ℤ) (o : OpenDescriptor) (f : ℕ) → OpenOn w process fd o f → file_at o ≡ f
file_is w process fd o f is = ap (λ t. unwrap_or (regular_file t) 0) is.target_is

-- and it is no pipe
no_pipe : (w : World) (process : ℕ) (fd : ℤ) (o : OpenDescriptor) (f : ℕ) → OpenOn w process fd o f → pipe_at o.description.target ≡ None
no_pipe w process fd o f is = ap pipe_at is.target_is

pub write_puts : WritePuts
write_puts bounds w process fd bytes o f n is some told =
    let start : ℕ → ℕ = λ g. write_start o.description (length (bytes_of w g)) in
    let count = fitting bounds (start f) bytes in
    let Puts : ℕ → Type 0 = λ g. let count = fitting bounds (start g) bytes in
    Leaves w bytes f (start f) n (puts bytes g (start g) count (on_table.Describe o.number (on_description.Offset (start g + count)))) in
    let c = call.Write fd bytes in
    let Ends : Option ℕ → Type 0 = λ on. Leaves w bytes f (start f) n (write_to bounds w process c (start (file_at o)) bytes o on) in
    opened_has (Leaves w bytes f (start f) n) (opened w process fd) o (write bounds w process c bytes) is.opened_is (λ error refused. cc)
    (λ _. subst Ends (sym (no_pipe w process fd o f is))
    (subst Puts (sym (file_is w process fd o f is)) (puts_leave w f (start f) count (on_table.Describe o.number (on_description.Offset (start f + count))) n
    bytes refl some is.there))) told

-- what a decided write of some bytes that tells a number leaves of the description of its descriptor
abbrev LeavesAfter : World → List ℕ → OpenDescriptor → ℕ → ℕ → Decided → Type 0
LeavesAfter w bytes o start n d = d.outcome ≡ Replied (Number n) → slot (changed w bytes d.change).descriptions o.number ≡ Some
    (at_offset (start + n) o.description)

-- the description of an open descriptor, with another offset
offset_edited : (w : World) (o : OpenDescriptor) (to : ℕ) → slot w.descriptions o.number ≡ Some o.description →
    slot (edited o.number (at_offset to) w.descriptions) o.number ≡ Some (at_offset to o.description)
offset_edited w o to there = slot_edited w.descriptions o.number (at_offset to) ∙ ap (option_map (at_offset to)) there

puts_leave_after : (w : World) (o : OpenDescriptor) (f start count n : ℕ) (bytes : List ℕ) → slot w.descriptions o.number ≡ Some o.description → bytes ≢ [] →
    LeavesAfter w bytes o start n (puts bytes f start count (on_table.Describe o.number (on_description.Offset (start + count))))
puts_leave_after w o f start count n bytes there some =
    subst (λ empty. LeavesAfter w bytes o start n (cond empty (tells (Number 0))
    (does (Number count) (on_files.Bytes f start count) (on_table.Describe o.number (on_description.Offset (start + count)))))) (sym (not_none bytes some))
    (λ told. let same : count ≡ n = cc in offset_edited w o (start + count) there ∙ ap (λ k. Some (at_offset (start + k) o.description)) same)

pub write_moves : WriteMoves
write_moves bounds w process fd bytes o f n is some told =
    let start : ℕ → ℕ = λ g. write_start o.description (length (bytes_of w g)) in
    let Puts : ℕ → Type 0 = λ g. let count = fitting bounds (start g) bytes in
    LeavesAfter w bytes o (start f) n (puts bytes g (start g) count (on_table.Describe o.number (on_description.Offset (start g + count)))) in
    let c = call.Write fd bytes in
    let Ends : Option ℕ → Type 0 = λ on. LeavesAfter w bytes o (start f) n (write_to bounds w process c (start (file_at o)) bytes o on) in
    opened_has (LeavesAfter w bytes o (start f) n) (opened w process fd) o (write bounds w process c bytes) is.opened_is (λ error refused. cc)
    (λ _. subst Ends (sym (no_pipe w process fd o f is))
    (subst Puts (sym (file_is w process fd o f is)) (puts_leave_after w o f (start f) (fitting bounds (start f) bytes) n bytes
    (opened_stands w process fd o is.opened_is).description_is some))) told

-- of three faults, of which none is due, the last one is not
last_unmet : (a b c : Bool) (x y z : Errno) → first_fault ((a, x) ∷ (b, y) ∷ (c, z) ∷ []) ≡ None → c ≡ false
last_unmet a b false x y z free = refl
last_unmet false false true x y z free = cc
last_unmet false true true x y z free = cc
last_unmet true b true x y z free = cc

-- some bytes that do not begin at the size limit fit, or reach it
fit_or_reach : (bounds : Bounds) (start : ℕ) (bytes : List ℕ) → bytes ≢ [] → is_past_limit bounds start bytes ≡ false →
    (fitting bounds start bytes ≡ length bytes) ⊎ (start + fitting bounds start bytes ≡ bounds.file_size)
fit_or_reach bounds start bytes some below = by_room (leb (length bytes) (bounds.file_size - start)) refl
  where
    within : leb bounds.file_size start ≡ false
    within = subst (λ empty. (not empty && leb bounds.file_size start) ≡ false) (not_none bytes some) below

    by_room : (b : Bool) → leb (length bytes) (bounds.file_size - start) ≡ b → (fitting bounds start bytes ≡ length bytes) ⊎
        (start + fitting bounds start bytes ≡ bounds.file_size)
    by_room true fits = inl (grind (arith, nat_tests))
    by_room false fits = inr (grind (arith, nat_tests, within))

-- a decided write of some bytes tells how many are put
puts_tell : (bytes : List ℕ) (f start count : ℕ) (moved : TableEdit) (n : ℕ) → bytes ≢ [] → (puts bytes f start count moved).outcome ≡ Replied (Number n) →
    count ≡ n
puts_tell bytes f start count moved n some =
    subst (λ empty. (cond empty (tells (Number 0)) (does (Number count) (on_files.Bytes f start count) moved)).outcome ≡ Replied (Number n) → count ≡ n)
    (sym (not_none bytes some)) (λ told. cc)

pub write_takes_all : WriteTakesAll
write_takes_all bounds w process fd bytes o f n is some told =
    let start : ℕ → ℕ = λ g. write_start o.description (length (bytes_of w g)) in
    let All : Decided → Type 0 = λ d. d.outcome ≡ Replied (Number n) → (n ≡ length bytes) ⊎ (start f + n ≡ bounds.file_size) in
    let Ends : Option ℕ → Type 0 = λ on. All (write_to bounds w process (call.Write fd bytes) (start (file_at o)) bytes o on) in
    let Puts : ℕ → Type 0 = λ g. let count = fitting bounds (start g) bytes in
    All (puts bytes g (start g) count (on_table.Describe o.number (on_description.Offset (start g + count)))) in
    let at = file_is w process fd o f is in
    let count = fitting bounds (start f) bytes in
    opened_has All (opened w process fd) o (write bounds w process (call.Write fd bytes) bytes) is.opened_is (λ error refused. cc)
    (λ free.
    let met : (is_regular o && is_past_limit bounds (start (file_at o)) bytes) ≡ false = last_unmet _ _ _ EBADF EINVAL EFBIG free in
    let past : is_past_limit bounds (start (file_at o)) bytes ≡ false = ap (λ t. is_some (regular_file t) && is_past_limit bounds (start (file_at o)) bytes)
    (sym is.target_is) ∙ met in
    let below : is_past_limit bounds (start f) bytes ≡ false = subst (λ g. is_past_limit bounds (start g) bytes ≡ false) at past in
    subst Ends (sym (no_pipe w process fd o f is))
    (subst Puts (sym at)
    (λ told.
    subst (λ k. (k ≡ length bytes) ⊎ (start f + k ≡ bounds.file_size))
    (puts_tell bytes f (start f) count (on_table.Describe o.number (on_description.Offset (start f + count))) n some told)
    (fit_or_reach bounds (start f) bytes some below)))) told

pub pwrite_puts : PwritePuts
pwrite_puts bounds w process fd start bytes o f n is some told =
    let from = bytes_before start in
    let count = fitting bounds from bytes in
    opened_has (Leaves w bytes f from n) (opened w process fd) o (pwrite bounds start bytes) is.opened_is (λ error refused. cc)
    (λ _. subst (λ g. Leaves w bytes f from n (puts bytes g from count on_table.Nothing)) (sym (file_is w process fd o f is))
    (puts_leave w f from count on_table.Nothing n bytes refl some is.there)) told

pub write_appends : WriteAppends
write_appends bounds w process fd [] o f n is append told =
    ap (λ v. bytes_of v f) (nothing_is_written bounds w process fd) ∙ sym (ap (λ none. bytes_of w f ++ none) (take-nil n) ∙ append-nil (bytes_of w f))
write_appends bounds w process fd (b ∷ bytes) o f n is append told =
    let end = length (bytes_of w f) in
    write_puts bounds w process fd (b ∷ bytes) o f n is (λ none. cc) told ∙
    (ap (λ here. splice (bytes_of w f) (cond here end o.description.offset) (take n (b ∷ bytes))) append ∙ added_at_end (bytes_of w f) (take n (b ∷ bytes)))

pub ftruncate_leaves_resized : FtruncateLeavesResized
ftruncate_leaves_resized bounds w process fd len o f is told =
    let Resizes : Decided → Type 0 = λ d. d.outcome ≡ Replied Done → bytes_of (changed w [] d.change) f ≡ resized (bytes_of w f) (bytes_before len) in
    let at = file_is w process fd o f is in
    let there : Resizes (does Done (on_files.Resize f (bytes_before len)) on_table.Nothing) =
    λ _. bytes_set w.files f (resized (bytes_of w f) (bytes_before len)) is.there in
    opened_has Resizes (opened w process fd) o (ftruncate bounds len) is.opened_is (λ error refused. cc)
    (λ _. subst (λ g. Resizes (does Done (on_files.Resize g (bytes_before len)) on_table.Nothing)) (sym at) there) told

opened_appending : (w : World) (process : ℕ) (fd : ℤ) (o : OpenDescriptor) (append : Bool) → opened w process fd ≡ Some o →
    opened (with_appending w o append) process fd ≡ Some (with_append o append)
opened_appending w process fd o append h =
    let at = opened_stands w process fd o h in
    let v = with_appending w o append in
    subst (λ x. opened v process x ≡ Some (with_append o append)) at.fd_is
    (ap (opened_number v o.fd) at.entry_is ∙
    ap (opened_description o.fd o.number) (slot_set_there w.descriptions o.number o.description (Some (with_append o append).description) at.description_is))

-- a pwrite opens no end of a FIFO
opens_none : (bounds : Bounds) (w : World) (process : ℕ) (fd start : ℤ) (bytes : List ℕ) →
    opens_fifo (decided bounds w process (call.Pwrite fd start bytes)).change.table ≡ false
opens_none bounds w process fd start bytes =
    let None_opened : Decided → Type 0 = λ d. opens_fifo d.change.table ≡ false in
    let n = fitting bounds (bytes_before start) bytes in
    on_open_has None_opened (opened w process fd) (pwrite bounds start bytes) (λ _. refl)
    (λ o _. if_has None_opened (eqb (length bytes) 0) (tells (Number 0)) (does (Number n) (on_files.Bytes (file_at o) (bytes_before start) n) on_table.Nothing)
    (λ _. refl) (λ _. refl))

pub pwrite_same_under_append : PwriteSameUnderAppend
pwrite_same_under_append bounds w process fd start bytes o append h =
    let v = with_appending w o append in
    let c = call.Pwrite fd start bytes in
    let page = pwrite bounds start bytes in
    let same : decided bounds v process c ≡ decided bounds w process c = ap (λ x. on_open x page) (opened_appending w process fd o append h) ∙
    sym (ap (λ x. on_open x page) h) in
    record {
      outcome = ap (λ d. d.outcome) same;
      files = ap (λ d. (changed v bytes d.change).files) same ∙ same_files w v bytes (decided bounds w process c).change
          (opens_none bounds w process fd start bytes) refl;
    }

-- bytes that are told are those that were read
told_read : (x got : List ℕ) → Replied (Data x) ≡ Replied (Data got) → x ≡ got
told_read x got told = cc

-- what a decided read that gives these bytes leaves of the description of its descriptor
abbrev Moved : World → OpenDescriptor → List ℕ → Decided → Type 0
Moved w o got d = d.outcome ≡ Replied (Data got) → slot (changed w [] d.change).descriptions o.number ≡ Some
    (at_offset (o.description.offset + length got) o.description)

none_long : (x : List ℕ) → eqb (length x) 0 ≡ true → length x ≡ 0
none_long x h = grind (arith, nat_tests)

gives_moved : (w : World) (o : OpenDescriptor) (x got : List ℕ) → slot w.descriptions o.number ≡ Some o.description → Moved w o got (gives o x)
gives_moved w o x got there =
    let start = o.description.offset in
    if_has (Moved w o got) (eqb (length x) 0) (tells (Data x))
    (does (Data x) on_files.Nothing (on_table.Describe o.number (on_description.Offset (start + length x))))
    (λ none told.
    let zero_long : length got ≡ 0 = ap length (sym (told_read x got told)) ∙ none_long x none in
    let stays : start ≡ start + length got = omega (arith, zero_long) in
    there ∙ ap (λ k. Some (at_offset k o.description)) stays)
    (λ some told. slot_edited w.descriptions o.number (at_offset (start + length x)) ∙
    (ap (option_map (at_offset (start + length x))) there ∙ ap (λ (l : List ℕ). Some (at_offset (start + length l) o.description)) (told_read x got told)))

-- a regular file is no pipe
regular_no_pipe : (t : Target) → is_some (regular_file t) ≡ true → pipe_at t ≡ None
regular_no_pipe (target.Regular f) h = refl
regular_no_pipe (target.Pipe p) h = cc
regular_no_pipe (target.Fifo f p) h = cc

pub read_moves : ReadMoves
read_moves bounds w process fd count o got is regular told =
    let c = call.Read fd count in
    opened_has (Moved w o got) (opened w process fd) o (read w process c count) is (λ error refused. cc)
    (λ _. subst (λ on. Moved w o got (read_from w process c count o on)) (sym (regular_no_pipe o.description.target regular))
    (gives_moved w o (bytes_at (bytes_of w (file_at o)) o.description.offset count) got (opened_stands w process fd o is).description_is)) told

-- what a decided read tells was read from a position on
abbrev Given : List ℕ → ℕ → ℕ → List ℕ → Decided → Type 0
Given bytes start count got d = d.outcome ≡ Replied (Data got) → IsRead bytes start count got

given_read : (bytes : List ℕ) (start count : ℕ) (got : List ℕ) → Replied (Data (bytes_at bytes start count)) ≡ Replied (Data got) → IsRead bytes start count got
given_read bytes start count got told = subst (λ (x : List ℕ). IsRead bytes start count x) (told_read (bytes_at bytes start count) got told)
    (is_read bytes start count)

gives_read : (o : OpenDescriptor) (bytes : List ℕ) (start count : ℕ) (got : List ℕ) → Given bytes start count got (gives o (bytes_at bytes start count))
gives_read o bytes start count got =
    let x = bytes_at bytes start count in
    if_has (Given bytes start count got) (eqb (length x) 0) (tells (Data x))
    (does (Data x) on_files.Nothing (on_table.Describe o.number (on_description.Offset (o.description.offset + length x))))
    (λ _. given_read bytes start count got) (λ _. given_read bytes start count got)

pub read_gives : ReadGives
read_gives bounds w process fd count o f got is told =
    let start = o.description.offset in
    let c = call.Read fd count in
    opened_has (Given (bytes_of w f) start count got) (opened w process fd) o (read w process c count) is.opened_is (λ error refused. cc)
    (λ _. subst (λ on. Given (bytes_of w f) start count got (read_from w process c count o on)) (sym (no_pipe w process fd o f is))
    (subst (λ g. Given (bytes_of w f) start count got (gives o (bytes_at (bytes_of w g) start count))) (sym (file_is w process fd o f is))
    (gives_read o (bytes_of w f) start count got))) told

pub pread_gives : PreadGives
pread_gives bounds w process fd start count o f got is told =
    let from = bytes_before start in
    opened_has (Given (bytes_of w f) from count got) (opened w process fd) o (pread w start count) is.opened_is (λ error refused. cc)
    (λ _. subst (λ g. Given (bytes_of w f) from count got (tells (Data (bytes_at (bytes_of w g) from count)))) (sym (file_is w process fd o f is))
    (given_read (bytes_of w f) from count got)) told

-- a fault stays one with another before it
still_fault : (b : Bool) (error : Errno) (rest : Option Errno) → is_some rest ≡ true → is_some (cond b (Some error) rest) ≡ true
still_fault true error rest h = refl
still_fault false error rest h = h

-- a place without a fault is not before the start
sought : (to : ℤ) (o : OpenDescriptor) → first_fault (lseek_faults to o) ≡ None → pos (nat_abs to) ≡ to
sought (pos n) o free = refl
sought (negsuc n) o free =
    let fault : is_some (first_fault (lseek_faults (negsuc n) o)) ≡ true = search (rules, still_fault) in
    let none : is_some (first_fault (lseek_faults (negsuc n) o)) ≡ false = ap is_some free in
    cc

-- the place that an lseek tells
place_told : (w : World) (process : ℕ) (fd offset : ℤ) (from : Whence) (o : OpenDescriptor) (n : ℕ) → opened w process fd ≡ Some o →
    (on_open (opened w process fd) (lseek w offset from)).outcome ≡ Replied (Number n) → pos n ≡ pos (base_of w o from) +ℤ offset
place_told w process fd offset from o n is told =
    let to = pos (base_of w o from) +ℤ offset in
    opened_has (λ d. d.outcome ≡ Replied (Number n) → pos n ≡ to) (opened w process fd) o (lseek w offset from) is (λ error refused. cc)
    (λ free told. let number : nat_abs to ≡ n = cc in ap (λ (k : ℕ). pos k) (sym number) ∙ sought to o free) told

pub seek_tells : SeekTells
seek_tells bounds w process fd offset o f n is = record {
  set = λ told. place_told w process fd offset Set o n is.opened_is told ∙ +ℤ_idl offset;
  cur = λ told. place_told w process fd offset Cur o n is.opened_is told;
  end = λ told. place_told w process fd offset End o n is.opened_is told ∙ ap (λ (g : ℕ). pos (length (bytes_of w g)) +ℤ offset) (file_is w process fd o f is);
}

pub seek_moves : SeekMoves
seek_moves bounds w process fd offset from o n is told =
    let to = nat_abs (pos (base_of w o from) +ℤ offset) in
    opened_has (λ d. d.outcome ≡ Replied (Number n) → slot (changed w [] d.change).descriptions o.number ≡ Some (at_offset n o.description))
    (opened w process fd) o (lseek w offset from) is
    (λ error refused. cc)
    (λ _ told. let number : to ≡ n = cc in offset_edited w o to (opened_stands w process fd o is).description_is ∙
    ap (λ (k : ℕ). Some (at_offset k o.description)) number) told

-- what a decided write puts is not put into another file
puts_apart : (w : World) (f start count n : ℕ) (bytes : List ℕ) (moved : TableEdit) → opens_fifo moved ≡ false → n ≢ f →
    slot (changed w bytes (puts bytes f start count moved).change).files n ≡ slot w.files n
puts_apart w f start count n bytes moved none other =
    let new = splice (bytes_of w f) start (take count bytes) in
    if_has (λ d. slot (changed w bytes d.change).files n ≡ slot w.files n) (eqb (length bytes) 0) (tells (Number 0))
    (does (Number count) (on_files.Bytes f start count) moved) (λ _. refl)
    (λ _. ap (λ fs. slot fs n) (files_after_table (with_files w bytes (on_files.Bytes f start count)) moved none).files ∙
    get_or-set_other w.files f n (Some (file.Regular new)) None other)

pub own_file_alone : OwnFileAlone
own_file_alone bounds w process fd start len bytes o f n is other =
    let Apart : List ℕ → Decided → Type 0 = λ given d. slot (changed w given d.change).files n ≡ slot w.files n in
    let g = file_at o in
    let away : n ≢ g = subst (λ (g : ℕ). n ≢ g) (sym (file_is w process fd o f is)) other in
    let from = write_start o.description (length (bytes_of w g)) in
    let count = fitting bounds from bytes in
    let at = bytes_before start in
    record {
      write =
          opened_has (Apart bytes) (opened w process fd) o (write bounds w process (call.Write fd bytes) bytes) is.opened_is (λ _. refl)
          (λ _. subst (λ on. Apart bytes (write_to bounds w process (call.Write fd bytes) from bytes o on)) (sym (no_pipe w process fd o f is))
          (puts_apart w g from count n bytes (on_table.Describe o.number (on_description.Offset (from + count))) refl away));
      pwrite =
          opened_has (Apart bytes) (opened w process fd) o (pwrite bounds start bytes) is.opened_is (λ _. refl)
          (λ _. puts_apart w g at (fitting bounds at bytes) n bytes on_table.Nothing refl away);
      ftruncate =
          opened_has (Apart []) (opened w process fd) o (ftruncate bounds len) is.opened_is (λ _. refl)
          (λ _. get_or-set_other w.files g n (Some (file.Regular (resized (bytes_of w g) (bytes_before len)))) None away);
    }

-- where a fault is not due, what it asks for is there
not_due : (b : Bool) (error : Errno) (rest : Option Errno) → cond (not b) (Some error) rest ≡ None → b ≡ true
not_due true error rest free = refl
not_due false error rest free = cc

-- nor is the one after it
rest_not_due : (b : Bool) (error : Errno) (rest : Option Errno) → cond b (Some error) rest ≡ None → rest ≡ None
rest_not_due true error rest free = cc
rest_not_due false error rest free = free

pub access_is_needed : AccessIsNeeded
access_is_needed bounds w process fd o is =
    let reads = can_read o.description.mode in
    let writes = can_write o.description.mode in
    let Reads : Decided → Type 0 = λ d. IsNoError d.outcome → reads ≡ true in
    let Writes : Decided → Type 0 = λ d. IsNoError d.outcome → writes ≡ true in
    let here = opened w process fd in
    record {
      read = λ count. opened_has Reads here o (read w process (call.Read fd count) count) is (λ error no_error. absurd (no_error error refl))
          (λ free _. not_due reads EBADF _ free);
      pread = λ start count. opened_has Reads here o (pread w start count) is (λ error no_error. absurd (no_error error refl))
          (λ free _. not_due reads EBADF _ free);
      write = λ bytes. opened_has Writes here o (write bounds w process (call.Write fd bytes) bytes) is (λ error no_error. absurd (no_error error refl))
          (λ free _. not_due writes EBADF _ free);
      pwrite = λ start bytes. opened_has Writes here o (pwrite bounds start bytes) is (λ error no_error. absurd (no_error error refl))
          (λ free _. not_due writes EBADF _ free);
      ftruncate = λ len.
          opened_has Writes here o (ftruncate bounds len) is (λ error no_error. absurd (no_error error refl))
          (λ free _. not_due writes EINVAL _ (rest_not_due _ EINVAL _ (rest_not_due _ EINVAL _ free)));
    }
