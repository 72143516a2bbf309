-- Each call as a line says it, with every field of its own value: what the table of calls says once, said again (own).
use Rattle.std.specs.Prelude.{◌≡◌, ℕ, List, [], ◌∷◌, map, codes, bit_or, Ok, pos, negsuc}
use Rattle.call_types.specs.CallTable.{parts}
use Rattle.call_types.specs.declared.call.Call.{Call}
use Rattle.call_types.specs.declared.call.Call.TheVariants as calls
use Rattle.call_types.specs.declared.whence.Whence.TheVariants as whences
use Rattle.call_types.specs.declared.act.ScriptAct.TheVariants as acts
use Rattle.call_types.specs.Flags.{writing, creat, nonblocking}
use Rattle.script_text.specs.ReadingCalls.{reading}

-- a line of process 7, the byte of its call in a request, and the call
pub record Row : Type 0 where
  pub line : List ℕ
  pub byte : ℕ
  pub call : Call

-- a row for each call
abbrev pub call_rows : List Row
call_rows =
    record {
      line = codes "p7 open a%20b w,creat,nonblock";
      byte = 16;
      call =
          calls.Open (codes "a b") (record { 0 = bit_or (bit_or writing creat) nonblocking });
    } ∷
    record { line = codes "p7 close 3"; byte = 17; call = calls.Close (pos 3) } ∷
    record { line = codes "p7 read 3 5"; byte = 18; call = calls.Read (pos 3) 5 } ∷
    record { line = codes "p7 write 3 x6869"; byte = 19; call = calls.Write (pos 3) (codes "hi") } ∷
    record { line = codes "p7 pread 3 4 5"; byte = 20; call = calls.Pread (pos 3) (pos 4) 5 } ∷
    record { line = codes "p7 pwrite 3 4 x6869"; byte = 21; call = calls.Pwrite (pos 3) (pos 4) (codes "hi") } ∷
    record { line = codes "p7 lseek 3 -1 cur"; byte = 22; call = calls.Lseek (pos 3) (negsuc 0) whences.Cur } ∷
    record { line = codes "p7 ftruncate 3 4"; byte = 23; call = calls.Ftruncate (pos 3) (pos 4) } ∷
    record { line = codes "p7 dup 3"; byte = 24; call = calls.Dup (pos 3) } ∷
    record { line = codes "p7 dup2 3 4"; byte = 25; call = calls.Dup2 (pos 3) (pos 4) } ∷
    record { line = codes "p7 pipe"; byte = 26; call = calls.Pipe } ∷
    record { line = codes "p7 mkfifo a"; byte = 27; call = calls.Mkfifo (codes "a") } ∷
    record { line = codes "p7 link a b"; byte = 28; call = calls.Link (codes "a") (codes "b") } ∷
    record { line = codes "p7 unlink a"; byte = 29; call = calls.Unlink (codes "a") } ∷
    record { line = codes "p7 fstat 3"; byte = 30; call = calls.Fstat (pos 3) } ∷
    record { line = codes "p7 fork"; byte = 31; call = calls.Fork } ∷
    record { line = codes "p7 getfl 3"; byte = 32; call = calls.Getfl (pos 3) } ∷
    record { line = codes "p7 setfl 3 -,nonblock"; byte = 33; call = calls.Setfl (pos 3) (record { 0 = nonblocking }) } ∷
    record { line = codes "p7 rename a b"; byte = 34; call = calls.Rename (codes "a") (codes "b") } ∷ []

-- each line is read as its call, and each call has its byte
pub record CallRows : Type 0 where
  pub lines : map (λ (row : Row). reading row.line) call_rows ≡ map (λ (row : Row). Ok (acts.Call 7 row.call)) call_rows
  pub bytes : map (λ (row : Row). (parts row.call).entry.byte) call_rows ≡ map (λ (row : Row). row.byte) call_rows
