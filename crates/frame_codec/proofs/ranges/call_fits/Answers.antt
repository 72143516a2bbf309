use Rattle.std.proofs.Common.{rules, FitsSigned}
use Rattle.std.specs.Int.{w32, w64}
use Rattle.frame_codec.proofs.ranges.call_fits.Goals as goal

pub returns-in-Open : goal.returns-in-Open
returns-in-Open c =
    rw c.in-Open.is (λ h. (h, (c.name_fits.ensures, tt)))

pub returns-in-Close : goal.returns-in-Close
returns-in-Close c =
    let fd : FitsSigned w32 c.in-Close.fd = search rules in
    rw c.in-Close.is (λ h. (fd, tt))

pub returns-in-Read : goal.returns-in-Read
returns-in-Read c =
    let fd : FitsSigned w32 c.in-Read.fd = search rules in
    rw c.in-Read.is (λ h. (fd, (c.number_fits.ensures, tt)))

pub returns-in-Write : goal.returns-in-Write
returns-in-Write c =
    let fd : FitsSigned w32 c.in-Write.fd = search rules in
    rw c.in-Write.is (λ h. (fd, ((c.data_fits.ensures.bytes, c.data_fits.ensures.few), tt)))

pub returns-in-Pread : goal.returns-in-Pread
returns-in-Pread c =
    let fd : FitsSigned w32 c.in-Pread.fd = search rules in
    let start : FitsSigned w64 c.in-Pread.start = search rules in
    rw c.in-Pread.is (λ h. (fd, (start, (c.number_fits-in-Pread.ensures, tt))))

pub returns-in-Pwrite : goal.returns-in-Pwrite
returns-in-Pwrite c =
    let fd : FitsSigned w32 c.in-Pwrite.fd = search rules in
    let start : FitsSigned w64 c.in-Pwrite.start = search rules in
    rw c.in-Pwrite.is (λ h. (fd, (start, ((c.data_fits-in-Pwrite.ensures.bytes, c.data_fits-in-Pwrite.ensures.few), tt))))

pub returns-in-Lseek : goal.returns-in-Lseek
returns-in-Lseek c =
    let fd : FitsSigned w32 c.in-Lseek.fd = search rules in
    let offset : FitsSigned w64 c.in-Lseek.offset = search rules in
    rw c.in-Lseek.is (λ h. (fd, (offset, (tt, tt))))

pub returns-in-Ftruncate : goal.returns-in-Ftruncate
returns-in-Ftruncate c =
    let fd : FitsSigned w32 c.in-Ftruncate.fd = search rules in
    let len : FitsSigned w64 c.in-Ftruncate.len = search rules in
    rw c.in-Ftruncate.is (λ h. (fd, (len, tt)))

pub returns-in-Dup : goal.returns-in-Dup
returns-in-Dup c =
    let fd : FitsSigned w32 c.in-Dup.fd = search rules in
    rw c.in-Dup.is (λ h. (fd, tt))

pub returns-in-Dup2 : goal.returns-in-Dup2
returns-in-Dup2 c =
    let fd : FitsSigned w32 c.in-Dup2.fd = search rules in
    let to : FitsSigned w32 c.in-Dup2.to = search rules in
    rw c.in-Dup2.is (λ h. (fd, (to, tt)))

pub returns-in-Mkfifo : goal.returns-in-Mkfifo
returns-in-Mkfifo c =
    rw c.in-Mkfifo.is (λ h. (c.name_fits-in-Mkfifo.ensures, tt))

pub returns-in-Link : goal.returns-in-Link
returns-in-Link c =
    rw c.in-Link.is (λ h. (c.name_fits-in-Link.ensures, (c.name_fits-in-Link-2.ensures, tt)))

pub returns-in-Unlink : goal.returns-in-Unlink
returns-in-Unlink c =
    rw c.in-Unlink.is (λ h. (c.name_fits-in-Unlink.ensures, tt))

pub returns-in-Fstat : goal.returns-in-Fstat
returns-in-Fstat c =
    let fd : FitsSigned w32 c.in-Fstat.fd = search rules in
    rw c.in-Fstat.is (λ h. (fd, tt))

pub returns-in-Getfl : goal.returns-in-Getfl
returns-in-Getfl c =
    let fd : FitsSigned w32 c.in-Getfl.fd = search rules in
    rw c.in-Getfl.is (λ h. (fd, tt))

pub returns-in-Setfl : goal.returns-in-Setfl
returns-in-Setfl c =
    let fd : FitsSigned w32 c.in-Setfl.fd = search rules in
    rw c.in-Setfl.is (λ h. (fd, (h, tt)))

pub returns-in-Rename : goal.returns-in-Rename
returns-in-Rename c =
    rw c.in-Rename.is (λ h. (c.name_fits-in-Rename.ensures, (c.name_fits-in-Rename-2.ensures, tt)))
