-- Lines from outside, computed from the definitions: each act and call, and each kind of field and of outcome.
use Rattle.std.proofs.Common.{◌≡◌, ℕ, pos, negsuc, List, [], ◌∷◌, codes, replicate, refl}
use Rattle.std.specs.Fmt.{digits}
use Rattle.hex.specs.Hex.{encode_with}
use Rattle.call_types.specs.declared.call.Call.TheVariants as calls
use Rattle.call_types.specs.declared.whence.Whence.TheVariants as whences
use Rattle.call_types.specs.declared.act.Act.{Act}
use Rattle.call_types.specs.declared.act.Act.TheVariants as acts
use Rattle.call_types.specs.declared.outcome.Outcome.{Outcome}
use Rattle.call_types.specs.declared.outcome.Outcome.TheVariants as outcomes
use Rattle.call_types.specs.declared.outcome.Reply.TheVariants as replies
use Rattle.call_types.specs.declared.outcome.FileType.TheVariants as kinds
use Rattle.call_types.specs.declared.errno.Errno.TheVariants as errors
use Rattle.text_forms.specs.Json.{json_line}

-- the line of what process 2 did at place 7
abbrev line : Act → Outcome → List ℕ
line act outcome = json_line 7 (record { actor = 2; act = act; outcome = outcome })

join : line acts.Join (outcomes.Reply (replies.Number 2))
    ≡ codes "{\"place\":7,\"process\":2,\"call\":\"join\",\"outcome\":{\"number\":2}}\n"
unfolding digits encode_with
join = refl

attach : line acts.Attach (outcomes.Reply (replies.Error errors.ESRCH))
    ≡ codes "{\"place\":7,\"process\":2,\"call\":\"attach\",\"outcome\":{\"error\":\"ESRCH\"}}\n"
unfolding digits encode_with
attach = refl

resume : line acts.Resume (outcomes.Part 1524)
    ≡ codes "{\"place\":7,\"process\":2,\"call\":\"resume\",\"outcome\":{\"part\":1524}}\n"
unfolding digits encode_with
resume = refl

exit : line acts.Exit (outcomes.Reply replies.Done)
    ≡ codes "{\"place\":7,\"process\":2,\"call\":\"exit\",\"outcome\":{\"done\":true}}\n"
unfolding digits encode_with
exit = refl

close_run : line acts.CloseRun (outcomes.Reply replies.Done)
    ≡ codes "{\"place\":7,\"process\":\"house\",\"call\":\"close-run\",\"outcome\":{\"done\":true}}\n"
unfolding digits encode_with
close_run = refl

open_rw : line (acts.Call (calls.Open (codes "a") (record { 0 = 7 }))) (outcomes.Reply (replies.Number 0))
    ≡ codes "{\"place\":7,\"process\":2,\"call\":\"open\",\"name\":\"a\",\"flags\":\"rw,creat\",\"outcome\":{\"number\":0}}\n"
unfolding digits encode_with
open_rw = refl

open_w : line (acts.Call (calls.Open (codes " ") (record { 0 = 122 }))) (outcomes.Reply (replies.Number 0))
    ≡ codes "{\"place\":7,\"process\":2,\"call\":\"open\",\"name\":\"%20\",\"flags\":\"w,excl,trunc,append,nonblock\",\"outcome\":{\"number\":0}}\n"
unfolding digits encode_with
open_w = refl

close : line (acts.Call (calls.Close (negsuc 2147483647))) (outcomes.Reply (replies.Error errors.EBADF))
    ≡ codes "{\"place\":7,\"process\":2,\"call\":\"close\",\"fd\":-2147483648,\"outcome\":{\"error\":\"EBADF\"}}\n"
unfolding digits encode_with
close = refl

read : line (acts.Call (calls.Read (pos 3) 9)) (outcomes.Parked 0)
    ≡ codes "{\"place\":7,\"process\":2,\"call\":\"read\",\"fd\":3,\"count\":9,\"outcome\":{\"parked\":0}}\n"
unfolding digits encode_with
read = refl

write : line (acts.Call (calls.Write (pos 0) (codes "hi"))) (outcomes.Reply (replies.Number 2))
    ≡ codes "{\"place\":7,\"process\":2,\"call\":\"write\",\"fd\":0,\"data\":\"6869\",\"outcome\":{\"number\":2}}\n"
unfolding digits encode_with
write = refl

pread : line (acts.Call (calls.Pread (pos 1) (pos 0) 5)) (outcomes.Reply (replies.Data (0 ∷ 255 ∷ [])))
    ≡ codes "{\"place\":7,\"process\":2,\"call\":\"pread\",\"fd\":1,\"pos\":0,\"count\":5,\"outcome\":{\"data\":\"00ff\"}}\n"
unfolding digits encode_with
pread = refl

pwrite : line (acts.Call (calls.Pwrite (pos 1) (pos 5) (replicate 17 175))) (outcomes.Reply (replies.Number 17))
    ≡ codes "{\"place\":7,\"process\":2,\"call\":\"pwrite\",\"fd\":1,\"pos\":5,\"data\":\"afafafafafafafafafafafafafafafafaf\",\"outcome\":{\"number\":17}}\n"
unfolding digits encode_with
pwrite = refl

lseek : line (acts.Call (calls.Lseek (pos 0) (negsuc 4) whences.Set)) (outcomes.Reply (replies.Error errors.EINVAL))
    ≡ codes "{\"place\":7,\"process\":2,\"call\":\"lseek\",\"fd\":0,\"off\":-5,\"whence\":\"set\",\"outcome\":{\"error\":\"EINVAL\"}}\n"
unfolding digits encode_with
lseek = refl

ftruncate : line (acts.Call (calls.Ftruncate (pos 0) (pos 9))) (outcomes.Reply replies.Done)
    ≡ codes "{\"place\":7,\"process\":2,\"call\":\"ftruncate\",\"fd\":0,\"len\":9,\"outcome\":{\"done\":true}}\n"
unfolding digits encode_with
ftruncate = refl

dup : line (acts.Call (calls.Dup (pos 0))) (outcomes.Reply (replies.Number 35))
    ≡ codes "{\"place\":7,\"process\":2,\"call\":\"dup\",\"fd\":0,\"outcome\":{\"number\":35}}\n"
unfolding digits encode_with
dup = refl

dup2 : line (acts.Call (calls.Dup2 (pos 0) (pos 1))) (outcomes.Reply (replies.Number 1))
    ≡ codes "{\"place\":7,\"process\":2,\"call\":\"dup2\",\"fd\":0,\"to\":1,\"outcome\":{\"number\":1}}\n"
unfolding digits encode_with
dup2 = refl

pipe : line (acts.Call calls.Pipe) (outcomes.Reply (replies.Pair 0 1))
    ≡ codes "{\"place\":7,\"process\":2,\"call\":\"pipe\",\"outcome\":{\"pair\":[0,1]}}\n"
unfolding digits encode_with
pipe = refl

mkfifo : line (acts.Call (calls.Mkfifo [])) (outcomes.Reply (replies.Error errors.ENOENT))
    ≡ codes "{\"place\":7,\"process\":2,\"call\":\"mkfifo\",\"name\":\"%\",\"outcome\":{\"error\":\"ENOENT\"}}\n"
unfolding digits encode_with
mkfifo = refl

link : line (acts.Call (calls.Link (codes "a") (codes "b"))) (outcomes.Reply (replies.Error errors.EMLINK))
    ≡ codes "{\"place\":7,\"process\":2,\"call\":\"link\",\"old\":\"a\",\"new\":\"b\",\"outcome\":{\"error\":\"EMLINK\"}}\n"
unfolding digits encode_with
link = refl

unlink : line (acts.Call (calls.Unlink (34 ∷ 92 ∷ 37 ∷ 33 ∷ 126 ∷ 0 ∷ 127 ∷ 255 ∷ []))) (outcomes.Reply replies.Done)
    ≡ codes "{\"place\":7,\"process\":2,\"call\":\"unlink\",\"name\":\"\\\"\\\\%25!~%00%7f%ff\",\"outcome\":{\"done\":true}}\n"
unfolding digits encode_with
unlink = refl

fstat : line (acts.Call (calls.Fstat (pos 0))) (outcomes.Reply (replies.Stat (record { size = 1; links = 2; kind = kinds.Regular })))
    ≡ codes "{\"place\":7,\"process\":2,\"call\":\"fstat\",\"fd\":0,\"outcome\":{\"stat\":{\"kind\":\"regular\",\"size\":1,\"links\":2}}}\n"
unfolding digits encode_with
fstat = refl

fork : line (acts.Call calls.Fork) (outcomes.Reply (replies.Number 1))
    ≡ codes "{\"place\":7,\"process\":2,\"call\":\"fork\",\"outcome\":{\"number\":1}}\n"
unfolding digits encode_with
fork = refl

getfl : line (acts.Call (calls.Getfl (pos 0))) (outcomes.Reply (replies.Number 35))
    ≡ codes "{\"place\":7,\"process\":2,\"call\":\"getfl\",\"fd\":0,\"outcome\":{\"flags\":\"rw,append\"}}\n"
unfolding digits encode_with
getfl = refl

getfl_of_none : line (acts.Call (calls.Getfl (pos 0))) (outcomes.Reply (replies.Number 128))
    ≡ codes "{\"place\":7,\"process\":2,\"call\":\"getfl\",\"fd\":0,\"outcome\":{\"number\":128}}\n"
unfolding digits encode_with
getfl_of_none = refl

setfl : line (acts.Call (calls.Setfl (pos 0) (record { 0 = 64 }))) (outcomes.Reply replies.Done)
    ≡ codes "{\"place\":7,\"process\":2,\"call\":\"setfl\",\"fd\":0,\"flags\":\"-,nonblock\",\"outcome\":{\"done\":true}}\n"
unfolding digits encode_with
setfl = refl

rename : line (acts.Call (calls.Rename (codes "a") (codes "b"))) (outcomes.Reply replies.Done)
    ≡ codes "{\"place\":7,\"process\":2,\"call\":\"rename\",\"old\":\"a\",\"new\":\"b\",\"outcome\":{\"done\":true}}\n"
unfolding digits encode_with
rename = refl
