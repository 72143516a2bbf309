-- The bits of the flags of open, as request frames have them (own).
use Rattle.std.specs.Prelude.{ℕ, Bool, ◌==◌, bit_and}
use Rattle.call_types.specs.declared.flags.OpenFlags.{OpenFlags}

abbrev pub reading : ℕ
reading = 1

abbrev pub writing : ℕ
writing = 2

abbrev pub creat : ℕ
creat = 4

abbrev pub excl : ℕ
excl = 8

abbrev pub trunc : ℕ
trunc = 16

abbrev pub appending : ℕ
appending = 32

abbrev pub nonblocking : ℕ
nonblocking = 64

-- whether bits have a flag
abbrev pub bits_have : ℕ → ℕ → Bool
bits_have bits flag = bit_and bits flag == flag

-- whether flags have a flag
abbrev pub has : OpenFlags → ℕ → Bool
has flags flag = bits_have flags.0 flag
