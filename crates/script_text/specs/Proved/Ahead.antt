-- Numbers at the front of what is left of a line, read in one pass (own).
use Rattle.std.specs.Prelude.{◌≡◌, ◌-◌, ◌^◌, ℕ, List, Some, Result}
use Rattle.call_types.specs.declared.act.ScriptAct.{ScriptAct}
use Rattle.script_text.specs.declared.fault.Expected.TheVariants as expect
use Rattle.script_text.specs.Reading.{◌>>=◌, BadWord, Unread, cut, space, word_at}
use Rattle.script_text.specs.ReadingCalls.{process_act}
use Rattle.script_text.specs.ReadingNumbers.{digits_on, number_of}

-- the greatest number that is read in one pass: it fits a descriptor, a position, a count and a process
abbrev pub small_most : ℕ
small_most = 2 ^ 31 - 1

-- the digits up to the first space make this number with those that made so_far, and this is left after the space
pub record DigitsAhead (so_far : ℕ) (bytes : List ℕ) (number : ℕ) (after : Unread) : Type 0 where
  pub value : digits_on small_most so_far (cut space bytes).0 ≡ Some number
  pub rest : (cut space bytes).1 ≡ after

-- the first word is this number, and this is left after it
pub record NumberAhead (bytes : List ℕ) (number : ℕ) (after : Unread) : Type 0 where
  pub value : number_of small_most (cut space bytes).0 ≡ Some number
  pub rest : (cut space bytes).1 ≡ after

-- the act of a process, by what is left after the process
abbrev pub act_after : ℕ → Unread → Result ScriptAct BadWord
act_after process left = word_at expect.Act left >>= λ word. process_act process word
