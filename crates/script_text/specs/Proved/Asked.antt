-- The act that a line asks for (own).
use Rattle.std.specs.Prelude.{ℕ, List, [], ◌++◌, codes}
use Rattle.call_types.specs.declared.act.Act.{Act}
use Rattle.call_types.specs.declared.act.Act.TheVariants as acts
use Rattle.script_text.specs.Lines.{process_word}

-- of whom a script asks an act: a join and the closing are asked of nobody
abbrev pub asked_of : ℕ → Act → List ℕ
asked_of actor acts.Join = []
asked_of actor acts.CloseRun = []
asked_of actor other = process_word actor ++ codes " "
