-- What the program does with a number.
use Rattle.std.specs.Prelude.{ℕ, List, codes}
use Rattle.pv_gen.specs.declared.writing.TheConstants.{LAST_NUMBER}
use Rattle.pv_account.specs.declared.account.TheConstants.{MAX_CENTRES}
use Rattle.pv_play.specs.declared.task.Task.{Task}
use Rattle.pv_play.specs.declared.task.Task.TheVariants.{Play, Generate, Evening}

-- the word that asks for each
abbrev pub task_word : Task → List ℕ
task_word Play = codes "play"
task_word Generate = codes "gen"
task_word Evening = codes "evening"

-- the last number that each takes: a play as many as there may be centres, the others the last script that is made by rule
abbrev pub last_number : Task → ℕ
last_number Play = MAX_CENTRES
last_number Generate = LAST_NUMBER
last_number Evening = LAST_NUMBER
