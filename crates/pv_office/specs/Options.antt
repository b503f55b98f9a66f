-- What the words of the office's programs ask for.
use Rattle.std.specs.Prelude.{◌≡◌, ℕ, List, [], ◌∷◌, codes}
use Rattle.pv_page.specs.Names.{IsAccount, account_text}
use Rattle.pv_statement.specs.Months.{IsMonth}
use Rattle.pv_statement.specs.Statement.{month_text}

-- the words are the command, a folder, an account in ten digits, and a month
pub record AskForStatement (words : List (List ℕ)) (folder : List ℕ) (account year month : ℕ) : Type 0 where
  pub account_is : IsAccount account
  pub month_is : IsMonth year month
  pub asked : words ≡ codes "statement" ∷ folder ∷ account_text account ∷ month_text year month ∷ []

-- the words are not these of any folder, account and month
abbrev pub AskNoStatement : List (List ℕ) → Type 0
AskNoStatement words = (folder : List ℕ) (account year month : ℕ) → AskForStatement words folder account year month → ⊥

-- the folder, the account and the month are these
pub record AreOptions (folder : List ℕ) (account year month : ℕ) (of_folder : List ℕ) (of_account of_year of_month : ℕ) : Type 0 where
  pub folder_is : folder ≡ of_folder
  pub account_is : account ≡ of_account
  pub year_is : year ≡ of_year
  pub month_is : month ≡ of_month

-- the words are the command and a folder
abbrev pub AskForTape : List (List ℕ) → List ℕ → Type 0
AskForTape words folder = words ≡ codes "tape" ∷ folder ∷ []

-- the words are not these of any folder
abbrev pub AskNoTape : List (List ℕ) → Type 0
AskNoTape words = (folder : List ℕ) → AskForTape words folder → ⊥
