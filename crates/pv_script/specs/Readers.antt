-- Parts of lines that the script alone has, and what each of them stands for.
use Rattle.std.specs.Prelude.{◌≡◌, ℕ, ◌≤◌, List, [], ◌∷◌, codes, decimal}
use Rattle.pv_outside.specs.declared.limits.Limits.{Limits}
use Rattle.pv_charge.specs.declared.line.TheConstants.{LAST_MOMENT}
use Rattle.pv_words.specs.Numbers.{IsNumber, IsBelow}
use Rattle.pv_words.specs.Parts.{IsPart, IsOne}
use Rattle.pv_words.specs.Split.{IsSplit}
use Rattle.pv_page.specs.Names.{Name, IsName, name_text}
use Rattle.pv_cells.specs.Notation.{ReadsAs}
use Rattle.pv_cells.specs.Row.{SpellsCells}
use Rattle.pv_network.specs.declared.event.NodeName.{NodeName}
use Rattle.pv_network.specs.declared.event.NodeName.TheVariants.{Udc, Centre}
use Rattle.pv_network.specs.Standing.{IsNotation}
use Rattle.pv_screen.specs.Grid.{IsRow}
use Rattle.pv_script.specs.declared.readers.TheConstants.{LAST_IMAGE}

-- the text is a frame's name
abbrev pub IsFrameText : Name → List ℕ → Type 0
IsFrameText name text = IsName name × (text ≡ name_text name)

-- the text names a node: `u`, or the number of one of this many centres
abbrev pub IsNodeText : ℕ → NodeName → List ℕ → Type 0
IsNodeText centres Udc text = text ≡ codes "u"
IsNodeText centres (Centre c) text = IsBelow centres c text

-- the text is the number of an image of a disk
abbrev pub IsImageText : ℕ → List ℕ → Type 0
IsImageText image text = (image ≤ LAST_IMAGE) × (text ≡ decimal image)

-- the text is a moment that a clock can show
abbrev pub IsMomentText : ℕ → List ℕ → Type 0
IsMomentText moment text = (moment ≤ LAST_MOMENT) × (text ≡ decimal moment)

-- the text is the notation of a row: of at most 40 cells, which are the row with spaces after them
abbrev pub IsRowText : List ℕ → List ℕ → Type 0
IsRowText row text = IsRow row × SpellsCells 40 text row

-- the text is a notation of one key's byte
abbrev pub IsKeyText : ℕ → List ℕ → Type 0
IsKeyText key text = ReadsAs text (key ∷ [])

-- the part is a notation of keys, at least one, as it stands
abbrev pub IsKeysText : List ℕ → List ℕ → Type 0
IsKeysText keys text = IsPart keys text × IsNotation text

-- limits are of this many frames and records
abbrev pub AreOf : ℕ → ℕ → Limits → Type 0
AreOf frames records limits = (limits.frames ≡ frames) × (limits.records ≡ records)

-- the text is the two numbers of limits, which are in their range
pub record IsLimitsText (limits : Limits) (text : List ℕ) : Type 0 where
  pub word : List ℕ
  pub later : List ℕ
  pub split : IsSplit text word later
  pub frames : IsNumber limits.frames word
  pub records : IsOne IsNumber later limits.records
