-- What a frame holds, apart from its representation in memory.
use Rattle.std.specs.Prelude.{◌≡◌, ℕ, ◌+◌, ◌-◌, ◌*◌, ◌^◌, ◌<◌, ◌≤◌, List, [], ◌++◌, length, take, drop, replicate, Option, None, IfSome, All}
use Rattle.pv_cells.specs.declared.reading.TheConstants.{BLANK, ROW_LENGTH}
use Rattle.pv_page.specs.Names.{IsPage}
use Rattle.pv_frame.specs.declared.kind.Kind.{Kind}
use Rattle.pv_frame.specs.declared.kind.Kind.TheVariants.{Information}
use Rattle.pv_frame.specs.declared.field.Field.{Field}
use Rattle.pv_frame.specs.declared.layout.TheConstants.{TITLE_CELLS, BODY_CELLS, ROUTES, FIELDS, FIRST_ROW}

-- what a frame holds: the cells of its title and its body, where each digit leads, and its fields
pub record Content : Type 0 where
  pub title : List ℕ
  pub body : List ℕ
  pub kind : Kind
  pub routes : List (Option ℕ)
  pub price : ℕ
  pub group : ℕ
  pub fields : List Field

-- the invariant of every frame: its sizes, and that each digit leads to a page or nowhere
pub record IsFrame (frame : Content) : Type 0 where
  pub title : length frame.title ≡ TITLE_CELLS
  pub body : length frame.body ≡ BODY_CELLS
  pub routes : length frame.routes ≡ ROUTES
  pub pages : All (λ route. IfSome route IsPage) frame.routes
  pub group : frame.group < 2 ^ 16
  pub fields : length frame.fields ≤ FIELDS

-- a frame with nothing on it
abbrev pub blank_frame : Content
blank_frame = record {
  title = replicate TITLE_CELLS BLANK;
  body = replicate BODY_CELLS BLANK;
  kind = Information;
  routes = replicate ROUTES None;
  price = 0;
  group = 0;
  fields = [];
}

-- a frame that is blank except for its row 2, the first of its body
unfoldable pub frame_of_row : List ℕ → Content
frame_of_row row = record blank_frame { body = row ++ replicate (BODY_CELLS - length row) BLANK }

-- a body with other cells in a row, which is counted from 1 at the top of the screen
abbrev pub with_row : ℕ → List ℕ → List ℕ → List ℕ
with_row row cells body =
    let at = (row - FIRST_ROW) * ROW_LENGTH in
    take at body ++ (cells ++ drop (at + ROW_LENGTH) body)
