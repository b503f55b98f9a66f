-- The layout of a frame of version 1: what is in its bytes after the version, without meaning.
use Rattle.std.specs.Prelude.{◌≡◌, ℕ, ◌^◌, ◌<◌, List, [], ◌∷◌, length, Some}
use Rattle.std.specs.Int.{w16, to_be_bytes}
use Rattle.std.specs.List.{concat}
use Rattle.pv_fields.specs.Reading.{byte_at, number_at, run_at, ◌⊗◌, map_at, rest_at, Parser, IsBytes}
use Rattle.pv_frame.specs.declared.layout.TheConstants.{TITLE_CELLS, BODY_CELLS, ROUTES_SIZE}

-- the parts, in their order; the last one is all bytes after the number of fields
pub record Raw : Type 0 where
  pub title : List ℕ
  pub body : List ℕ
  pub kind : ℕ
  pub routes : List ℕ
  pub price : ℕ
  pub group : ℕ
  pub count : ℕ
  pub fields : List ℕ

-- the sizes of the parts
pub record IsRaw (raw : Raw) : Type 0 where
  pub title : length raw.title ≡ TITLE_CELLS
  pub body : length raw.body ≡ BODY_CELLS
  pub kind : raw.kind < 2 ^ 8
  pub routes : (length raw.routes ≡ ROUTES_SIZE) × IsBytes raw.routes
  pub price : raw.price < 2 ^ 8
  pub group : raw.group < 2 ^ 16
  pub count : raw.count < 2 ^ 8

-- the bytes of each part
abbrev pub parts_of : Raw → List (List ℕ)
parts_of raw =
    raw.title
    ∷ raw.body
    ∷ (raw.kind ∷ [])
    ∷ raw.routes
    ∷ (raw.price ∷ [])
    ∷ to_be_bytes w16 raw.group
    ∷ (raw.count ∷ [])
    ∷ raw.fields
    ∷ []

-- the bytes, one part after another
abbrev pub raw_bytes : Raw → List ℕ
raw_bytes raw = concat (parts_of raw)

-- all the bytes
abbrev pub all_at : Parser (List ℕ)
all_at = rest_at Some

-- what is in bytes, if they are not too few
unfoldable pub raw_at : Parser Raw
raw_at =
    map_at
    (λ x. record {
      title = x.0;
      body = x.1.0;
      kind = x.1.1.0;
      routes = x.1.1.1.0;
      price = x.1.1.1.1.0;
      group = x.1.1.1.1.1.0;
      count = x.1.1.1.1.1.1.0;
      fields = x.1.1.1.1.1.1.1;
    })
    (run_at TITLE_CELLS ⊗ run_at BODY_CELLS ⊗ byte_at ⊗ run_at ROUTES_SIZE ⊗ byte_at ⊗ number_at w16 ⊗ byte_at ⊗ all_at)
