-- The spelling of a frame: its bytes in version 1.
use Rattle.std.specs.Prelude.{ℕ, List, ◌∷◌, length, flat_map}
use Rattle.pv_frame.specs.declared.layout.TheConstants.{VERSION}
use Rattle.pv_frame.specs.Content.{Content, IsFrame}
use Rattle.pv_frame.specs.Codes.{kind_code, route_bytes, field_bytes}
use Rattle.pv_frame.specs.Errors.{IsValid}
use Rattle.pv_frame.specs.Raw.{Raw, raw_bytes}

-- the parts of a frame
abbrev pub raw_of : Content → Raw
raw_of frame = record {
  title = frame.title;
  body = frame.body;
  kind = kind_code frame.kind;
  routes = flat_map route_bytes frame.routes;
  price = frame.price;
  group = frame.group;
  count = length frame.fields;
  fields = flat_map field_bytes frame.fields;
}

-- the version, and then the parts
abbrev pub spelling_of : Content → List ℕ
spelling_of frame = VERSION ∷ raw_bytes (raw_of frame)

-- a frame that has a spelling: a valid one
pub record HasSpelling (frame : Content) : Type 0 where
  pub holds : IsFrame frame
  pub valid : IsValid frame
