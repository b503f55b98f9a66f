-- The representation of a frame in memory: its fields are in eight places, and the places after the last field are empty.
use Rattle.std.proofs.Common.{◌≡◌, length, take}
use Rattle.pv_fields.specs.Padded.{IsPadded, padded_list}
use Rattle.pv_fields.proofs.CallerLemmas.{of_items}
use Rattle.pv_frame.specs.declared.field.Field.{Field}
use Rattle.pv_frame.specs.declared.field.FieldKind.TheVariants.{Digits}
use Rattle.pv_frame.specs.declared.frame.Frame.TheInside.{Inside}
use Rattle.pv_frame.specs.declared.layout.TheConstants.{FIELDS}
use Rattle.pv_frame.specs.Content.{Content, IsFrame}

-- an empty place
abbrev pub no_field : Field
no_field = record { row = 0; column = 0; length = 0; kind = Digits }

-- what the frame holds
abbrev pub content : Inside → Content
content frame = record {
  title = frame.title;
  body = frame.body;
  kind = frame.kind;
  routes = frame.routes;
  price = frame.price;
  group = frame.group;
  fields = take frame.count frame.fields;
}

-- the invariant of every frame in memory
pub record IsInside (frame : Inside) : Type 0 where
  pub holds : IsFrame (content frame)
  pub places : IsPadded no_field FIELDS frame.count frame.fields

-- the representation of what a frame holds
abbrev pub inside_of : Content → Inside
inside_of frame = record {
  title = frame.title;
  body = frame.body;
  kind = frame.kind;
  routes = frame.routes;
  price = frame.price;
  group = frame.group;
  count = length frame.fields;
  fields = padded_list no_field FIELDS frame.fields;
}

-- the representation of what a frame holds is that frame
pub inside_of-content : (frame : Inside) → IsInside frame → inside_of (content frame) ≡ frame
inside_of-content frame inside =
    of_items no_field FIELDS frame.count frame.fields inside.places (λ count fields. record {
      title = frame.title;
      body = frame.body;
      kind = frame.kind;
      routes = frame.routes;
      price = frame.price;
      group = frame.group;
      count = count;
      fields = fields;
    })
