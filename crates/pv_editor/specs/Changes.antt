-- What a change makes of a frame.
use Rattle.std.specs.Prelude.{nat_le, Bool, List, [], ◌∷◌, ◌++◌, length, Some, None, slice_set, if◌then◌else◌}
use Rattle.pv_frame.specs.declared.field.Field.{Field}
use Rattle.pv_frame.specs.declared.layout.TheConstants.{FIELDS}
use Rattle.pv_frame.specs.Content.{Content, with_row}
use Rattle.pv_editor.specs.declared.change.FrameChange.{FrameChange}
use Rattle.pv_editor.specs.declared.change.FrameChange.TheVariants as changes

-- a frame has as many fields as a frame may have
abbrev pub has_all_fields : Content → Bool
has_all_fields frame = nat_le FIELDS (length frame.fields)

-- a frame with other fields
abbrev pub with_fields : Content → List Field → Content
with_fields frame fields = record frame { fields = fields }

-- a frame with a field after the others, unless it has all
abbrev pub with_field : Content → Field → Content
with_field frame field = if has_all_fields frame then frame else with_fields frame (frame.fields ++ field ∷ [])

-- the frame after a change
abbrev pub changed_frame : FrameChange → Content → Content
changed_frame (changes.Title cells) frame = record frame { title = cells }
changed_frame (changes.Row row cells) frame = record frame { body = with_row row cells frame.body }
changed_frame (changes.Kind kind) frame = record frame { kind = kind }
changed_frame (changes.Route digit page) frame = record frame { routes = slice_set frame.routes digit page }
changed_frame (changes.Price price) frame = record frame { price = price }
changed_frame (changes.Group group) frame = record frame { group = group }
changed_frame (changes.Field (Some field)) frame = with_field frame field
changed_frame (changes.Field None) frame = with_fields frame []
