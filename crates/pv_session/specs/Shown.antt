-- The frame that a caller is shown.
use Rattle.std.specs.Prelude.{ℕ, Bool, true, false, ◌&&◌, ◌==◌, slice_get, Option, option_map, unwrap_or}
use Rattle.pv_fields.specs.Reading.{◌>>=◌}
use Rattle.pv_page.specs.Names.{Name}
use Rattle.pv_page.specs.declared.frame_name.TheConstants.{FIRST_LETTER}
use Rattle.pv_frame.specs.Content.{Content}
use Rattle.pv_frame.specs.declared.kind.Kind.{Kind}
use Rattle.pv_frame.specs.declared.kind.Kind.TheVariants.{Information, Response, Mail}
use Rattle.pv_screen.specs.Composing.{composed_grid}
use Rattle.pv_screen.specs.declared.screen.Screen.{Screen}
use Rattle.pv_screen.specs.declared.screen.Screen.TheVariants.{Whole}
use Rattle.pv_session.specs.Entries.{Mode, BrowseMode, FillMode}

-- a frame and its name, as they were fetched
pub record ShownFrame : Type 0 where
  pub name : Name
  pub frame : Content

-- its screen
abbrev pub screen_of_frame : ShownFrame → Screen
screen_of_frame shown = Whole (composed_grid shown.frame shown.name)

-- the page to which the route of a digit leads, if a frame is shown and it has one
abbrev pub route_of_digit : Option ShownFrame → ℕ → Option ℕ
route_of_digit present digit = present >>= λ shown. slice_get shown.frame.routes digit >>= λ route. route

-- the frame a of a page
abbrev pub first_frame : ℕ → Name
first_frame page = record { page = page; letter = FIRST_LETTER }

-- a frame of this kind is a letter that is to be written
abbrev pub is_letter_form : Kind → Bool
is_letter_form Information = false
is_letter_form Response = false
is_letter_form Mail = true

-- the mode in which the field at an index of a frame is filled, if the frame has one there: the first of a letter must be full
abbrev pub field_mode : Content → ℕ → Option Mode
field_mode frame index =
    option_map (λ field. FillMode field (is_letter_form frame.kind && index == 0)) (slice_get frame.fields index)

-- the mode after a frame is shown: that of its first field, if it has one
abbrev pub mode_at : Content → Mode
mode_at frame = unwrap_or (field_mode frame 0) BrowseMode
