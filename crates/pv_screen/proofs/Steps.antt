-- What each kind of step in the code follows from.
use Rattle.std.proofs.lemmas.{Fmt.length-decimal-le, Grind.common_steps}
use Rattle.std.proofs.lemmas.List.{length-append, length-drop, length-replicate, length-take, length-take-le, take_all, take_at}
use Rattle.std.proofs.lemmas.List.{Elements.{All-get_or, All-take}, Sums.AllPass-from_list_all}
use Rattle.pv_fields.proofs.CallerLemmas.{appends_then, slice_after}
use Rattle.pv_screen.proofs.Bytes.{length-cells_bytes-le, length-lines-le, length-painting-le, length-shown-le, line_end_short}
use Rattle.pv_screen.proofs.{Displays.{IsDisplay-first, IsDisplay-terminal_after}, Grids.IsGrid-blank}
use Rattle.pv_screen.proofs.Placing.{body_stands, heading_is_row, IsGrid-parts, name_stands, price_stands, price_text_of, title_stands}
use Rattle.pv_screen.proofs.Shows.{message_after_painted, message_ready, message_shows, painted_ready, painted_shows}
use Rattle.pv_screen.proofs.Spaces.{cells_bytes_more, plain_bytes}

-- the terminal takes bytes
pub ruleset taking = (common_steps, IsDisplay-first, IsDisplay-terminal_after)

-- cells are appended
pub ruleset cells = (
  common_steps,
  AllPass-from_list_all,
  appends_then,
  cells_bytes_more,
  length-cells_bytes-le,
  length-drop,
  length-take,
  line_end_short,
  plain_bytes,
  take_all,
)

-- lines are appended
pub ruleset lines = (common_steps, All-get_or, All-take, appends_then, length-lines-le, length-shown-le, length-take-le)

-- a screen is written, and shown by a terminal
pub ruleset screen = (common_steps, length-painting-le, painted_ready, painted_shows, slice_after, take_at)

-- a message is written, and shown by a terminal
pub ruleset text = (
  common_steps,
  appends_then,
  length-cells_bytes-le,
  message_after_painted,
  message_ready,
  message_shows,
  painted_ready,
  painted_shows,
  slice_after,
  take_at,
)

-- a price is put at the end of row 1
pub ruleset price = (common_steps, appends_then, length-append, length-decimal-le, length-replicate, price_text_of)

-- a frame's parts stand on its screen
pub ruleset standing = (common_steps, body_stands, name_stands, price_stands, title_stands)

-- rows make a grid, and the heading is one of them
pub ruleset grids = (common_steps, heading_is_row, IsGrid-blank, IsGrid-parts)
