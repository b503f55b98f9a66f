-- The definitions that the proofs of this crate speak of, under one name.
pub use Rattle.pv_cells.specs.Row.{IsCell}
pub use Rattle.pv_fields.specs.Out.{Appends}
pub use Rattle.pv_frame.specs.Content.{Content, IsFrame}
pub use Rattle.pv_frame.specs.Errors.{HasRanges}
pub use Rattle.pv_page.specs.Names.{Name, IsName, name_text}
pub use Rattle.pv_screen.specs.Composing.{heading, composed_grid, spaces, at_left, at_right, price_text, body_rows}
pub use Rattle.pv_screen.specs.Grid.{IsGrid, IsRow, blank_grid}
pub use Rattle.pv_screen.specs.Painting.{screen_bytes, cell_bytes, cells_bytes, shown_cells, row_bytes, line_end, line_bytes, painting_of}
pub use Rattle.pv_screen.specs.Painting.{message_text, is_ordinary}
pub use Rattle.pv_screen.specs.Showing.{IsShowable, shown_after, HasCells}
pub use Rattle.pv_screen.specs.Terminal.{Display, IsReadyDisplay, after_byte, terminal_after, new_display, row_below, with_cell, after_cell}
pub use Rattle.pv_screen.specs.Terminal.{IsDisplay, down, up, row_start, home, forward, back, clear, after_first, after_second}
pub use Rattle.pv_screen.specs.declared.attributes.TheConstants.{ALPHA_RED, ALPHA_GREEN, ALPHA_YELLOW, ALPHA_BLUE, ALPHA_MAGENTA}
pub use Rattle.pv_screen.specs.declared.attributes.TheConstants.{ALPHA_CYAN, ALPHA_WHITE, MOSAIC_RED, MOSAIC_GREEN, MOSAIC_YELLOW}
pub use Rattle.pv_screen.specs.declared.attributes.TheConstants.{MOSAIC_BLUE, MOSAIC_MAGENTA, MOSAIC_CYAN, MOSAIC_WHITE, FLASH, STEADY}
pub use Rattle.pv_screen.specs.declared.attributes.TheConstants.{NORMAL_HEIGHT, DOUBLE_HEIGHT, CONCEAL, CONTIGUOUS, SEPARATED}
pub use Rattle.pv_screen.specs.declared.attributes.TheConstants.{BLACK_BACKGROUND, NEW_BACKGROUND, HOLD, RELEASE}
pub use Rattle.pv_screen.specs.declared.codes.TheConstants.{CURSOR_ON, CURSOR_OFF}
pub use Rattle.pv_screen.specs.declared.screen.Screen.{Screen}
pub use Rattle.pv_screen.specs.declared.screen.Screen.TheVariants.{Whole, Row}
