-- What a terminal shows after several screens.
use Rattle.std.proofs.{Common.{◌≡◌, List, [], ◌∷◌, All, fold, ap, ◌∙◌, refl}, lemmas.List.{Sums.fold-append, Elements.{All-head, All-tail}}}
use Rattle.std.specs.List.{flat_map}
use Rattle.pv_screen.proofs.Vocabulary.{screen_bytes, IsShowable, shown_after, Display, IsReadyDisplay, after_byte, terminal_after, Screen, Whole, Row}
use Rattle.pv_screen.proofs.Shows.{painted_shows, painted_ready, message_shows, message_ready}

-- after the bytes of one screen the terminal shows it, or what it showed with another row 24
screen_shows : (screen : Screen) → IsShowable screen → (t : Display) → IsReadyDisplay t
    → (terminal_after t (screen_bytes screen)).cells ≡ shown_after t.cells screen
screen_shows (Whole grid) is t before = painted_shows grid is t before.first
screen_shows (Row cells) is t before = message_shows cells is t before

-- and is ready for the next screen
screen_ready : (screen : Screen) → IsShowable screen → (t : Display) → IsReadyDisplay t
    → IsReadyDisplay (terminal_after t (screen_bytes screen))
screen_ready (Whole grid) is t before = painted_ready grid is t before.first
screen_ready (Row cells) is t before = message_ready cells is t before

-- after those of several it shows what they make of what it showed, one after another
pub screens_shown : (screens : List Screen) → All IsShowable screens → (t : Display) → IsReadyDisplay t
    → (terminal_after t (flat_map screen_bytes screens)).cells ≡ fold shown_after t.cells screens
screens_shown [] are t before = refl
screens_shown (screen ∷ screens) are t before =
    let is = All-head IsShowable screen screens are in
    let next = terminal_after t (screen_bytes screen) in
    ap (λ (d : Display). d.cells) (fold-append after_byte t (screen_bytes screen) (flat_map screen_bytes screens))
    ∙ screens_shown screens (All-tail IsShowable screen screens are) next (screen_ready screen is t before)
    ∙ ap (λ rows. fold shown_after rows screens) (screen_shows screen is t before)
