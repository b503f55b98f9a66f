-- A line of either kind.
use Rattle.pv_web.specs.declared.caller.CallerLine.{CallerLine}
use Rattle.pv_web.specs.declared.caller.CallerLine.TheVariants.{Plain, Browser}

-- what a plain line reports, or what a browser's does
abbrev pub either_line : {P B T : Type 0} → (P → T) → (B → T) → CallerLine P B → T
either_line plain browser (Plain line) = plain line
either_line plain browser (Browser line) = browser line
