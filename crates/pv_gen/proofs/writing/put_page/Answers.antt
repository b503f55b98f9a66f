use Rattle.std.proofs.Common.{◌∙◌}
use Rattle.pv_gen.proofs.Texts.{page-text}
use Rattle.pv_gen.proofs.Writes.{same-text}
use Rattle.pv_gen.proofs.writing.put_page.Goals as goal

-- the parts are the lines
pub returns : goal.returns
returns g c =
    same-text (page-text _ _ _ _ c.args.place c.args.price
    (c.as_bytes.ensures.value ∙ c.format.ensures.text) (c.as_bytes-2.ensures.value ∙ c.format-2.ensures.text)
    (c.as_bytes-3.ensures.value ∙ c.format-3.ensures.text) (c.as_bytes-4.ensures.value ∙ c.format-4.ensures.text))
    c.put_all.ensures
