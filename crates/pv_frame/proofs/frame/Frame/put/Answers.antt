use Rattle.std.{proofs.Common.{[], ◌∷◌, ◌++◌, length, take, arith}, specs.Prelude.flat_map}
use Rattle.pv_frame.proofs.{Vocabulary.{Appends, kind_code, field_bytes}, Padding.putting}
use Rattle.pv_fields.proofs.CallerLemmas.{appends_then}
use Rattle.pv_frame.proofs.frame.Frame.put.Goals as goal

-- the parts, one after another
pub returns : goal.returns
returns c =
    let frame = c.self.inside in
    let fields = take frame.count frame.fields in
    let kind : Appends c.put_run-2.new.self c.put_u8-2.new.self (kind_code frame.kind ∷ []) = grind (arith, putting) in
    let number : Appends c.put_u16.new.self c.put_u8-4.new.self (length fields ∷ []) = grind (arith, putting) in
    let last : Appends c.put_u8-4.new.self c.put_fields.new.out (flat_map field_bytes fields ++ []) = grind (arith, putting) in
    rw (← c.self.view_is)
    (appends_then c.put_u8.ensures.appends
    (appends_then c.put_run.ensures.appends (appends_then c.put_run-2.ensures.appends (appends_then kind
    (appends_then c.put_routes.ensures
    (appends_then c.put_u8-3.ensures.appends (appends_then c.put_u16.ensures.appends (appends_then number last))))))))
