use Rattle.pv_serve.proofs.Asked.{parts_of_each}
use Rattle.pv_serve.proofs.real_server.serve_at.Goals as goal

-- the disks and doors are those of the options, and the words ask for no other server
pub serve-served-requires-clause-parts : goal.serve-served-requires-clause-parts
serve-served-requires-clause-parts g c κs within = λ other asked.
    parts_of_each _ c.args.options.now other _ _ _ c.requires.asked asked c.requires.parts
