use Rattle.pv_serve.proofs.serving.images_stand_for_one_list.Goals as goal

-- a law of disks
pub returns-clause-left : goal.returns-clause-left
returns-clause-left g c = g.met.D.Disk.reads_is_left
