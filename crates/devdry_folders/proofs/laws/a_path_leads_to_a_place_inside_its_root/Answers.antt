use Rattle.devdry_folders.proofs.Staying.{leads_inside}
use Rattle.devdry_folders.proofs.laws.a_path_leads_to_a_place_inside_its_root.Goals as goal

pub returns : goal.returns
returns g c = λ disk root links names it at leads. leads_inside (g.D.Disk.may_answer disk) root links names it at leads
