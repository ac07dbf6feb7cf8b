use Rattle.std.proofs.Common.{◌≡◌, ◌++◌}
use Rattle.text_bytes.specs.Text.{Text}
use Rattle.link_files.specs.DropIns.{own_of}
use Rattle.link_files.proofs.Owners.{so_far}
use Rattle.link_files.proofs.drop_ins.add_file.Given as goal

abbrev pub invariant-loop-place : goal.invariant-loop-place
invariant-loop-place l = (name : Text) → own_of l.owners name ≡ own_of l.fn.owners name ++ so_far name l.file l.place
