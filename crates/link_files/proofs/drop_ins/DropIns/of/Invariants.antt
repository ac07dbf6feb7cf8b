use Rattle.std.proofs.Common.{◌≡◌, filter, take}
use Rattle.text_bytes.specs.Text.{Text}
use Rattle.link_files.specs.DropIns.{is_for, own_of}
use Rattle.link_files.proofs.drop_ins.DropIns.of.Given as goal

abbrev pub invariant-loop-file : goal.invariant-loop-file
invariant-loop-file l = (name : Text) → own_of l.owners name ≡ filter (is_for name) (take l.file-index l.files)
