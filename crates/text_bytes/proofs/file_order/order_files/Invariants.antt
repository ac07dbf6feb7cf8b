use Rattle.std.proofs.Common.{◌≡◌, [], fold}
use Rattle.std.specs.BTreeMap.{values}
use Rattle.text_bytes.specs.ByName.{AreUnderTheirNames}
use Rattle.text_bytes.specs.FileOrder.{put, with_suffix}
use Rattle.text_bytes.specs.OrderLaws.{NamesRise}
use Rattle.text_bytes.proofs.file_order.order_files.Given as goal

abbrev pub invariant-loop-file : goal.invariant-loop-file
invariant-loop-file l = record {
  can : (goal.iterator-loop-file).can_next l.file-iterator;
  finite : (goal.iterator-loop-file).is_finite l.file-iterator;
  names : AreUnderTheirNames (λ name. name.items) l.kept.entries;
  rise : NamesRise (values l.kept);
  value : values l.kept ≡ fold put [] (with_suffix l.suffix l.yielded);
}
