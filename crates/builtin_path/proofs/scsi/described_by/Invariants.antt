use Rattle.std.proofs.Common.{◌≡◌, drop, map}
use Rattle.builtin_path.specs.Scsi.{described_by}
use Rattle.builtin_path.proofs.scsi.described_by.Given as goal

abbrev pub invariant-loop-row : goal.invariant-loop-row
invariant-loop-row l =
    described_by (map (λ row. (row.0.now, row.1)) (drop l.row-index l.rows)) l.path
    ≡ described_by (map (λ row. (row.0.now, row.1)) l.rows) l.path
