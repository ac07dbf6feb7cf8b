use Rattle.std.proofs.Common.{◌≡◌, drop, map}
use Rattle.std.specs.List.{filter_map, fold}
use Rattle.std.specs.Prelude.{None}
use Rattle.builtin_path.specs.Scsi.{host_number, lower}
use Rattle.builtin_path.proofs.scsi_hosts.lowest.Given as goal

abbrev pub invariant-loop-name : goal.invariant-loop-name
invariant-loop-name l =
    fold lower l.lowest (filter_map host_number (map (λ t. t.now) (drop l.name-index l.names)))
    ≡ fold lower None (filter_map host_number (map (λ t. t.now) l.names))
