use Rattle.std.proofs.Common.{◌≡◌, ◌++◌, map}
use Rattle.std.specs.List.{filter_map}
use Rattle.text_tables.specs.Pairs.{Pair}
use Rattle.builtin_path.specs.Scsi.{host_name}
use Rattle.builtin_path.proofs.scsi_hosts.host_names.Given as goal

abbrev pub invariant-loop-name : goal.invariant-loop-name
invariant-loop-name l =
    map (λ t. t.now) l.names.items ++ filter_map {X = Pair} (λ pair. host_name pair.0) (map (λ e. (e.0.now, e.1.now)) l.name-iterator)
    ≡ filter_map {X = Pair} (λ pair. host_name pair.0) l.member.attrs
