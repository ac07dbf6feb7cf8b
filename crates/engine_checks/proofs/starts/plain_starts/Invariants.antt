use Rattle.std.proofs.Common.{◌≡◌, ◌++◌, map, filter, not}
use Rattle.text_bytes.specs.Names.{hash}
use Rattle.text_bytes.specs.Numbers.{capped}
use Rattle.text_bytes.specs.Texts.{begins_with}
use Rattle.text_bytes.specs.declared.source_file.FileKind.TheVariants.{Hwdb}
use Rattle.text_bytes.specs.declared.profile.Profile.TheVariants.{Manual}
use Rattle.engine_checks.specs.Ignores.{starts_of}
use Rattle.engine_checks.proofs.starts.plain_starts.Given as goal

abbrev pub invariant-loop-line : goal.invariant-loop-line
invariant-loop-line l = l.starts.items ++ map (λ line. capped line.number) (filter (λ line. not (begins_with hash line.text)) l.line-iterator) ≡ starts_of Manual Hwdb l.bytes
