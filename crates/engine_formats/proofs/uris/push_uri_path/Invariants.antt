use Rattle.std.proofs.Common.{◌≡◌, ◌++◌, take}
use Rattle.engine_formats.specs.Uris.{uri_path}
use Rattle.engine_formats.proofs.uris.push_uri_path.Given as goal

abbrev pub invariant-loop-byte : goal.invariant-loop-byte
invariant-loop-byte l = l.uri.items ≡ l.initial.uri.items ++ uri_path (take l.byte-index l.path)
