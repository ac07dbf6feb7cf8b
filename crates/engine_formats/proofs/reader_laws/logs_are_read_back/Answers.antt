use Rattle.std.proofs.Common.{ℕ, ◌<◌, ◌++◌, cond, codes, ap}
use Rattle.std.proofs.lemmas.List.Elements.{recursion_from_All}
use Rattle.engine_formats.specs.Uris.{uri_path}
use Rattle.engine_formats.proofs.Logs.{message_read_back, path_back, path_lacks}
use Rattle.engine_formats.proofs.reader_laws.logs_are_read_back.Goals as goal

pub returns-clause-message : goal.returns-clause-message
returns-clause-message c = message_read_back

pub returns-clause-path : goal.returns-clause-path
returns-clause-path c path bytes = path_back path (recursion_from_All (λ (b : ℕ). b < 256) path bytes)

pub returns-clause-relative : goal.returns-clause-relative
returns-clause-relative c path other = ap (λ v. cond v (codes "file://" ++ uri_path path) (uri_path path)) other

pub returns-clause-scheme : goal.returns-clause-scheme
returns-clause-scheme c path bytes = path_lacks path (recursion_from_All (λ (b : ℕ). b < 256) path bytes)
