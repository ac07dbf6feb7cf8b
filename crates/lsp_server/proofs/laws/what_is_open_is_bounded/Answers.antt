use Rattle.std.proofs.Common.{refl}
use Rattle.lsp_server.proofs.Holding.{all_held}
use Rattle.lsp_server.specs.Servers.{first}
use Rattle.lsp_server.proofs.laws.what_is_open_is_bounded.Goals as goal

pub returns : goal.returns
returns c items = all_held first items refl
