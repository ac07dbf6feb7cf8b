use Rattle.std.proofs.Common.{ap}
use Rattle.lsp_server.proofs.ItemLemmas.{frames_read}
use Rattle.lsp_server.specs.AnyServer.{acting, said_to}
use Rattle.lsp_server.proofs.session_laws.framed_contents_are_replied_to.Goals as goal

pub returns : goal.returns
returns g c = λ state contents fit. ap (said_to (acting g.S.Replying.replies g.S.Replying.after state)) (frames_read contents fit).items_are
