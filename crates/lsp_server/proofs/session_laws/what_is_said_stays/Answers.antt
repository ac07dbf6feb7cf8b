use Rattle.lsp_server.specs.AnyServer.{acting}
use Rattle.lsp_server.proofs.LawLemmas.{stays_exit, stays_first}
use Rattle.lsp_server.proofs.session_laws.what_is_said_stays.Goals as goal

pub returns : goal.returns
returns g c = record {
  first = λ state input later. stays_first (acting g.S.Replying.replies g.S.Replying.after state) input later;
  exit = λ state input later exit e. stays_exit (acting g.S.Replying.replies g.S.Replying.after state) input later exit e;
}
