use Rattle.std.proofs.Common.{Some, ap, cond, ◌∙◌}
use Rattle.std.specs.Prelude.{codes}
use Rattle.lsp_messages.specs.declared.errors.ErrorCode.TheVariants.{ServerNotInitialized}
use Rattle.lsp_server.specs.Beginning.{begun}
use Rattle.lsp_server.specs.Contents.{requested}
use Rattle.lsp_server.specs.Errors.{error_for}
use Rattle.lsp_server.specs.Servers.{sends}
use Rattle.lsp_server.proofs.laws.requests_out_of_order_are_refused.Goals as goal

pub returns-clause-fresh : goal.returns-clause-fresh
returns-clause-fresh c server id method params is other =
    ap (λ phase. requested phase server id method params) is
    ∙ ap (λ b. cond b (begun server id params) (sends server (error_for (Some id) ServerNotInitialized))) other

pub returns-clause-twice : goal.returns-clause-twice
returns-clause-twice c server id params is = ap (λ phase. requested phase server id (codes "initialize") params) is

pub returns-clause-down : goal.returns-clause-down
returns-clause-down c server id method params is = ap (λ phase. requested phase server id method params) is
