use Rattle.std.proofs.lemmas.Result.{IfOk-weaker}
use Rattle.devdry_words.specs.Commands.{devdry}
use Rattle.devdry_words.proofs.Chains.{one_more_command}
use Rattle.devdry_words.proofs.commands.devdry_command.Goals as goal

pub returns : goal.returns
unfolding devdry
returns c =
    let first = one_more_command _ _ _ _ _ c.in_ok-program.ensures c.in_ok-verify_command.ensures c.in_ok-subcommand.ensures in
    let second = one_more_command _ _ _ _ _ first c.in_ok-query_command.ensures c.in_ok-subcommand-2.ensures in
    let third = one_more_command _ _ _ _ _ second c.in_ok-update_command.ensures c.in_ok-subcommand-3.ensures in
    let fourth = one_more_command _ _ _ _ _ third c.in_ok-events_command.ensures c.in_ok-subcommand-4.ensures in
    let fifth = one_more_command _ _ _ _ _ fourth c.in_ok-files_command.ensures c.in_ok-subcommand-5.ensures in
    let sixth = one_more_command _ _ _ _ _ fifth c.in_ok-compare_command.ensures c.in_ok-subcommand-6.ensures in
    let seventh = one_more_command _ _ _ _ _ sixth c.in_ok-fmt_command.ensures c.in_ok-subcommand-7.ensures in
    IfOk-weaker c.subcommand-8.result _ _ (λ m h. one_more_command _ _ _ _ _ seventh c.in_ok-explain_command.ensures h) c.subcommand-8.ensures
