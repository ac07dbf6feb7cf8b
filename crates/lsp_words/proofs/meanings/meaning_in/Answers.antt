use Rattle.std.proofs.Common.{rules, ◌≡◌}
use Rattle.std.specs.Prelude.{option_map}
use Rattle.lsp_words.specs.Meanings.{meaning_in}
use Rattle.lsp_words.specs.Meanings.{shown}
use Rattle.lsp_words.proofs.Standing.{entry_of}
use Rattle.lsp_words.proofs.meanings.meaning_in.Goals as goal

pub returns-clause-entry : goal.returns-clause-entry
unfolding meaning_in
returns-clause-entry c =
    let found : option_map shown c.told.result ≡ meaning_in c.args.row.now c.args.at c.args.slot = search rules in
    entry_of c.args.row.now c.args.at c.args.slot c.told.result c.requires found
