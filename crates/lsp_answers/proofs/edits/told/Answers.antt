use Rattle.std.proofs.lemmas.Str.{IsUtf8-from_is_utf8}
use Rattle.lsp_answers.proofs.edits.told.Goals as goal

pub returns : goal.returns
returns c = c.in_ok-told.ensures.ok (IsUtf8-from_is_utf8 c.args.new.now c.requires)
