use Rattle.std.proofs.Common.{◌≡◌, ◌++◌, map, take}
use Rattle.text_json.specs.Listed.{value_tokens}
use Rattle.lsp_words.specs.Entries.{row_of}
use Rattle.lsp_words.specs.Completions.{offered}
use Rattle.lsp_answers.specs.Offers.{offered_name}
use Rattle.lsp_answers.proofs.offers.write_part.Given as goal

abbrev pub invariant-loop-entry : goal.invariant-loop-entry
invariant-loop-entry l = record {
  tokens : l.writer.tokens ≡ l.initial.writer.tokens
      ++ value_tokens (map (offered_name l.encoding l.spot (offered l.offer)) (map row_of (take l.entry-index l.part)));
  before : l.writer.before ≡ l.initial.writer.before;
}
