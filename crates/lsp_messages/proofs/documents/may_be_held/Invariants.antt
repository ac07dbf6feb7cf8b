use Rattle.std.proofs.Common.{◌≡◌, ◌+◌}
use Rattle.std.specs.Prelude.{sum_by}
use Rattle.indexmap.specs.IndexMap.{values}
use Rattle.lsp_messages.specs.Documents.{size_of}
use Rattle.lsp_messages.proofs.documents.may_be_held.Given as goal

abbrev pub invariant-loop-document : goal.invariant-loop-document
invariant-loop-document l =
    l.left + sum_by size_of (values l.held) ≡ 67108864 + sum_by size_of l.document-iterator
