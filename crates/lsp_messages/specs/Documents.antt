-- The documents that are open.
use Rattle.std.specs.Prelude.{ℕ, Bool, ◌&&◌, is_none, nat_le, List, [], Option, Some, None, length, sum_by, if◌then◌else◌}
use Rattle.std.specs.List.{list_any}
use Rattle.text_bytes.specs.Text.{Text}
use Rattle.text_tables.specs.Pairs.{with_value, without_name}
use Rattle.lsp_messages.specs.ChangeValues.{ChangeValue}
use Rattle.lsp_messages.specs.TextChanges.{all_changed}
use Rattle.lsp_messages.specs.declared.counting.Encoding.{Encoding}
use Rattle.lsp_messages.specs.declared.documents.Document.{Document}
use Rattle.lsp_messages.specs.declared.documents.Document.TheVariants.{InStep, OutOfStep}

-- how many bytes of a document are held
abbrev pub size_of : Document → ℕ
size_of (InStep version text) = length text
size_of OutOfStep = 0

-- how many bytes the texts of documents have
abbrev pub bytes_of : List (Text × Document) → ℕ
bytes_of documents = sum_by (λ document. size_of document.1) documents

-- whether documents may be held: 1,024 documents and 67,108,864 bytes at most
abbrev pub may_be_held : List (Text × Document) → Bool
may_be_held documents = nat_le (length documents) 1024 && nat_le (bytes_of documents) 67108864

-- Documents with one of a name, in the place of that of its name or at the end; without any of that name if these may not
-- be held.
abbrev pub with_document : List (Text × Document) → Text → Document → List (Text × Document)
with_document documents uri document =
    let more = with_value documents uri document in
    if may_be_held more then more else without_name documents uri

-- whether one of some changes is a text in place of all
abbrev pub has_whole : List ChangeValue → Bool
has_whole changes = list_any (λ change. is_none change.range) changes

-- the text of a document after changes: of one that is out of step none, unless one of them is a text in place of all
abbrev pub text_after : Encoding → Document → List ChangeValue → Option Text
text_after encoding (InStep version text) changes = Some (all_changed encoding text changes)
text_after encoding OutOfStep changes = if has_whole changes then Some (all_changed encoding [] changes) else None
