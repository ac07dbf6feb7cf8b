use Rattle.std.proofs.Common.{◌++◌, ◌∙◌, ap}
use Rattle.text_bytes.specs.Names.{colon}
use Rattle.link_files.specs.Files.{listed_path}
use Rattle.link_files.proofs.Joining.{join_next}
use Rattle.link_files.proofs.files.listed.Goals as goal

pub loop-file-preserved : goal.loop-file-preserved
loop-file-preserved c =
    join_next colon listed_path (λ f. f.now) _ c.loop-file.file-index c.file-item.result c.loop-file.text.items _ _
    c.loop-file-test.true c.file-item.is (c.in_ok-list_path-2.ensures ∙ ap (λ t. t ++ listed_path c.file-item.result.now) c.in_ok-push.ensures.items) c.loop-file.invariant
