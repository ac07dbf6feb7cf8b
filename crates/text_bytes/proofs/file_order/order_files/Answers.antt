use Rattle.std.proofs.Common.{◌≡◌, ◌∙◌, ap, sym, true, eqb, refl, List}
use Rattle.std.specs.BTreeMap.{values}
use Rattle.std.specs.List.{ends_with}
use Rattle.text_bytes.specs.declared.source_file.SourceFile.{SourceFile}
use Rattle.text_bytes.specs.FileOrder.{put}
use Rattle.text_bytes.proofs.Placing.{rises_none, put-rises, ordered-push}
use Rattle.text_bytes.proofs.file_order.order_files.Goals as goal

pub loop-file-init : goal.loop-file-init
loop-file-init c = rw c.new-kept.ensures.empty (record { can = tt; finite = tt; names = tt; rise = rises_none; value = refl })

pub loop-file-preserved-in-Continue-1 : goal.loop-file-preserved-in-Continue-1
loop-file-preserved-in-Continue-1 c =
    let so_far = c.loop-file.invariant in
    let ends : ends_with eqb c.in-Some.file.name c.args.suffix.now ≡ true = sym (rw (c.as_slice.ensures, c.if-ends_with.true) at c.ends_with.ensures.value) in
    let now : values c.put.new.kept ≡ put (values c.loop-file.kept) c.in-Some.file = c.in_ok-put.ensures.files in
    record {
      can = tt;
      finite = tt;
      names = c.in_ok-put.ensures.names;
      rise = rw now (put-rises (values c.loop-file.kept) c.in-Some.file so_far.rise);
      value = now ∙ ap (λ (kept : List SourceFile). put kept c.in-Some.file) so_far.value ∙ sym (ordered-push c.args.suffix.now c.loop-file.yielded c.in-Some.file ends);
    }
