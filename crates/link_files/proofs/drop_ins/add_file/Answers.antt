use Rattle.std.proofs.Common.{◌≡◌, ap, ◌∙◌, sym, drop, take}
use Rattle.link_files.specs.DropIns.{is_drop_in_name, own_of}
use Rattle.link_files.proofs.Owners.{taken, not_taken}
use Rattle.link_files.proofs.drop_ins.add_file.Goals as goal
use Rattle.link_files.proofs.drop_ins.add_file.Goals.{then-is_drop_in_name+in_ok-add_to, else-is_drop_in_name}

pub loop-place-preserved : goal.loop-place-preserved
loop-place-preserved c = λ name.
    let whole = c.as_slice-whole.ensures in
    elim c.if-is_drop_in_name.branch [
      | then-is_drop_in_name+in_ok-add_to w ↦
          let front : c.split_at.result.0.now ≡ take c.loop-place.place c.args.file.now.name = rw whole at c.split_at.ensures.front in
          let back : c.split_at.result.1.now ≡ drop c.loop-place.place c.args.file.now.name = rw whole at c.split_at.ensures.back in
          taken name c.args.file.now (own_of c.args.owners.now name) (own_of c.loop-place.owners name) _ c.loop-place.place
          (rw whole at c.loop-place-test.true)
          (ap is_drop_in_name (sym back) ∙ sym w.if-is_drop_in_name.ensures)
          (ap (λ o. own_of o name) w.owners-is ∙ rw front at (w.in_ok-add_to.ensures name))
          (c.loop-place.invariant name)
      | else-is_drop_in_name w ↦
          let back : c.split_at.result.1.now ≡ drop c.loop-place.place c.args.file.now.name = rw whole at c.split_at.ensures.back in
          rw (w.owners-is)
          (not_taken name c.args.file.now (own_of c.args.owners.now name) (own_of c.loop-place.owners name) c.loop-place.place
          (ap is_drop_in_name (sym back) ∙ sym w.if-is_drop_in_name.ensures) (c.loop-place.invariant name))
    ]
