use Rattle.std.proofs.Common.{◌∙◌, ap, arith, false, get_or, length, sym, true≢false}
use Rattle.std.proofs.Math.Nat.{min-le_left}
use Rattle.text_bytes.specs.Names.{slash}
use Rattle.text_bytes.specs.Texts.{begins_with}
use Rattle.builtin_devices.specs.Folders.{files_in}
use Rattle.builtin_devices.proofs.Gathered.{all_looked_at, ended, no_cut, passed, taken}
use Rattle.builtin_devices.proofs.folders.add_file.Goals as goal
use Rattle.builtin_devices.proofs.folders.add_file.Goals.{then-lengths-place+then-begins_with+in_ok-add_to_folder, else-lengths-place, else-lengths-place-via-then-lengths-place+else-begins_with, else-lengths-place-via-else-lengths-place}

pub loop-place-preserved : goal.loop-place-preserved
loop-place-preserved c = λ folder there.
    let path = c.args.path.now in
    let text = c.args.text.now in
    let place = c.loop-place.place in
    let start = files_in c.args.folders.now folder in
    let before = c.loop-place.invariant folder there in
    let inside = min-le_left (length c.args.path.now) (length c.args.lengths.now) in
    elim c.if-lengths-place.branch [
      | then-lengths-place+then-begins_with+in_ok-add_to_folder w ↦
          taken folder path text start _ _ place _ _ _ (omega (arith, inside, c.loop-place-test.true, c.min-place-end.ensures)) c.split_at.ensures.front c.split_at.ensures.back w.split_at-then-begins_with.ensures.back
          (sym w.begins_with.ensures ∙ w.if-begins_with.true)
          (ap (λ m. files_in m folder) w.folders-is ∙ w.in_ok-add_to_folder.ensures folder)
          before
      | else-lengths-place w ↦
          ap (λ m. files_in m folder) w.folders-is
          ∙ passed folder path text start _ place
          (λ here. elim w.else-lengths-place.branch [
            | else-lengths-place-via-then-lengths-place+else-begins_with v ↦
                no_cut folder path text place (ap (begins_with slash) (sym c.split_at.ensures.back) ∙ sym v.begins_with.ensures ∙ v.if-begins_with.false) here
            | else-lengths-place-via-else-lengths-place v ↦
                absurd (true≢false (sym there ∙ ap (λ n. get_or c.args.lengths.now n false) here ∙ v.if-lengths-place.false))
          ])
          before
    ]

pub returns : goal.returns
returns c = λ folder there.
    ended folder c.args.path.now c.args.text.now _ _ c.loop-place.place
    (all_looked_at c.args.lengths.now c.args.path.now c.loop-place.place c.min-place-end.result (length folder) c.min-place-end.ensures c.loop-place-test.false there)
    (c.loop-place.invariant folder there)
