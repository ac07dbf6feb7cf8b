use Rattle.std.proofs.Common.{◌≡◌, refl, rules, subst}
use Rattle.devdry_gathering.specs.Notes.{AreNotesOf}
use Rattle.devdry_gathering.proofs.gathering.answer.Goals as goal

pub returns : goal.returns
returns g c =
    let may = g.D.Disk.may_answer c.args.disk.now in
    let made = c.in_ok-inputs.ensures in
    let files : c.deref.result.now ≡ c.args.read.files.items = search rules in
    record {
      read = c.args.read;
      inputs = c.in_ok-inputs.field-0;
      are_inputs = record { is_read = c.requires; line_is = made.line_is; files_are = made.files_are; index_is = made.index_is; finds = made.finds };
      notes = c.in_ok-notes.notes.items;
      are_notes = subst (λ files. AreNotesOf may c.args.line files c.in_ok-notes.notes.items) files c.in_ok-notes.ensures;
      work = refl;
      says = (search rules, refl);
    }
