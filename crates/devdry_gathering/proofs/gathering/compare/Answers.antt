use Rattle.std.proofs.Common.{refl, rules}
use Rattle.devdry_gathering.proofs.gathering.compare.Goals as goal

pub returns : goal.returns
returns g c =
    let old = c.in_ok-old.ensures in
    let new = c.in_ok-new.ensures in
    record {
      old_read = c.args.old_read;
      new_read = c.args.new_read;
      old_inputs = c.in_ok-old.old;
      new_inputs = c.in_ok-new.new;
      are_old = record { is_read = c.requires.old; line_is = old.line_is; files_are = old.files_are; index_is = old.index_is; finds = old.finds };
      are_new = record { is_read = c.requires.new; line_is = new.line_is; files_are = new.files_are; index_is = new.index_is; finds = new.finds };
      work = refl;
      says = (search rules, search rules);
    }
