use Rattle.std.proofs.Common.{◌≡◌, ◌++◌, map, rules}
use Rattle.devdry_files.specs.Inside.{MayInside}
use Rattle.devdry_files.specs.Places.{place_of}
use Rattle.devdry_folders.specs.Visits.{AreFolderVisits}
use Rattle.devdry_folders.proofs.visiting.visits.Goals as goal

pub returns : goal.returns
returns g c =
    let wanted = c.in_ok-wanted.wanted in
    let named = c.in_ok-visits.visits.items in
    let added = c.in_ok-added_visits.field-0.items in
    let found = c.in_ok-folder_visits.field-0.items in
    let cut : c.append-2.new.self.items ≡ (named ++ added) ++ found = search rules in
    let are_found : AreFolderVisits (MayInside (g.D.Disk.may_answer c.args.disk.now) wanted.root.now) (map place_of wanted.folders.items) found = search rules in
    record {
      wanted = wanted;
      wants = c.in_ok-wanted.ensures;
      named = named;
      added = added;
      found = found;
      cut = cut;
      are_named = c.in_ok-visits.ensures;
      are_added = c.in_ok-added_visits.ensures;
      are_found = are_found;
    }
