use Rattle.std.proofs.Common.{◌≡◌, ◌∙◌, ◌++◌, ◌+◌, ◌∷◌, [], ap, map, rules, string_bytes, sym, take}
use Rattle.std.specs.List.{AllZip}
use Rattle.devdry_files.specs.Inside.{IsEntryIn}
use Rattle.devdry_files.proofs.Adding.{one_more, zip_more}
use Rattle.devdry_files.proofs.rooted_disk.entries_in.Goals as goal

pub loop-entry-preserved : goal.loop-entry-preserved
loop-entry-preserved g c =
    let own = c.args.own.now in
    let entry = c.entry-item.result in
    let index = c.loop-entry.entry-index in
    let entries = c.loop-entry.entries.items in
    let next : take (index + 1) own ≡ take index own ++ entry ∷ [] = one_more own index entry (search rules) ∙ ap (λ n. take index own ++ n ∷ []) (sym c.entry-item.is) in
    let Same = IsEntryIn (g.D.Disk.may_answer c.args.disk.now) c.args.root.now (map string_bytes c.args.way.now) in
    let more : AllZip Same (take index own ++ entry ∷ []) (entries ++ c.in_ok-entry_in.field-0 ∷ []) = zip_more Same (take index own) entries entry c.in_ok-entry_in.field-0 c.loop-entry.invariant c.in_ok-entry_in.ensures in
    rw (next, c.in_ok-push.ensures.items) more
