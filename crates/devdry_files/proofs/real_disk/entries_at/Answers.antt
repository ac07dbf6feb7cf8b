use Rattle.std.proofs.Common.{◌≡◌, ◌∙◌, ◌++◌, ◌+◌, ◌∷◌, [], ap, map, rules, string_bytes, subst, sym, take}
use Rattle.std.proofs.lemmas.List.{map-append}
use Rattle.std.specs.List.{AllZip}
use Rattle.devdry_files.specs.Calls.{IsEntrySeen}
use Rattle.devdry_files.proofs.Adding.{one_more, zip_more}
use Rattle.devdry_files.proofs.real_disk.entries_at.Goals as goal

pub loop-name-preserved : goal.loop-name-preserved
loop-name-preserved g c =
    let names = c.args.names.now in
    let name = c.name-item.result in
    let index = c.loop-name.name-index in
    let entries = c.loop-name.entries.items in
    let taken : take (index + 1) names ≡ take index names ++ name ∷ [] = one_more names index name (search rules) ∙ ap (λ n. take index names ++ n ∷ []) (sym c.name-item.is) in
    let next : map string_bytes (take (index + 1) names) ≡ map string_bytes (take index names) ++ string_bytes name ∷ [] = ap (map string_bytes) taken ∙ map-append string_bytes (take index names) (name ∷ []) in
    let Seen = IsEntrySeen (g.S.System.may_reply c.args.system.now) c.args.folder.now in
    let here : Seen (string_bytes name) c.in_ok-entry_at.field-0 = subst (λ text. Seen text c.in_ok-entry_at.field-0) c.as_str.ensures.value c.in_ok-entry_at.ensures in
    let more : AllZip Seen (map string_bytes (take index names) ++ string_bytes name ∷ []) (entries ++ c.in_ok-entry_at.field-0 ∷ []) = zip_more Seen (map string_bytes (take index names)) entries (string_bytes name) c.in_ok-entry_at.field-0 c.loop-name.invariant here in
    rw (next, c.in_ok-push.ensures.items) more
