use Rattle.std.proofs.Common.{◌≡◌, ◌∙◌, ◌++◌, ◌+◌, ◌∷◌, [], ap, arith, map, refl, rules, string_bytes, suc, sym, take, take-suc}
use Rattle.std.proofs.lemmas.List.{map-append}
use Rattle.std.proofs.lemmas.List.Elements.{All-push}
use Rattle.devdry_folders.specs.Visits.{AreSightsAt, IsSightIn}
use Rattle.devdry_folders.proofs.visiting.sights_of_names.Goals as goal

pub loop-name-preserved : goal.loop-name-preserved
loop-name-preserved g c =
    let may = g.D.Disk.may_answer c.args.disk.now in
    let names = c.args.names.now in
    let name = c.name-item.result in
    let index = c.loop-name.name-index in
    let sight = c.in_ok-sight_in.field-0 in
    let so_far = c.loop-name.sights.items in
    let one : index + 1 ≡ suc index = omega arith in
    let next : take (index + 1) names ≡ take index names ++ name ∷ [] = ap (λ n. take n names) one ∙ take-suc names index name (search rules) ∙ ap (λ n. take index names ++ n ∷ []) (sym c.name-item.is) in
    let grown : c.push.new.self.items ≡ so_far ++ sight ∷ [] = search rules in
    let own : sight.name ≡ string_bytes name = c.in_ok-sight_in.ensures.name ∙ c.as_str.ensures.value in
    let more : AreSightsAt may c.args.suffix.now c.args.folder.now (map string_bytes (take index names ++ name ∷ [])) (so_far ++ sight ∷ []) = record {
      named_so = simp (map-append, c.loop-name.invariant.named_so, own) refl;
      each = All-push (IsSightIn may c.args.suffix.now c.args.folder.now) so_far sight c.loop-name.invariant.each c.in_ok-sight_in.ensures.sight;
    } in
    rw (next, grown) more
