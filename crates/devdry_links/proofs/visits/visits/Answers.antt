use Rattle.std.proofs.Common.{◌≡◌, ◌++◌, ◌∷◌, [], map, refl, rules}
use Rattle.std.proofs.lemmas.List.{map-append}
use Rattle.std.proofs.lemmas.List.Elements.{All-push}
use Rattle.devdry_links.specs.Visits.{AreVisits, IsVisit}
use Rattle.devdry_links.proofs.visits.visits.Goals as goal

pub loop-place-preserved : goal.loop-place-preserved
loop-place-preserved g c =
    let may = g.D.Disk.may_answer c.args.disk.now in
    let visit = c.in_ok-visit.field-0 in
    let so_far = c.loop-place.visits.items in
    let grown : c.push.new.self.items ≡ so_far ++ visit ∷ [] = search rules in
    let at : map (λ v. v.place) (so_far ++ visit ∷ []) ≡ c.loop-place.yielded ++ c.in-Some.place ∷ [] =
    simp (map-append, c.loop-place.invariant.at_places, c.in_ok-visit.ensures.place) refl in
    let more : AreVisits may (c.loop-place.yielded ++ c.in-Some.place ∷ []) (so_far ++ visit ∷ []) = record {
      at_places = at;
      each = All-push (IsVisit may) so_far visit c.loop-place.invariant.each c.in_ok-visit.ensures.visit;
    } in
    rw grown more
