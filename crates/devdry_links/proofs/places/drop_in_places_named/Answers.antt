use Rattle.std.proofs.Common.{refl}
use Rattle.devdry_links.proofs.places.drop_in_places_named.Goals as goal

pub returns : goal.returns
returns c = rw (
  c.in_ok-push-4.ensures.items,
  c.in_ok-push-3.ensures.items,
  c.in_ok-push-2.ensures.items,
  c.in_ok-push.ensures.items,
  c.new-places.ensures.items,
  c.in_ok-drop_in_place.ensures,
  c.in_ok-drop_in_place-2.ensures,
  c.in_ok-drop_in_place-3.ensures,
  c.in_ok-drop_in_place-4.ensures,
) refl
