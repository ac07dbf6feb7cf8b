use Rattle.std.proofs.Common.{refl}
use Rattle.devdry_links.proofs.places.link_places.Goals as goal

pub returns : goal.returns
returns c = rw (
  c.in_ok-push-4.ensures.items,
  c.in_ok-push-3.ensures.items,
  c.in_ok-push-2.ensures.items,
  c.in_ok-push.ensures.items,
  c.new-places.ensures.items,
  c.in_ok-link_place.ensures,
  c.in_ok-link_place-2.ensures,
  c.in_ok-link_place-3.ensures,
  c.in_ok-link_place-4.ensures,
) refl
