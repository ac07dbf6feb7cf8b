use Rattle.std.proofs.Common.{◌≡◌, ◌<◌, true}
use Rattle.std.proofs.lemmas.List.Elements.{All-from_recursion, recursion_from_All}
use Rattle.engine_formats.proofs.NearestNames.{least_of_all, nearest_far, nearest_known, nearest_near, nearest_one}
use Rattle.engine_formats.specs.Near.{distance, farthest}
use Rattle.engine_formats.proofs.near_laws.the_nearest_name_is_found.Goals as goal

pub returns-clause-one : goal.returns-clause-one
returns-clause-one c test names word h =
    nearest_one (λ name. test name ≡ true) names word (recursion_from_All (λ name. test name ≡ true) names h)

pub returns-clause-near : goal.returns-clause-near
returns-clause-near c names word = nearest_near names word

pub returns-clause-least : goal.returns-clause-least
returns-clause-least c names word = least_of_all names word

pub returns-clause-known : goal.returns-clause-known
returns-clause-known c names word h = nearest_known names word h

pub returns-clause-far : goal.returns-clause-far
returns-clause-far c names word h none =
    All-from_recursion (λ name. farthest word < distance name word) names (nearest_far names word h none)
