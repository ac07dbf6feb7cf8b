-- Paths and names of files that are asked for.
use Rattle.std.proofs.Common.{◌≡◌, true, false, codes, refl}
use Rattle.engine_courses.specs.Asked.{asks}
use Rattle.engine_courses.specs.Named.{alike}

pub by_path : asks (codes "d/r.rules") (codes "r.rules", 2) ≡ true
unfolding alike
by_path = refl

pub by_name : asks (codes "r.rules") (codes "d/r.rules", 1) ≡ true
unfolding alike
by_name = refl

pub other_path : asks (codes "e/r.rules") (codes "d/r.rules", 1) ≡ false
unfolding alike
other_path = refl
