-- Orders of which what ties is one.
use Rattle.std.proofs.Common.{◌≡◌}
use Rattle.std.specs.declared.cmp.Ordering.{Ordering}
use Rattle.std.specs.declared.cmp.Ordering.TheVariants.{Less, Equal, Greater}

-- a total order by which only an element itself is equal to it
pub record IsOrder {A : Type 0} (cmp : A → A → Ordering) : Type 0 where
  pub itself : (x : A) → cmp x x ≡ Equal
  pub same : (x y : A) → cmp x y ≡ Equal → x ≡ y
  pub reversed : (x y : A) → cmp x y ≡ Greater → cmp y x ≡ Less
  pub trans : (x y z : A) → cmp x y ≡ Less → cmp y z ≡ Less → cmp x z ≡ Less
