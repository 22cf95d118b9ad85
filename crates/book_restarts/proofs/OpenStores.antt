-- A store that is clean.
use Rattle.std.proofs.Common.{◌≡◌, ◌≤◌, Bool, arith}
use Rattle.sqlite_trees.specs.View.{doubt}

-- one that is clean was so before
pub clean_before : (was is : Bool) → doubt was ≤ doubt is → doubt is ≡ 0 → doubt was ≡ 0
clean_before was is worse clean = omega (arith, worse, clean)
