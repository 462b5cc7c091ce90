-- What request 11 says of a sheet that is refused for its types.
use Rattle.std.specs.Prelude.{◌≡◌, ℕ, ◌<◌, List, true, false}
use Rattle.definitions.specs.Layouts.{nodes}
use Rattle.definitions.specs.Types.{type_right}

-- node k is the first in order that breaks a rule of types
pub record FirstIllTyped (b : List ℕ) (k : ℕ) : Type 0 where
  pub below : k < nodes b
  pub before : (j : ℕ) → j < k → type_right b j ≡ true
  pub breaks : type_right b k ≡ false
