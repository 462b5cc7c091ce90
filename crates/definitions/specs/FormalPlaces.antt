-- The function of a formal and its position there (document 02, request 7: "A formal's position is its place among the formals of
-- its function, so a function record in a translation gains its parameter count after the node count").
use Rattle.std.specs.Prelude.{ℕ, suc, ◌-◌, List, leb}
use Rattle.definitions.specs.Lists.{sum_of, count_of}
use Rattle.definitions.specs.Layouts.{functions, parameter_count}

-- the function whose formals are among the first n counts, and the place among them, of formal p
unfoldable pub function_by : ℕ → (ℕ → ℕ) → ℕ → ℕ
function_by n count p = count_of n (λ f. leb (sum_of (suc f) count) p)

unfoldable pub position_by : ℕ → (ℕ → ℕ) → ℕ → ℕ
position_by n count p = p - sum_of (function_by n count p) count

-- in a translation
abbrev pub function_of : List ℕ → ℕ → ℕ
function_of b p = function_by (functions b) (parameter_count b) p

abbrev pub position_of : List ℕ → ℕ → ℕ
position_of b p = position_by (functions b) (parameter_count b) p
