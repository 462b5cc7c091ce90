-- How visits of labels add up: a node's visit is its own step and the visits of the nodes that it asks for.
use Prim.Native.Nat.{ℕ, suc}
use mathlib.Core.List.{List}
use lib.IntN.{ℤ}
use Rattle.definitions.specs.Operators.{Computed, gives, faults}
use Rattle.definitions.specs.Rule.{Value, Ending, value, ended, integer, State, Reached, reach, result_of}
use Rattle.rule_laws.specs.Derivations.{Trace, alone, after, after_both, ending_of}
use Rattle.rule_laws.specs.Reads.{state_of, Reads, Shows, an_integer, an_end, Arrives}

module _ {t : List ℕ} {C S : Type 0} (R : Reads t C S) where
  module _ {n left : ℕ} {m : S} where
    -- a visit that visits nothing else
    pub arrives_alone : (k : ℕ) {w : C} {ws : List ℕ} {d : Ending C} {e : Ending (List ℕ)} → R.At m k w ws → Shows (R.Built m) d e
        → Arrives R (suc n) (state_of (suc left) m) alone e (reach d (state_of left m))
    unfolding reach
    arrives_alone k a s = record { went = R.went_alone a; shows = s }

    -- a visit of one node, and of two one after the other
    pub arrives_after : {a : Trace} {e : Ending (List ℕ)} {r : Reached C S} → Arrives R n (state_of left m) a e r
        → Arrives R (suc n) (state_of (suc left) m) (after a) e r
    arrives_after f = record { went = R.went_after f.went; shows = f.shows }

    pub arrives_both : {a d : Trace} {v : Value (List ℕ)} {e : Ending (List ℕ)} {r r' : Reached C S} → Arrives R n (state_of left m) a (value v) r
        → Arrives R n r.state d e r'
        → Arrives R (suc n) (state_of (suc left) m) (after_both a d) e r'
    arrives_both f g = record { went = R.went_both f.went g.went; shows = g.shows }

  -- the same visits with another end
  module _ {n : ℕ} {s : State S} {a : Trace} {r : Reached C S} where
    pub arrives_ended : {e : Ending (List ℕ)} {y : ℕ} → Arrives R n s a e r → Arrives R n s a (ended y) (reach (ended y) r.state)
    unfolding reach
    arrives_ended f = record { went = R.went_fault f.went; shows = an_end }

    pub arrives_integer : {v : Value (List ℕ)} {z : ℤ} → Arrives R n s a (value v) r
        → Arrives R n s a (value (integer z)) (reach (value (integer z)) r.state)
    unfolding reach
    arrives_integer f = record { went = f.went; shows = an_integer }

    pub arrives_result : {v : Value (List ℕ)} (c : Computed) → Arrives R n s a (value v) r → Arrives R n s a (ending_of c) (result_of c r.state)
    unfolding ending_of result_of
    arrives_result (gives z) f = arrives_integer f
    arrives_result (faults n) f = arrives_ended f
