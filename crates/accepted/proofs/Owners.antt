-- The runs of nodes that functions own, in a file whose shape is accepted: the runs follow each other and fill the nodes, a
-- body is the last node of its run, and each node has one owner.
use mathlib.Core.Path.{◌≡◌, refl}
use Prim.Native.Nat.{ℕ, suc, ◌+◌, ◌≤◌, ◌<◌}
use mathlib.Core.List.{List}
use native.Mathlib.Omega.{arith}
use native.Mathlib.Nat.{suc-pred-eq_of_pos}
use Rattle.definitions.specs.Lists.{sum_of}
use Rattle.definitions.specs.Layouts.{functions, nodes, node_count, run_end, body_of, owner_of}
use Rattle.definitions.specs.FormalPlaces.{function_by}
use Rattle.definitions.specs.Shape.{file_shape}
use Rattle.definitions.specs.declared.Layout.{Layout}
use Rattle.definitions.specs.Verdict.{Accepted}
use Rattle.accepted.proofs.Sums.{sum_rises}
use Rattle.accepted.proofs.FormalPlaces.{function_unique, function_below, function_started, function_not_ended}
use Rattle.accepted.proofs.Sections.{node_count_least, node_counts_sum}

module _ (y : Layout) (b : List ℕ) (accepted : file_shape y b ≡ Accepted) where
  -- a run starts where the one before it ends
  pub run_start : (f : ℕ) → run_end y b f ≡ sum_of f (node_count y b) + node_count y b f
  unfolding run_end sum_of
  run_start f = refl

  -- a run is not empty
  pub start_below_end : (f : ℕ) → f < functions b → sum_of f (node_count y b) < run_end y b f
  start_below_end f h = omega (arith, run_start f, node_count_least y b accepted f h)

  -- an earlier run ends before a later one starts, and no run ends after the nodes
  pub end_before_start : (f g : ℕ) → f < g → run_end y b f ≤ sum_of g (node_count y b)
  unfolding run_end
  end_before_start f g h = sum_rises (suc f) g (node_count y b) h

  pub end_within_law : (f : ℕ) → f < functions b → run_end y b f ≤ nodes b
  end_within_law f h = omega (arith, end_before_start f (functions b) h, node_counts_sum y b accepted)

  pub last_end : (f : ℕ) → suc f ≡ functions b → run_end y b f ≡ nodes b
  unfolding run_end
  last_end f e = rw (e, node_counts_sum y b accepted) refl

  -- a body is a node
  pub body_before_end : (f : ℕ) → f < functions b → suc (body_of y b f) ≡ run_end y b f
  unfolding body_of
  body_before_end f h = suc-pred-eq_of_pos (omega (arith, start_below_end f h))

  pub body_below : (f : ℕ) → f < functions b → body_of y b f < nodes b
  body_below f h = omega (arith, body_before_end f h, end_within_law f h)

  -- a node's owner is found among the nodes as a formal's function among the formals
  owner_is : (k : ℕ) → owner_of y b k ≡ function_by (functions b) (node_count y b) k
  unfolding owner_of run_end function_by
  owner_is k = refl

  -- the owner of a node is a function
  pub owner_below : (k : ℕ) → k < nodes b → owner_of y b k < functions b
  owner_below k h = rw owner_is (function_below (node_count y b) (functions b) k (omega (arith, node_counts_sum y b accepted)))

  -- its run has started, and has not ended
  pub owner_started : (k : ℕ) → sum_of (owner_of y b k) (node_count y b) ≤ k
  owner_started k = rw owner_is (function_started (node_count y b) (functions b) k)

  pub owner_not_ended : (k : ℕ) → k < nodes b → k < run_end y b (owner_of y b k)
  unfolding run_end
  owner_not_ended k h = rw owner_is (function_not_ended (node_count y b) (functions b) k (rw owner_is at (owner_below k h)))

  -- a function whose run holds the node is the owner
  pub owner_unique : (k f : ℕ) → f < functions b → sum_of f (node_count y b) ≤ k → k < run_end y b f → owner_of y b k ≡ f
  unfolding run_end
  owner_unique k f h s e = rw owner_is (function_unique (node_count y b) (functions b) f k h s e)

  -- the owner of a body is its function
  pub owner_of_body : (f : ℕ) → f < functions b → owner_of y b (body_of y b f) ≡ f
  owner_of_body f h =
      let p = body_before_end f h in
      owner_unique (body_of y b f) f h (omega (arith, start_below_end f h)) (omega arith)

  -- a node is not after the body of its owner
  pub body_last : (k : ℕ) → k < nodes b → k ≤ body_of y b (owner_of y b k)
  body_last k h = omega (arith, body_before_end (owner_of y b k) (owner_below k h), owner_not_ended k h)
