-- The nodes that a node goes on to are nodes that it names.
use mathlib.Core.Path.{◌≡◌}
use Prim.Native.Nat.{ℕ}
use mathlib.Core.List.{List}
use mathlib.Core.Option.{some}
use mathlib.Core.Bool.{Bool, true, false, cond}
use Rattle.definitions.specs.NodeFields.{Clause, chosen}
use Rattle.definitions.specs.TranslationNodes.{conditional, case_of}
use Rattle.accepted.specs.Mention.{Mention, if_nonzero, if_zero, clause}
use Rattle.accepted.proofs.Clauses.{chosen_found}

pub branch_mentioned : {n p q : ℕ} (x : Bool) → Mention (conditional n p q) (cond x q p)
branch_mentioned true = if_zero
branch_mentioned false = if_nonzero

pub clause_mentioned : {n m : ℕ} (cs : List Clause) (c : ℕ) → chosen cs c ≡ some m → Mention (case_of n cs) m
clause_mentioned {m} cs c e = let f = chosen_found cs c m e in clause f.place f.there f.leads
