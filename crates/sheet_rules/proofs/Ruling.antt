-- A loop over the nodes of an opened sheet that stops at the first that breaks a rule.
use mathlib.Core.Path.{◌≡◌, refl}
use Prim.Native.Nat.{ℕ, ◌+◌, ◌≤◌, ◌<◌}
use mathlib.Core.List.{List}
use native.Mathlib.Omega.{arith}
use Rattle.definitions.specs.Verdicts.{first_of}
use Rattle.definitions.specs.Layouts.{nodes, first_node}
use Rattle.definitions.specs.declared.Layout.TheVariants.{Sheet}
use Rattle.definitions.specs.Verdict.{Verdict, Accepted, Refused}
use Rattle.accepted.proofs.Head.{nodes_limit}
use Rattle.laws.proofs.Verdicts.{Passed, passed_none, passed_more, passed_refused, passed_all}
use Rattle.file_records.specs.Index.{Opened}

-- before node k: the nodes before it keep the rule
pub record Ruling (b starts : List ℕ) (first count k : ℕ) (rule : ℕ → Verdict) : Type 0 where
  pub file : Opened Sheet b starts
  pub start : first ≡ first_node b
  pub low : first ≤ 131071
  pub counts : count ≡ nodes b
  pub narrow : count ≤ 65535
  pub reached : k ≤ count
  pub passed : Passed k rule

pub ruling_begins : {b starts : List ℕ} {first count : ℕ} {rule : ℕ → Verdict} → Opened Sheet b starts → (first ≡ first_node b) × (first ≤ 131071)
    → count ≡ nodes b → Ruling b starts first count 0 rule
ruling_begins {b} o f n =
    record {
      file = o;
      start = f.0;
      low = f.1;
      counts = n;
      narrow = omega (arith, n, nodes_limit Sheet b o.accepted);
      reached = omega arith;
      passed = passed_none _;
    }

module _ {b starts : List ℕ} {first count k : ℕ} {rule : ℕ → Verdict} (w : Ruling b starts first count k rule) where
  pub ruling_below : k < count → k < nodes b
  ruling_below h = omega (arith, w.counts, h)

  pub ruling_more : {v : Verdict} → k < count → v ≡ rule k → v ≡ Accepted → Ruling b starts first count (k + 1) rule
  ruling_more {v} h e f =
      record {
        file = w.file;
        start = w.start;
        low = w.low;
        counts = w.counts;
        narrow = w.narrow;
        reached = omega (arith, h);
        passed = passed_more k rule v w.passed e f;
      }

  pub ruling_refused : {n p : ℕ} → k < count → Refused n p ≡ rule k → Refused n p ≡ first_of (nodes b) rule
  ruling_refused {n} {p} h e = passed_refused k count (nodes b) rule (Refused n p) n p w.counts h w.passed e refl

  pub ruling_done : count ≤ k → Accepted ≡ first_of (nodes b) rule
  ruling_done h = passed_all k count (nodes b) rule w.counts w.reached h w.passed
