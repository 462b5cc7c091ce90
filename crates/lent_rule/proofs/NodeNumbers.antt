-- The numbers of a file's nodes: a call's label and function have 16 bits, since a file's bytes are below 256, and so has a tag; a literal
-- has signed 32 bits.
use mathlib.Core.Path.{◌≡◌, subst}
use Prim.Native.Nat.{ℕ, ◌+◌, ◌*◌, ◌<◌}
use mathlib.Core.List.{List}
use lib.IntN.{ℤ, pos}
use mir.Syntax.{w32}
use mir.Val.{SFits}
use Rattle.definitions.specs.Bytes.{word32, signed}
use Rattle.definitions.specs.Records.{record_of, start_of}
use Rattle.definitions.specs.Layouts.{node_record, first_node}
use Rattle.definitions.specs.TranslationNodes.{TranslationNode, number, reading, formal, select, operator, conditional, call, tuple, case_of, translation_node, translation_node_of, tag_of}
use Rattle.laws.proofs.ByteFiles.{Bytes, record_below, word_below}
use Rattle.laws.proofs.NodeKinds.{of_its_kind}
use Rattle.operators.proofs.Residues.{read_held}
use Rattle.lent_rule.proofs.Narrow.{word_fits}

-- the numbers of a node that fit so many bits
abbrev Fitting : TranslationNode → Type 0
Fitting (number z) = SFits w32 z
Fitting (reading i) = Unit {0}
Fitting (formal p) = Unit {0}
Fitting (select n i) = Unit {0}
Fitting (operator o n m) = Unit {0}
Fitting (conditional n p q) = Unit {0}
Fitting (call l f) = (l < 65536) × (f < 65536)
Fitting (tuple c ns) = Unit {0}
Fitting (case_of n cs) = Unit {0}

record_fitting : (rec : List ℕ) → Bytes rec → Fitting (translation_node rec)
unfolding signed
record_fitting rec h =
    of_its_kind Fitting rec
    (record {
      of_number = read_held w32 (word32 rec 4);
      of_reading = tt;
      of_formal = tt;
      of_select = tt;
      of_operator = tt;
      of_conditional = tt;
      of_call = (word_below rec (4 + 2 * 0) h, word_below rec (4 + 2 * 1) h);
      of_tuple = tt;
      of_case = tt;
    })

module _ (b : List ℕ) (bytes : Bytes b) where
  node_bytes_law : (k : ℕ) → Bytes (node_record b k)
  unfolding record_of
  node_bytes_law k = record_below b (start_of b (first_node b + k)) bytes

  node_fitting : (k : ℕ) {nd : TranslationNode} → translation_node_of b k ≡ nd → Fitting nd
  unfolding translation_node_of
  node_fitting k e = subst Fitting e (record_fitting (node_record b k) (node_bytes_law k))

  pub call_label : (k l f : ℕ) → translation_node_of b k ≡ call l f → l < 65536
  call_label k l f e = (node_fitting k e).0

  pub call_function : (k l f : ℕ) → translation_node_of b k ≡ call l f → f < 65536
  call_function k l f e = (node_fitting k e).1

  pub literal_fits : (k : ℕ) {z : ℤ} → translation_node_of b k ≡ number z → SFits w32 z
  literal_fits k e = node_fitting k e

  pub tag_fits : (k : ℕ) → SFits w32 (pos (tag_of b k))
  unfolding tag_of
  tag_fits k = word_fits _ (word_below (node_record b k) (4 + 2 * 0) (node_bytes_law k))
