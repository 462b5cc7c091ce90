-- What working out a number, a reading and a tuple does.
use mathlib.Core.Path.{◌≡◌, sym, ap, ◌∙◌}
use Prim.Native.Nat.{ℕ}
use mathlib.Core.List.{List}
use native.Mathlib.Omega.{arith}
use lib.IntN.{ℤ, pos}
use lib.ListN.{get_or}
use denote.MutBor.{MutBor}
use Rattle.definitions.specs.TranslationKinds as kinds
use Rattle.definitions.specs.Bytes.{signed}
use Rattle.definitions.specs.Records.{field}
use Rattle.definitions.specs.Layouts.{node_record}
use Rattle.definitions.specs.Rule as Rule
use Rattle.definitions.specs.Rule.{Reached, reach, value, integer, constructor, evaluated}
use Rattle.live_counts.specs.declared.Counts.{Counts}
use Rattle.lent_rule.specs.Lent.{Lent}
use Rattle.run.specs.NodeTable.{first_part, number_part, reading_in}
use Rattle.run.specs.Packed.{Outcome, outcome_in}
use Rattle.run.specs.States.{below, above, ending_of, counted_state, evaluates, NodeIs, Evaluable, Evaluates}
use Rattle.run.proofs.NodeKinds.{is_number, is_reading, is_tuple}
use Rattle.run.proofs.EntryReads.{number_read, reading_read, first_read}
use Rattle.run.proofs.Steps.{worked_out_law}
use Rattle.run.proofs.Remains.{node_ends}

-- the node of `at` worked out, by its kind
module _ (b : List ℕ) (rs : List ℤ) (limits at : ℕ) (s : Rule.State Lent) where
  abbrev rec : List ℕ
  rec = node_record b (below at)

  abbrev result : Reached ℕ Lent
  result = evaluates b rs (above limits) (below limits) (below at) (above at) s

  number_as : NodeIs b rec (below at) kinds.number → result ≡ reach (value (integer (signed rec 4))) s
  unfolding evaluated
  number_as h = worked_out_law b rs limits at s (is_number h)

  reading_as : NodeIs b rec (below at) kinds.reading → result ≡ reach (value (integer (get_or rs (field rec 0) (pos 0)))) s
  unfolding evaluated
  reading_as h = worked_out_law b rs limits at s (is_reading h)

  tuple_as : NodeIs b rec (below at) kinds.tuple → result ≡ reach (value (constructor (below at) (above at))) s
  unfolding evaluated
  tuple_as h = worked_out_law b rs limits at s (is_tuple h)

-- a number, a reading and a tuple end at once
module _ {b tab : List ℕ} {limits at : ℕ} {counts : Counts} {cells : MutBor (List ℕ)} {x : ℕ} {y z : ℤ} {o : Outcome} where
  pub number_ends : {e : ℕ} → Evaluable b tab limits at counts cells.now kinds.number → e ≡ get_or tab (below at) 0 → y ≡ z → z ≡ number_part e
      → outcome_in x ≡ o → ending_of o ≡ value (integer y) → Evaluates b tab limits at counts cells x counts cells
  number_ends a f ey ez p q =
      node_ends a (λ rs h. number_as b rs limits at _ a.node) p (q ∙ ap (λ i. value (integer i)) (ey ∙ number_read a f ez))

  pub reading_ends : {e i : ℕ} → Evaluable b tab limits at counts cells.now kinds.reading → e ≡ get_or tab (below at) 0 → i ≡ first_part e → y ≡ z → z ≡ reading_in tab i
      → outcome_in x ≡ o → ending_of o ≡ value (integer y) → Evaluates b tab limits at counts cells x counts cells
  reading_ends a f g ey ez =
      node_ends a (λ rs h. reading_as b rs limits at _ a.node ∙ ap (λ i. reach (value (integer i)) (counted_state counts cells.now))
      (sym (ey ∙ reading_read a (first_read a.equipped a.node f (λ q. omega (arith, q)) g) h ez)))

pub tuple_ends : {b tab : List ℕ} {limits at : ℕ} {counts : Counts} {cells : MutBor (List ℕ)} {x : ℕ} {o : Outcome}
    → Evaluable b tab limits at counts cells.now kinds.tuple → outcome_in x ≡ o → ending_of o ≡ value (constructor (below at) (above at))
    → Evaluates b tab limits at counts cells x counts cells
tuple_ends a = node_ends a (λ rs h. tuple_as _ rs _ _ _ a.node)
