-- `run::look_up::clause` meets its contract: the clauses passed have other tags.
use borrow.Author.Rules.{rules}
use Rattle.run.proofs.LookUps.{clause_word, clause_place, clause_room}
use mathlib.Core.Path.{ap}
use Prim.Native.Nat.{◌/◌}
use Rattle.run.proofs.LookUps.{choosing_begins, choosing_goes_on, choosing_found, choosing_done, clauses_at_law}
use Rattle.run.proofs.look_up.clause.Goals as goal

pub loop-j-init : goal.loop-j-init
loop-j-init c = choosing_begins _ _ _ _

pub returns-then-field_of-tag : goal.returns-then-field_of-tag
returns-then-field_of-tag c =
    let from = c.from-count in
    let loop_test = c.loop-j-test in
    let from2 = c.from in
    let args = c.args in
    let pre = c.requires in
    let loop = c.loop-j in (
      clauses_at_law _ _ _ _ _ _ (ap (λ n. n / 2) from.ensures)
          (choosing_found _ _ _ _ _ _ loop.invariant loop_test.true (clause_word _ _ _ _ _ from2.ensures
          c.field_of.ensures) _ c.if-field_of-tag.true
          (clause_place _ _ _ from2.ensures)),
      clause_room _ args.place
          args.count _ _ _
          (pre) from.ensures from2.ensures loop_test.true,
    )

pub loop-j-preserved : goal.loop-j-preserved
loop-j-preserved c =
    let loop = c.loop-j in
    let loop_test = c.loop-j-test in
    let from2 = c.from in
    choosing_goes_on _ _ _ _ _ _ loop.invariant loop_test.true (clause_word _ _
    _ _ _ from2.ensures c.field_of.ensures) c.if-field_of-tag.false

pub returns : goal.returns
returns c =
    (clauses_at_law _ _ _ _ _ _ (ap (λ n. n / 2) c.from-count.ensures) (choosing_done _ _ _ _ _ c.loop-j.invariant c.loop-j-test.false), search rules)
