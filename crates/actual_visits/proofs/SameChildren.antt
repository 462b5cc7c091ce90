-- A node of an accepted sheet that stands in the place of a node with an equal tree, its twin: what it becomes, and that the nodes that
-- it names have twins in the twin's function.
use mathlib.Core.Path.{◌≡◌, refl, sym, ap, ◌∙◌}
use Prim.Native.Nat.{ℕ, zero, suc, ◌<◌}
use mathlib.Core.List.{List}
use mathlib.Core.Option.{some, none-ne-some}
use lib.ListN.{get_elem?}
use Rattle.definitions.specs.Layouts.{nodes, owner_of}
use Rattle.definitions.specs.References.{parameters}
use Rattle.definitions.specs.NodeFields.{Clause}
use Rattle.definitions.specs.SheetNodes.{SheetNode, call, build, sheet_node_of, scrutinee_of}
use Rattle.definitions.specs.TranslationNodes.{TranslationNode}
use Rattle.definitions.specs.TranslationNodes
use Rattle.definitions.specs.Checks.{sheet_verdict}
use Rattle.definitions.specs.Labels.{Labelling, label_of}
use Rattle.definitions.specs.Translate.{formal_of}
use Rattle.definitions.specs.declared.Layout.TheVariants.{Sheet}
use Rattle.definitions.specs.Verdict.{Accepted}
use Rattle.accepted.specs.Mention.{Mention}
use Rattle.accepted.specs.Child.{Child, left, right, condition, if_nonzero, if_zero, argument, component, scrutinee, clause}
use Rattle.accepted.proofs.Names.{parameter_below}
use Rattle.accepted.proofs.Checks.{trees_pass}
use Rattle.accepted.proofs.Trees.{child_below, child_owner}
use Rattle.readback.specs.TranslatedNode.{translated_node}
use Rattle.trees.specs.SameNodes.{Pairs, no_pair, pair, ClausePairs, no_clause_law, clause_pair}
use Rattle.trees.specs.SameNodes.{SameNode, same_number, same_reading, same_parameter, same_pattern, same_operator, same_conditional, same_call, same_build, same_case}
use Rattle.trees.proofs.Parts.{scrutinee_of_law}
use Rattle.shared_runs.specs.Reads.{EqualTrees}
use Rattle.shared_runs.proofs.SameTrees.{same_nodes, same_calls}

pub some_is : {A : Type 0} {x y : A} → some x ≡ some y → x ≡ y
some_is e = cc

-- what is found in one list has a partner in the same place of a list that goes with it pair by pair
record Partner {A : Type 0} (R : A → A → Type 0) (xs : List A) (i : ℕ) (y : A) : Type 0 where
  found : A
  there : get_elem? xs i ≡ some found
  like : R found y

pairs_back : {R : ℕ → ℕ → Type 0} {xs ys : List ℕ} (i : ℕ) {y : ℕ} → Pairs R xs ys → get_elem? ys i ≡ some y → Partner R xs i y
pairs_back i {y} no_pair e = absurd (none-ne-some y e)
pairs_back zero (pair {x} r p) e = record { found = x; there = refl; like = rw (some_is e) at r }
pairs_back (suc i) (pair r p) e = let l = pairs_back i p e in record { found = l.found; there = l.there; like = l.like }

clauses_back : {R : ℕ → ℕ → Type 0} {xs ys : List Clause} (i : ℕ) {y : Clause} → ClausePairs R xs ys → get_elem? ys i ≡ some y
    → Partner (λ c d. R c.node d.node) xs i y
clauses_back i {y} no_clause_law e = absurd (none-ne-some y e)
clauses_back zero (clause_pair {c} z r p) e = record { found = c; there = refl; like = rw (some_is e) at r }
clauses_back (suc i) (clause_pair z r p) e = let l = clauses_back i p e in record { found = l.found; there = l.there; like = l.like }

-- node n has a twin in the function of node x
pub record TwinIn (b : List ℕ) (x n : ℕ) : Type 0 where
  pub twin : ℕ
  pub own : twin < nodes b
  pub below : n < nodes b
  pub equal : EqualTrees b b twin n
  pub owner : owner_of Sheet b twin ≡ owner_of Sheet b x

-- p is a formal of the function of node x
pub record FormalOf (b : List ℕ) (x p : ℕ) : Type 0 where
  pub position : ℕ
  pub is : p ≡ formal_of b (owner_of Sheet b x) position
  pub inside : position < parameters b (owner_of Sheet b x)

-- a call of f with the label of node k, in the place of node x
pub record CallOf (same : Labelling) (b : List ℕ) (k x l f : ℕ) : Type 0 where
  pub arguments : List ℕ
  pub is : sheet_node_of b x ≡ call f arguments
  pub label : l ≡ label_of same b f k

module _ (same : Labelling) (b : List ℕ) (k x : ℕ) where
  -- what is said of node k, in the place of node x, by what it becomes
  abbrev pub Says : TranslationNode → Type 0
  Says (TranslationNodes.number z) = Unit {0}
  Says (TranslationNodes.reading i) = Unit {0}
  Says (TranslationNodes.formal p) = FormalOf b x p
  Says (TranslationNodes.select n i) = TwinIn b x n
  Says (TranslationNodes.operator o l r) = TwinIn b x l × TwinIn b x r
  Says (TranslationNodes.conditional n p q) = TwinIn b x n × TwinIn b x p × TwinIn b x q
  Says (TranslationNodes.call l f) = CallOf same b k x l f
  Says (TranslationNodes.tuple a ns) = (sheet_node_of b k ≡ build a ns) × ((i n : ℕ) → get_elem? ns i ≡ some n → TwinIn b x n)
  Says (TranslationNodes.case_of n cs) = TwinIn b x n × ((j : ℕ) (c : Clause) → get_elem? cs j ≡ some c → TwinIn b x c.node)

  -- the nodes that it names then have twins in the function of x
  pub mentioned_by : {n : ℕ} {nd : TranslationNode} → Says nd → Mention nd n → TwinIn b x n
  mentioned_by s Mention.selected = s
  mentioned_by s Mention.left = s.0
  mentioned_by s Mention.right = s.1
  mentioned_by s Mention.condition = s.0
  mentioned_by s Mention.if_nonzero = s.1
  mentioned_by s Mention.if_zero = s.2
  mentioned_by s (Mention.component i e) = s.1 i _ e
  mentioned_by s Mention.scrutinee = s.0
  mentioned_by s (Mention.clause {c} j e m) = rw m at (s.1 j c e)

  module _ (accepted : sheet_verdict b ≡ Accepted) (own : x < nodes b) (below : k < nodes b) where
    child_twin : {nx nk : SheetNode} {y n : ℕ} → sheet_node_of b x ≡ nx → sheet_node_of b k ≡ nk → Child nx y → Child nk n → EqualTrees b b y n
        → TwinIn b x n
    child_twin {y} ex ek cx ck s =
        record {
          twin = y;
          own = child_below b (trees_pass b accepted) x own ex cx;
          below = child_below b (trees_pass b accepted) k below ek ck;
          equal = s;
          owner = child_owner b (trees_pass b accepted) x own ex cx;
        }

    says_by : {nx nk : SheetNode} → sheet_node_of b x ≡ nx → sheet_node_of b k ≡ nk → SameNode (EqualTrees b b) b b x k nx nk
        → Says (translated_node same b k nk)
    unfolding translated_node
    says_by ex ek same_number = tt
    says_by ex ek same_reading = tt
    says_by ex ek (same_parameter {i} o) =
        record { position = i; is = ap (λ (g : ℕ). formal_of b g i) (sym o); inside = parameter_below b accepted x own ex }
    says_by ex ek (same_pattern s) =
        let p = scrutinee_of_law b accepted x own ex in
        record {
          twin = scrutinee_of b x;
          own = p.outside.below;
          below = (scrutinee_of_law b accepted k below ek).outside.below;
          equal = s;
          owner = p.owner;
        }
    says_by ex ek (same_operator s t) = (child_twin ex ek left left s, child_twin ex ek right right t)
    says_by ex ek (same_conditional s t u) =
        (child_twin ex ek condition condition s, child_twin ex ek if_nonzero if_nonzero t, child_twin ex ek if_zero if_zero u)
    says_by ex ek (same_call {ns} p) = record { arguments = ns; is = ex; label = refl }
    says_by ex ek (same_build p) =
        (ek, λ i n e. let l = pairs_back i p e in child_twin ex ek (component i l.there) (component i e) l.like)
    says_by ex ek (same_case s p) = (
      child_twin ex ek scrutinee scrutinee s,
      λ j c e. let l = clauses_back j p e in child_twin ex ek (clause j l.there refl) (clause j e refl) l.like,
    )

    pub says : EqualTrees b b x k → Says (translated_node same b k (sheet_node_of b k))
    says s = says_by refl refl (same_nodes b b accepted own s)

    -- and so have the arguments of a call, which its translation does not name
    pub argument_twin : {f n : ℕ} {ns ms : List ℕ} (i : ℕ) → EqualTrees b b x k → sheet_node_of b x ≡ call f ns → sheet_node_of b k ≡ call f ms
        → get_elem? ms i ≡ some n → TwinIn b x n
    argument_twin {ms} i s ex ek e =
        let c = same_calls b b accepted own ex s in
        let z : ms ≡ c.arguments = let y = sym ek ∙ c.is in cc in
        let l = pairs_back i c.pairs (rw z at e) in
        child_twin ex ek (argument i l.there) (argument i e) l.like
