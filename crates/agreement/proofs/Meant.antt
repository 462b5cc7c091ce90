-- What a node of the sheet means, by what the visits of the nodes that it asks for end with. A pattern variable's selection
-- visits the scrutinee a second time; as visits have one ending, that is the constructor that the setting holds.
use mathlib.Core.Path.{◌≡◌, subst}
use Prim.Native.Nat.{ℕ}
use mathlib.Core.List.{List, [], ◌∷◌}
use mathlib.Core.Option.{none, some}
use mathlib.Core.Bool.{Bool, true, false, cond}
use native.Mathlib.Omega.{arith}
use lib.IntN.{ℤ}
use lib.ListN.{get_elem?}
use Rattle.definitions.specs.Layouts.{body_of}
use Rattle.definitions.specs.Operators.{Computed, gives, faults, is_zero}
use Rattle.definitions.specs.NodeFields.{Clause}
use Rattle.definitions.specs.SheetNodes.{SheetNode, parameter, pattern_variable, operator, conditional, call, build, case_of, sheet_node_of}
use Rattle.definitions.specs.TranslationNodes.{translation_node_of, actual, tuple_fields}
use Rattle.definitions.specs.Translate.{formal_of, unshared_translation}
use Rattle.definitions.specs.Rule.{Ending, value, ended, integer, constructor}
use Rattle.agreement.specs.Meaning.{Setting, End, end_of, Means}
use Rattle.agreement.specs.Meaning
use Rattle.definitions.specs.declared.Layout.TheVariants.{Sheet}
use Rattle.rule_laws.specs.Derivations.{Trace, NotNumber, constructor_came, ended_before, NotConstructor, number_came, ended_first, ending_of, Derivation}
use Rattle.agreement.specs.Corresponds.{At, Agrees, integers, constructors, ends, Meant}
use Rattle.cell_rules.proofs.Unique.{visits_one}
use Rattle.agreement.proofs.Corresponds.{ArgumentAt, argument_at, FieldAt}

-- an operator's result
pub result_agrees : {b : List ℕ} {rs : List ℤ} (c : Computed) → Agrees b rs (ending_of c) (end_of c)
unfolding ending_of end_of
result_agrees (gives z) = integers
result_agrees (faults n) = ends

-- a constructor where one is due
pub not_constructor : {e : Ending (List ℕ)} {x m : ℕ} {vs : List ℕ} → NotConstructor e x → e ≡ value (constructor m vs) → ⊥
not_constructor number_came p = let z : ◌≡◌ {A = ℕ} 0 1 = cc in omega arith
not_constructor ended_first p = let z : ◌≡◌ {A = ℕ} 0 1 = cc in omega arith

-- a node that means the constructor with which its visit ends
pub record BuiltAs (b : List ℕ) (rs : List ℤ) (nd : SheetNode) (s : Setting) (k : ℕ) (ws : List ℕ) : Type 0 where
  pub number : ℕ
  pub fields : List ℕ
  pub setting : Setting
  pub means : Means b rs nd s (Meaning.value (Meaning.built number fields setting))
  pub at : At b rs k ws setting
  pub is : sheet_node_of b k ≡ build number fields

module _ {b : List ℕ} {rs : List ℤ} where
  -- by what a visit ends with
  pub integer_meant : {nd : SheetNode} {s : Setting} {z : ℤ} → Meant b rs nd s (value (integer z))
      → Means b rs nd s (Meaning.value (Meaning.integer z))
  integer_meant {nd} {s} m = from m.agrees m.means
    where
      from : {z : ℤ} {d : End} → Agrees b rs (value (integer z)) d → Means b rs nd s d → Means b rs nd s (Meaning.value (Meaning.integer z))
      from integers m = m

  pub built_meant : {nd : SheetNode} {s : Setting} {k : ℕ} {ws : List ℕ} → Meant b rs nd s (value (constructor k ws)) → BuiltAs b rs nd s k ws
  built_meant {nd} {s} m = from m.agrees m.means
    where
      from : {k : ℕ} {ws : List ℕ} {d : End} → Agrees b rs (value (constructor k ws)) d → Means b rs nd s d → BuiltAs b rs nd s k ws
      from (constructors {c} {ns} {s = u} a e) m = record { number = c; fields = ns; setting = u; means = m; at = a; is = e }

  -- where a number or a constructor is due and does not come
  module _ {s : Setting} where
    pub left_meant : {o l r x : ℕ} {e : Ending (List ℕ)} {d : End} → Agrees b rs e d → Means b rs (sheet_node_of b l) s d → NotNumber e x
        → Means b rs (operator o l r) s (Meaning.fault x)
    left_meant (constructors a e) m constructor_came = Means.left_constructor m
    left_meant ends m ended_before = Means.left_fault m
    left_meant {o = o} {l = l} {r = r} (integers {z = z}) m x8 = elim x8 [ ]

    pub right_meant : {o l r x : ℕ} {z : ℤ} {e : Ending (List ℕ)} {d : End} → Means b rs (sheet_node_of b l) s (Meaning.value (Meaning.integer z))
        → Agrees b rs e d → Means b rs (sheet_node_of b r) s d → NotNumber e x
        → Means b rs (operator o l r) s (Meaning.fault x)
    right_meant n (constructors a e) m constructor_came = Means.right_constructor n m
    right_meant n ends m ended_before = Means.right_fault n m
    right_meant {o = o} {l = l} {r = r} {z = z} n integers m x10 = elim x10 [ ]

    pub if_meant : {n p q x : ℕ} {e : Ending (List ℕ)} {d : End} → Agrees b rs e d → Means b rs (sheet_node_of b n) s d → NotNumber e x
        → Means b rs (conditional n p q) s (Meaning.fault x)
    if_meant (constructors a e) m constructor_came = Means.if_constructor m
    if_meant ends m ended_before = Means.if_fault m
    if_meant {n = n} {p = p} {q = q} (integers {z = z}) m x8 = elim x8 [ ]

    pub case_meant : {n x : ℕ} {cs : List Clause} {e : Ending (List ℕ)} {d : End} → Agrees b rs e d → Means b rs (sheet_node_of b n) s d
        → NotConstructor e x
        → Means b rs (case_of n cs) s (Meaning.fault x)
    case_meant integers m number_came = Means.case_number m
    case_meant ends m ended_first = Means.case_fault m
    case_meant {n = n} {cs = cs} (constructors {k = k} {c = c} {ns = ns} {ws = ws} _ _) m x12 = elim x12 [ ]

    -- the chosen node of an if
    pub branch_meant : {n p q : ℕ} {z : ℤ} {e : Ending (List ℕ)} (x : Bool) → is_zero z ≡ x → Means b rs (sheet_node_of b n) s (Meaning.value (Meaning.integer z))
        → Meant b rs (sheet_node_of b (cond x q p)) s e
        → Meant b rs (conditional n p q) s e
    branch_meant true h m g = record { end = g.end; means = Means.if_zero_law m h g.means; agrees = g.agrees }
    branch_meant false h m g = record { end = g.end; means = Means.if_nonzero_law m h g.means; agrees = g.agrees }

    pub fault_meant : {nd : SheetNode} {x : ℕ} → Means b rs nd s (Meaning.fault x) → Meant b rs nd s (ended x)
    fault_meant m = record { end = Meaning.fault _; means = m; agrees = ends }

    -- a call, by the function's body
    pub call_meant : {f j : ℕ} {ns : List ℕ} {e : Ending (List ℕ)} → j ≡ body_of Sheet b f
        → Meant b rs (sheet_node_of b j) (Meaning.entered ns s) e
        → Meant b rs (call f ns) s e
    call_meant q m = record { end = m.end; means = Means.call_body (rw q at m.means); agrees = m.agrees }

    -- a parameter, by its argument
    pub parameter_meant : {f i l n : ℕ} {ws : List ℕ} {e : Ending (List ℕ)} → ArgumentAt b rs f i (l ∷ ws) s
        → actual (unshared_translation b) (formal_of b f i) l ≡ some n
        → ((u : Setting) → At b rs n ws u → Meant b rs (sheet_node_of b n) u e)
        → Meant b rs (parameter i) s e
    parameter_meant {n} {ws} (argument_at {n = m} {u} h g a) q on =
        let z : m ≡ n = cc in
        let x = on u (subst (λ (j : ℕ). At b rs j ws u) z a) in
        record { end = x.end; means = Means.parameter_argument {c = record { node = n; setting = u }} (rw z at g) x.means; agrees = x.agrees }

    pub parameter_listed : {f i l : ℕ} {ws : List ℕ} → ArgumentAt b rs f i (l ∷ ws) s → actual (unshared_translation b) (formal_of b f i) l ≡ none → ⊥
    parameter_listed (argument_at {n = m} h g a) q = let z : ◌≡◌ {A = ℕ} 0 1 = cc in omega arith

    pub parameter_inside : {f i : ℕ} {ws : List ℕ} → ArgumentAt b rs f i ws s → ws ≡ [] → ⊥
    parameter_inside (argument_at h g a) q = let z : ◌≡◌ {A = ℕ} 0 1 = cc in omega arith

    -- a pattern variable, by the field
    module _ {f i n : ℕ} {ws : List ℕ} (x : FieldAt b rs f i ws s) (same : x.scrutinee ≡ n) where
      pub scrutinee_ends : {a : Trace} {e : Ending (List ℕ)} → Derivation (unshared_translation b) rs (translation_node_of (unshared_translation b) n) n ws a e
          → e ≡ value (constructor x.tuple x.labels)
      scrutinee_ends v = visits_one n v (rw same at x.visits)

      pub pattern_meant : {m j : ℕ} {vs : List ℕ} {a : Trace} {e : Ending (List ℕ)}
          → Derivation (unshared_translation b) rs (translation_node_of (unshared_translation b) n) n ws a (value (constructor m vs))
          → get_elem? (tuple_fields (unshared_translation b) m) i ≡ some j
          → ((u : Setting) → At b rs j vs u → Meant b rs (sheet_node_of b j) u e)
          → Meant b rs (pattern_variable i) s e
      pattern_meant {m} {j} {vs} v h on =
          let p = scrutinee_ends v in
          let y : x.tuple ≡ m = cc in
          let l : x.labels ≡ vs = cc in
          let q : x.node ≡ j = cc (rw y at x.there, h) in
          let g = on x.setting (rw (q, l) at x.at) in
          record {
            end = g.end;
            means = Means.pattern_field {c = record { node = j; setting = x.setting }} {e = g.end} (rw q at x.holds) g.means;
            agrees = g.agrees;
          }

      pub pattern_listed : {m : ℕ} {vs : List ℕ} {a : Trace}
          → Derivation (unshared_translation b) rs (translation_node_of (unshared_translation b) n) n ws a (value (constructor m vs))
          → get_elem? (tuple_fields (unshared_translation b) m) i ≡ none → ⊥
      pattern_listed {m} v h =
          let p = scrutinee_ends v in
          let y : x.tuple ≡ m = cc in
          let q = rw y at x.there in
          let z : ◌≡◌ {A = ℕ} 0 1 = cc in
          omega arith
