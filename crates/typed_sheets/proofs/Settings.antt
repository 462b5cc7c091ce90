-- Settings that fit, as working out goes from node to node: at the start, to a child, into a function's body, to a clause's node, to a
-- parameter's argument and to a field of the constructor that is held.
use mathlib.Core.Path.{◌≡◌, refl, sym, ap}
use Prim.Native.Nat.{ℕ, ◌<◌}
use mathlib.Core.List.{List}
use mathlib.Core.Option.{Option, none, some}
use mathlib.Core.Bool.{true, false}
use native.Mathlib.Omega.{arith}
use Rattle.definitions.specs.Layouts.{is_typed, functions, nodes, body_of, owner_of}
use Rattle.definitions.specs.References.{parameters, arity}
use Rattle.definitions.specs.NodeFields.{Clause, chosen}
use Rattle.definitions.specs.SheetNodes.{SheetNode, call, build, case_of, sheet_node_of}
use Rattle.definitions.specs.SheetRules.{clause_within}
use Rattle.definitions.specs.Types.{field_type, parameter_type, type_of}
use Rattle.definitions.specs.Checks.{sheet_verdict}
use Rattle.definitions.specs.declared.Layout.TheVariants.{Sheet}
use Rattle.definitions.specs.Verdict.{Accepted}
use Rattle.accepted.specs.Child.{Child, argument, component, scrutinee, clause, is_case}
use Rattle.accepted.proofs.Elements.{element_there}
use Rattle.accepted.proofs.Head.{functions_least}
use Rattle.accepted.proofs.Owners.{body_below, owner_of_body}
use Rattle.accepted.proofs.Checks.{sheet_shape, trees_pass}
use Rattle.accepted.proofs.Names.{result_parameters, call_below, call_count, build_count}
use Rattle.accepted.proofs.Trees.{child_below, child_owner, case_body}
use Rattle.accepted.proofs.Clauses.{chosen_found}
use Rattle.accepted.proofs.Places.{body_place, same_place, scrutinee_place, chosen_place}
use Rattle.agreement.specs.Meaning.{Setting, empty, entered, holding, Closure, closure_at, argument_of, held_field}
use Rattle.typed_sheets.specs.Fits.{Fits, outset, called, held, At}
use Rattle.typed_sheets.proofs.Rules.{argument_type, component_type}

-- a closure of a type is found, whose node is in its own place in its setting
pub record ClosureOf (b : List ℕ) (t : ℕ) (found : Option Closure) : Type 0 where
  pub node : ℕ
  pub setting : Setting
  pub there : found ≡ some (record { node = node; setting = setting })
  pub type : type_of b node ≡ t
  pub at : At b node setting

module _ (b : List ℕ) (accepted : sheet_verdict b ≡ Accepted) where
  placed : (k : ℕ) {f : ℕ} {p : Option ℕ} {s : Setting} → k < nodes b → owner_of Sheet b k ≡ f → clause_within b (nodes b) k ≡ p → Fits b f p s
      → At b k s
  placed k h e q c = record { below = h; fits = rw (e, q) c }

  body_placed : (f : ℕ) {s : Setting} → f < functions b → Fits b f none s → At b (body_of Sheet b f) s
  body_placed f h c =
      let a = sheet_shape b accepted in
      let o = owner_of_body Sheet b a f h in
      placed (body_of Sheet b f) (body_below Sheet b a f h) o
      (body_place b (body_of Sheet b f) (nodes b) (sym (ap (body_of Sheet b) o))) c

  pub start_at : At b (body_of Sheet b 0) empty
  start_at = body_placed 0 (functions_least Sheet b (sheet_shape b accepted)) outset

  module _ {k : ℕ} {s : Setting} (a : At b k s) where
    -- to a child of a node that is no case
    pub child_at : {nd : SheetNode} {n : ℕ} → sheet_node_of b k ≡ nd → is_case nd ≡ false → Child nd n → At b n s
    child_at e n c =
        placed _ (child_below b (trees_pass b accepted) k a.below e c) (child_owner b (trees_pass b accepted) k a.below e c)
        (same_place b (trees_pass b accepted) k a.below e n c) a.fits

    -- into the body of a function that is called
    pub body_at : {f : ℕ} {ns : List ℕ} → sheet_node_of b k ≡ call f ns → At b (body_of Sheet b f) (entered ns s)
    body_at {f} e = body_placed f (call_below b accepted k a.below e) (called a.below e a.fits)

    module _ {n : ℕ} {cs : List Clause} (e : sheet_node_of b k ≡ case_of n cs) where
      case_fits : Fits b (owner_of Sheet b k) none s
      case_fits = rw (body_place b k (nodes b) (case_body b (trees_pass b accepted) k a.below e)) at a.fits

      -- to the scrutinee of a case
      pub scrutinee_at : At b n s
      scrutinee_at =
          placed n (child_below b (trees_pass b accepted) k a.below e scrutinee) (child_owner b (trees_pass b accepted) k a.below e scrutinee)
          (scrutinee_place b (trees_pass b accepted) k a.below e) case_fits

      -- to the clause of a constructor
      pub clause_at_law : {m j c : ℕ} {ns : List ℕ} {u : Setting} → At b m u → sheet_node_of b m ≡ build c ns → chosen cs c ≡ some j
          → At b j (holding s ns u)
      clause_at_law {j} {c} x h q =
          let f = chosen_found cs c j q in
          let y = clause f.place f.there f.leads in
          placed j (child_below b (trees_pass b accepted) k a.below e y) (child_owner b (trees_pass b accepted) k a.below e y)
          (chosen_place b (trees_pass b accepted) k a.below e q)
          (held x.below h x.fits case_fits)

  module _ (typed : is_typed b ≡ true) where
    -- to the argument of a parameter
    pub argument_of_law : {f : ℕ} (i : ℕ) {p : Option ℕ} {s : Setting} → Fits b f p s → i < parameters b f
        → ClosureOf b (parameter_type b f i) (argument_of s i)
    unfolding argument_of closure_at
    argument_of_law i outset h = absurd (omega (arith, h, result_parameters b accepted))
    argument_of_law i (called {k} {f} {ns} {s} h e c) g =
        let x = element_there ns i (rw (call_count b accepted k h e) g) in
        record {
          node = x.element;
          setting = s;
          there = rw x.there refl;
          type = argument_type b accepted typed k h i e x.there;
          at = child_at (record { below = h; fits = c }) e refl (argument i x.there);
        }
    argument_of_law i (held h q c d) g = argument_of_law i d g

    -- to the field of a constructor that is held
    pub field_of : {f c : ℕ} (i : ℕ) {s : Setting} → Fits b f (some c) s → i < arity b c → ClosureOf b (field_type b c i) (held_field s i)
    unfolding held_field closure_at
    field_of i (held {m} {c} {ns} {u} h q d e) g =
        let x = element_there ns i (rw (build_count b accepted m h q) g) in
        record {
          node = x.element;
          setting = u;
          there = rw x.there refl;
          type = component_type b accepted typed m h i q x.there;
          at = child_at (record { below = h; fits = d }) q refl (component i x.there);
        }
