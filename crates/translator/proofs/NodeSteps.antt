-- Laws of the steps that write a node: the words written are those of the definition, kind by kind.
use mathlib.Core.Path.{◌≡◌, refl, sym, ap, ◌∙◌}
use Prim.Native.Nat.{ℕ, zero, suc, ◌+◌, ◌*◌, ◌-◌, ◌/◌, ◌%◌, ◌≤◌, ◌<◌}
use mathlib.Core.List.{List, [], ◌∷◌, ◌++◌, append_assoc}
use native.Mathlib.Omega.{arith}
use lib.ListN.{get_or}
use mir.Syntax.{w32}
use Rattle.definitions.specs.Bytes.{word, word32, signed, words32}
use Rattle.definitions.specs.Records.{record_at, kind_of, field, field_count}
use Rattle.definitions.specs.SheetKinds
use Rattle.definitions.specs.TranslationKinds
use Rattle.definitions.specs.Lists.{listed}
use Rattle.definitions.specs.Layouts.{nodes, first_node, node_record, owner_of}
use Rattle.definitions.specs.References.{clauses, clause_constructor}
use Rattle.definitions.specs.Operators.{residue}
use Rattle.definitions.specs.NodeFields.{Clause, fields_from, clause_list}
use Rattle.definitions.specs.SheetNodes.{SheetNode, sheet_node, sheet_node_of, scrutinee_of}
use Rattle.definitions.specs.Trees.{equal_trees}
use Rattle.definitions.specs.Labels.{Labelling, label_of}
use Rattle.definitions.specs.Translate.{record_words, formal_of, clause_words, translated, node_words}
use Rattle.definitions.specs.declared.Layout.TheVariants.{Sheet}
use Rattle.accepted.proofs.Head.{nodes_limit}
use Rattle.accepted.proofs.SheetRecords.{SheetRecord, is_number, is_reading, is_parameter, is_pattern_variable, is_operator, is_conditional, is_call, is_build, is_case_law, node_record_law}
use Rattle.operators.proofs.Residues.{residue_read}
use Rattle.file_records.specs.Index.{start_in}
use Rattle.file_records.proofs.Indices.{node_reached}
use Rattle.call_labels.proofs.CallLabels.{calls_named}
use Rattle.translation_words.specs.Writing.{field_words}
use Rattle.translator.specs.Tables.{NodeTables, NodeRead}
use Rattle.translation_words.proofs.Writing.{fields_listed}

-- a number that was read is written as its two fields
number_fields : (rec : List ℕ) (x y : ℕ) → x ≡ field rec 0 → y ≡ field rec 1 → x < 65536 → y < 65536 → words32 (residue w32 (signed rec 4)) ≡ x ∷ y ∷ []
unfolding words32 signed word32
number_fields rec x y e f h k =
    let n : word rec 4 + 65536 * word rec 6 ≡ x + 65536 * y = rw (← e, ← f) refl in
    let l : (x + 65536 * y) % 65536 ≡ x = omega arith in
    let u : (x + 65536 * y) / 65536 ≡ y = omega arith in
    rw (n, residue_read w32 (x + 65536 * y) (record { fits = omega arith }), l, u) refl

-- the fields of clauses are the fields after the scrutinee
clause_append : (cs : List Clause) (c : Clause) → clause_words (cs ++ (c ∷ [])) ≡ clause_words cs ++ (c.constructor ∷ c.node ∷ [])
unfolding clause_words
clause_append [] c = refl
clause_append (d ∷ cs) c = rw (clause_append cs c) refl

-- the clause of place j, as its two fields
abbrev clause_at : List ℕ → ℕ → Clause
clause_at rec j = record { constructor = clause_constructor rec j; node = field rec (2 + 2 * j) }

clause_fields : (rec : List ℕ) (n : ℕ) → clause_words (listed n (clause_at rec)) ≡ listed (2 * n) (λ i. field rec (1 + i))
unfolding clause_words listed clause_constructor
clause_fields rec zero = refl
clause_fields rec (suc n) =
    let e : 2 * suc n ≡ suc (suc (2 * n)) = omega arith in
    let d : 1 + suc (2 * n) ≡ 2 + 2 * n = omega arith in
    clause_append (listed n (clause_at rec)) (clause_at rec n) ∙ rw (clause_fields rec n, e, d, append_assoc) refl

-- the first of some elements, and the rest
first_and_rest : (at : ℕ → ℕ) (n : ℕ) → listed (suc n) at ≡ at 0 ∷ listed n (λ i. at (1 + i))
unfolding listed
first_and_rest at zero = refl
first_and_rest at (suc n) = rw (first_and_rest at n) (let e : suc n ≡ 1 + n = omega arith in rw e refl)

module _ (same : Labelling) (b : List ℕ) (k : ℕ) (rec : List ℕ) where
  -- a node whose fields stay
  fields_stay : (nd : SheetNode) → SheetRecord rec nd → (kind_of rec ≡ SheetKinds.number → ⊥) → (kind_of rec ≡ SheetKinds.parameter → ⊥)
      → (kind_of rec ≡ SheetKinds.pattern_variable → ⊥) → (kind_of rec ≡ SheetKinds.call → ⊥)
      → record_words (32 + kind_of rec) (listed (field_count rec) (field rec)) ≡ translated same b k nd
  unfolding translated listed fields_from clause_list
  fields_stay nd (is_number e c) p q r s = absurd (p e)
  fields_stay nd (is_reading e c) p q r s = rw (e, c) refl
  fields_stay nd (is_parameter e c) p q r s = absurd (q e)
  fields_stay nd (is_pattern_variable e c) p q r s = absurd (r e)
  fields_stay nd (is_operator e c) p q r s = rw (e, c) refl
  fields_stay nd (is_conditional e c) p q r s = rw (e, c) refl
  fields_stay nd (is_call e l g) p q r s = absurd (s e)
  fields_stay nd (is_build e l g) p q r s =
      let n : field_count rec ≡ suc (field_count rec - 1) = omega arith in
      rw e (ap (record_words TranslationKinds.tuple) (ap (λ (m : ℕ). listed m (field rec)) n ∙ first_and_rest (field rec) (field_count rec - 1)))
  fields_stay nd (is_case_law e c l g) p q r s =
      let n : field_count rec ≡ suc (2 * clauses rec) = omega arith in
      rw e
      (ap (record_words TranslationKinds.case_of)
      (ap (λ (m : ℕ). listed m (field rec)) n ∙ first_and_rest (field rec) (2 * clauses rec)
      ∙ ap (λ (fs : List ℕ). field rec 0 ∷ fs) (sym (clause_fields rec (clauses rec)))))

-- the words of a node, by its kind
module _ {b starts ends owners labels formals rec : List ℕ} {k : ℕ} (w : NodeRead b starts ends owners labels formals rec k) {kind x : ℕ}
    (e : kind ≡ kind_of rec) (f : x ≡ field rec 0) where
  here : kind ≡ kind_of (node_record b k)
  here = e ∙ rw w.there refl

  first : x ≡ field (node_record b k) 0
  first = f ∙ rw w.there refl

  pub number_words : {y v u : ℕ} → kind ≡ SheetKinds.number → y ≡ field rec 1 → v ≡ x → u ≡ y → v < 65536 → u < 65536
      → record_words TranslationKinds.number (v ∷ u ∷ []) ≡ node_words (equal_trees b) b k
  unfolding node_words sheet_node_of sheet_node translated
  number_words {v} {u} g h p q s t =
      rw (← here, g)
      (ap (record_words TranslationKinds.number) (sym (number_fields (node_record b k) v u (p ∙ first) (q ∙ h ∙ rw w.there refl) s t)))

  pub parameter_words : {z : ℕ} → kind ≡ SheetKinds.parameter → z ≡ formal_of b (owner_of Sheet b k) x → record_words TranslationKinds.formal (z ∷ []) ≡ node_words (equal_trees b) b k
  unfolding node_words sheet_node_of sheet_node translated
  parameter_words g h = rw (← here, g, ← first, h) refl

  pub pattern_words : {z v y : ℕ} → kind ≡ SheetKinds.pattern_variable → z ≡ scrutinee_of b k → v ≡ z → y ≡ x
      → record_words TranslationKinds.select (v ∷ (y + 1) ∷ []) ≡ node_words (equal_trees b) b k
  unfolding node_words sheet_node_of sheet_node translated
  pattern_words {y} g h p q =
      let n : y + 1 ≡ suc (field (node_record b k) 0) = omega (arith, q, first) in
      rw (← here, g, p, h, n) refl

  pub call_words : {v y : ℕ} → kind ≡ SheetKinds.call → v ≡ get_or labels k 0 → y ≡ x → record_words TranslationKinds.call (v ∷ y ∷ []) ≡ node_words (equal_trees b) b k
  unfolding node_words sheet_node_of sheet_node translated
  call_words {v} g h p =
      let l : v ≡ label_of (equal_trees b) b x k = h ∙ w.tables.labelled.entry x k w.below (calls_named b k kind x here g first) in
      rw (← here, g, ← first, l, p) refl

  pub copy_words : (kind ≡ SheetKinds.number → ⊥) → (kind ≡ SheetKinds.parameter → ⊥) → (kind ≡ SheetKinds.pattern_variable → ⊥)
      → (kind ≡ SheetKinds.call → ⊥) → record_words (32 + kind_of rec) (field_words rec) ≡ node_words (equal_trees b) b k
  unfolding node_words
  copy_words p q r s =
      let n = node_record_law b w.tables.read.sheet.file.accepted k w.below in
      rw (fields_listed rec, w.there)
      (fields_stay (equal_trees b) b k (node_record b k) (sheet_node_of b k) n (λ g. p (here ∙ g)) (λ g. q (here ∙ g)) (λ g. r (here ∙ g)) (λ g. s (here ∙ g)))

  -- what the steps ask
  pub fields_few : field_count rec ≤ 65535
  fields_few = rw w.there (few (node_record b k) (sheet_node_of b k) (node_record_law b w.tables.read.sheet.file.accepted k w.below))
    where
      few : (r : List ℕ) (nd : SheetNode) → SheetRecord r nd → field_count r ≤ 65535
      few r nd (is_number p c) = omega arith
      few r nd (is_reading p c) = omega arith
      few r nd (is_parameter p c) = omega arith
      few r nd (is_pattern_variable p c) = omega arith
      few r nd (is_operator p c) = omega arith
      few r nd (is_conditional p c) = omega arith
      few r nd (is_call p l g) = omega arith
      few r nd (is_build p l g) = omega arith
      few r nd (is_case_law p c l g) = omega arith

-- node k with its record
pub node_read : {b starts ends owners labels formals : List ℕ} {k first : ℕ} {rec : List ℕ} → NodeTables b starts ends owners labels formals → k < nodes b → first ≡ first_node b
    → rec ≡ record_at b (start_in starts (first + k)) → NodeRead b starts ends owners labels formals rec k
node_read {b} {starts} {k} {first} {rec} w h e f =
    record {
      tables = w;
      below = h;
      narrow = omega (arith, h, nodes_limit Sheet b w.read.sheet.file.accepted);
      there = node_reached Sheet b starts k first rec w.read.sheet.file h e f;
    }
