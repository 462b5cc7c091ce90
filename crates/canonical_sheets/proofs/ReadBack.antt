-- The canonical file of an accepted sheet, read back: its head, constructors and functions are the sheet's, record by record, and
-- its bodies are the sheet's trees.
use mathlib.Core.Path.{◌≡◌, refl, sym, ◌∙◌}
use Prim.Native.Nat.{ℕ, zero, suc, ◌+◌, ◌≤◌, ◌<◌}
use mathlib.Core.List.{List, [], ◌++◌, append-nil}
use mathlib.Core.Bool.{true}
use native.Mathlib.Omega.{arith}
use native.Mathlib.Nat.{add-zero}
use lib.ListN.{length, take, length-append}
use lib.Seq.{take_at}
use Rattle.definitions.specs.Bytes.{word, bytes_of}
use Rattle.definitions.specs.Records.{whole, start_of, record_of, kind_of}
use Rattle.definitions.specs.Lists.{sum_of}
use Rattle.definitions.specs.Layouts.{readings, items, functions, nodes, first_node, due, is_typed, node_record, item_record, function_record, node_count, run_end, body_of}
use Rattle.definitions.specs.Shape.{file_shape}
use Rattle.definitions.specs.Checks.{sheet_verdict}
use Rattle.definitions.specs.CanonicalSheet.{branch, fields_within, fields_of, first_bodies, bodies, size_of, tree_words, sections, canonical}
use Rattle.definitions.specs.declared.Layout.TheVariants.{Sheet}
use Rattle.definitions.specs.Verdict.{Accepted}
use Rattle.laws.proofs.Records.{record_length_law}
use Rattle.laws.proofs.ByteFiles.{Bytes}
use Rattle.accepted.proofs.Sums.{sum_same, sum_rises}
use Rattle.accepted.proofs.Head.{nodes_limit, functions_least}
use Rattle.accepted.proofs.Records.{records_fill, record_whole, record_fields, record_next, start_sum}
use Rattle.accepted.proofs.SectionFields.{head_fields}
use Rattle.accepted.proofs.Sections.{node_counts_sum}
use Rattle.accepted.proofs.Checks.{sheet_shape}
use Rattle.canonical_sheets.proofs.SameStart as Start
use Rattle.canonical_sheets.proofs.Stands.{Stands, stands_last, stands_before, StandsTo, stands, tree_back}
use Rattle.canonical_sheets.proofs.Forms.{kind_small, tree_formed, bodies_formed}
use Rattle.canonical_sheets.proofs.Sizes.{body_number, sizes}

-- equal sections and trees give equal bytes
pub same_bytes : (a b : List ℕ) → sections a ≡ sections b → bodies a ≡ bodies b → canonical a ≡ canonical b
unfolding canonical
same_bytes a b e f = rw (e, f) refl

-- the sections of a sheet whose shape is accepted
module _ (b : List ℕ) (shaped : file_shape Sheet b ≡ Accepted) where
  -- where the nodes start
  abbrev pub nodes_at : ℕ
  nodes_at = start_of b (first_node b)

  start_rises : (r n : ℕ) → r ≤ n → n ≤ due b → start_of b r ≤ start_of b n
  start_rises r n h l =
      omega (arith, start_sum Sheet b shaped r (omega (arith, h, l)), start_sum Sheet b shaped n l, sum_rises r n (λ i. length (record_of b i)) h)

  nodes_inside : nodes_at ≤ length b
  nodes_inside = omega (arith, start_rises (first_node b) (due b) (omega arith) (omega arith), records_fill Sheet b shaped)

  wholes : (r : ℕ) → r < first_node b → whole b (start_of b r) ≡ true
  wholes r h = record_whole Sheet b shaped r (omega (arith, h))

  ends : (r : ℕ) → r < first_node b → start_of b r + word b (start_of b r) ≤ nodes_at
  unfolding record_of
  ends r h =
      let n = record_next Sheet b shaped r (omega (arith, h)) in
      let l = record_length_law b (start_of b r) (wholes r h) in
      omega (arith, n, l, start_rises (suc r) (first_node b) h (omega arith))

  -- the head's four counts and the kind of the record after it are before the nodes
  pub head_before : 12 + 4 ≤ nodes_at
  head_before =
      let f = functions_least Sheet b shaped in
      let h = record_next Sheet b shaped 0 (omega arith) in
      let n = record_next Sheet b shaped 1 (omega (arith, f)) in
      let l = head_fields Sheet b shaped in
      let m = record_fields Sheet b shaped 0 (omega arith) in
      let k = record_fields Sheet b shaped 1 (omega (arith, f)) in
      omega (arith, h, n, l, m, k, start_rises 2 (first_node b) (omega (arith, f)) (omega arith))

module _ (b : List ℕ) (accepted : sheet_verdict b ≡ Accepted) where
  abbrev shaped : file_shape Sheet b ≡ Accepted
  shaped = sheet_shape b accepted

  abbrev form : List ℕ
  form = canonical b

  abbrev node_bytes : List ℕ
  node_bytes = bytes_of (tree_words 0 (bodies b))

  -- head, constructors and functions
  word_read : (j : ℕ) → j + 1 < 16 → word form j ≡ word b j
  unfolding canonical sections
  word_read j h =
      Start.same_word b node_bytes (nodes_at b shaped) (nodes_inside b shaped) j (omega (arith, h, head_before b shaped))

  pub readings_read : readings form ≡ readings b
  readings_read = word_read 4 (omega arith)

  pub items_read : items form ≡ items b
  items_read = word_read 6 (omega arith)

  pub functions_read : functions form ≡ functions b
  functions_read = word_read 8 (omega arith)

  pub nodes_read : nodes form ≡ nodes b
  nodes_read = word_read 10 (omega arith)

  pub typed_read : is_typed form ≡ is_typed b
  unfolding is_typed
  typed_read = rw (word_read 14 (omega arith)) refl

  pub first_node_read : first_node form ≡ first_node b
  first_node_read = rw (items_read, functions_read) refl

  pub due_read : due form ≡ due b
  due_read = rw (first_node_read, nodes_read) refl

  pub section_read : (r : ℕ) → r < first_node b → record_of form r ≡ record_of b r
  unfolding canonical sections
  section_read r h =
      Start.same_record b node_bytes (nodes_at b shaped) (nodes_inside b shaped) (first_node b) (wholes b shaped) (ends b shaped) r h

  start_read : start_of form (first_node b) ≡ nodes_at b shaped
  unfolding canonical sections
  start_read =
      Start.same_start b node_bytes (nodes_at b shaped) (nodes_inside b shaped) (first_node b) (wholes b shaped) (ends b shaped)
      (first_node b) (omega arith)

  pub sections_length : length (sections b) ≡ nodes_at b shaped
  unfolding sections
  sections_length = Start.start_length b node_bytes (nodes_at b shaped) (nodes_inside b shaped)

  taken : take (nodes_at b shaped) form ≡ sections b
  unfolding canonical
  taken = take_at (sections b) node_bytes (nodes_at b shaped) sections_length

  pub sections_read : sections form ≡ sections b
  unfolding sections
  sections_read = rw (first_node_read, start_read) taken

  pub item_read : (i : ℕ) → i < items b → item_record Sheet form i ≡ item_record Sheet b i
  item_read i h = section_read (1 + i) (omega (arith, h))

  pub function_read : (f : ℕ) → f < functions b → function_record Sheet form f ≡ function_record Sheet b f
  function_read f h = rw items_read (section_read (1 + items b + f) (omega (arith, h)))

  node_count_read : (f : ℕ) → f < functions b → node_count Sheet form f ≡ node_count Sheet b f
  node_count_read f h = rw (function_read f h) refl

  pub counts_read : (f : ℕ) → f ≤ functions b → sum_of f (node_count Sheet form) ≡ sum_of f (node_count Sheet b)
  counts_read f h = sum_same f (node_count Sheet form) (node_count Sheet b) (λ i l. node_count_read i (omega (arith, h, l)))

  pub body_read : (f : ℕ) → f < functions b → body_of Sheet form f ≡ body_of Sheet b f
  unfolding body_of run_end
  body_read f h = rw (counts_read (suc f) h) refl

  -- the trees
  module _ (bytes : Bytes b) where
    form_is : form ≡ sections b ++ (bytes_of (tree_words 0 (first_bodies b (functions b))) ++ [])
    unfolding canonical bodies
    form_is = rw append-nil refl

    trees_there : StandsTo form 0 (first_bodies b (functions b)) (length (sections b) + length (bytes_of (tree_words 0 (first_bodies b (functions b)))))
    trees_there =
        stands form (sections b) [] 0 (bodies_formed b bytes (functions b)) form_is (rw (first_node_read, add-zero) (start_read ∙ sym sections_length))

    pub trees_stand : Stands form 0 (first_bodies b (functions b))
    trees_stand = trees_there.trees

    -- the records fill the file
    pub filled : start_of form (due form) ≡ length form
    unfolding canonical bodies
    filled =
        let n : 0 + size_of (first_bodies b (functions b)) ≡ nodes form
        = omega (arith, sizes b accepted (functions b) (omega arith), node_counts_sum Sheet b shaped, nodes_read) in
        rw n at trees_there.ends ∙ sym (length-append (sections b) (bytes_of (tree_words 0 (first_bodies b (functions b)))))

    size_limit : (f : ℕ) → f ≤ functions b → size_of (first_bodies b f) ≤ nodes b
    size_limit f h =
        omega (arith, sizes b accepted f h, sum_rises f (functions b) (node_count Sheet b) h, node_counts_sum Sheet b shaped)

    bodies_by : (f : ℕ) → f ≤ functions b → Stands form 0 (first_bodies b f) → first_bodies form f ≡ first_bodies b f
    unfolding first_bodies size_of
    bodies_by zero h s = refl
    bodies_by (suc f) h s =
        let p = body_of Sheet b f in
        let gs = fields_of b p in
        let m : size_of (branch (first_bodies b f) (kind_of (node_record b p)) gs) ≤ nodes b = size_limit (suc f) h in
        let n : 0 + size_of (first_bodies b f) + size_of gs ≡ p = omega (arith, sizes b accepted f (omega (arith, h)), body_number b accepted f h) in
        let back = tree_back form (nodes b) (0 + size_of (first_bodies b f)) (tree_formed b bytes (nodes b) p) (stands_last s)
        (omega (arith, m, nodes_limit Sheet b shaped)) (omega (arith, m)) (kind_small b bytes p) in
        let kind : kind_of (node_record form p) ≡ kind_of (node_record b p) = rw n at back.0 in
        let fields : fields_within form (nodes b) p ≡ gs = rw n at back.1 in
        rw (body_read f h, nodes_read, kind, fields, bodies_by f (omega (arith, h)) (stands_before s)) refl

    pub bodies_read : bodies form ≡ bodies b
    unfolding bodies
    bodies_read = rw functions_read (bodies_by (functions b) (omega arith) trees_stand)

    -- "Writing twice changes no byte"
    pub twice : canonical form ≡ form
    twice = same_bytes form b sections_read bodies_read
