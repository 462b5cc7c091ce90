-- The keys by which trees are numbered: a node's kind, its place, and a number for each of its fields, given a number (class) for
-- each earlier node. Nodes with equal keys are in one bucket.
use Rattle.std.specs.Prelude.{◌≡◌, ℕ, zero, suc, ◌+◌, ◌*◌, ◌%◌, ◌<◌, List, Bool, cond, ◌&&◌, get_or, eqb}
use Rattle.definitions.specs.Records.{kind_of, field, field_count}
use Rattle.definitions.specs.Lists.{all_of}
use Rattle.definitions.specs.Layouts.{node_record}
use Rattle.definitions.specs.Trees.{names_node}

-- a table as a function
abbrev pub entry_of : List ℕ → ℕ → ℕ
entry_of table k = get_or table k 0

-- the number for field i: the class of the node that it names, or the field itself
unfoldable pub value_of : (ℕ → ℕ) → List ℕ → ℕ → ℕ
value_of class rec i = cond (names_node (kind_of rec) i) (class (field rec i)) (field rec i)

unfoldable pub same_values : (ℕ → ℕ) → List ℕ → List ℕ → Bool
same_values class x y =
    eqb (kind_of x) (kind_of y)
    && eqb (field_count x) (field_count y)
    && all_of (field_count x) (λ i. eqb (value_of class x i) (value_of class y i))

-- how many buckets there are, and what each number of a key counts in the place of the one after it
abbrev pub buckets : ℕ
buckets = 1024

abbrev pub weight : ℕ
weight = 33

-- the bucket of a record with a place, by its first n fields, and by all
unfoldable pub bucket_after : (ℕ → ℕ) → List ℕ → ℕ → ℕ → ℕ
bucket_after class rec place zero = (kind_of rec + place) % buckets
bucket_after class rec place (suc n) = (bucket_after class rec place n * weight + value_of class rec n) % buckets

unfoldable pub bucket_of : (ℕ → ℕ) → List ℕ → ℕ → ℕ
bucket_of class rec place = bucket_after class rec place (field_count rec)

-- whether nodes j and k have one key, and that they have
unfoldable pub equal_keys : (ℕ → ℕ) → (ℕ → ℕ) → List ℕ → ℕ → ℕ → Bool
equal_keys class place b j k = eqb (place j) (place k) && same_values class (node_record b j) (node_record b k)

pub record SameKey (class place : ℕ → ℕ) (b : List ℕ) (j k : ℕ) : Type 0 where
  pub kinds : kind_of (node_record b j) ≡ kind_of (node_record b k)
  pub counts : field_count (node_record b j) ≡ field_count (node_record b k)
  pub places : place j ≡ place k
  pub values : (i : ℕ) → i < field_count (node_record b j) → value_of class (node_record b j) i ≡ value_of class (node_record b k) i
