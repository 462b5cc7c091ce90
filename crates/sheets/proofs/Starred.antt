-- The starred sheets of document 01 hold of the definitions: one statement over the list, by one computation. So do the
-- further trials, and the products of document 02's request 2.
use mathlib.Core.Path.{◌≡◌, refl}
use mathlib.Core.List.{map}
use Rattle.sheets.specs.Starred.{starred, further, Starred, Further}
use Rattle.sheets.specs.Products.{products, Products}
use Rattle.sheets.proofs.Opened.{opened}
use Rattle.sheets.proofs.Observed.{observed, expected, endless, all_hold}

-- what the definitions compute for the trials is what they expect
starred_agree : map observed starred ≡ map expected starred
unfolding opened observed expected endless
starred_agree = refl

-- the starred sheets hold
pub starred_hold : Starred
unfolding opened
starred_hold =
    record {
      hold = all_hold starred starred_agree;
      bytes = refl;
      byte_count = refl;
      translated = refl;
      translated_count = refl;
      cell_count = refl;
      formal = refl;
    }

-- and so for the further trials
further_agree : map observed further ≡ map expected further
unfolding opened observed expected endless
further_agree = refl

pub further_hold : Further
further_hold = record { hold = all_hold further further_agree }

-- and for the products
products_agree : map observed products ≡ map expected products
unfolding opened observed expected endless
products_agree = refl

pub products_hold : Products
products_hold = record { hold = all_hold products products_agree }
