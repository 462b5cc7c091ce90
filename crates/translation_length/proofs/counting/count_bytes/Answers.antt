-- `translation_length::counting::count_bytes` meets its contract: the parts' words, doubled, are the translation's bytes.
use native.Mathlib.Omega.{arith}
use Rattle.translation_length.proofs.WordCounts.{bytes_counted}
use Rattle.translation_length.proofs.counting.count_bytes.Goals as goal

pub returns : goal.returns
returns c =
    let pre = c.requires in
    omega (
      arith,
      c.count_nodes.ensures.0,
      c.count_formals.ensures.0,
      c.from.ensures,
      c.functions.ensures,
      bytes_counted _ pre.sheet.accepted,
    )
