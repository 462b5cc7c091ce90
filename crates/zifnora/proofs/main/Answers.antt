-- `zifnora::main` is safe and ends; it prints the line, which stands at the front of its space.
use Rattle.zifnora.proofs.Showing.{line_within, line_counted}
use Rattle.zifnora.proofs.main.Goals as goal

pub slice_bounds-line-end : goal.slice_bounds-line-end
slice_bounds-line-end c = line_within c.show_answer-length.ensures

pub slice_bounds-write_all-end : goal.slice_bounds-write_all-end
slice_bounds-write_all-end c = line_counted c.show_answer-length.ensures
