-- `sheet_rules::names::names_in_range` meets its contract, kind by kind.
use borrow.Author.Rules.{rules}
use Rattle.file_records.proofs.Indices.{numbered_sheet_kind}
use Rattle.laws.proofs.Names.{names_sheet_reading, names_parameter, names_callee, names_constructor, names_clauses, names_sheet_none}
use Rattle.sheet_rules.proofs.names.names_in_range.Goals as goal

pub returns-then-k-eq-READING : goal.returns-then-k-eq-READING
returns-then-k-eq-READING c = search names_sheet_reading

pub returns-then-k-eq-PARAMETER : goal.returns-then-k-eq-PARAMETER
returns-then-k-eq-PARAMETER c = search names_parameter

pub returns-then-k-eq-CALL : goal.returns-then-k-eq-CALL
returns-then-k-eq-CALL c = search names_callee

pub returns-then-k-eq-BUILD : goal.returns-then-k-eq-BUILD
returns-then-k-eq-BUILD c = search names_constructor

pub returns-then-k-eq-CASE : goal.returns-then-k-eq-CASE
returns-then-k-eq-CASE c = search (rules, names_clauses)

pub returns : goal.returns
returns c = search (rules, names_sheet_none, numbered_sheet_kind)
