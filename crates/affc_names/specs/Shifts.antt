-- Whether the shifts of a draft are such as a tree can hold.
use Rattle.std.specs.Prelude.{Bool, true, ◌&&◌, nat_lt}
use Rattle.affc_grammar.specs.Draft.{ValueDraft, load, constant, cast, complement, binary, shift, StmtsDraft, no_stmts, and_stmt, StmtDraft, for_loop, if_cond, assign, block}

abbrev pub value_shifts : ValueDraft → Bool
value_shifts (load at w subs) = true
value_shifts (constant n) = true
value_shifts (cast a) = true
value_shifts (complement v) = value_shifts v
value_shifts (binary op v w) = value_shifts v && value_shifts w
value_shifts (shift left v by) = value_shifts v && nat_lt by 256

abbrev mutual
  pub stmts_shift : StmtsDraft → Bool
  stmts_shift no_stmts = true
  stmts_shift (and_stmt ss s) = stmts_shift ss && stmt_shifts s

  pub stmt_shifts : StmtDraft → Bool
  stmt_shifts (for_loop h body) = stmts_shift body
  stmt_shifts (if_cond at c body other) = stmts_shift body && stmts_shift other
  stmt_shifts (assign w subs op v) = value_shifts v
  stmt_shifts (block ls body) = stmts_shift body
