-- What statements are read by, and what stands in a text, in drafts of the grammar.
use Rattle.std.specs.Prelude.{Bool, false, ℕ, List, [], ◌∷◌, ◌++◌, map}
use Rattle.affc_grammar.specs.Draft as d
use Rattle.affc_grammar.specs.Reader as reader
use Rattle.affc_grammar.specs.Reading as g
use Rattle.affc_syntax.specs.draft.Drafts.{cond, head, stmt, stmts_of, local, decl, param, pragma, word}
use Rattle.affc_syntax.specs.declared.draft.draft.StmtDraft.{StmtDraft}
use Rattle.affc_text.specs.declared.ahead.First as code_first
use Rattle.affc_text.specs.declared.ahead.First.TheVariants as f
use Rattle.affc_text.specs.declared.statement.Head as code_head
use Rattle.affc_text.specs.declared.statement.Head.TheVariants as h
use Rattle.affc_text.specs.declared.statement.Heads as code_heads
use Rattle.affc_text.specs.declared.statement.Turn as code_turn
use Rattle.affc_text.specs.declared.statement.Turn.TheVariants as t
use Rattle.affc_text.specs.declared.statement.Closing as code_closing
use Rattle.affc_text.specs.declared.statement.Closing.TheVariants as k
use Rattle.affc_text.specs.declared.statement.Block as code_block
use Rattle.affc_text.specs.declared.function.Inside as code_inside
use Rattle.affc_text.specs.declared.function.Function as code_function
use Rattle.affc_text.specs.declared.lines.Lines as code_lines

abbrev pub first_seen : code_first.First → g.First
first_seen (f.Word w) = g.a_word w.now
first_seen f.Brace = g.a_brace

-- what stands before a body
pub data Head : Type 0 where
  for_head : d.HeadDraft → Head
  if_head : (at : ℕ) → d.CondDraft → Head
  -- an `if` with its body and the `else`
  else_head : (at : ℕ) → d.CondDraft → d.StmtsDraft → Head

-- one before another, and the last of them
pub record Heads : Type 0 where
  pub outer : List Head
  pub inner : Head

-- what a body under heads makes: a statement that no `else` goes on with, or one that waits for an `else`
pub data Closing : Type 0 where
  closed : d.StmtDraft → Closing
  -- the nearest `if` without `else`, and the heads before it
  waiting : List Head → (at : ℕ) → d.CondDraft → d.StmtsDraft → Closing

pub record Block : Type 0 where
  pub locals : List d.LocalDraft
  pub stmts : d.StmtsDraft

abbrev pub no_items : Block
no_items = record { locals = []; stmts = d.no_stmts }

pub record Inside : Type 0 where
  pub temps : List d.DeclDraft
  pub stmts : d.StmtsDraft

abbrev pub no_inside : Inside
no_inside = record { temps = []; stmts = d.no_stmts }

pub record Function : Type 0 where
  pub name : d.WordDraft
  pub params : List d.ParamDraft
  pub temps : List d.DeclDraft
  pub stmts : d.StmtsDraft

-- `calls` tells whether a line of a context has a call
pub record Lines : Type 0 where
  pub pragmas : List d.PragmaDraft
  pub calls : Bool

abbrev pub no_lines : Lines
no_lines = record { pragmas = []; calls = false }

abbrev pub stmts : List StmtDraft → d.StmtsDraft
stmts xs = stmts_of (map stmt xs)

abbrev pub head_seen : code_head.Head → Head
head_seen (h.For k) = for_head (head k)
head_seen (h.If at c) = if_head at (cond c)
head_seen (h.Else at c body) = else_head at (cond c) (stmts body)

abbrev pub heads_seen : code_heads.Heads → Heads
heads_seen hs = record { outer = map head_seen hs.outer; inner = head_seen hs.inner }

abbrev pub turn_seen : code_turn.Turn → reader.Turn Heads (List d.StmtDraft)
turn_seen (t.Going hs) = reader.going (heads_seen hs)
turn_seen (t.Done read) = reader.done (map stmt read)

abbrev pub closing_seen : code_closing.Closing → Closing
closing_seen (k.Closed s) = closed (stmt s)
closing_seen (k.Waiting hs at c body) = waiting (map head_seen hs) at (cond c) (stmts body)

abbrev pub block_seen : code_block.Block → Block
block_seen b = record { locals = map local b.locals; stmts = stmts b.stmts }

abbrev pub inside_seen : code_inside.Inside → Inside
inside_seen i = record { temps = map decl i.temps; stmts = stmts i.stmts }

abbrev pub function_seen : code_function.Function → Function
function_seen f = record { name = word f.name; params = map param f.params; temps = map decl f.temps; stmts = stmts f.stmts }

abbrev pub lines_seen : code_lines.Lines → Lines
lines_seen ls = record { pragmas = map pragma ls.pragmas; calls = ls.calls }

-- ---- A body under heads

abbrev pub with_head : Head → d.StmtsDraft → d.StmtDraft
with_head (for_head h) body = d.for_loop h body
with_head (if_head at c) body = d.if_cond at c body d.no_stmts
with_head (else_head at c body) other = d.if_cond at c body other

abbrev pub alone : d.StmtDraft → d.StmtsDraft
alone s = d.and_stmt d.no_stmts s

-- each of them over one statement alone
abbrev pub covered : List Head → d.StmtDraft → d.StmtDraft
covered [] s = s
covered (h ∷ hs) s = with_head h (alone (covered hs s))

-- all of them, in one list
abbrev pub listed : Heads → List Head
listed hs = hs.outer ++ hs.inner ∷ []

abbrev pub over_closed : Head → d.StmtDraft → Closing
over_closed (for_head h) s = closed (with_head (for_head h) (alone s))
over_closed (if_head at c) s = waiting [] at c (alone s)
over_closed (else_head at c body) s = closed (with_head (else_head at c body) (alone s))

-- a head over what those behind it make
abbrev pub over : Head → Closing → Closing
over h (closed s) = over_closed h s
over h (waiting hs at c body) = waiting (h ∷ hs) at c body

-- each of them over a statement that no `else` goes on with
abbrev pub close : List Head → d.StmtDraft → Closing
close [] s = closed s
close (h ∷ hs) s = over h (close hs s)

-- the last of them over a body
abbrev pub under_one : List Head → Head → d.StmtsDraft → Closing
under_one hs (for_head h) body = close hs (with_head (for_head h) body)
under_one hs (if_head at c) body = waiting hs at c body
under_one hs (else_head at c body) other = close hs (with_head (else_head at c body) other)
