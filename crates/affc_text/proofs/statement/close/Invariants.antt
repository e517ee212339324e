use Rattle.std.proofs.Common.{◌≡◌, length, map}
use Rattle.affc_syntax.specs.draft.Drafts.{stmt}
use Rattle.affc_text.specs.Parts as parts
use Rattle.affc_text.specs.Parts.{head_seen}
use Rattle.affc_text.proofs.statement.close.Given as goal

abbrev pub invariant-loop-h : goal.invariant-loop-h
invariant-loop-h l = parts.close (map head_seen l.heads) (stmt l.s) ≡ parts.close (map head_seen l.fn.heads) (stmt l.fn.s)

abbrev pub decreases-loop-h : goal.decreases-loop-h
decreases-loop-h l = length l.heads
