use Rattle.std.proofs.Common.{drop, ◌≤◌}
use Rattle.affc_decide.proofs.Numbers.{IsRead}
use Rattle.affc_decide.proofs.word.size.Given as goal

abbrev pub invariant-loop-digit : goal.invariant-loop-digit
invariant-loop-digit l = IsRead l.digits (drop l.digit-index l.digits) l.size × (l.size ≤ 9223372036854775809)
