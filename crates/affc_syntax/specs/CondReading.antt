-- Reading drafts of conditions. What stands in parentheses may be a condition or an expression; what follows tells. `wide` conditions are those of an `if`.
use Rattle.std.specs.Prelude.{ℕ, zero, suc, ◌-◌, Bool, true, false, ◌&&◌, List, length, codes, Ok, Err}
use Rattle.affc_ast.specs.declared.tree.Rel.{Rel}
use Rattle.affc_grammar.specs.Grammar.{Symbol}
use Rattle.affc_grammar.specs.Draft.{IxDraft, sum, difference, grouped, CompareDraft, CondDraft, comparison, divisible, all_of, any_of, and_conds, conjuncts, disjuncts, comparisons_in}
use Rattle.affc_grammar.specs.Reader.{At, Deep, Reader, then_read}
use Rattle.affc_grammar.specs.Reading.{this_mark, zero_sign, zero_number}
use Rattle.affc_syntax.specs.draft.Drafts.{cond, ix}
use Rattle.affc_syntax.specs.declared.condition.Mixed as code
use Rattle.affc_syntax.specs.declared.condition.Mixed.TheVariants.{Condition, Index}
use Rattle.affc_syntax.specs.Ahead.{past, relation_value}
use Rattle.affc_syntax.specs.Readers.{on_past, all_more}
use Rattle.affc_syntax.specs.IxReading.{divisor, factors, terms, expression, inside}

-- what is read before it is known which of the two it is
pub data Mixed : Type 0 where
  condition : CondDraft → Mixed
  index : IxDraft → Mixed

abbrev pub mixed_seen : code.Mixed → Mixed
mixed_seen (Condition c) = condition (cond c)
mixed_seen (Index a) = index (ix a)

abbrev pub compare : Rel → IxDraft → IxDraft → CondDraft
compare rel a b = comparison (record { rel = rel; left = a; right = b })

-- whether it is no sum and no difference, if not in parentheses
abbrev pub is_term : IxDraft → Bool
is_term (sum a b) = false
is_term (difference a b) = false
is_term _ = true

abbrev pub all_joined : CondDraft → CondDraft → CondDraft
all_joined c d = all_of (and_conds (conjuncts c) (conjuncts d))

abbrev pub any_joined : CondDraft → CondDraft → CondDraft
any_joined c d = any_of (and_conds (disjuncts c) (disjuncts d))

-- behind the "%" of a remainder
abbrev pub remainder : (end : ℕ) → IxDraft → Reader Symbol Mixed
remainder end a us =
    then_read (divisor us) (λ by vs.
    on_past (past zero_sign vs) (λ so ws. on_past (past zero_number ws) (λ _ xs. Ok (condition (divisible a (end - length us) by so), xs)) (Err (At ws))) (Err (At vs)))

-- behind an expression that isn't compared, which may have a remainder
abbrev pub divided : (end : ℕ) (may : Bool) → IxDraft → Reader Symbol Mixed
divided end true a ts = on_past (past (this_mark (codes "%")) ts) (λ _ us. remainder end a us) (Ok (index a, ts))
divided end false a ts = Ok (index a, ts)

-- `inner` reads an expression behind an opened bracket
module _ (prelude wide : Bool) (end : ℕ) (inner : Reader Symbol IxDraft) where
  -- behind an expression
  abbrev pub compared : IxDraft → Reader Symbol Mixed
  compared a ts = on_past (past (relation_value wide) ts) (λ rel us. then_read (expression prelude end inner us) (λ b vs. Ok (condition (compare rel a b), vs))) (divided end (wide && is_term a) a ts)

  -- behind what stands in parentheses
  abbrev pub behind_parens : (at : ℕ) → Mixed → Reader Symbol Mixed
  behind_parens at (condition c) ts = Ok (condition c, ts)
  behind_parens at (index a) ts = then_read (factors prelude end inner (grouped at a) ts) (λ b us. then_read (terms prelude end inner b us) compared)

abbrev pub only_condition : Mixed → Reader Symbol CondDraft
only_condition (condition c) ts = Ok (c, ts)
only_condition (index a) ts = Err (At ts)

-- `mixed` reads what stands behind the "("
module _ (prelude wide : Bool) (end : ℕ) (inner : Reader Symbol IxDraft) (mixed : Reader Symbol Mixed) where
  abbrev pub half : Reader Symbol Mixed
  half ts =
      on_past (past (this_mark (codes "(")) ts)
      (λ _ us. then_read (mixed us) (λ m vs. on_past (past (this_mark (codes ")")) vs) (λ _ ws. behind_parens prelude wide end inner (end - length ts) m ws) (Err (At vs))))
      (then_read (expression prelude end inner ts) (compared prelude wide end inner))

  abbrev pub prim : Reader Symbol CondDraft
  prim ts = then_read (half ts) only_condition

  abbrev pub and_prim : Unit {0} → CondDraft → Reader Symbol CondDraft
  and_prim _ c us = then_read (prim us) (λ d vs. Ok (all_joined c d, vs))

  -- what further is joined by "&&"
  abbrev pub ands : CondDraft → Reader Symbol CondDraft
  ands = all_more (this_mark (codes "&&")) and_prim

  abbrev pub or_all : Unit {0} → CondDraft → Reader Symbol CondDraft
  or_all _ c us = then_read (prim us) (λ q vs. then_read (ands q vs) (λ d ws. Ok (any_joined c d, ws)))

  -- what further is joined by "||"
  abbrev pub more_ors : CondDraft → Reader Symbol CondDraft
  more_ors = all_more (this_mark (codes "||")) or_all

  abbrev pub ors : (wide : Bool) → CondDraft → Reader Symbol CondDraft
  ors true c ts = more_ors c ts
  ors false c ts = Ok (c, ts)

  -- behind a first condition
  abbrev pub joined : CondDraft → Reader Symbol CondDraft
  joined c ts = then_read (ands c ts) (ors wide)

  abbrev pub half_more : Mixed → Reader Symbol Mixed
  half_more (condition c) ts = then_read (joined c ts) (λ d us. Ok (condition d, us))
  half_more (index a) ts = Ok (index a, ts)

-- behind a bracket that was opened where so many could be
unfoldable pub mixed_inside : (prelude wide : Bool) (end room : ℕ) → Reader Symbol Mixed
mixed_inside prelude wide end zero ts = Err Deep
mixed_inside prelude wide end (suc room) ts = then_read (half prelude wide end (inside prelude end room) (mixed_inside prelude wide end room) ts) (half_more prelude wide end (inside prelude end room) (mixed_inside prelude wide end room))

abbrev pub whole : (prelude wide : Bool) (end room : ℕ) → Reader Symbol CondDraft
whole prelude wide end room ts = then_read (prim prelude wide end (inside prelude end room) (mixed_inside prelude wide end room) ts) (joined prelude wide end (inside prelude end room) (mixed_inside prelude wide end room))

-- of a line, which has comparisons joined by "&&"
abbrev pub comparisons : (prelude : Bool) (end room : ℕ) → Reader Symbol (List CompareDraft)
comparisons prelude end room ts = then_read (whole prelude false end room ts) (λ c us. Ok (comparisons_in c, us))
